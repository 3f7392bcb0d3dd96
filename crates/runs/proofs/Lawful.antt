-- The ledger of a run is what its places hold.
use Rattle.std.proofs.Common.{◌≡◌, ◌∙◌, ap, sym, refl, subst, ℕ, zero, suc, ◌+◌, ◌<◌, ◌≤◌, Bool, true, false, not, List, [], ◌∷◌, ◌++◌, map, Option, Some, None, Ok, Err, Result, ℤ, get_or, slice_set, arith}
use Rattle.std.specs.Prelude.{cond, sum_by, count_by, filter, is_some, is_none}
use Rattle.std.specs.Option.{option_map}
use Rattle.std.specs.Ordering.{int_eq}
use Rattle.std.proofs.lemmas.List.Folds.{sum_by-replicate}
use Rattle.std.proofs.lemmas.List.Sums.{sum_by-cons}
use Rattle.std.specs.Cmp.{signed_Decides}
use Rattle.sources.specs.declared.fault.Refusal.{Refusal}
use Rattle.sources.specs.Lines.{reading}
use Rattle.sources.specs.Texts.{Text}
use Rattle.kinds.specs.declared.measure.Closed.{Closed}
use Rattle.kinds.specs.Measure.{measure_rules, fresh}
use Rattle.kinds.specs.Measured.{measured}
use Rattle.kinds.specs.Sums.{Measures}
use Rattle.kinds.proofs.Laws.{laws}
use Rattle.packing.specs.declared.place.Place.{Place}
use Rattle.packing.specs.declared.place.Noted.{Noted}
use Rattle.packing.specs.declared.place.Bounds.{Bounds}
use Rattle.packing.specs.Packed.{Packing}
use Rattle.packing.specs.Places.{no_places, used, found, free, is_of, measured_anew, with_noted, with_bounds, with_place, changed, without}
use Rattle.packing.specs.Calls.{new_list, placing, newcomer, handing, leaving, keeping, admit_refusal, remeasure_refusal, unknown_refusal, note_in, bounds_in}
use Rattle.packing.proofs.Firsts.{admitted, remeasured, known}
use Rattle.runs.specs.declared.call.Call.{Call}
use Rattle.runs.specs.declared.call.Call.TheVariants.{Measure, Admit, Remeasure, Note, Bound, Release, Look, Used}
use Rattle.runs.specs.declared.call.Answer.{Answer}
use Rattle.runs.specs.declared.call.Answer.TheVariants.{Total}
use Rattle.runs.specs.Run.{MeasureList, RunState, kept, after_charge, charge_measure, done_or_refused, served, answers, answers_of}
use Rattle.runs.specs.Ledger.{Entry, weighs, owes, is_for, texts, recharged, ledger_after, UsedIsSum, IsAcceptedRemeasure, HoldsFrom, SumsHold}
use Rattle.runs.proofs.Spots.{found-first, sum-with_place, sum-changed, sum-without}
use Rattle.runs.proofs.Weights.{Weight, entry_by, place_by, only, anew, charges, ones, sum-released, sum-recharged, one_place, absent-nowhere, charges-used, ones-count}

-- a measure that is not charged yet, and the text that it was made from
abbrev Fits : Option Closed → List ℕ → Type 0
Fits None t = Unit {0}
Fits (Some c) t = c.totals.pss + c.totals.swap_pss ≡ weighs t

abbrev Beside : MeasureList → List (List ℕ) → Type 0
Beside [] [] = Unit {0}
Beside [] (t ∷ ts) = ⊥
Beside (o ∷ b) [] = ⊥
Beside (o ∷ b) (t ∷ ts) = Fits o t × Beside b ts

beside-push : (b : MeasureList) (ts : List (List ℕ)) (o : Option Closed) (t : List ℕ) → Beside b ts → Fits o t → Beside (b ++ o ∷ []) (ts ++ t ∷ [])
beside-push [] [] o t h f = (f, tt)
beside-push [] (u ∷ ts) o t h f = absurd h
beside-push (x ∷ b) [] o t h f = absurd h
beside-push (x ∷ b) (u ∷ ts) o t h f = (h.0, beside-push b ts o t h.1 f)

beside-clear : (b : MeasureList) (ts : List (List ℕ)) (k : ℕ) → Beside b ts → Beside (slice_set b k None) ts
beside-clear [] ts k h = h
beside-clear (x ∷ b) [] k h = absurd h
beside-clear (x ∷ b) (u ∷ ts) zero h = (tt, h.1)
beside-clear (x ∷ b) (u ∷ ts) (suc k) h = (h.0, beside-clear b ts k h.1)

beside-get : (b : MeasureList) (ts : List (List ℕ)) (k : ℕ) → Beside b ts → Fits (get_or b k None) (get_or ts k [])
beside-get [] ts k h = tt
beside-get (x ∷ b) [] k h = absurd h
beside-get (x ∷ b) (u ∷ ts) zero h = h.0
beside-get (x ∷ b) (u ∷ ts) (suc k) h = beside-get b ts k h.1

-- what measure makes fits its text
made-fits : (t : Text) → Fits (kept (measured t)) t.bytes
made-fits t = go (measured t) refl
  where
    law : Measures t (measured t)
    law = (laws t (reading measure_rules fresh t).1 (measured t) refl).0

    go : (r : Result Closed Refusal) → measured t ≡ r → Fits (kept r) t.bytes
    go (Ok c) e = ap (λ (x : Closed). x.totals.pss + x.totals.swap_pss) ((law c).0 e).1.is
    go (Err f) e = tt

same_pid : (p q : ℤ) → int_eq p q ≡ true → p ≡ q
same_pid p q e = (signed_Decides p q).0 e

-- The ledger holds what the places hold, however it is counted; a job has one place at most; the measures are those of the texts.
record Good (limit : ℕ) (ts : List (List ℕ)) (s : List Entry) (d : RunState) : Type 0 where
  limited : d.0.limit ≡ limit
  single : (q : ℤ) → count_by (is_of q) d.0.places ≤ 1
  each : (w : Weight) → sum_by (entry_by w) s ≡ sum_by (place_by w) d.0.places
  beside : Beside d.1 ts

owed-used : (limit : ℕ) (ts : List (List ℕ)) (s : List Entry) (d : RunState) → Good limit ts s d → sum_by owes s ≡ used d.0.places
owed-used limit ts s d g = g.each charges ∙ charges-used d.0.places

at-most-one : (limit : ℕ) (ts : List (List ℕ)) (s : List Entry) (d : RunState) → Good limit ts s d → (q : ℤ) → count_by (is_for q) s ≤ 1
at-most-one limit ts s d g q = let h : count_by (is_for q) s ≡ count_by (is_of q) d.0.places = g.each (ones q) ∙ ones-count q d.0.places in let k = g.single q in omega (arith, h, k)

-- whether a place is a job's, counted
abbrev once : ℤ → Option Place → ℕ
once q o = cond (is_of q o) 1 0

-- a change that keeps the pid keeps whose a place is
changed-once : (f : Place → Place) → ((p : Place) → (f p).pid ≡ p.pid) → (q : ℤ) (o : Option Place) → once q (option_map f o) ≡ once q o
changed-once f same q None = refl
changed-once f same q (Some p) = ap (λ (i : ℤ). cond (int_eq i q) 1 0) (same p)

single-changed : (pid : ℤ) (f : Place → Place) (ps : List (Option Place)) → ((p : Place) → (f p).pid ≡ p.pid) → is_some (found pid ps) ≡ true → ((q : ℤ) → count_by (is_of q) ps ≤ 1) → (q : ℤ) → count_by (is_of q) (changed pid f ps) ≤ 1
single-changed pid f ps same h single q =
    let a = sum-changed (once q) pid f ps h in
    let b = changed-once f same q (found pid ps) in
    let c = single q in
    omega (arith, a, b, c)

single-without : (pid : ℤ) (ps : List (Option Place)) → is_some (found pid ps) ≡ true → ((q : ℤ) → count_by (is_of q) ps ≤ 1) → (q : ℤ) → count_by (is_of q) (without pid ps) ≤ 1
single-without pid ps h single q =
    let a = sum-without (once q) pid ps h in
    let z : once q None ≡ 0 = refl in
    let c = single q in
    omega (arith, a, z, c)

single-newcomer : (p : Place) (ps : List (Option Place)) → is_none (free ps) ≡ false → is_some (found p.pid ps) ≡ false → ((q : ℤ) → count_by (is_of q) ps ≤ 1) → (q : ℤ) → count_by (is_of q) (with_place p ps) ≤ 1
single-newcomer p ps room absent single q = go (int_eq p.pid q) refl
  where
    a : count_by (is_of q) (with_place p ps) + once q None ≡ count_by (is_of q) ps + once q (Some p)
    a = sum-with_place (once q) p ps room

    go : (b : Bool) → int_eq p.pid q ≡ b → count_by (is_of q) (with_place p ps) ≤ 1
    go true t =
        let none : count_by (is_of p.pid) ps ≡ 0 = absent-nowhere p.pid ps (ap is_some (sym (found-first p.pid ps)) ∙ absent) in
        let here : count_by (is_of q) ps ≡ 0 = subst (λ x. count_by (is_of x) ps ≡ 0) (same_pid p.pid q t) none in
        let j : once q (Some p) ≡ 1 = rw t refl in
        let z : once q None ≡ 0 = refl in
        omega (arith, a, here, j, z)
    go false t =
        let j : once q (Some p) ≡ 0 = rw t refl in
        let z : once q None ≡ 0 = refl in
        let c = single q in
        omega (arith, a, j, z, c)

-- what is counted of a job in the ledger is what is counted of its place
of-one : (limit : ℕ) (ts : List (List ℕ)) (s : List Entry) (d : RunState) (q : ℤ) (w : Weight) → Good limit ts s d → sum_by (entry_by (only q w)) s ≡ place_by w (found q d.0.places)
of-one limit ts s d q w g = g.each (only q w) ∙ one_place q w d.0.places (g.single q) ∙ ap (place_by w) (sym (found-first q d.0.places))

-- a measure charged, of what its text weighs
measured-weight : (w : Weight) (m : Closed) (x : ℕ) (o : Option Place) → m.totals.pss + m.totals.swap_pss ≡ x → place_by w (option_map (measured_anew m) o) ≡ place_by (anew x w) o
measured-weight w m x None e = refl
measured-weight w m x (Some p) e = ap (w p.pid p.headroom) e

noted-weight : (w : Weight) (n : Noted) (o : Option Place) → place_by w (option_map (with_noted n) o) ≡ place_by w o
noted-weight w n None = refl
noted-weight w n (Some p) = refl

bounded-weight : (w : Weight) (b : Bounds) (o : Option Place) → place_by w (option_map (with_bounds b) o) ≡ place_by w o
bounded-weight w b None = refl
bounded-weight w b (Some p) = refl

module _ (limit : ℕ) (ts : List (List ℕ)) (s : List Entry) (l : Packing) (b : MeasureList) (g : Good limit ts s (l, b)) where
  measure_at : (k : ℕ) (m : Closed) → get_or b k None ≡ Some m → m.totals.pss + m.totals.swap_pss ≡ weighs (get_or ts k [])
  measure_at k m i = subst (λ (o : Option Closed). Fits o (get_or ts k [])) i (beside-get b ts k g.beside)

  admit-good : (pid : ℤ) (h k : ℕ) (m : Closed) → get_or b k None ≡ Some m → admit_refusal pid h m l ≡ None →
      Good limit ts (record { pid = pid; headroom = h; bytes = get_or ts k [] } ∷ s) (placing (with_place (newcomer pid h m) l.places) l, slice_set b k None)
  admit-good pid h k m i e =
      let a = admitted pid h m l e in
      record {
        limited = g.limited;
        single = single-newcomer (newcomer pid h m) l.places a.room a.absent g.single;
        each = λ w. (
            let u = sum-with_place (place_by w) (newcomer pid h m) l.places a.room in
            let z : place_by w None ≡ 0 = refl in
            let x : place_by w (Some (newcomer pid h m)) ≡ w pid h (weighs (get_or ts k [])) = ap (w pid h) (measure_at k m i) in
            let c = sum_by-cons (entry_by w) (record { pid = pid; headroom = h; bytes = get_or ts k [] }) s in
            let y = g.each w in
            omega (arith, u, z, x, c, y));
        beside = beside-clear b ts k g.beside;
      }

  admit-under : (pid : ℤ) (h k : ℕ) (m : Closed) → get_or b k None ≡ Some m → admit_refusal pid h m l ≡ None → sum_by owes (record { pid = pid; headroom = h; bytes = get_or ts k [] } ∷ s) ≤ limit
  admit-under pid h k m i e =
      let a = (admitted pid h m l e).under in
      let f = measure_at k m i in
      let u = owed-used limit ts s (l, b) g in
      let n = g.limited in
      let c = sum_by-cons owes (record { pid = pid; headroom = h; bytes = get_or ts k [] }) s in
      omega (arith, a, f, u, n, c)

  remeasure-good : (pid : ℤ) (k : ℕ) (m : Closed) → get_or b k None ≡ Some m → remeasure_refusal pid m l ≡ None →
      Good limit ts (map (recharged pid (get_or ts k [])) s) (placing (changed pid (measured_anew m) l.places) l, slice_set b k None)
  remeasure-good pid k m i e =
      let a = (remeasured pid m l e).present in
      record {
        limited = g.limited;
        single = single-changed pid (measured_anew m) l.places (λ p. refl) a g.single;
        each = λ w. (
            let u = sum-changed (place_by w) pid (measured_anew m) l.places a in
            let r = sum-recharged pid (get_or ts k []) w s in
            let x = of-one limit ts s (l, b) pid w g in
            let y = of-one limit ts s (l, b) pid (anew (weighs (get_or ts k [])) w) g in
            let z = measured-weight w m (weighs (get_or ts k [])) (found pid l.places) (measure_at k m i) in
            let v = g.each w in
            omega (arith, u, r, x, y, z, v));
        beside = beside-clear b ts k g.beside;
      }

  release-good : (pid : ℤ) → unknown_refusal pid l ≡ None → Good limit ts (filter (λ e. not (is_for pid e)) s) (placing (without pid l.places) l, b)
  release-good pid e =
      let a = known pid l e in
      record {
        limited = g.limited;
        single = single-without pid l.places a g.single;
        each = λ w. (
            let u = sum-without (place_by w) pid l.places a in
            let z : place_by w None ≡ 0 = refl in
            let r = sum-released pid w s in
            let x = of-one limit ts s (l, b) pid w g in
            let v = g.each w in
            omega (arith, u, z, r, x, v));
        beside = g.beside;
      }

  changed-good : (pid : ℤ) (f : Place → Place) → ((p : Place) → (f p).pid ≡ p.pid) → ((w : Weight) (o : Option Place) → place_by w (option_map f o) ≡ place_by w o) → unknown_refusal pid l ≡ None → Good limit ts s (placing (changed pid f l.places) l, b)
  changed-good pid f same light e =
      let a = known pid l e in
      record {
        limited = g.limited;
        single = single-changed pid f l.places same a g.single;
        each = λ w. (
            let u = sum-changed (place_by w) pid f l.places a in
            let x = light w (found pid l.places) in
            let v = g.each w in
            omega (arith, u, x, v));
        beside = g.beside;
      }

-- What a call leaves: the ledger is still what the places hold, and its sum grew to more than the limit only at an accepted remeasure.
record Next (limit : ℕ) (ts : List (List ℕ)) (s : List Entry) (c : Call Text) (r : Answer × RunState) : Type 0 where
  good : Good limit (texts ts c) (ledger_after ts s c r.0) r.1
  crosses : sum_by owes s < sum_by owes (ledger_after ts s c r.0) → limit < sum_by owes (ledger_after ts s c r.0) → IsAcceptedRemeasure c r.0

-- a sum that does not grow
calm : {A : Type 0} (limit x y : ℕ) → y ≤ x → x < y → limit < y → A
calm {A} limit x y h i j = absurd (omega (arith, h, i))

same-sum : {A : Type 0} (limit x : ℕ) → x < x → limit < x → A
same-sum {A} limit x i j = absurd (omega (arith, i))

next : (limit : ℕ) (ts : List (List ℕ)) (s : List Entry) (d : RunState) (c : Call Text) → Good limit ts s d → Next limit ts s c (served d c)
next limit ts s d (Measure t) g = record {
  good = record { limited = g.limited; single = g.single; each = g.each; beside = beside-push d.1 ts (kept (measured t)) t.bytes g.beside (made-fits t) };
  crosses = same-sum limit (sum_by owes s);
}
next limit ts s d (Admit pid h k) g = go (get_or d.1 k None) refl
  where
    judge : (m : Closed) → get_or d.1 k None ≡ Some m → (v : Option Refusal) → admit_refusal pid h m d.0 ≡ v → Next limit ts s (Admit pid h k) (after_charge d k (handing v m (placing (with_place (newcomer pid h m) d.0.places) d.0) d.0))
    judge m i None e = record {
      good = admit-good limit ts s d.0 d.1 g pid h k m i e;
      crosses = λ y z. let u = admit-under limit ts s d.0 d.1 g pid h k m i e in absurd (omega (arith, u, z));
    }
    judge m i (Some f) e = record { good = g; crosses = same-sum limit (sum_by owes s) }

    go : (o : Option Closed) → get_or d.1 k None ≡ o → Next limit ts s (Admit pid h k) (charge_measure d k o (λ m. handing (admit_refusal pid h m d.0) m (placing (with_place (newcomer pid h m) d.0.places) d.0) d.0))
    go None i = record { good = g; crosses = same-sum limit (sum_by owes s) }
    go (Some m) i = judge m i (admit_refusal pid h m d.0) refl
next limit ts s d (Remeasure pid k) g = go (get_or d.1 k None) refl
  where
    judge : (m : Closed) → get_or d.1 k None ≡ Some m → (v : Option Refusal) → remeasure_refusal pid m d.0 ≡ v → Next limit ts s (Remeasure pid k) (after_charge d k (handing v m (placing (changed pid (measured_anew m) d.0.places) d.0) d.0))
    judge m i None e = record { good = remeasure-good limit ts s d.0 d.1 g pid k m i e; crosses = λ y z. refl }
    judge m i (Some f) e = record { good = g; crosses = same-sum limit (sum_by owes s) }

    go : (o : Option Closed) → get_or d.1 k None ≡ o → Next limit ts s (Remeasure pid k) (charge_measure d k o (λ m. handing (remeasure_refusal pid m d.0) m (placing (changed pid (measured_anew m) d.0.places) d.0) d.0))
    go None i = record { good = g; crosses = same-sum limit (sum_by owes s) }
    go (Some m) i = judge m i (remeasure_refusal pid m d.0) refl
next limit ts s d (Note pid t) g = record { good = go (unknown_refusal pid d.0) refl (note_in pid t); crosses = same-sum limit (sum_by owes s) }
  where
    go : (v : Option Refusal) → unknown_refusal pid d.0 ≡ v → (r : Result Noted Refusal × Text) → Good limit ts s ((keeping v with_noted pid r t d.0).1, d.1)
    go None e (Ok n, left) = changed-good limit ts s d.0 d.1 g pid (with_noted n) (λ p. refl) (λ w o. noted-weight w n o) e
    go None e (Err f, left) = g
    go (Some f) e r = g
next limit ts s d (Bound pid t) g = record { good = go (unknown_refusal pid d.0) refl (bounds_in t); crosses = same-sum limit (sum_by owes s) }
  where
    go : (v : Option Refusal) → unknown_refusal pid d.0 ≡ v → (r : Result Bounds Refusal × Text) → Good limit ts s ((keeping v with_bounds pid r t d.0).1, d.1)
    go None e (Ok n, left) = changed-good limit ts s d.0 d.1 g pid (with_bounds n) (λ p. refl) (λ w o. bounded-weight w n o) e
    go None e (Err f, left) = g
    go (Some f) e r = g
next limit ts s d (Release pid) g = go (unknown_refusal pid d.0) refl
  where
    go : (v : Option Refusal) → unknown_refusal pid d.0 ≡ v → Next limit ts s (Release pid) (done_or_refused (leaving v (placing (without pid d.0.places) d.0) d.0).0, ((leaving v (placing (without pid d.0.places) d.0) d.0).1, d.1))
    go None e = record {
      good = release-good limit ts s d.0 d.1 g pid e;
      crosses = calm limit (sum_by owes s) (sum_by owes (filter (λ e. not (is_for pid e)) s)) (let r = sum-released pid charges s in omega (arith, r));
    }
    go (Some f) e = record { good = g; crosses = same-sum limit (sum_by owes s) }
next limit ts s d (Look pid) g = record { good = g; crosses = same-sum limit (sum_by owes s) }
next limit ts s d Used g = record { good = g; crosses = same-sum limit (sum_by owes s) }

sums : (limit : ℕ) (ts : List (List ℕ)) (s : List Entry) (d : RunState) (c : Call Text) → Good limit ts s d → UsedIsSum s c (served d c).0
sums limit ts s d (Measure t) g = tt
sums limit ts s d (Admit pid h k) g = tt
sums limit ts s d (Remeasure pid k) g = tt
sums limit ts s d (Note pid t) g = tt
sums limit ts s d (Bound pid t) g = tt
sums limit ts s d (Release pid) g = tt
sums limit ts s d (Look pid) g = tt
sums limit ts s d Used g = ap Total (sym (owed-used limit ts s d g))

holds-from : (limit : ℕ) (ts : List (List ℕ)) (s : List Entry) (d : RunState) (cs : List (Call Text)) → Good limit ts s d → HoldsFrom limit ts s cs (answers d cs)
unfolding answers
holds-from limit ts s d [] g = tt
holds-from limit ts s d (c ∷ cs) g =
    let n = next limit ts s d c g in
    let s' = ledger_after ts s c (served d c).0 in (
      record { sums = sums limit ts s d c g; single = at-most-one limit (texts ts c) s' (served d c).1 n.good; crosses = n.crosses },
      holds-from limit (texts ts c) s' (served d c).1 cs n.good,
    )

no-place-counts : (f : Option Place → ℕ) → f None ≡ 0 → sum_by f no_places ≡ 0
no-place-counts f e = let a = sum_by-replicate f 64 None in omega (arith, a, e)

pub sums_hold : (limit : ℕ) (cs : List (Call Text)) → SumsHold limit cs (answers_of limit cs)
sums_hold limit cs = holds-from limit [] [] (new_list limit, []) cs (record {
  limited = refl;
  single = λ q. (let a = no-place-counts (once q) refl in omega (arith, a));
  each = λ w. sym (no-place-counts (place_by w) refl);
  beside = tt;
})

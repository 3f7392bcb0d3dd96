-- What one line does to a measure, and to the sums over the mappings.
use Rattle.std.proofs.Common.{◌≡◌, ℕ, ◌+◌, ◌<◌, ◌≤◌, true, false, cond, List, [], ◌∷◌, length, Some, None, Ok, Err, Result, sym, refl, ap, ◌∙◌, arith}
use Rattle.std.proofs.lemmas.Bool.{lt-ltb, le-ltb}
use Rattle.std.proofs.lemmas.Bool.Decides.{nat_tests}
use Rattle.sources.specs.declared.fault.Fault.{Fault}
use Rattle.sources.specs.Faults.{and_then}
use Rattle.kinds.specs.declared.sort.Key.{Key}
use Rattle.kinds.specs.declared.sort.Key.TheVariants.{Rss, Pss, SwapPss}
use Rattle.kinds.specs.declared.sort.Sort.{Sort}
use Rattle.kinds.specs.declared.sort.Sort.TheVariants.{Mapping, Attribute}
use Rattle.kinds.specs.declared.measure.Figures.{Figures}
use Rattle.kinds.specs.declared.measure.Tally.{Tally}
use Rattle.kinds.specs.declared.measure.State.{State}
use Rattle.kinds.specs.declared.measure.State.TheVariants.{InMapping}
use Rattle.kinds.specs.Sorts.{sort_of}
use Rattle.kinds.specs.Measure.{no_figures, capped, sum_of, with_value, set_to, more, closed_with, opened, headed, next, fault_of}
use Rattle.kinds.specs.Sums.{opens, sound, body, mappings_of, same, newest, last_of, sum_over, total, figure}

-- what a key comes to, from a value in the mapping that is open
abbrev pub rest : Key → ℕ → List (List ℕ) → ℕ
rest k v ls = last_of k v (body ls) + total k ls

rest-opens : (k : Key) (v : ℕ) (l : List ℕ) (ls : List (List ℕ)) → opens (sort_of l) ≡ true → rest k v (l ∷ ls) ≡ v + rest k 0 ls
unfolding body mappings_of last_of sum_over
rest-opens k v l ls e = rw e

rest_goes : (k : Key) (v : ℕ) (l : List ℕ) (ls : List (List ℕ)) → opens (sort_of l) ≡ false → rest k v (l ∷ ls) ≡ rest k (newest k v (sort_of l)) ls
unfolding body mappings_of last_of sum_over
rest_goes k v l ls e = rw e

pub total-opens : (k : Key) (l : List ℕ) (ls : List (List ℕ)) → opens (sort_of l) ≡ true → total k (l ∷ ls) ≡ rest k 0 ls
unfolding mappings_of sum_over
total-opens k l ls e = rw e

pub count_opens : (l : List ℕ) (ls : List (List ℕ)) → opens (sort_of l) ≡ true → length (mappings_of (l ∷ ls)) ≡ 1 + length (mappings_of ls)
unfolding mappings_of
count_opens l ls e = rw e (omega arith)

count_goes : (l : List ℕ) (ls : List (List ℕ)) → opens (sort_of l) ≡ false → length (mappings_of (l ∷ ls)) ≡ length (mappings_of ls)
unfolding mappings_of
count_goes l ls e = rw e

pub rest_over : (k : Key) (v : ℕ) → rest k v [] ≡ v
unfolding body mappings_of last_of sum_over
rest_over k v = omega arith

pub count_over : length (mappings_of []) ≡ 0
unfolding mappings_of
count_over = refl

abbrev pub plus : Figures → Figures → Figures
plus a b = record { rss = a.rss + b.rss; pss = a.pss + b.pss; swap_pss = a.swap_pss + b.swap_pss }

pub by_key : (P : Key → Type 0) → P Rss → P Pss → P SwapPss → (k : Key) → P k
by_key P a b c Rss = a
by_key P a b c Pss = b
by_key P a b c SwapPss = c

pub figure-plus : (k : Key) (a b : Figures) → figure k (plus a b) ≡ figure k a + figure k b
figure-plus k a b = by_key (λ k. figure k (plus a b) ≡ figure k a + figure k b) refl refl refl k

pub figure-none : (k : Key) → figure k no_figures ≡ 0
figure-none = by_key (λ k. figure k no_figures ≡ 0) refl refl refl

-- a figure with a new value of the key j
figure-with : (k j : Key) (v : ℕ) (f : Figures) → figure k (with_value j v f) ≡ cond (same k j) v (figure k f)
figure-with k j v f =
    let P : Key → Key → Type 0 = λ k j. figure k (with_value j v f) ≡ cond (same k j) v (figure k f) in
    by_key (λ k. P k j) (by_key (P Rss) refl refl refl j) (by_key (P Pss) refl refl refl j) (by_key (P SwapPss) refl refl refl j) k

within-then : {B : Type 0} (cap n : ℕ) (f : ℕ → Result B Fault) (x : B) → and_then (capped cap n) f ≡ Ok x → (n ≤ cap) × (f n ≡ Ok x)
within-then {B} cap n f x e = grind (arith, nat_tests)

within_on : {B : Type 0} (cap n : ℕ) (f : ℕ → Result B Fault) → n ≤ cap → and_then (capped cap n) f ≡ f n
within_on {B} cap n f h = rw (le-ltb cap n h)

pub sum_some : (cap : ℕ) (a b x : Figures) → sum_of cap a b ≡ Ok x → ((k : Key) → figure k a + figure k b ≤ cap) × (x ≡ plus a b)
sum_some cap a b x e =
    let p = within-then cap (a.rss + b.rss) _ x e in
    let q = within-then cap (a.pss + b.pss) _ x p.1 in
    let r = within-then cap (a.swap_pss + b.swap_pss) _ x q.1 in
    (by_key (λ k. figure k a + figure k b ≤ cap) p.0 q.0 r.0, cc (r.1))

pub sum_fits : (cap : ℕ) (a b : Figures) → ((k : Key) → figure k a + figure k b ≤ cap) → sum_of cap a b ≡ Ok (plus a b)
sum_fits cap a b h = within_on cap (a.rss + b.rss) _ (h Rss) ∙ within_on cap (a.pss + b.pss) _ (h Pss) ∙ within_on cap (a.swap_pss + b.swap_pss) _ (h SwapPss)

-- the mapping that opens after totals u
abbrev opened_at : Tally → Figures → Result Tally Fault
opened_at t u = Ok (record { mappings = more t.mappings; totals = u; last = no_figures })

-- A line leads from a mapping that is open to one that is open, and the sums stay.
pub record Stepped (l : List ℕ) (t : Tally) (m : State) : Type 0 where
  pub to : Tally
  pub goes : m ≡ InMapping to
  pub bound : to.mappings ≤ t.mappings + length l
  pub count : (ls : List (List ℕ)) → to.mappings + length (mappings_of ls) ≡ t.mappings + length (mappings_of (l ∷ ls))
  pub sums : (k : Key) (ls : List (List ℕ)) → figure k to.totals + rest k (figure k to.last) ls ≡ figure k t.totals + rest k (figure k t.last) (l ∷ ls)

-- a good mapping line is not empty
pub some_byte : (l : List ℕ) → sort_of l ≡ Mapping (Ok tt) → 0 < length l
some_byte [] e = cc
some_byte (b ∷ bs) e = omega arith

step_headed : (cap : ℕ) (l : List ℕ) (t : Tally) (x : Result Figures Fault) → sort_of l ≡ Mapping (Ok tt) → t.mappings + length l ≤ 4294967295 → closed_with cap t ≡ x →
    fault_of (headed (and_then x (opened_at t)) (Ok tt)) ≡ None → Stepped l t (headed (and_then x (opened_at t)) (Ok tt))
step_headed cap l t (Err g) e h q f = cc
step_headed cap l t (Ok y) e h q f =
    let s = sum_some cap t.totals t.last y q in
    let b = some_byte l e in
    let w : opens (sort_of l) ≡ true = ap opens e in
    let m : more t.mappings ≡ t.mappings + 1 = rw (lt-ltb t.mappings 4294967295 (omega arith)) in
    record {
      to = record { mappings = more t.mappings; totals = y; last = no_figures };
      goes = refl;
      bound = omega (arith, m, b);
      count = λ ls. omega (arith, m, count_opens l ls w);
      sums = λ k ls.
          let a : figure k y ≡ figure k t.totals + figure k t.last = ap (figure k) s.1 ∙ figure-plus k t.totals t.last in
          let c : rest k (figure k no_figures) ls ≡ rest k 0 ls = rw (figure-none k) in
          omega (arith, a, c, rest-opens k (figure k t.last) l ls w);
    }

-- an attribute line leaves the mapping open, with the figures o
step_stays : (l : List ℕ) (t : Tally) (o : Figures) → opens (sort_of l) ≡ false → ((k : Key) → figure k o ≡ newest k (figure k t.last) (sort_of l)) → Stepped l t (InMapping (record t { last = o }))
step_stays l t o w v = record {
  to = record t { last = o };
  goes = refl;
  bound = omega arith;
  count = λ ls. omega (arith, count_goes l ls w);
  sums = λ k ls. rw (rest_goes k (figure k t.last) l ls w, v k);
}

no_head : (g : Fault) (x : Result Tally Fault) → fault_of (headed x (Err g)) ≡ None → ⊥
no_head g (Ok y) f = cc
no_head g (Err k) f = cc

pub step_sound : (cap : ℕ) (l : List ℕ) (t : Tally) (x : Sort) → sort_of l ≡ x → t.mappings + length l ≤ 4294967295 → fault_of (next cap (InMapping t) x) ≡ None → Stepped l t (next cap (InMapping t) x) × (sound x ≡ true)
step_sound cap l t (Mapping (Ok u)) e h f = (step_headed cap l t (closed_with cap t) e h refl f, refl)
step_sound cap l t (Mapping (Err g)) e h f = absurd (no_head g (opened cap t) f)
step_sound cap l t (Attribute (Ok None)) e h f = (step_stays l t t.last (ap opens e) (λ k. ap (newest k (figure k t.last)) (sym e)), refl)
step_sound cap l t (Attribute (Ok (Some s))) e h f =
    (step_stays l t (set_to s t.last) (ap opens e) (λ k. figure-with k s.key s.amount t.last ∙ ap (newest k (figure k t.last)) (sym e)), refl)
step_sound cap l t (Attribute (Err g)) e h f = cc

-- a good line is accepted where the sums keep the cap
pub step_fine : (cap : ℕ) (l : List ℕ) (ls : List (List ℕ)) (t : Tally) (x : Sort) → sort_of l ≡ x → sound x ≡ true → ((k : Key) → figure k t.totals + rest k (figure k t.last) (l ∷ ls) ≤ cap) →
    fault_of (next cap (InMapping t) x) ≡ None
step_fine cap l ls t (Mapping (Ok u)) e s h = rw (sum_fits cap t.totals t.last (λ k. omega (arith, h k, rest-opens k (figure k t.last) l ls (ap opens e))))
step_fine cap l ls t (Mapping (Err g)) e s h = cc
step_fine cap l ls t (Attribute (Ok None)) e s h = refl
step_fine cap l ls t (Attribute (Ok (Some s'))) e s h = refl
step_fine cap l ls t (Attribute (Err g)) e s h = cc

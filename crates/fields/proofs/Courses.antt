-- The course over the lines of a text, by a kind that fills slots, comes to what its last lines make.
use Rattle.std.proofs.Common.{◌≡◌, ℕ, ◌+◌, ◌<◌, ◌≤◌, Bool, true, false, cond, ltb, List, [], ◌∷◌, length, Some, None, Ok, Err, Option, Result, sym, refl, ap, ◌∙◌, inl, inr, arith}
use Rattle.std.proofs.lemmas.Bool.{cases_Bool, ltb-true, ltb-false}
use Rattle.sources.proofs.Newer.{text_cons, text_over}
use Rattle.sources.specs.declared.fault.Fault.{Fault}
use Rattle.sources.specs.declared.fault.Refusal.{Refusal}
use Rattle.sources.specs.declared.kind.Break.{Break}
use Rattle.sources.specs.declared.kind.Break.TheVariants.{Refuses, Ends}
use Rattle.sources.specs.Faults.{at_line}
use Rattle.sources.specs.Lines.{lines_of, text_of, long, lost, judged, walk, Outcome, broke, on_fault, at_end, course, leaves, reading}
use Rattle.sources.specs.Texts.{Text}
use Rattle.sources.specs.Rules.{Rules}
use Rattle.sources.specs.Utf8.{is_utf8}
use Rattle.sources.proofs.Steps.{judged-long, judged-past, judged-cut, judged-text, judged-kind}
use Rattle.sources.proofs.Walks.{ends}
use Rattle.fields.specs.Slots.{entered, after_entry}
use Rattle.std.specs.Result.{result_err}
use Rattle.fields.specs.Slotted.{slot_rules}
use Rattle.fields.specs.LastLines.{breaks, before, with_breaking, breaks_off, good, sound, Orderly, put, entries_of, last_lines}

-- what a line brings: a refusal of its length, or of the text's; a break; or what the kind makes of it
data Brought {M C : Type 0} (room most : ℕ) (R : Rules M C) (broken : Bool) (k s : ℕ) (m : M) (l left : List ℕ) (go : Outcome M) : Type 0 where
  too_long : (f : Refusal) (o : M × List ℕ) → long room l ≡ true → judged room most R broken k s m l left go ≡ (Err f, o.0, o.1) → Brought room most R broken k s m l left go
  too_much : (f : Refusal) → most < s + length l → judged room most R broken k s m l left go ≡ (Err f, m, left) → Brought room most R broken k s m l left go
  off : long room l ≡ false → s + length l ≤ most → breaks broken l ≡ true → judged room most R broken k s m l left go ≡ (broke R.on_break k, m, left) → Brought room most R broken k s m l left go
  on : long room l ≡ false → s + length l ≤ most → breaks broken l ≡ false → judged room most R broken k s m l left go ≡ on_fault (R.refused (R.next m l)) (k + 1) (R.next m l) left go → Brought room most R broken k s m l left go

brought : {M C : Type 0} (room most : ℕ) (R : Rules M C) (broken : Bool) (k s : ℕ) (m : M) (l left : List ℕ) (go : Outcome M) → Brought room most R broken k s m l left go
brought {M} {C} room most R broken k s m l left go =
    elim (cases_Bool (long room l)) [
      | inl a ↦ too_long _ (_, _) a (judged-long room most R broken k s m l left go a)
      | inr a ↦ elim (cases_Bool (ltb most (s + length l))) [
        | inl p ↦ too_much _ (ltb-true most (s + length l) p) (judged-past room most R broken k s m l left go a p)
        | inr p ↦ elim (cases_Bool (lost broken l)) [
          | inl t ↦ off a (ltb-false most (s + length l) p) (rw t) (judged-cut room most R broken k s m l left go a p t)
          | inr t ↦ elim (cases_Bool (is_utf8 l)) [
            | inl u ↦ on a (ltb-false most (s + length l) p) (rw (t, u)) (judged-kind room most R broken k s m l left go a p t u)
            | inr u ↦ off a (ltb-false most (s + length l) p) (rw (t, u)) (judged-text room most R broken k s m l left go a p t u)
          ]
        ]
      ]
    ]

-- a break where it ends the text
off_ends : {M C : Type 0} (R : Rules M C) (b : Break) (k : ℕ) (m : M) (left : List ℕ) → R.on_break ≡ b → (b ≡ Refuses → ⊥) → ends R (broke R.on_break k, m, left) ≡ at_line k (R.closed m)
off_ends {M} {C} R Refuses k m left e h = absurd (h refl)
off_ends {M} {C} R Ends k m left e h = rw e

-- a break that is accepted does not refuse
off_ok : {M C : Type 0} (R : Rules M C) (b : Break) (k : ℕ) (m : M) (left : List ℕ) (c : C) → R.on_break ≡ b → ends R (broke R.on_break k, m, left) ≡ Ok c → b ≡ Refuses → ⊥
off_ok {M} {C} R Refuses k m left c e h q = let f = rw e at h in cc
off_ok {M} {C} R Ends k m left c e h q = cc

module _ {E S R : Type 0} (entry : List ℕ → Result (Option E) Fault) (fill : List E → S → S) (judges : S → Result R Fault) (fresh : S) (on_break : Break)
    (more : (e : E) (es : List E) → fill (e ∷ []) (fill es fresh) ≡ fill (e ∷ es) fresh) where
  abbrev rules : Rules (Result S Fault) R
  rules = slot_rules entry fill judges on_break

  -- one entry more
  entered-put : (o : Option E) (es : List E) → entered fill (fill es fresh) o ≡ fill (put (Ok o) es) fresh
  entered-put None es = refl
  entered-put (Some e) es = more e es

  -- a good line goes on with its entry
  good-on : (r : Result (Option E) Fault) (es : List E) → good r ≡ true → after_entry fill (fill es fresh) r ≡ Ok (fill (put r es) fresh)
  good-on (Ok o) es g = rw (entered-put o es)
  good-on (Err f) es g = cc

  -- a line that is not refused was good
  on_good : (r : Result (Option E) Fault) (s : S) → result_err (after_entry fill s r) ≡ None → good r ≡ true
  on_good (Ok o) s e = refl
  on_good (Err f) s e = cc

  -- the parts of a sound line
  sound-parts : (a b c d : Bool) → cond a false (cond b true (cond c d false)) ≡ true → (a ≡ false) × (b ≡ false → (c ≡ true) × (d ≡ true))
  sound-parts true b c d e = cc
  sound-parts false true c d e = (refl, λ f. cc)
  sound-parts false false true d e = (refl, λ _. (refl, e))
  sound-parts false false false d e = cc

  abbrev answer : ℕ → List E → Bool → List (List ℕ) → Result R Refusal
  answer k es broken ls = at_line (k + length (before broken ls)) (judges (fill (entries_of entry es (before broken ls)) fresh))

  after-off : (k : ℕ) (es : List E) (broken : Bool) (l : List ℕ) (ls : List (List ℕ)) → breaks broken l ≡ true → at_line k (judges (fill es fresh)) ≡ answer k es broken (l ∷ ls)
  unfolding before entries_of
  after-off k es broken l ls e = let z : k + 0 ≡ k = omega arith in rw (e, z)

  after_on : (k : ℕ) (es : List E) (broken : Bool) (l : List ℕ) (ls : List (List ℕ)) → breaks broken l ≡ false → answer (k + 1) (put (entry l) es) broken ls ≡ answer k es broken (l ∷ ls)
  unfolding before entries_of
  after_on k es broken l ls e = rw e (ap (λ (n : ℕ). at_line n (judges (fill (entries_of entry (put (entry l) es) (before broken ls)) fresh))) (omega arith))

  through-on : (broken : Bool) (l : List ℕ) (ls : List (List ℕ)) → breaks broken l ≡ false → length (text_of (with_breaking broken (l ∷ ls))) ≡ length l + length (text_of (with_breaking broken ls))
  unfolding with_breaking
  through-on broken l ls e = rw e (text_cons l (with_breaking broken ls))

  through-off : (broken : Bool) (l : List ℕ) (ls : List (List ℕ)) → breaks broken l ≡ true → length (text_of (with_breaking broken (l ∷ ls))) ≡ length l
  unfolding with_breaking
  through-off broken l ls e = rw e (omega (arith, text_cons l [], text_over))

  through-least : (broken : Bool) (l : List ℕ) (ls : List (List ℕ)) → length l ≤ length (text_of (with_breaking broken (l ∷ ls)))
  unfolding with_breaking
  through-least broken l ls = let e = text_cons l (cond (breaks broken l) [] (with_breaking broken ls)) in omega (arith, e)

  off_on : (broken : Bool) (l : List ℕ) (ls : List (List ℕ)) → breaks broken l ≡ false → breaks_off broken (l ∷ ls) ≡ breaks_off broken ls
  unfolding breaks_off
  off_on broken l ls e = rw e

  off_off : (broken : Bool) (l : List ℕ) (ls : List (List ℕ)) → breaks broken l ≡ true → breaks_off broken (l ∷ ls) ≡ true
  unfolding breaks_off
  off_off broken l ls e = rw e

  -- the end of the text
  over : (k : ℕ) (es : List E) (broken : Bool) → (on_break ≡ Refuses → broken ≡ false) → ends rules (at_end on_break broken k, Ok (fill es fresh), []) ≡ answer k es broken []
  unfolding before entries_of
  over k es false w = let z : k + 0 ≡ k = omega arith in rw z
  over k es true w = let z : k + 0 ≡ k = omega arith in rw z (off_ends rules on_break k (Ok (fill es fresh)) [] refl (λ q. let f = w q in cc))

  forward : (most : ℕ) (broken : Bool) (k s : ℕ) (es : List E) (ls : List (List ℕ)) → sound entry broken ls ≡ true → s + length (text_of (with_breaking broken ls)) ≤ most → (on_break ≡ Refuses → breaks_off broken ls ≡ false) →
      ends rules (walk 4096 most rules broken k s (Ok (fill es fresh)) ls) ≡ answer k es broken ls
  unfolding walk sound breaks_off
  forward most broken k s es [] h f w = over k es broken w
  forward most broken k s es (l ∷ ls) h f w =
      let m = Ok (fill es fresh) in
      let go : Result S Fault → Outcome (Result S Fault) = λ st. walk 4096 most rules broken (k + 1) (s + length l) st ls in
      let p = sound-parts (long 4096 l) (breaks broken l) (good (entry l)) (sound entry broken ls) h in
      elim (brought 4096 most rules broken k s m l (text_of ls) (go (rules.next m l))) [
        | too_long x o a e ↦ cc (p.0, a)
        | too_much x a e ↦ absurd (omega (arith, through-least broken l ls))
        | off a b c e ↦ ap (ends rules) e ∙ off_ends rules on_break k m (text_of ls) refl (λ q. let f = w q in let g = off_off broken l ls c in cc) ∙ after-off k es broken l ls c
        | on a b c e ↦
            let q = p.1 c in
            ap (ends rules) e
            ∙ ap (λ (st : Result S Fault). ends rules (on_fault (result_err st) (k + 1) st (text_of ls) (go st))) (good-on (entry l) es q.0)
            ∙ forward most broken (k + 1) (s + length l) (put (entry l) es) ls q.1 (omega (arith, through-on broken l ls c)) (λ r. sym (off_on broken l ls c) ∙ w r)
            ∙ after_on k es broken l ls c
      ]

  fault-ok : (o : Option Fault) (line : ℕ) (m : Result S Fault) (left : List ℕ) (go : Outcome (Result S Fault)) (c : R) → ends rules (on_fault o line m left go) ≡ Ok c → (o ≡ None) × (ends rules go ≡ Ok c)
  fault-ok None line m left go c e = (refl, e)
  fault-ok (Some f) line m left go c e = cc

  sound-on : (broken : Bool) (l : List ℕ) (ls : List (List ℕ)) → long 4096 l ≡ false → good (entry l) ≡ true → sound entry broken ls ≡ true → sound entry broken (l ∷ ls) ≡ true
  unfolding sound
  sound-on broken l ls a g h = rw (a, g, h) (elim (breaks broken l) as (λ b. cond b true true ≡ true) [ true ↦ refl | false ↦ refl ])

  sound-off : (broken : Bool) (l : List ℕ) (ls : List (List ℕ)) → long 4096 l ≡ false → breaks broken l ≡ true → sound entry broken (l ∷ ls) ≡ true
  unfolding sound
  sound-off broken l ls a b = rw (a, b)

  over_ok : (k : ℕ) (es : List E) (broken : Bool) (c : R) → ends rules (at_end on_break broken k, Ok (fill es fresh), []) ≡ Ok c → on_break ≡ Refuses → broken ≡ false
  over_ok k es false c e q = refl
  over_ok k es true c e q = absurd (off_ok rules on_break k (Ok (fill es fresh)) [] c refl e q)

  abbrev Read : ℕ → Bool → ℕ → List (List ℕ) → Type 0
  Read most broken s ls = (sound entry broken ls ≡ true) × (s + length (text_of (with_breaking broken ls)) ≤ most) × (on_break ≡ Refuses → breaks_off broken ls ≡ false)

  backward : (most : ℕ) (broken : Bool) (k s : ℕ) (es : List E) (ls : List (List ℕ)) (c : R) → s ≤ most →
      ends rules (walk 4096 most rules broken k s (Ok (fill es fresh)) ls) ≡ Ok c → Read most broken s ls
  unfolding walk sound breaks_off with_breaking
  backward most broken k s es [] c h e = (refl, omega (arith, text_over), over_ok k es broken c e)
  backward most broken k s es (l ∷ ls) c h x =
      let m = Ok (fill es fresh) in
      let go : Result S Fault → Outcome (Result S Fault) = λ st. walk 4096 most rules broken (k + 1) (s + length l) st ls in
      elim (brought 4096 most rules broken k s m l (text_of ls) (go (rules.next m l))) [
        | too_long f o a e ↦ let f = rw e at x in cc
        | too_much f a e ↦ let f = rw e at x in cc
        | off a b d e ↦ (
          sound-off broken l ls a d,
          omega (arith, through-off broken l ls d),
          λ q. absurd (off_ok rules on_break k m (text_of ls) c refl (sym (ap (ends rules) e) ∙ x) q),
        )
        | on a b d e ↦
            let y = fault-ok (rules.refused (rules.next m l)) (k + 1) (rules.next m l) (text_of ls) (go (rules.next m l)) c (sym (ap (ends rules) e) ∙ x) in
            let g = on_good (entry l) (fill es fresh) y.0 in
            let i = backward most broken (k + 1) (s + length l) (put (entry l) es) ls c b (sym (ap (λ (st : Result S Fault). ends rules (go st)) (good-on (entry l) es g)) ∙ y.1) in
            (sound-on broken l ls a g i.0, omega (arith, through-on broken l ls d, i.1), λ q. off_on broken l ls d ∙ i.2 q)
      ]

  pub orderly-answered : (t : Text) → Orderly entry on_break t.broken (lines_of t.bytes) →
      (reading rules (Ok (fill [] fresh)) t).0 ≡ last_lines entry fill judges fresh t.broken (lines_of t.bytes)
  unfolding reading course leaves
  orderly-answered t o =
      let z : 0 + length (before t.broken (lines_of t.bytes)) ≡ length (before t.broken (lines_of t.bytes)) = omega arith in
      forward 268435456 t.broken 0 0 [] (lines_of t.bytes) o.lines (omega (arith, o.fits)) o.whole
      ∙ ap (λ (n : ℕ). at_line n (judges (fill (entries_of entry [] (before t.broken (lines_of t.bytes))) fresh))) z

  pub accepted_orderly : (t : Text) (c : R) → (reading rules (Ok (fill [] fresh)) t).0 ≡ Ok c → Orderly entry on_break t.broken (lines_of t.bytes)
  unfolding reading course leaves
  accepted_orderly t c e =
      let i = backward 268435456 t.broken 0 0 [] (lines_of t.bytes) c (omega arith) e in
      record { lines = i.0; fits = omega (arith, i.1); whole = i.2 }

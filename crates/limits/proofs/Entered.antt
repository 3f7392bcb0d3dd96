-- One entry sets one slot.
use Rattle.std.proofs.Common.{◌≡◌, ◌==◌, ℕ, zero, suc, ◌+◌, ◌<◌, true, false, cond, List, [], ◌∷◌, map, set, Some, sym, refl, ap, arith}
use Rattle.std.specs.List.{enumerate_from}
use Rattle.fields.specs.Slots.{Slot}
use Rattle.limits.specs.declared.limit.Limit.{Limit}
use Rattle.fields.specs.Slots.{last_of}
use Rattle.limits.specs.Values.{limit_of}
use Rattle.std.proofs.lemmas.Bool.Decides.{nat_tests}

module _ {X : Type 0} (number : ℕ) (new : X) where
  -- of the slots numbered from n on, the one with the number
  abbrev pub with_new : ℕ → List X → List X
  with_new n xs = map (λ p. cond (number == p.0) new p.1) (enumerate_from n xs)

  none_set : (n : ℕ) (xs : List X) → number < n → with_new n xs ≡ xs
  none_set n [] h = refl
  none_set n (x ∷ xs) h =
      let e : (number == n) ≡ false = grind (arith, nat_tests) in
      rw e (ap (λ ys. x ∷ ys) (none_set (n + 1) xs (omega arith)))

  pub one_set : (n place : ℕ) (xs : List X) → number ≡ place + n → with_new n xs ≡ set xs place new
  one_set n place [] h = refl
  one_set n zero (x ∷ xs) h =
      let e : (number == n) ≡ true = grind (arith, nat_tests) in
      rw e (ap (λ ys. new ∷ ys) (none_set (n + 1) xs (omega arith)))
  one_set n (suc place) (x ∷ xs) h =
      let e : (number == n) ≡ false = grind (arith, nat_tests) in
      rw e (ap (λ ys. x ∷ ys) (one_set (n + 1) place xs (omega arith)))

pub slot_set : (slots : List (Slot Limit)) (place : ℕ) (soft hard : List ℕ) → set slots place (Some (limit_of soft hard)) ≡ map (λ p. last_of (λ (words : List ℕ × List ℕ). limit_of words.0 words.1) p.0 ((place + 1, (soft, hard)) ∷ []) p.1) (enumerate_from 1 slots)
slot_set slots place soft hard = sym (one_set (place + 1) (Some (limit_of soft hard)) 1 place slots refl)

-- The first byte that passes a test: by the mask of the test, and by a search from a place on.
use Rattle.std.proofs.Common.{◌≡◌, ℕ, ◌+◌, ◌-◌, ◌*◌, ◌<◌, ◌≤◌, Bool, true, false, not, cond, List, [], ◌∷◌, Some, None, map, length, get_or, ap, subst, sym, ◌∙◌, inl, inr, arith}
use Rattle.std.specs.List.{prefix_len}
use Rattle.std.proofs.lemmas.Bool.{cases_lt, both_ways, not-true, not-false}
use Rattle.std.proofs.lemmas.List.Sums.{prefix_len_passes, prefix_len_stops}
use Rattle.std.proofs.lemmas.Simd.{length-chunk, get_or-chunk, trailing_mask_l, leading_from_mask_l}
use Rattle.memchr.specs.Find.{IsFirstByte, Nowhere, Passes}
use lib.Count.{count_trailing_zeros}
use lib.Lanes.{chunk, mask_l}

-- where a bit is set, the run before it ends early
ends_by : (b : Bool) (m n l : ℕ) → 0 < cond b 1 0 + 2 * m → (0 < m → n < l) → cond (not b) (1 + n) 0 < 1 + l
ends_by true m n l some h = omega arith
ends_by false m n l some h = omega (arith, h (omega arith))

module _ (p : ℕ → Bool) where
  ends : (xs : List ℕ) → 0 < mask_l (map p xs) → prefix_len (λ x. not (p x)) xs < length xs
  ends [] some = absurd (omega arith)
  ends (x ∷ xs) some = omega (arith, ends_by (p x) (mask_l (map p xs)) (prefix_len (λ y. not (p y)) xs) (length xs) some (ends xs))

  fails : (xs : List ℕ) (k : ℕ) → k < prefix_len (λ x. not (p x)) xs → Passes p xs k → ⊥
  fails xs k l passes = both_ways _ (not-true _ (prefix_len_passes (λ x. not (p x)) xs k 0 l)) passes

  -- the lowest bit set stands for the first that passes
  pub first_marked : (xs : List ℕ) (m : ℕ) → length xs ≤ 64 → m ≡ mask_l (map p xs) → 0 < m → IsFirstByte p xs (Some (count_trailing_zeros 64 m))
  first_marked xs m few e some =
      let set : 0 < mask_l (map p xs) = omega arith in
      let short = ends xs set in
      let counted = ap (count_trailing_zeros 64) e ∙ trailing_mask_l p 64 xs few set in (
        record { low = omega arith; high = omega (arith, counted, short); before = λ k _ l. fails xs k (omega (arith, counted)) },
        subst (Passes p xs) (sym counted) (not-false _ (prefix_len_stops (λ x. not (p x)) xs 0 short)),
      )

  -- with no bit set none passes
  pub none_marked : (xs : List ℕ) → mask_l (map p xs) ≡ 0 → IsFirstByte p xs None
  none_marked xs none k _ l = fails xs k (omega (arith, leading_from_mask_l p xs none))

  module _ (bs : List ℕ) (at n : ℕ) (fits : at + n ≤ length bs) (searched : Nowhere (Passes p bs) 0 at) where
    -- none of the n bytes from this place on passes before m, and none before this place
    none_by : (m : ℕ) → m ≤ n → Nowhere (Passes p (chunk at n bs)) 0 m → Nowhere (Passes p bs) 0 (at + m)
    none_by m room h k z l passes =
        elim (cases_lt k at) [
          | inl early ↦ searched k z early passes
          | inr late ↦
              let back : at + (k - at) ≡ k = omega arith in
              h (k - at) (omega arith) (omega arith) (subst (λ (b : ℕ). p b ≡ true) (sym (get_or-chunk at n bs (k - at) 0 (omega arith) ∙ ap (λ j. get_or bs j 0) back)) passes)
        ]

    pub none_on : IsFirstByte p (chunk at n bs) None → Nowhere (Passes p bs) 0 (at + n)
    none_on h = none_by n (omega arith) (λ k z l. h k z (omega (arith, length-chunk at n bs fits)))

    pub first_on : (i : ℕ) → IsFirstByte p (chunk at n bs) (Some i) → IsFirstByte p bs (Some (at + i))
    first_on i h =
        let short : i < n = omega (arith, h.0.high, length-chunk at n bs fits) in (
          record { low = omega arith; high = omega arith; before = none_by i (omega arith) h.0.before },
          subst (λ (b : ℕ). p b ≡ true) (get_or-chunk at n bs i 0 short) h.1,
        )

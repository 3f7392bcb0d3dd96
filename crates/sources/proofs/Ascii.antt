-- Bytes that are ASCII: sixteen at once, and loads that cover a text.
use Rattle.std.proofs.Common.{◌≡◌, ℕ, ◌+◌, ◌-◌, ◌%◌, ◌^◌, ◌<◌, ◌≤◌, zero, suc, true, not, cond, eqb, nat_le, List, [], ◌∷◌, map, length, get_or, replicate, bit_or, sym, ap, subst, ◌∙◌, inl, inr, arith, w8, eqb-true}
use Rattle.std.specs.Char.{is_ascii}
use Rattle.std.specs.List.{list_all}
use Rattle.std.specs.Str.{IsAscii}
use Rattle.std.proofs.lemmas.Bool.{and_parts}
use Rattle.std.proofs.lemmas.Bool.{cases_lt}
use Rattle.std.proofs.lemmas.Bool.Decides.{nat_tests}
use Rattle.std.proofs.lemmas.List.{get_or_past, length-map}
use Rattle.std.proofs.lemmas.List.Sums.{prefix_len_passes}
use Rattle.std.proofs.lemmas.Nat.{and_le_l, and_le_r}
use Rattle.std.proofs.lemmas.Simd.{tops_compared, zip2_splat_left, mask_l-mod, leading_from_mask_l, get_or-zip2, length-chunk, get_or-chunk}
use lib.Bits.{or_add_and}
use lib.Lanes.{chunk, mask_l, top, zip2}

-- where each byte is ASCII
pub all_small : (bs : List ℕ) → list_all is_ascii bs ≡ true → IsAscii bs
all_small [] h i = omega arith
all_small (b ∷ bs) h zero = let p = and_parts (is_ascii b) (list_all is_ascii bs) h in grind (arith, nat_tests)
all_small (b ∷ bs) h (suc i) = all_small bs (and_parts (is_ascii b) (list_all is_ascii bs) h).1 i

small : (b : ℕ) → not (nat_le 128 b) ≡ true → b < 128
small b e = grind (arith, nat_tests)

-- the mask of the lanes that reach 128 is the mask of the bytes that do
high_mask : (bs : List ℕ) → length bs ≡ 16 → mask_l (map (top 7) (zip2 (λ a b. cond (nat_le a b) 255 0) (replicate 16 128) bs)) % 2 ^ 64 ≡ mask_l (map (nat_le 128) bs)
high_mask bs long =
    ap (λ ms. mask_l ms % 2 ^ 64) (tops_compared w8 nat_le (replicate 16 128) bs ∙ zip2_splat_left nat_le 128 16 bs long)
    ∙ mask_l-mod (map (nat_le 128) bs) 64 (omega (arith, length-map bs (nat_le 128)))

pub none_high : (bs : List ℕ) → length bs ≡ 16 → eqb (mask_l (map (top 7) (zip2 (λ a b. cond (nat_le a b) 255 0) (replicate 16 128) bs)) % 2 ^ 64) 0 ≡ true → IsAscii bs
none_high bs long e i =
    let run = leading_from_mask_l (nat_le 128) bs (sym (high_mask bs long) ∙ eqb-true _ _ e) in
    elim (cases_lt i (length bs)) [
      | inl l ↦ small (get_or bs i 0) (prefix_len_passes (λ b. not (nat_le 128 b)) bs i 0 (omega (arith, run)))
      | inr g ↦ omega (arith, get_or_past bs i 0 (omega arith))
    ]

-- where two bytes or-ed are ASCII, both are
both_small : (a b : ℕ) → bit_or a b < 128 → (a < 128) × (b < 128)
both_small a b h = omega (arith, or_add_and a b, and_le_l a b, and_le_r a b)

-- where the lanes of two vectors or-ed are ASCII, so are the lanes of both
both_ascii : (xs ys : List ℕ) (i : ℕ) → length xs ≡ 16 → length ys ≡ 16 → IsAscii (zip2 bit_or xs ys) → (get_or xs i 0 < 128) × (get_or ys i 0 < 128)
both_ascii xs ys i l m h = elim (cases_lt i 16) [
  | inl k ↦ both_small (get_or xs i 0) (get_or ys i 0) (omega (arith, get_or-zip2 bit_or xs ys i 0 0 0 (omega arith) (omega arith), h i))
  | inr p ↦ (omega (arith, get_or_past xs i 0 (omega arith)), omega (arith, get_or_past ys i 0 (omega arith)))
]

-- where the lanes are ASCII, so are the bytes in front of `at` and those from `last` on
pub Covers : (lanes bs : List ℕ) (at last : ℕ) → Type 0
Covers lanes bs at last = IsAscii lanes → ((i : ℕ) → i < at → get_or bs i 0 < 128) × ((i : ℕ) → last ≤ i → get_or bs i 0 < 128)

-- the bytes of a load that is ASCII
chunk_small : (bs : List ℕ) (at i : ℕ) → IsAscii (chunk at 16 bs) → at ≤ i → i < at + 16 → get_or bs i 0 < 128
chunk_small bs at i h g l = subst (λ (x : ℕ). x < 128) (get_or-chunk at 16 bs (i - at) 0 (omega arith) ∙ ap (λ j. get_or bs j 0) (omega arith)) (h (i - at))

-- the last 16 bytes
pub covers_last : (bs : List ℕ) → 16 ≤ length bs → Covers (chunk (length bs - 16) 16 bs) bs 0 (length bs - 16)
unfolding Covers
covers_last bs long h = (
  λ i l. omega arith,
  λ i g. elim (cases_lt i (length bs)) [
    | inl l ↦ chunk_small bs (length bs - 16) i h g (omega arith)
    | inr p ↦ omega (arith, get_or_past bs i 0 (omega arith))
  ],
)

-- 16 bytes more from the front
pub covers_more : (lanes bs : List ℕ) (at last : ℕ) → length lanes ≡ 16 → at + 16 ≤ length bs → Covers lanes bs at last → Covers (zip2 bit_or lanes (chunk at 16 bs)) bs (at + 16) last
unfolding Covers
covers_more lanes bs at last long room had h =
    let m : length (chunk at 16 bs) ≡ 16 = length-chunk at 16 bs room in
    let old = had (λ i. (both_ascii lanes (chunk at 16 bs) i long m h).0) in (
      λ i l. elim (cases_lt i at) [
        | inl k ↦ old.0 i k
        | inr g ↦ chunk_small bs at i (λ j. (both_ascii lanes (chunk at 16 bs) j long m h).1) (omega arith) l
      ],
      old.1,
    )

-- all of a text
pub covers_all : (lanes bs : List ℕ) (at last : ℕ) → last ≤ at → Covers lanes bs at last → IsAscii lanes → IsAscii bs
unfolding Covers
covers_all lanes bs at last met had h i = elim (cases_lt i at) [
  | inl l ↦ (had h).0 i l
  | inr g ↦ (had h).1 i (omega arith)
]

-- The first low byte: a space, or a byte that stands below it.
use Rattle.std.proofs.Common.{◌≡◌, ℕ, ◌<◌, ◌≤◌, Bool, true, not, nat_le, List, map, length, get_or, sym, ap, arith}
use Rattle.std.specs.Char.{is_ascii_whitespace}
use Rattle.std.specs.List.{prefix_len}
use Rattle.std.proofs.lemmas.Bool.Decides.{nat_tests}
use Rattle.std.proofs.lemmas.List.Sums.{prefix_len_is}
use Rattle.std.proofs.lemmas.Simd.{length-chunk}
use Rattle.sources.proofs.Marks.{first_marked, first_on}
use lib.Count.{count_trailing_zeros}
use lib.Lanes.{chunk, mask_l}
use Rattle.sources.specs.Words.{in_word}

abbrev pub low : ℕ → Bool
low b = nat_le b 32

above : (b : ℕ) → (low b ≡ true → ⊥) → 32 < b
above b h = grind (arith, nat_tests)

-- the lowest bit set stands for a byte of the text, and those before it are above the space
pub first : (bs : List ℕ) (m : ℕ) → 16 ≤ length bs → m ≡ mask_l (map low (chunk 0 16 bs)) → 0 < m
    → (count_trailing_zeros 64 m < length bs) × ((k : ℕ) → k < count_trailing_zeros 64 m → 32 < get_or bs k 0)
first bs m room e some =
    let marked = first_marked low (chunk 0 16 bs) m (omega (arith, length-chunk 0 16 bs room)) e some in
    let h = first_on low bs 0 16 (omega arith) (λ k z l. absurd (omega arith)) (count_trailing_zeros 64 m) marked in
    (omega (arith, h.0.high), λ k l. above (get_or bs k 0) (h.0.before k (omega arith) (omega arith)))

dark : (b : ℕ) → 32 < b → in_word b ≡ true
dark b h = grind (arith, nat_tests)

-- a white byte behind bytes above the space ends the word
pub ends_word : (bs : List ℕ) (n : ℕ) → n < length bs → ((k : ℕ) → k < n → 32 < get_or bs k 0) → is_ascii_whitespace (get_or bs n 0) ≡ true → n ≡ prefix_len in_word bs
ends_word bs n l h w = sym (prefix_len_is in_word bs n 0 (omega arith) (λ k j. dark (get_or bs k 0) (h k j)) (λ _. ap not w))

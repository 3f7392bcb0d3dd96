-- What `through` is at one more byte, and its bounds.
use Rattle.std.proofs.Common.{◌≡◌, ℕ, zero, suc, ◌+◌, ◌<◌, ◌≤◌, min, true, false, cond, eqb, take, List, [], ◌∷◌, length, get_or, Some, None, Option, refl, ap, ◌∙◌, arith}
use Rattle.memchr.specs.Find.{IsFirstByte, is_byte}
use Rattle.sources.specs.Pieces.{case_of}
use Rattle.sources.specs.Bytes.{through}

pub through-≤ : (xs : List ℕ) → through xs ≤ length xs
through-≤ [] = omega arith
through-≤ (x ∷ xs) =
    let ih = through-≤ xs in
    elim (eqb x 10) as (λ t. cond t 1 (suc (through xs)) ≤ length (x ∷ xs)) [ true ↦ omega arith | false ↦ omega arith ]

pub through-pos : (x : ℕ) (xs : List ℕ) → 0 < through (x ∷ xs)
through-pos x xs = elim (eqb x 10) as (λ t. 0 < cond t 1 (suc (through xs))) [ true ↦ omega arith | false ↦ omega arith ]

pub through-some : (xs : List ℕ) → 0 < length xs → 0 < through xs
through-some [] h = absurd (omega arith)
through-some (x ∷ xs) h = through-pos x xs

-- of as many bytes as there is room for
pub through-take : (n : ℕ) (xs : List ℕ) → through (take n xs) ≡ min n (through xs)
through-take zero xs = omega arith
through-take (suc n) [] = omega arith
through-take (suc n) (x ∷ xs) =
    let ih = through-take n xs in
    elim (eqb x 10) as (λ t. cond t 1 (suc (through (take n xs))) ≡ min (suc n) (cond t 1 (suc (through xs)))) [ true ↦ omega arith | false ↦ omega arith ]

-- told by a search for byte 10
pub through-none : (xs : List ℕ) → ((k : ℕ) → k < length xs → eqb (get_or xs k 0) 10 ≡ true → ⊥) → through xs ≡ length xs
through-none [] h = refl
through-none (x ∷ xs) h =
    let ih = through-none xs (λ k l e. h (suc k) (omega arith) e) in
    elim (eqb x 10) as (λ t. eqb x 10 ≡ t → cond t 1 (suc (through xs)) ≡ suc (length xs)) [ true ↦ λ e. absurd (h 0 (omega arith) e) | false ↦ λ e. ap suc ih ] refl

pub through-at : (xs : List ℕ) (i : ℕ) → i < length xs → eqb (get_or xs i 0) 10 ≡ true → ((k : ℕ) → k < i → eqb (get_or xs k 0) 10 ≡ true → ⊥) → through xs ≡ i + 1
through-at [] i l e h = absurd (omega arith)
through-at (x ∷ xs) zero l e h = rw e
through-at (x ∷ xs) (suc i) l e h =
    let ih = through-at xs i (omega arith) e (λ k l e. h (suc k) (omega arith) e) in
    elim (eqb x 10) as (λ t. eqb x 10 ≡ t → cond t 1 (suc (through xs)) ≡ suc i + 1) [ true ↦ λ e. absurd (h 0 (omega arith) e) | false ↦ λ e. ap suc ih ∙ omega arith ] refl

pub through-found : (xs : List ℕ) (r : Option ℕ) → IsFirstByte (is_byte 10) xs r → through xs ≡ case_of r (length xs) (λ i. i + 1)
through-found xs None h = through-none xs (λ k l e. h k (omega arith) l e)
through-found xs (Some i) h = through-at xs i h.0.high h.1 (λ k l e. h.0.before k (omega arith) l e)

-- The lines of a text, one at a time.
use Rattle.std.proofs.Common.{◌≡◌, ℕ, zero, suc, ◌+◌, ◌<◌, ◌≤◌, true, false, cond, eqb, List, [], ◌∷◌, length, get_or, take, drop, refl, ap, ◌∙◌, arith, eq-eqb}
use Rattle.sources.specs.Bytes.{through}
use Rattle.sources.specs.Lines.{lines_of, text_of, ahead}

pub lines_cons : (x : ℕ) (xs : List ℕ) → lines_of (x ∷ xs) ≡ take (through (x ∷ xs)) (x ∷ xs) ∷ lines_of (drop (through (x ∷ xs)) (x ∷ xs))
unfolding lines_of
lines_cons x [] = elim (eqb x 10) as (λ t. cond t ((x ∷ []) ∷ []) ((x ∷ []) ∷ []) ≡ take (cond t 1 1) (x ∷ []) ∷ lines_of (drop (cond t 1 1) (x ∷ []))) [ true ↦ refl | false ↦ refl ]
lines_cons x (y ∷ ys) =
    let ih = lines_cons y ys in
    elim (eqb x 10)
    as (λ t. cond t ((x ∷ []) ∷ lines_of (y ∷ ys)) (ahead x (lines_of (y ∷ ys))) ≡ take (cond t 1 (suc (through (y ∷ ys)))) (x ∷ y ∷ ys) ∷ lines_of (drop (cond t 1 (suc (through (y ∷ ys)))) (x ∷ y ∷ ys)))
    [ true ↦ refl | false ↦ ap (ahead x) ih ]

text_ahead : (x : ℕ) (ls : List (List ℕ)) → text_of (ahead x ls) ≡ x ∷ text_of ls
unfolding text_of
text_ahead x [] = refl
text_ahead x (l ∷ ls) = refl

pub text_lines : (xs : List ℕ) → text_of (lines_of xs) ≡ xs
unfolding lines_of text_of
text_lines [] = refl
text_lines (x ∷ xs) =
    let ih = text_lines xs in
    elim (eqb x 10) as (λ t. text_of (cond t ((x ∷ []) ∷ lines_of xs) (ahead x (lines_of xs))) ≡ x ∷ xs)
    [ true ↦ ap (λ (l : List ℕ). x ∷ l) ih | false ↦ text_ahead x (lines_of xs) ∙ ap (λ (l : List ℕ). x ∷ l) ih ]

-- a byte 10 ends a line
pub through-first : (xs : List ℕ) (j : ℕ) → j < length xs → get_or xs j 0 ≡ 10 → through xs ≤ j + 1
through-first [] j h e = absurd (omega arith)
through-first (x ∷ xs) zero h e = rw (eq-eqb x 10 e) (omega arith)
through-first (x ∷ xs) (suc j) h e =
    let ih : through xs ≤ j + 1 = through-first xs j (omega arith) e in
    elim (eqb x 10) as (λ t. cond t 1 (suc (through xs)) ≤ suc j + 1) [ true ↦ omega arith | false ↦ omega arith ]

pub lines_some : (xs : List ℕ) → 0 < length xs → lines_of xs ≡ take (through xs) xs ∷ lines_of (drop (through xs) xs)
lines_some [] h = absurd (omega arith)
lines_some (x ∷ xs) h = lines_cons x xs

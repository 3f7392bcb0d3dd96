-- Splitting a text at the first of its characters, again and again, gives all its pieces.
use Rattle.std.proofs.Common.{◌≡◌, ℕ, ◌==◌, nat_lt, Bool, true, false, cond, List, [], ◌∷◌, Some, None, Option, refl, sym, ap, ◌∙◌}
use Rattle.std.specs.List.{onto_first, slice_split}
use Rattle.std.specs.Option.{option_map}
use Rattle.sources.specs.Pieces.{split_at_byte, split_once, split, case_of}

-- all of a text, or what stands before the byte and the pieces of what stands behind it
abbrev behind : (List ℕ → List (List ℕ)) → List ℕ → Option (List ℕ × List ℕ) → List (List ℕ)
behind pieces bs o = case_of o (bs ∷ []) (λ p. p.0 ∷ pieces p.1)

abbrev between : ℕ → List ℕ → List (List ℕ)
between c bs = slice_split (λ b. b == c) bs

-- one byte more before the first piece
onto : (c b : ℕ) (bs : List ℕ) (o : Option (List ℕ × List ℕ)) → onto_first b (behind (between c) bs o) ≡ behind (between c) (b ∷ bs) (option_map (λ p. (b ∷ p.0, p.1)) o)
onto c b bs None = refl
onto c b bs (Some p) = refl

between-split : (c : ℕ) (bs : List ℕ) → between c bs ≡ behind (between c) bs (split_at_byte c bs)
between-split c [] = refl
between-split c (b ∷ bs) = by (b == c) (between-split c bs)
  where
    by : (t : Bool) → between c bs ≡ behind (between c) bs (split_at_byte c bs)
        → cond t ([] ∷ between c bs) (onto_first b (between c bs)) ≡ behind (between c) (b ∷ bs) (cond t (Some ([], bs)) (option_map (λ p. (b ∷ p.0, p.1)) (split_at_byte c bs)))
    by true h = refl
    by false h = ap (onto_first b) h ∙ onto c b bs (split_at_byte c bs)

-- the same where it is known that the character is ASCII, or is not
split_by : (t : Bool) (c : ℕ) (bs : List ℕ) → between c bs ≡ behind (between c) bs (split_at_byte c bs)
    → cond t (between c bs) (bs ∷ []) ≡ behind (λ xs. cond t (between c xs) (xs ∷ [])) bs (cond t (split_at_byte c bs) None)
split_by true c bs h = h
split_by false c bs h = refl

pub split-split_once : (c : ℕ) (bs : List ℕ) {o : Option (List ℕ × List ℕ)} → o ≡ split_once c bs → split c bs ≡ behind (split c) bs o
split-split_once c bs e = split_by (nat_lt c 128) c bs (between-split c bs) ∙ ap (behind (split c) bs) (sym e)

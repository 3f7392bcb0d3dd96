-- Pieces of a text, as functions of its bytes.
use Rattle.std.specs.Prelude.{ℕ, if◌then◌else◌, List, [], ◌∷◌, reverse, Some, None, Option, ◌==◌, nat_lt, codes}
use Rattle.std.specs.List.{slice_split}
use Rattle.std.specs.Borrow.{Bor}
use Rattle.std.specs.Option.{option_map}

-- What stands before the first byte c and what stands after it, where there is one.
abbrev pub split_at_byte : ℕ → List ℕ → Option (List ℕ × List ℕ)
split_at_byte c [] = None
split_at_byte c (x ∷ xs) = if x == c then Some ([], xs) else option_map (λ p. (x ∷ p.0, p.1)) (split_at_byte c xs)

-- The same for any character: one that is not ASCII cuts nothing.
abbrev pub split_once : ℕ → List ℕ → Option (List ℕ × List ℕ)
split_once c bs = if nat_lt c 128 then split_at_byte c bs else None

-- A value by cases on an option.
abbrev pub case_of : {X Y : Type 0} → Option X → Y → (X → Y) → Y
case_of None n s = n
case_of (Some x) n s = s x

-- The part before the first character c, or all.
abbrev pub up_to : ℕ → List ℕ → List ℕ
up_to c bs = case_of (split_once c bs) bs (λ p. p.0)

-- The pieces between a character and the next that is the same: one more than there are such characters, so an empty text is one empty piece. A character that is not ASCII splits nothing.
abbrev pub split : ℕ → List ℕ → List (List ℕ)
split c bs = if nat_lt c 128 then slice_split (λ b. b == c) bs else bs ∷ []

-- Two borrowed texts, by their bytes.
abbrev pub bytes_of_2 : Bor (List ℕ) × Bor (List ℕ) → List ℕ × List ℕ
bytes_of_2 p = (p.0.now, p.1.now)

-- What follows the bytes p, where the text begins with them.
abbrev pub strip_prefix : List ℕ → List ℕ → Option (List ℕ)
strip_prefix [] bs = Some bs
strip_prefix (c ∷ cs) [] = None
strip_prefix (c ∷ cs) (b ∷ bs) = if b == c then strip_prefix cs bs else None

-- What stands before the bytes p, where the text ends with them.
abbrev pub strip_suffix : List ℕ → List ℕ → Option (List ℕ)
strip_suffix p bs = option_map reverse (strip_prefix (reverse p) (reverse bs))

-- What stands between square brackets, the first byte and the last.
abbrev pub bracketed : List ℕ → Option (List ℕ)
bracketed bs = case_of (strip_prefix (codes "[") bs) None (strip_suffix (codes "]"))

-- A borrowed text, by its bytes.
abbrev pub bytes_of : Bor (List ℕ) → List ℕ
bytes_of x = x.now

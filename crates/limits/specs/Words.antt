-- Words picked and compared.
use Rattle.std.specs.Prelude.{ℕ, Bool, List, [], slice_index_or}
use Rattle.std.specs.Cmp.Lexicographic.{pointwise}
use Rattle.std.specs.Str.{bytes_eq}

-- The word at a place, or an empty one behind the last.
abbrev pub word_at : ℕ → List (List ℕ) → List ℕ
word_at n ws = slice_index_or ws n []

-- Whether two lists have the same words.
abbrev pub same_words : List (List ℕ) → List (List ℕ) → Bool
same_words = pointwise bytes_eq

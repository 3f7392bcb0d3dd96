-- A recording: records of 64 bytes, and the text and the ending that they make.
use Rattle.std.specs.Prelude.{◌≡◌, ℕ, ◌+◌, ◌/◌, ◌%◌, ◌<◌, ◌≤◌, Bool, false, ◌&&◌, ◌||◌, List, [], ◌∷◌, ◌++◌, length, take, drop, ◌==◌, nat_le, slice_index}
use Rattle.std.specs.List.{list_all}
use Rattle.std.specs.Simd.{first_chunks}
use Rattle.sources.specs.Bytes.{through}

-- Byte 0 of a record: how many text bytes it has.
abbrev pub size : List ℕ → ℕ
size r = slice_index r 0

-- Byte 1 of a record: 0 for more, 1 for a clean ending, 2 for a broken one.
abbrev pub mark : List ℕ → ℕ
mark r = slice_index r 1

-- Its text bytes stand behind these two.
abbrev pub text_of_record : List ℕ → List ℕ
text_of_record r = take (size r) (drop 2 r)

abbrev pub zeros : List ℕ → Bool
zeros bs = list_all (λ b. b == 0) bs

-- At most 62 text bytes, then zeros.
abbrev pub formed : List ℕ → Bool
formed r = nat_le (size r) 62 && zeros (drop (2 + size r) r)

-- The records that bytes begin with: as many as there are whole ones.
unfoldable pub records_of : List ℕ → List (List ℕ)
records_of bytes = first_chunks 64 (length bytes / 64) bytes

-- A record that others follow.
abbrev pub going : List ℕ → Bool
going r = formed r && mark r == 0

-- The last record.
abbrev pub last : List ℕ → Bool
last r = formed r && (mark r == 1 || mark r == 2)

-- There is at least one record, and the last alone has 1 or 2.
abbrev pub well_made : List (List ℕ) → Bool
well_made [] = false
well_made (r ∷ []) = last r
well_made (r ∷ s ∷ rs) = going r && well_made (s ∷ rs)

abbrev pub text_of_records : List (List ℕ) → List ℕ
text_of_records [] = []
text_of_records (r ∷ rs) = text_of_record r ++ text_of_records rs

-- Whether the ending is a broken one.
abbrev pub ending_of : List (List ℕ) → Bool
ending_of [] = false
ending_of (r ∷ []) = mark r == 2
ending_of (r ∷ s ∷ rs) = ending_of (s ∷ rs)

-- A whole number of records, well made.
abbrev pub recorded : List ℕ → Bool
recorded bytes = length bytes % 64 == 0 && well_made (records_of bytes)

-- The bytes to come of records, with `used` bytes of the first given.
abbrev pub to_come : List (List ℕ) → ℕ → List ℕ
to_come [] used = []
to_come (r ∷ rs) used = drop used (text_of_record r) ++ text_of_records rs

-- What moving bytes of one record does: `buf` and `xs` before, `buf'` and `xs'` after.
pub record Part (buf xs : List ℕ) (k : ℕ) (buf' xs' : List ℕ) : Type 0 where
  pub some : 0 < k
  pub within : k ≤ length buf
  pub line : k ≤ through xs
  pub fills : buf' ≡ take k xs ++ drop k buf
  pub moves : xs' ≡ drop k xs

-- Which texts are accepted, told by their lines and by the room for their rows and entries.
use Rattle.std.specs.Prelude.{◌≡◌, ℕ, ◌≤◌, Bool, true, false, cond, not, ◌&&◌, List, [], ◌∷◌, length, Ok, Result}
use Rattle.std.specs.Result.{is_ok}
use Rattle.sources.specs.declared.fault.Refusal.{Refusal}
use Rattle.sources.specs.Lines.{lines_of, text_of, long, max_line, max_text}
use Rattle.sources.specs.Texts.{Text}
use Rattle.sources.specs.Utf8.{is_utf8}
use Rattle.kinds.specs.Mapping.{mapping_of}
use Rattle.kinds.specs.Sorts.{capital}
use Rattle.kinds.specs.declared.rows.entry.Entry.{Entry}
use Rattle.kinds.specs.declared.rows.read.Counts.{Counts}
use Rattle.kinds.specs.declared.rows.row.Row.{Row}
use Rattle.kinds.specs.Rows.Lines.{saying_of}
use Rattle.kinds.specs.Rows.Blocks.{blocks_of, entries_in}

-- Whether a line is good where a mapping is open.
abbrev pub sound : List ℕ → Bool
sound l = cond (capital l) (is_ok (saying_of l)) (is_ok (mapping_of l))

-- Whether all lines are UTF-8, none too long, and each good.
unfoldable pub orderly : List (List ℕ) → Bool
orderly [] = true
orderly (l ∷ ls) = not (long max_line l) && is_utf8 l && sound l && orderly ls

-- Whether the first line, if any, opens a mapping.
abbrev pub starts : List (List ℕ) → Bool
starts [] = true
starts (l ∷ ls) = not (capital l)

-- Lines that can be read into so many rows and so many entries.
pub record Readable (rows entries : ℕ) (ls : List (List ℕ)) : Type 0 where
  pub begins : starts ls ≡ true
  pub good : orderly ls ≡ true
  pub fits : length (text_of ls) ≤ max_text
  pub rows_fit : length (blocks_of 0 ls) ≤ rows
  pub entries_fit : length (entries_in (blocks_of 0 ls)) ≤ entries

-- A text is accepted where its ending is clean and its lines can be read, and nowhere else.
abbrev pub AcceptsReadable : Text → List Row → List Entry → Result Counts Refusal → Type 0
AcceptsReadable t rows entries r =
    ((n : Counts) → r ≡ Ok n → (t.broken ≡ false) × Readable (length rows) (length entries) (lines_of t.bytes))
    × ((t.broken ≡ false) × Readable (length rows) (length entries) (lines_of t.bytes) → is_ok r ≡ true)

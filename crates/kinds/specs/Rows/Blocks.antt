-- What the rows and entries of an accepted text are, told by its mappings: of each, the line that opens it and the lines that follow.
use Rattle.std.specs.Prelude.{◌≡◌, ℕ, ◌+◌, false, cond, List, [], ◌∷◌, ◌++◌, length, drop, fold, slice_set, Ok, Err, Result}
use Rattle.sources.specs.declared.fault.Fault.{Fault}
use Rattle.sources.specs.declared.fault.Refusal.{Refusal}
use Rattle.sources.specs.Lines.{lines_of}
use Rattle.sources.specs.Pieces.{case_of}
use Rattle.sources.specs.Texts.{Text}
use Rattle.kinds.specs.Sorts.{capital}
use Rattle.kinds.specs.declared.rows.entry.Entry.{Entry}
use Rattle.kinds.specs.declared.rows.read.Counts.{Counts}
use Rattle.kinds.specs.declared.rows.row.Row.{Row}
use Rattle.kinds.specs.declared.rows.line.Saying.{Saying}
use Rattle.kinds.specs.declared.rows.line.Saying.TheVariants.{Nothing, Flags, Value}
use Rattle.kinds.specs.Rows.Entries.{entry_number}
use Rattle.kinds.specs.Rows.Rows.{row_of, blank_row}
use Rattle.kinds.specs.Rows.Lines.{saying_of}

-- A mapping: how many bytes of the text stand before its line, that line, and its attribute lines.
pub record Block : Type 0 where
  pub before : ℕ
  pub head : List ℕ
  pub lines : List (List ℕ)

-- The lines before the next mapping line.
unfoldable pub body : List (List ℕ) → List (List ℕ)
body [] = []
body (l ∷ ls) = cond (capital l) (l ∷ body ls) []

-- The mappings of lines, before which so many bytes stand.
unfoldable pub blocks_of : ℕ → List (List ℕ) → List Block
blocks_of before [] = []
blocks_of before (l ∷ ls) =
    cond (capital l) (blocks_of (before + length l) ls) (record { before = before; head = l; lines = body ls } ∷ blocks_of (before + length l) ls)

-- The entries of a mapping after one more of its lines: a key that has one takes the new value there, any other comes behind.
abbrev pub noted : List Entry → Result Saying Fault → List Entry
noted es (Ok Nothing) = es
noted es (Ok (Flags bits)) = es
noted es (Ok (Value e)) = case_of (entry_number e.key es) (es ++ (e ∷ [])) (λ i. slice_set es i e)
noted es (Err f) = es

-- Its flags after one more.
abbrev pub flagged : ℕ → Result Saying Fault → ℕ
flagged flags (Ok Nothing) = flags
flagged flags (Ok (Flags bits)) = bits
flagged flags (Ok (Value e)) = flags
flagged flags (Err f) = flags

abbrev pub entries_after : List Entry → List (List ℕ) → List Entry
entries_after es ls = fold (λ es l. noted es (saying_of l)) es ls

abbrev pub flags_after : ℕ → List (List ℕ) → ℕ
flags_after flags ls = fold (λ flags l. flagged flags (saying_of l)) flags ls

-- A row with its flags and its entries.
abbrev pub with_rest : ℕ → ℕ → ℕ → Row → Row
with_rest flags first count row = record row { flags = flags; first = first; count = count }

-- The row that a mapping line says.
abbrev pub row_or_blank : Result Row Fault → Row
row_or_blank (Ok row) = row
row_or_blank (Err f) = blank_row

-- The row of a mapping whose first entry has the number `first`.
abbrev pub row_for : ℕ → Block → Row
row_for first b = with_rest (flags_after 0 b.lines) first (length (entries_after [] b.lines)) (row_or_blank (row_of b.before b.head))

-- All rows, and all entries.
unfoldable pub rows_in : ℕ → List Block → List Row
rows_in first [] = []
rows_in first (b ∷ bs) = row_for first b ∷ rows_in (first + length (entries_after [] b.lines)) bs

unfoldable pub entries_in : List Block → List Entry
entries_in [] = []
entries_in (b ∷ bs) = entries_after [] b.lines ++ entries_in bs

-- The cells of a table whose first are these: the others are as they were.
abbrev pub over : {A : Type 0} → List A → List A → List A
over {A} xs held = xs ++ drop (length xs) held

-- The counts are those of the mappings' rows and entries, and these stand in the cells.
pub record Rowed (bs : List Block) (rows : List Row) (entries : List Entry) (n : Counts) (rows' : List Row) (entries' : List Entry) : Type 0 where
  pub rows_counted : n.rows ≡ length bs
  pub entries_counted : n.entries ≡ length (entries_in bs)
  pub rows_stand : rows' ≡ over (rows_in 0 bs) rows
  pub entries_stand : entries' ≡ over (entries_in bs) entries

-- What an accepted text leaves in the caller's cells.
abbrev pub ToldByMappings : Text → List Row → List Entry → Result Counts Refusal → List Row → List Entry → Type 0
ToldByMappings t rows entries r rows' entries' = (n : Counts) → r ≡ Ok n → (t.broken ≡ false) × Rowed (blocks_of 0 (lines_of t.bytes)) rows entries n rows' entries'

-- The two tables, and what lines make of them.
use Rattle.std.specs.Prelude.{ℕ, ◌-◌, Bool, true, false, List, length, replicate, Ok, Err, Result, refl}
use Rattle.std.specs.Option.{ok_or}
use Rattle.std.specs.Result.{result_err, result_map_both}
use Rattle.sources.specs.declared.fault.Fault.{Fault}
use Rattle.sources.specs.declared.kind.Break.TheVariants.{Refuses}
use Rattle.sources.specs.declared.reason.Reason.TheVariants.{Orphan}
use Rattle.sources.specs.Faults.{fault, and_then}
use Rattle.sources.specs.Pieces.{case_of}
use Rattle.sources.specs.declared.fault.Refusal.{Refusal}
use Rattle.sources.specs.Lines.{course, reading}
use Rattle.sources.specs.Rules.{Rules, RefusalStays, ForeignIsAside, BeginsWithALine}
use Rattle.sources.specs.Texts.{Text}
use Rattle.kinds.specs.declared.rows.entry.Entry.{Entry}
use Rattle.kinds.specs.declared.rows.read.Counts.{Counts}
use Rattle.kinds.specs.declared.rows.row.Row.{Row}
use Rattle.kinds.specs.declared.rows.line.Saying.{Saying}
use Rattle.kinds.specs.declared.rows.line.Saying.TheVariants.{Nothing, Flags, Value}
use Rattle.kinds.specs.declared.rows.line.RowLine.{RowLine}
use Rattle.kinds.specs.declared.rows.line.RowLine.TheVariants.{Mapping, Attribute}
use Rattle.kinds.specs.Rows.Cells.{Cells, cells, used, last, pushed, written}
use Rattle.kinds.specs.Rows.Entries.{spot, blank_entry}
use Rattle.kinds.specs.Rows.Paths.{further}
use Rattle.kinds.specs.Rows.Rows.{blank_row}
use Rattle.kinds.specs.Rows.Lines.{row_line_of}

-- The tables, and how many bytes of text were taken.
pub record Tables : Type 0 where
  pub rows : Cells Row
  pub entries : Cells Entry
  pub bytes : ℕ

abbrev pub tables : Cells Row → Cells Entry → ℕ → Tables
tables rows entries bytes = record { rows = rows; entries = entries; bytes = bytes }

-- A mapping line opens a row, whose entries are to stand behind those so far.
abbrev pub opened : Row → Tables → Result Tables Fault
opened row t = and_then (pushed (record row { first = t.entries.count }) t.rows) (λ rows. Ok (record t { rows = rows }))

-- The last row is written anew.
abbrev pub renewed : Row → Tables → Tables
renewed row t = record t { rows = written (t.rows.count - 1) row t.rows }

-- A new entry, behind all others, is one more of the last row.
abbrev pub entered : Entry → Row → Tables → Result Tables Fault
entered e row t = and_then (pushed e t.entries) (λ es. Ok (renewed (record row { count = es.count - row.first }) (record t { entries = es })))

-- A key that is among the last row's entries takes the new value in its entry; any other is a new entry.
abbrev pub valued : Entry → Row → Tables → Result Tables Fault
valued e row t = case_of (spot e.key row.first (used t.entries)) (entered e row t) (λ i. Ok (record t { entries = written i e t.entries }))

-- What an attribute line makes of the tables, whose last row is `row`.
abbrev pub after_saying : Saying → Row → Tables → Result Tables Fault
after_saying Nothing row t = Ok t
after_saying (Flags bits) row t = Ok (renewed (record row { flags = bits }) t)
after_saying (Value e) row t = valued e row t

-- What a line makes of them: an attribute's line is of the last row.
abbrev pub after_row_line : RowLine → Tables → Result Tables Fault
after_row_line (Mapping r) t = and_then r (λ row. opened row t)
after_row_line (Attribute a) t = and_then (ok_or (last (used t.rows)) (fault Orphan)) (λ row. and_then a (λ s. after_saying s row t))

-- The tables after some lines, or the fault of a line that was refused.
abbrev pub Filled : Type 0
Filled = Result Tables Fault

abbrev pub filled : Cells Row → Cells Entry → Result ℕ Fault → Filled
filled rows entries state = result_map_both (tables rows entries) (λ f. f) state

-- Before any line.
abbrev pub unfilled : List Row → List Entry → Tables
unfilled rows entries = tables (cells rows 0) (cells entries 0) 0

abbrev pub fresh : List Row → List Entry → Filled
fresh rows entries = Ok (unfilled rows entries)

abbrev pub after_line : List ℕ → Tables → Filled
after_line line t = after_row_line (row_line_of t.bytes line) (record t { bytes = further t.bytes (length line) })

-- How many rows and entries are in use.
abbrev pub counts : Tables → Counts
counts t = record { rows = t.rows.count; entries = t.entries.count }

-- The rules of the kind. After a fault no line changes anything.
abbrev pub row_rules : Rules Filled Counts
row_rules = record { next = λ m line. and_then m (after_line line); refused = result_err; closed = λ m. and_then m (λ t. Ok (counts t)); on_break = Refuses }

-- No line is foreign, and lines may always stand.
abbrev pub has_begun : Filled → Bool
has_begun m = true

abbrev pub is_foreign : List ℕ → Bool
is_foreign line = false

pub refusal_stays : RefusalStays row_rules
refusal_stays (Ok t) f e = cc
refusal_stays (Err g) f e = (λ line. e, cc)

pub foreign_aside : ForeignIsAside row_rules has_begun is_foreign
foreign_aside m line b r f = cc

pub begins_with_any : BeginsWithALine row_rules has_begun
begins_with_any m line r = refl

-- What is answered, and what the caller's cells hold: a refusal blanks them all.
abbrev pub blanked_unless_read : ℕ → ℕ → Result Counts Refusal × Text → Filled → Result Counts Refusal × List Row × List Entry × Text
blanked_unless_read rows entries (Ok n, left) (Ok t) = (Ok n, t.rows.held, t.entries.held, left)
blanked_unless_read rows entries (Ok n, left) (Err f) = (Ok n, replicate rows blank_row, replicate entries blank_entry, left)
blanked_unless_read rows entries (Err f, left) m = (Err f, replicate rows blank_row, replicate entries blank_entry, left)

-- The reading of a text into cells: the answer, the cells and the text left.
unfoldable pub rows_of : List Row → List Entry → Text → Result Counts Refusal × List Row × List Entry × Text
rows_of rows entries t = blanked_unless_read (length rows) (length entries) (reading row_rules (fresh rows entries) t) (course row_rules (fresh rows entries) t).1

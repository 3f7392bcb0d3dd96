-- What a line of smaps text is to rows.
use Rattle.std.specs.Prelude.{ℕ, cond, codes, List, Some, None, Ok, Option, Result}
use Rattle.sources.specs.declared.fault.Fault.{Fault}
use Rattle.sources.specs.Faults.{and_then}
use Rattle.sources.specs.Pieces.{case_of, strip_prefix}
use Rattle.kinds.specs.Attribute as attribute
use Rattle.kinds.specs.Sorts.{capital}
use Rattle.kinds.specs.declared.rows.line.Saying.{Saying}
use Rattle.kinds.specs.declared.rows.line.Saying.TheVariants.{Nothing, Flags, Value}
use Rattle.kinds.specs.declared.rows.line.RowLine.{RowLine}
use Rattle.kinds.specs.declared.rows.line.RowLine.TheVariants as row_line
use Rattle.kinds.specs.Rows.Entries.{kept_key}
use Rattle.kinds.specs.Rows.Flags.{flags_of}
use Rattle.kinds.specs.Rows.Rows.{row_of}

-- What an attribute says: one word alone says nothing, and a key may be too long.
abbrev pub said_by : Option attribute.Entry → Result Saying Fault
said_by None = Ok Nothing
said_by (Some e) = and_then (kept_key e.key) (λ key. Ok (Value (record { key = key; value = e.amount })))

-- What an attribute line says: a line that begins "VmFlags" has flags, and any other an attribute.
unfoldable pub saying_of : List ℕ → Result Saying Fault
saying_of line = case_of (strip_prefix (codes "VmFlags") line) (and_then (attribute.entry_of line) said_by) (λ _. Ok (Flags (flags_of line)))

-- A line that starts with A to Z is an attribute's, and any other a mapping's.
unfoldable pub row_line_of : ℕ → List ℕ → RowLine
row_line_of before line = cond (capital line) (row_line.Attribute (saying_of line)) (row_line.Mapping (row_of before line))

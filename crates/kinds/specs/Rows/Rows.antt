-- A row: what its mapping's line says, and nothing else yet.
use Rattle.std.specs.Prelude.{ℕ, List, pos, Ok, Result}
use Rattle.sources.specs.declared.fault.Fault.{Fault}
use Rattle.sources.specs.Faults.{and_then}
use Rattle.kinds.specs.Mapping.{Mapping, mapping_of}
use Rattle.kinds.specs.declared.rows.row.Row.{Row}
use Rattle.kinds.specs.Rows.Paths.{name_at, further, path_cell, nowhere}

-- Zeros alone.
abbrev pub blank_row : Row
blank_row = record { address = (0, 0); perms = record { bits = 0 }; offset = 0; dev = (pos 0, pos 0); inode = 0; path = nowhere 0 (pos 0); flags = 0; first = 0; count = 0 }

-- The row of a mapping whose name begins at an offset.
abbrev pub row_at : ℕ → Mapping → Row
row_at at m = record { address = m.address; perms = record { bits = m.perms }; offset = m.offset; dev = m.dev; inode = m.inode; path = path_cell at m.pathname; flags = 0; first = 0; count = 0 }

-- The row of a mapping line, before which `before` bytes of the text stand.
unfoldable pub row_of : ℕ → List ℕ → Result Row Fault
row_of before line = and_then (mapping_of line) (λ m. Ok (row_at (further before (name_at line)) m))

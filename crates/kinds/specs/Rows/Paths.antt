-- A path in a row: the number of its case, a thread or a key, and where its name stands in the text.
use Rattle.std.specs.Prelude.{ℕ, ◌+◌, ◌-◌, ◌^◌, min, List, [], length, ℤ, pos}
use Rattle.sources.specs.Pieces.{case_of, split_once}
use Rattle.sources.specs.White.{trim_start}
use Rattle.kinds.specs.Path.{Named, path, heap, stack, tstack, vdso, vvar, vsyscall, rollup, anonymous, vsys, other}
use Rattle.kinds.specs.declared.rows.path.PathCell.{PathCell}

-- What stands behind the first space.
abbrev pub after_space : List ℕ → List ℕ
after_space bs = case_of (split_once 32 bs) [] (λ p. p.1)

-- The sixth piece of a mapping line.
abbrev pub path_piece : List ℕ → List ℕ
path_piece line = after_space (after_space (after_space (after_space (after_space line))))

-- How many bytes of a mapping line stand before its name, which runs from the first character of the sixth piece that is not white.
unfoldable pub name_at : List ℕ → ℕ
name_at line = length line - length (trim_start (path_piece line))

-- A number of bytes further on, as 64 bits can count. No text has that many.
abbrev pub further : ℕ → ℕ → ℕ
further n m = min (n + m) (2 ^ 64 - 1)

-- A path without a name, and one with a name, which begins at an offset.
abbrev pub nowhere : ℕ → ℤ → PathCell
nowhere kind number = record { kind = kind; number = number; place = record { offset = 0; length = 0 } }

abbrev pub named : ℕ → ℕ → List ℕ → PathCell
named kind offset name = record { kind = kind; number = pos 0; place = record { offset = offset; length = length name } }

-- A path that begins at an offset; the name of Other begins behind its bracket.
abbrev pub path_cell : ℕ → Named → PathCell
path_cell at (path name) = named 0 at name
path_cell at heap = nowhere 1 (pos 0)
path_cell at stack = nowhere 2 (pos 0)
path_cell at (tstack thread) = nowhere 3 (pos thread)
path_cell at vdso = nowhere 4 (pos 0)
path_cell at vvar = nowhere 5 (pos 0)
path_cell at vsyscall = nowhere 6 (pos 0)
path_cell at rollup = nowhere 7 (pos 0)
path_cell at anonymous = nowhere 8 (pos 0)
path_cell at (vsys key) = nowhere 9 key
path_cell at (other name) = named 10 (further at 1) name

-- The place of a name: the bytes that stand there in the text are the name.
use Rattle.std.specs.Prelude.{◌≡◌, ℕ, List, [], ◌∷◌, take, drop, Some, None, Ok, Option, Result}
use Rattle.sources.specs.declared.fault.Refusal.{Refusal}
use Rattle.sources.specs.Lines.{lines_of}
use Rattle.sources.specs.Texts.{Text}
use Rattle.kinds.specs.Mapping.{Mapping, mapping_of}
use Rattle.kinds.specs.Path.{Named, path, heap, stack, tstack, vdso, vvar, vsyscall, rollup, anonymous, vsys, other}
use Rattle.kinds.specs.declared.rows.path.Place.{Place}
use Rattle.kinds.specs.declared.rows.read.Counts.{Counts}
use Rattle.kinds.specs.declared.rows.row.Row.{Row}
use Rattle.kinds.specs.Rows.Blocks.{Block, blocks_of}

-- The name that a path has, if it has one.
abbrev pub name_in : Named → Option (List ℕ)
name_in (path name) = Some name
name_in heap = None
name_in stack = None
name_in (tstack thread) = None
name_in vdso = None
name_in vvar = None
name_in vsyscall = None
name_in rollup = None
name_in anonymous = None
name_in (vsys key) = None
name_in (other name) = Some name

-- The bytes at a place.
abbrev pub bytes_at : Place → List ℕ → List ℕ
bytes_at p bytes = take p.length (drop p.offset bytes)

-- Each mapping has its row, and where its path has a name, that is what stands at the row's place.
unfoldable pub NamesStand : List ℕ → List Block → List Row → Type 0
NamesStand bytes [] rows = Unit {0}
NamesStand bytes (b ∷ bs) [] = ⊥
NamesStand bytes (b ∷ bs) (row ∷ rows) =
    ((m : Mapping) (name : List ℕ) → mapping_of b.head ≡ Ok m → name_in m.pathname ≡ Some name → bytes_at row.path.place bytes ≡ name) × NamesStand bytes bs rows

-- So it is in an accepted text.
abbrev pub NamesAtPlaces : Text → Result Counts Refusal → List Row → Type 0
NamesAtPlaces t r rows' = (n : Counts) → r ≡ Ok n → NamesStand t.bytes (blocks_of 0 (lines_of t.bytes)) rows'

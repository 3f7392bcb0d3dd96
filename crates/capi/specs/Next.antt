-- The cells that an accepted call leaves hold the list that it leaves: so a row of calls on the same cells is that row on one list.
use Rattle.std.specs.Prelude.{◌≡◌, ℕ, List, Some, Ok, Err, IsOk, Result}
use Rattle.sources.specs.declared.fault.Refusal.{Refusal}
use Rattle.sources.specs.Texts.{Text}
use Rattle.packing.specs.Packed.{Packing}
use Rattle.capi.specs.declared.answer.Answer.{Answer}
use Rattle.capi.specs.declared.cell.Cell.{Cell}
use Rattle.capi.specs.Cells.{list_in}

-- A call, the limit of the list, and the cells before and after.
abbrev pub HoldsNext : (Packing → Result (Unit {0}) Refusal × Packing) → ℕ → List Cell → List Cell → Type 0
HoldsNext call limit old new = (l : Packing) → list_in limit old ≡ Some l → IsOk (call l).0 → list_in limit new ≡ Some (call l).1

-- A call that looks at no limit: whatever the list's is.
abbrev pub HoldsNextOfAny : (Packing → Result (Unit {0}) Refusal × Packing) → List Cell → List Cell → Type 0
HoldsNextOfAny call old new = (limit : ℕ) → HoldsNext call limit old new

-- A call that reads a text, where there is one.
abbrev pub HoldsNextWith : (Text → Packing → Result (Unit {0}) Refusal × Packing) → Result Text Answer → List Cell → List Cell → Type 0
HoldsNextWith call (Ok t) old new = HoldsNextOfAny (call t) old new
HoldsNextWith call (Err a) old new = Unit {0}

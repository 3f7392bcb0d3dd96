use Rattle.std.proofs.Common.{subst, sym}
use Rattle.packing.specs.Restored.{KeptPlaces}
use Rattle.packing.proofs.Kept.{kept_new}
use Rattle.packing.proofs.list.PackingList.new.Goals as goal

pub invariant_of-result : goal.invariant_of-result
invariant_of-result c = subst KeptPlaces (sym c.new-table.ensures) kept_new

use Rattle.packing.proofs.Kept.{kept_without}
use Rattle.packing.proofs.list.PackingList.release.Goals as goal

pub invariant_of-self : goal.invariant_of-self
invariant_of-self c = kept_without _ _ _ c.self.invariant c.clear.ensures

use Rattle.sources.proofs.Newer.{newer}
use Rattle.sources.proofs.drive.newer_reads_same.Goals as goal

pub returns : goal.returns
returns g c = newer g.K.Kind.rules g.K.Kind.begun g.K.Kind.foreign g.met.K.Kind.aside g.met.K.Kind.begins

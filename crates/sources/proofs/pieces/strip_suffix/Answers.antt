use Rattle.sources.proofs.Ends.{suffix-is}
use Rattle.sources.proofs.pieces.strip_suffix.Goals as goal

pub returns : goal.returns
returns c = suffix-is c.args.end.now c.args.text.now c.strip_suffix.result c.strip_suffix.ensures.cases

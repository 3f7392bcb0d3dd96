use Rattle.sources.proofs.Ends.{prefix-is}
use Rattle.sources.proofs.pieces.strip_prefix.Goals as goal

pub returns : goal.returns
returns c = prefix-is c.args.front.now c.args.text.now c.strip_prefix.result c.strip_prefix.ensures.cases

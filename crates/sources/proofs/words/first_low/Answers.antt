use Rattle.std.proofs.Common.{arith}
use Rattle.sources.proofs.Low.{first}
use Rattle.sources.proofs.words.first_low.Goals as goal

pub returns : goal.returns
returns c = first c.args.text.now c.low_bits-low.result (omega arith) c.low_bits-low.ensures (omega arith)

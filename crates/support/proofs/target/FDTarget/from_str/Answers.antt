use Rattle.std.proofs.Common.{rules}
use Rattle.support.proofs.Written.{seen_written}
use Rattle.support.proofs.target.FDTarget.from_str.Goals as goal

pub returns-in-Some-split_once-clause-written : goal.returns-in-Some-split_once-clause-written
returns-in-Some-split_once-clause-written c = seen_written c.args.text.now c.read_typed.result (search rules)

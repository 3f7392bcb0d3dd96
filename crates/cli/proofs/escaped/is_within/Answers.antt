use Rattle.std.proofs.Common.{rules, tests, ◌&&◌, nat_le}
use Rattle.std.proofs.lemmas.Iterator.{YieldsList-from_slice}
use Rattle.std.proofs.lemmas.Iterator.Search.{any_from_yields_List}
use Rattle.cli.proofs.escaped.is_within.Goals as goal

pub returns : goal.returns
returns c = any_from_yields_List (λ r. nat_le r.0 c.args.number && nat_le c.args.number r.1) _ _ _ c.any.ensures.ran (YieldsList-from_slice c.args.ranges.now cc) (λ x b q k. search (rules, tests))

use Rattle.std.proofs.Common.{sym, ap, ◌∙◌}
use Rattle.std.proofs.Output.{has_written_of_eq}
use Rattle.std.proofs.lemmas.Iterator.{YieldsList-from_chars}
use Rattle.std.proofs.lemmas.Iterator.Consumers.{YieldsList-end}
use Rattle.std.specs.List.{flat_map}
use Rattle.cli.specs.Escaped.{shown}
use Rattle.cli.proofs.EscapedLemmas.{map_same}
use Rattle.cli.proofs.escaped.EscapedDisplay.fmt.Goals as goal

pub returns-clause-writes : goal.returns-clause-writes
returns-clause-writes g c = λ p _.
    let all = YieldsList-end (YieldsList-from_chars c.text-text.result.now c.text-text.utf8 cc) c.loop-c.yielded _ c.loop-c.yielded_by _ _ c.in-None.is c.next.ensures.steps in
    has_written_of_eq _ _ _ _ _ (ap (flat_map shown) (sym (map_same c.loop-c.yielded) ∙ all.0 ∙ ap Rattle.std.specs.Str.chars c.text-text.ensures)) (c.loop-c.invariant p)

use Rattle.std.proofs.Common.{sym, ◌∙◌}
use Rattle.sources.proofs.Utf8.{nothing_left}
use Rattle.sources.proofs.chars.is_utf8.Goals as goal

pub returns : goal.returns
returns c = sym (c.loop-first.invariant ∙ nothing_left c.loop-first.left.now c.in_default.ensures.cases)

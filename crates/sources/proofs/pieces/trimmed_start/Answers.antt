use Rattle.std.proofs.Common.{rules, ◌∙◌}
use Rattle.sources.proofs.Trims.{starts_is}
use Rattle.sources.proofs.pieces.trimmed_start.Goals as goal

pub returns : goal.returns
returns c = starts_is c.past_columns.result.now c.trim_start.result.now (search rules) c.trim_start.utf8 c.trim_start.ensures.value ∙ c.past_columns.ensures.front

use Rattle.std.proofs.Common.{rules, ◌∙◌}
use Rattle.sources.proofs.Trims.{trims_is}
use Rattle.sources.proofs.pieces.trimmed.Goals as goal

pub returns : goal.returns
returns c = trims_is c.past_columns.result.now c.trim.result.now (search rules) c.trim.utf8 c.trim.ensures.value ∙ c.past_columns.ensures.around

use Rattle.std.proofs.Common.{rules}
use Rattle.sources.proofs.Trims.{trim_past, trim_start_past}
use Rattle.sources.proofs.pieces.past_columns.Goals as goal

pub returns-clause-around : goal.returns-clause-around
returns-clause-around c = trim_past c.args.text.now c.trim_ascii_start.result.now (search rules) c.trim_ascii_start.utf8 c.trim_ascii_start.ensures.value

pub returns-clause-front : goal.returns-clause-front
returns-clause-front c = trim_start_past c.args.text.now c.trim_ascii_start.result.now (search rules) c.trim_ascii_start.utf8 c.trim_ascii_start.ensures.value

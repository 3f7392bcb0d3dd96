use Rattle.cli.proofs.EscapedLemmas.{bytes_steer_none, text_steers_none}
use Rattle.cli.proofs.escaped.escapes_steer_none.Goals as goal

pub returns-clause-text : goal.returns-clause-text
returns-clause-text c = text_steers_none

pub returns-clause-bytes : goal.returns-clause-bytes
returns-clause-bytes c = bytes_steer_none

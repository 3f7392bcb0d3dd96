use Rattle.std.proofs.lemmas.Iterator.Consumers.{YieldsList-from_first}
use Rattle.sources.specs.Pieces.{bytes_of}
use Rattle.sources.specs.Split.{pieces_left}
use Rattle.fields.proofs.value.put_commas.Goals as goal

pub returns : goal.returns
returns g c = c.put_list.ensures _ (YieldsList-from_first bytes_of pieces_left _ c.new.ensures).runs

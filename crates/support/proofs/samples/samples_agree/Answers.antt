use Rattle.std.proofs.Common.{rules}
use lib.Utf8.{encode}
use Rattle.std.specs.Str.{chars}
use Rattle.sources.specs.Utf8.{well_formed}
use Rattle.support.proofs.samples.samples_agree.Goals as goal

pub returns : goal.returns
unfolding chars encode well_formed
returns c = search rules

use Rattle.std.proofs.Common.{rules}
use lib.Utf8.{encode}
use Rattle.std.specs.Str.{chars}
use Rattle.limits.specs.Names.{place_of}
use Rattle.limits.proofs.samples.samples_agree.Goals as goal

pub returns : goal.returns
unfolding chars encode place_of
returns c = search rules

use Rattle.std.proofs.Common.{true, false, refl, arith}
use lib.Utf8.{encode}
use Rattle.std.specs.Str.{chars}
use Rattle.sources.specs.Editions.{over, keep, more}
use Rattle.sources.specs.Lines.{lines_of, text_of, judged, walk, course, leaves, reading}
use Rattle.sources.specs.Utf8.{well_formed}
use Rattle.status.specs.Names.{field_of}
use Rattle.kinds.proofs.samples.samples_agree.Goals as goal

pub returns : goal.returns
unfolding chars encode lines_of text_of judged walk course leaves reading well_formed field_of
returns c = (
  refl,
  refl,
  refl,
  refl,
  refl,
  refl,
  refl,
  refl,
  refl,
  refl,
  keep false _ _ _ (more _ _ _ (record { strange = refl; closed = refl; short = omega arith; text = refl })
      (keep true _ _ _ (keep true _ _ _ (keep true _ _ _ (keep true _ _ _ (keep true _ _ _ (more _ _ _ (record { strange = refl; closed = refl; short = omega arith; text = refl }) (over true)))))))),
  refl,
  refl,
  refl,
  refl,
)

use Rattle.sources.proofs.Ascii.{none_high}
use Rattle.sources.proofs.drive.is_ascii.Goals as goal

pub returns : goal.returns
returns c = none_high c.args.bytes c.fits-bytes.0

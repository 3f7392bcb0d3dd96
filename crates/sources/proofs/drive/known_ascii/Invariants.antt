use Rattle.std.proofs.Common.{◌-◌}
use Rattle.sources.proofs.Ascii.{Covers}
use Rattle.sources.proofs.drive.known_ascii.Given as goal

abbrev pub invariant-loop-at : goal.invariant-loop-at
invariant-loop-at l = Covers l.seen l.text l.at l.last

abbrev pub decreases-loop-at : goal.decreases-loop-at
decreases-loop-at l = l.last - l.at

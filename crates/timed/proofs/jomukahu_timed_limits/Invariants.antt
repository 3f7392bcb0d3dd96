use Rattle.std.proofs.Common.{◌≡◌}
use Rattle.timed.specs.Told.{limits_in}
use Rattle.timed.proofs.jomukahu_timed_limits.Given as goal

abbrev pub invariant-loop-again : goal.invariant-loop-again
invariant-loop-again l = (l.read, l.limits) ≡ limits_in l.text

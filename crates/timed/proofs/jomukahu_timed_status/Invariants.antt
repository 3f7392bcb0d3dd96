use Rattle.std.proofs.Common.{◌≡◌}
use Rattle.timed.specs.Told.{status_in}
use Rattle.timed.proofs.jomukahu_timed_status.Given as goal

abbrev pub invariant-loop-again : goal.invariant-loop-again
invariant-loop-again l = (l.read, l.status) ≡ status_in l.text

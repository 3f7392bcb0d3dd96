use Rattle.std.proofs.Common.{◌≡◌, ◌++◌, length}
use Rattle.packlist.specs.Outcomes.{paired}
use Rattle.packlist.proofs.outcomes.outcomes.Given as goal

-- What is paired so far, and what the rest comes to.
abbrev pub invariant-loop-rest : goal.invariant-loop-rest
invariant-loop-rest l = l.outcomes.items ++ paired l.rest ≡ paired l.answers

abbrev pub decreases-loop-rest : goal.decreases-loop-rest
decreases-loop-rest l = length l.rest

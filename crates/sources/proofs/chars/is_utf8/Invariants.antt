use Rattle.std.proofs.Common.{◌≡◌, length}
use Rattle.sources.specs.Utf8.{is_utf8}
use Rattle.sources.proofs.chars.is_utf8.Given as goal

abbrev pub invariant-loop-first : goal.invariant-loop-first
invariant-loop-first l = is_utf8 l.text ≡ is_utf8 l.left

abbrev pub decreases-loop-first : goal.decreases-loop-first
decreases-loop-first l = length l.left

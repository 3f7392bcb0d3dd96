use Rattle.std.proofs.Common.{map}
use Rattle.sources.specs.Pieces.{bytes_of}
use Rattle.packlist.proofs.Reading.{ReadSoFar}
use Rattle.packlist.proofs.script.parse.Given as goal

abbrev pub invariant-loop-line : goal.invariant-loop-line
invariant-loop-line l = ReadSoFar (map bytes_of l.yielded) l.draft l.number

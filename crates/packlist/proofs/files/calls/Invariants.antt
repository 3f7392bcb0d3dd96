use Rattle.std.proofs.Common.{◌≡◌, ◌++◌, map}
use Rattle.std.specs.Slice.Iter.{iter_rest}
use Rattle.std.specs.Iterator.Adapters.{zip_first, zip_second}
use Rattle.runs.specs.Run.{textual}
use Rattle.sources.specs.contracts.input.InputSource.TheImpl.{text-value}
use Rattle.packlist.specs.Files.{call_with, calls_of}
use Rattle.packlist.proofs.files.calls.Given as goal

-- The calls made, and those to be made yet, stay the same together.
abbrev pub invariant-loop-line : goal.invariant-loop-line
invariant-loop-line l = map (textual text-value.it) l.calls.items ++ calls_of (λ l b. call_with b.items l.call) (iter_rest (zip_first l.line-iterator)) (iter_rest (zip_second l.line-iterator)) ≡ calls_of (λ l b. call_with b.items l.call) l.lines l.texts

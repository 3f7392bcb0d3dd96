use Rattle.std.proofs.Common.{rules}
use Rattle.std.proofs.lemmas.Slice.Zip.{Zip-more, either_empty_from_Zip}
use Rattle.runs.specs.declared.call.Call.TheVariants.{Used}
use Rattle.runs.specs.Run.{textual}
use Rattle.sources.specs.contracts.input.InputSource.TheImpl.{text-value}
use Rattle.packlist.specs.Files.{call_with}
use Rattle.packlist.proofs.Rows.{turn, done}
use Rattle.packlist.proofs.files.calls.Goals as goal

pub loop-line-preserved : goal.loop-line-preserved
loop-line-preserved c =
    let more = Zip-more c.loop-line.line-iterator c.next.new.self c.next.result (c.in-Some.line, c.in-Some.text) c.in-Some.is c.next.ensures.steps in
    turn (textual text-value.it) (λ l b. call_with b.items l.call) c.loop-line.calls.items c.push-in-loop-line.new.self.items c.in_ok-at_line.field-0 Used c.in-Some.line.now c.in-Some.text.now _ _ _ _ _ more.0 more.1 (search rules) (search rules) (search rules) c.loop-line.invariant

pub returns : goal.returns
returns c = done (textual text-value.it) (λ l b. call_with b.items l.call) c.loop-line.calls.items _ _ _ (either_empty_from_Zip c.loop-line.line-iterator c.next.new.self c.next.result c.in-None.is c.next.ensures.steps) c.loop-line.invariant

use Rattle.std.proofs.Common.{ap, ◌∙◌, arith}
use Rattle.std.proofs.Output.{has_written_of_eq}
use Rattle.std.proofs.lemmas.List.{take_all}
use Rattle.std.specs.List.{flat_map}
use Rattle.cli.specs.Escaped.{byte_shown}
use Rattle.cli.proofs.EscapedLemmas.{as_text, as_bytes}
use Rattle.cli.proofs.escaped.EscapedBytesDisplay.fmt.Goals as goal

pub returns-in-Ok-clause-writes : goal.returns-in-Ok-clause-writes
returns-in-Ok-clause-writes g c = λ p k.
    let text = c.in-Ok.ensures.cases in
    has_written_of_eq _ _ _ _ _ (as_text _ _ text.0 text.1) (c.write.ensures.writes p k)

pub returns-after-loop-byte-clause-writes : goal.returns-after-loop-byte-clause-writes
returns-after-loop-byte-clause-writes g c = λ p _.
    has_written_of_eq _ _ _ _ _ (ap (flat_map byte_shown) (take_all c.loop-byte.byte-index c.args.self.now.0.now (omega arith)) ∙ as_bytes _ c.in-Err.ensures.cases.0) (c.loop-byte.invariant p)

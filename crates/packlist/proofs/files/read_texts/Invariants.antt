use Rattle.std.proofs.Common.{◌≡◌, vec_len}
use Rattle.packlist.proofs.files.read_texts.Given as goal

abbrev pub invariant-loop-line : goal.invariant-loop-line
invariant-loop-line g l = vec_len l.texts ≡ l.line-index

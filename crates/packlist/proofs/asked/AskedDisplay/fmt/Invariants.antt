use Rattle.std.proofs.Common.{◌++◌, replicate, codes}
use Rattle.std.specs.Fmt.{HasWritten, IsPlainFormatter}
use Rattle.packlist.specs.Report.{words_text}
use Rattle.packlist.proofs.asked.AskedDisplay.fmt.Given as goal

abbrev pub invariant-loop-i : goal.invariant-loop-i
invariant-loop-i g l = IsPlainFormatter l.fn.f → HasWritten g.W.Write.write_str_gives l.fn.f (words_text l.self.words.0.now ++ (codes ":" ++ replicate l._i 32)) l.f

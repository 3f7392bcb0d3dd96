use Rattle.std.proofs.Common.{sym}
use Rattle.sources.proofs.Low.{ends_word}
use Rattle.sources.proofs.words.word_len.Goals as goal

pub returns-in-Some : goal.returns-in-Some
returns-in-Some c = ends_word c.args.text.now c.in-Some.n c.in-Some.ensures.0 c.in-Some.ensures.1 (sym c.if-is_ascii_whitespace.ensures.value)

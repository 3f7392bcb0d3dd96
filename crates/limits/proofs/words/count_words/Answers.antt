use Rattle.std.proofs.lemmas.Iterator.Consumers.{count_from_yields_List}
use Rattle.sources.proofs.Spaced.{yields_words}
use Rattle.limits.proofs.words.count_words.Goals as goal

pub returns : goal.returns
returns c = count_from_yields_List _ _ c.count.ensures.ran (yields_words _ c.args.text.now c.utf8.text c.split_whitespace.ensures.rest)

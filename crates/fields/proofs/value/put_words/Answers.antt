use Rattle.sources.proofs.Spaced.{yields_words}
use Rattle.fields.proofs.value.put_words.Goals as goal

pub returns : goal.returns
returns g c = c.put_list.ensures _ (yields_words _ c.args.text.now c.utf8.text c.split_whitespace.ensures.rest).runs

use Rattle.std.proofs.Common.{◌≡◌, refl, ap, ◌∙◌}
use Rattle.std.specs.Str.{bytes_eq}
use Rattle.std.specs.Str.Iter.{split_whitespace_rest}
use Rattle.std.proofs.lemmas.Iterator.{YieldsList-from_take}
use Rattle.std.proofs.lemmas.Iterator.Consumers.{YieldsList-at}
use Rattle.limits.proofs.Yielded.{eq_from_yields_List}
use Rattle.sources.proofs.Spaced.{yields_words}
use Rattle.limits.proofs.words.same_words.Goals as goal

pub returns : goal.returns
returns c =
    eq_from_yields_List (λ x it. it ≡ x) _ bytes_eq _ c.eq.ensures.ran
    (YieldsList-from_take c.args.n (YieldsList-at c.take.ensures.source (yields_words _ c.args.text.now c.utf8.text c.split_whitespace.ensures.rest)) c.take.ensures.count)
    (λ it e. yields_words _ c.args.name.now c.utf8.name (ap split_whitespace_rest e ∙ c.split_whitespace-2.ensures.rest))
    (λ x y. refl)

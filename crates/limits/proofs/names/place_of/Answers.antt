use Rattle.std.proofs.Common.{take, rules, tests}
use Rattle.std.proofs.lemmas.Iterator.{YieldsList-from_slice}
use Rattle.std.proofs.lemmas.Iterator.Search.{position_from_yields_List}
use Rattle.sources.specs.White.{white_words}
use Rattle.limits.specs.Names.{place_of}
use Rattle.limits.specs.Words.{same_words}
use Rattle.limits.proofs.names.place_of.Goals as goal

pub returns-clause-value : goal.returns-clause-value
unfolding place_of
returns-clause-value c =
    let ws = take c.args.n (white_words c.args.text.now) in
    let h = position_from_yields_List (λ own. same_words ws (white_words own.now)) _ _ c.position.result c.position.ensures.ran (YieldsList-from_slice _ c.iter.ensures.rest) (λ x b q k. search (rules, tests)) in
    search rules

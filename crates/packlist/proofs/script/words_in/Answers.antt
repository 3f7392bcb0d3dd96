use Rattle.std.proofs.Common.{rules, ◌≡◌, map, vec_items, IfOk}
use Rattle.std.specs.Str.Iter.{split_ascii_whitespace_text}
use Rattle.std.proofs.lemmas.Iterator.Consumers.{map_from_collect}
use Rattle.packlist.specs.Script.{words_of}
use Rattle.packlist.proofs.Words.{words_cut}
use Rattle.packlist.proofs.script.words_in.Goals as goal

pub returns : goal.returns
returns c =
    let cut : IfOk c.collect.result (λ w. map (λ x. x.now) (vec_items w) ≡ words_of (split_ascii_whitespace_text c.split_ascii_whitespace.result)) = map_from_collect _ c.collect.ensures.ran (words_cut _) in
    (search (rules, cut), search rules)

use Rattle.std.proofs.Common.{length, ◌∙◌, rules, tests}
use Rattle.std.specs.Char.{is_ascii_whitespace}
use Rattle.std.specs.List.{position_or_len}
use Rattle.std.proofs.lemmas.Iterator.{YieldsList-from_slice}
use Rattle.std.proofs.lemmas.Iterator.Search.{position_from_yields_List}
use Rattle.std.proofs.lemmas.List.Sums.{prefix_len-le-length}
use Rattle.sources.specs.Words.{in_word}
use Rattle.sources.proofs.Found.{found_or}
use Rattle.sources.proofs.words.word_len_by_one.Goals as goal

pub returns : goal.returns
returns c =
    c.unwrap_or.ensures
    ∙ found_or c.position.result (position_or_len is_ascii_whitespace c.args.text.now) (length c.args.text.now) (prefix_len-le-length in_word c.args.text.now)
    (position_from_yields_List is_ascii_whitespace _ _ c.position.result c.position.ensures.ran (YieldsList-from_slice c.args.text.now c.iter.ensures.rest) (λ x b q k. search (rules, tests)))

use Rattle.std.proofs.Common.{take, drop, sym, ap, ◌∙◌, subst}
use Rattle.std.specs.Str.{IsCharBoundary}
use Rattle.std.specs.List.{prefix_len}
use Rattle.sources.specs.Words.{in_word, parted}
use Rattle.sources.proofs.Cut.{no_word, a_word, none_is, some_is, word_boundary, words_alike}
use Rattle.sources.proofs.words.next_word.Goals as goal

pub returns-then-is_empty-clause-defined : goal.returns-then-is_empty-clause-defined
returns-then-is_empty-clause-defined c =
    none_is c.past_gap.result.now c.trim_ascii_start-rest.result.now c.trim_ascii_start-rest.ensures.value (sym c.if-is_empty.ensures) ∙ ap parted c.past_gap.ensures

pub returns-then-is_empty-clause-words : goal.returns-then-is_empty-clause-words
returns-then-is_empty-clause-words c =
    words_alike c.args.text.now c.past_gap.result.now (sym c.past_gap.ensures) ∙ no_word c.past_gap.result.now c.trim_ascii_start-rest.result.now c.trim_ascii_start-rest.ensures.value (sym c.if-is_empty.ensures)

pub split_at-requires : goal.split_at-requires
split_at-requires c =
    let r = c.trim_ascii_start-rest.result.now in
    let e = c.word_len-n.ensures ∙ ap (prefix_len in_word) c.as_bytes.ensures.value in
    subst (IsCharBoundary r) (sym e) (word_boundary r)

pub returns-clause-defined : goal.returns-clause-defined
returns-clause-defined c =
    let r = c.trim_ascii_start-rest.result.now in
    let e = c.word_len-n.ensures ∙ ap (prefix_len in_word) c.as_bytes.ensures.value in
    some_is c.past_gap.result.now r _ _ c.trim_ascii_start-rest.ensures.value (sym c.if-is_empty.ensures)
    (c.split_at.ensures.front ∙ ap (λ n. take n r) e) (c.split_at.ensures.back ∙ ap (λ n. drop n r) e)
    ∙ ap parted c.past_gap.ensures

pub returns-clause-words : goal.returns-clause-words
returns-clause-words c =
    let r = c.trim_ascii_start-rest.result.now in
    let e = c.word_len-n.ensures ∙ ap (prefix_len in_word) c.as_bytes.ensures.value in
    words_alike c.args.text.now c.past_gap.result.now (sym c.past_gap.ensures) ∙ a_word c.past_gap.result.now r _ _ c.trim_ascii_start-rest.ensures.value (sym c.if-is_empty.ensures)
    (c.split_at.ensures.front ∙ ap (λ n. take n r) e) (c.split_at.ensures.back ∙ ap (λ n. drop n r) e)

use Rattle.std.proofs.Common.{List, ℕ, not, ap, ◌∙◌}
use Rattle.std.specs.Option.{is_some}
use Rattle.sources.specs.White.{nth}
use Rattle.sources.proofs.Cut.{any_left, words_alike}
use Rattle.sources.proofs.words.has_word.Goals as goal

pub returns : goal.returns
returns c =
    ap not c.is_empty.ensures
    ∙ any_left c.past_gap.result.now c.trim_ascii_start.result.now c.trim_ascii_start.ensures.value
    ∙ ap (λ (ws : List (List ℕ)). is_some (nth 0 ws)) (words_alike c.past_gap.result.now c.args.text.now c.past_gap.ensures)

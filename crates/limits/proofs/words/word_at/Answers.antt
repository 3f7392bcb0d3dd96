use Rattle.std.proofs.Common.{◌≡◌, ℕ, List, [], Some, None, Option, unwrap_or, refl, ap, ◌∙◌, Bor}
use Rattle.std.specs.Option.{option_map}
use Rattle.std.proofs.lemmas.Option.{unwrap_or-slice_get}
use Rattle.std.proofs.lemmas.Iterator.Consumers.{nth_from_yields_List}
use Rattle.sources.specs.White.{white_words}
use Rattle.sources.proofs.Spaced.{yields_words}
use Rattle.limits.proofs.words.word_at.Goals as goal

-- a word or an empty one, read by its bytes
or_empty : (o : Option (Bor (List ℕ))) (d : Bor (List ℕ)) → d.now ≡ [] → (unwrap_or o d).now ≡ unwrap_or (option_map (λ w. w.now) o) []
or_empty None d e = e
or_empty (Some w) d e = refl

pub returns : goal.returns
returns c =
    let ws = white_words c.args.text.now in
    let at = nth_from_yields_List _ _ c.args.n c.nth.ensures.ran (yields_words _ c.args.text.now c.utf8.text c.split_whitespace.ensures.rest) in
    ap (λ w. w.now) c.unwrap_or.ensures ∙ or_empty c.nth.result _ refl ∙ ap (λ o. unwrap_or o []) at ∙ unwrap_or-slice_get ws c.args.n []

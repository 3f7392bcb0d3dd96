use Rattle.std.proofs.Common.{rules, tests, ◌≡◌, ap, ◌∙◌, ◌==◌}
use Rattle.std.proofs.lemmas.Iterator.{YieldsList-from_slice}
use Rattle.std.proofs.lemmas.Iterator.Search.{find_from_yields_List}
use Rattle.std.specs.List.{find}
use Rattle.std.specs.Option.{option_map}
use Rattle.std.specs.Slice.Iter.{iter_rest}
use Rattle.sources.specs.declared.reason.Reason.{Reason}
use Rattle.sources.specs.Reasons.{number_of}
use Rattle.capi.specs.Words.{reason_of}
use Rattle.capi.proofs.word.reason.Goals as goal

pub returns : goal.returns
unfolding reason_of
returns c =
    let xs = iter_rest c.iter.result in
    let p = λ (r : Reason). number_of r == c.args.number in
    let searched : option_map (λ x. x.now) c.find.result ≡ find p xs = find_from_yields_List _ _ _ _ c.find.ensures.ran (YieldsList-from_slice xs cc) (λ x b q k. search (rules, tests)) in
    let copied : c.copied.result ≡ option_map (λ x. x.now) c.find.result = search rules in
    copied ∙ searched ∙ ap (find p) c.iter.ensures.rest

use Rattle.std.proofs.Common.{rules, [], ◌∷◌}
use Rattle.std.proofs.Common.{◌≡◌, Some, slice_index_or}
use Rattle.sources.specs.Pieces.{strip_prefix}
use Rattle.limits.specs.Names.{names}
use Rattle.limits.proofs.Plain.{past_two}
use Rattle.limits.proofs.names.named.Goals as goal

pub returns-clause-text : goal.returns-clause-text
returns-clause-text c =
    let e : Some c.in_ok-rest.rest.now ≡ strip_prefix (32 ∷ []) c.in_ok-strip_prefix.field-0.now = search rules in
    let d : Some c.in_ok-strip_prefix.field-0.now ≡ strip_prefix (slice_index_or names c.in_ok-place.place []) c.args.text.now = search rules in past_two _ _ _ _ d e

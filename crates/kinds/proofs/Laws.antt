-- The laws of a measure, of an answer that is the reading's.
use Rattle.std.proofs.Common.{◌≡◌, Result, refl, ap}
use Rattle.sources.specs.declared.fault.Refusal.{Refusal}
use Rattle.sources.specs.Lines.{reading}
use Rattle.sources.specs.Texts.{Text}
use Rattle.sources.proofs.Newer.{newer}
use Rattle.kinds.specs.declared.measure.Closed.{Closed}
use Rattle.kinds.specs.Measure.{measure_rules, fresh, has_begun, is_foreign}
use Rattle.kinds.specs.MeasureLaws.{foreign_aside, begins_with_mapping}
use Rattle.kinds.specs.Sums.{Measures, SameInEditions, AddsOverJoins}
use Rattle.kinds.proofs.Measures.{reading-measures}
use Rattle.kinds.proofs.Joins.{joins_add}

same-editions : (t : Text) → SameInEditions t (reading measure_rules fresh t).0
same-editions t bytes' e h = newer measure_rules has_begun is_foreign foreign_aside begins_with_mapping fresh t bytes' refl e h

adds_over : (v : Text) → AddsOverJoins v (reading measure_rules fresh v).0
adds_over v t u c d q w e f = rw q (joins_add t u c d w e f)

pub laws : (t left : Text) (r : Result Closed Refusal) → (r, left) ≡ reading measure_rules fresh t →
    Measures t r × SameInEditions t r × AddsOverJoins t r
laws t left r e =
    let q : r ≡ (reading measure_rules fresh t).0 = ap (λ (o : Result Closed Refusal × Text). o.0) e in
    rw q (reading-measures t, same-editions t, adds_over t)

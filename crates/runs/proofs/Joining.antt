-- What a measure answers depends on nothing before it; so joins add wherever they stand.
use Rattle.std.proofs.Common.{◌≡◌, ◌∙◌, ap, sym, ℕ, zero, suc, Bool, true, false, List, [], ◌∷◌, ◌++◌, Ok, Err, Result, get_or}
use Rattle.sources.specs.declared.fault.Refusal.{Refusal}
use Rattle.sources.specs.Texts.{Text, text}
use Rattle.kinds.specs.declared.measure.Closed.{Closed}
use Rattle.kinds.specs.Measured.{measured}
use Rattle.kinds.proofs.Joins.{joins_add}
use Rattle.runs.specs.declared.call.Call.{Call}
use Rattle.runs.specs.declared.call.Call.TheVariants.{Measure, Used}
use Rattle.runs.specs.declared.call.Answer.{Answer}
use Rattle.runs.specs.declared.call.Answer.TheVariants.{Missing, Made}
use Rattle.runs.specs.Run.{RunState, made, of_measure, served, answers}
use Rattle.runs.specs.Joins.{JoinsAdd}

abbrev is_measure : Call Text → Bool
is_measure (Measure t) = true
is_measure _ = false

measures : (d : RunState) (cs : List (Call Text)) (i : ℕ) (t : Text) → get_or cs i Used ≡ Measure t → get_or (answers d cs) i Missing ≡ of_measure (measured t)
unfolding answers
measures d [] i t e = absurd (let z : false ≡ true = ap is_measure e in cc)
measures d (c ∷ cs) zero t e = ap (λ (x : Call Text). (served d x).0) e
measures d (c ∷ cs) (suc i) t e = measures (served d c).1 cs i t e

abbrev unmade : Closed → Answer → Closed
unmade c (Made mappings totals) = record { mappings = mappings; totals = totals }
unmade c _ = c

abbrev is_made : Answer → Bool
is_made (Made mappings totals) = true
is_made _ = false

back : (r : Result Closed Refusal) (c : Closed) → of_measure r ≡ made c → r ≡ Ok c
back (Ok d) c e = ap (λ (a : Answer). Ok (unmade c a)) e
back (Err f) c e = absurd (let z : false ≡ true = ap is_made e in cc)

pub joins : (d : RunState) (cs : List (Call Text)) → JoinsAdd cs (answers d cs)
joins d cs i j k t u c e h =
    let law = joins_add t u c e h.ends (back (measured (text t false)) c (sym (measures d cs i (text t false) h.first.measures) ∙ h.first.makes)) (back (measured (text u false)) e (sym (measures d cs j (text u false) h.second.measures) ∙ h.second.makes)) in
    let z = measures d cs k (text (t ++ u) false) h.join in (
      λ f ak. law.0 f (back (measured (text (t ++ u) false)) f (sym z ∙ ak)),
      λ keeps. z ∙ ap of_measure (law.1 keeps),
    )

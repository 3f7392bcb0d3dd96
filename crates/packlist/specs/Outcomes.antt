-- What came of each call of a row, with what is used after it.
use Rattle.std.specs.Prelude.{ℕ, List, [], ◌∷◌}
use Rattle.sources.specs.Texts.{Text}
use Rattle.packing.specs.Calls.{new_list}
use Rattle.packing.specs.Places.{used}
use Rattle.runs.specs.declared.call.Call.{Call}
use Rattle.runs.specs.declared.call.Answer.{Answer}
use Rattle.runs.specs.declared.call.Answer.TheVariants.{Total}
use Rattle.runs.specs.Run.{RunState, served}
use Rattle.packlist.specs.declared.outcomes.Outcome.{Outcome}

abbrev pub outcome : Answer → ℕ → Outcome
outcome a n = record { answer = a; used = n }

-- Each call's answer, and the sum of the charges on the list that it leaves.
unfoldable pub outcomes : RunState → List (Call Text) → List Outcome
outcomes d [] = []
outcomes d (c ∷ cs) = outcome (served d c).0 (used (served d c).1.0.places) ∷ outcomes (served d c).1 cs

-- The same of a list that is just made, with no measure in hand.
abbrev pub outcomes_of : ℕ → List (Call Text) → List Outcome
outcomes_of limit cs = outcomes (new_list limit, []) cs

-- The answers of a row that asks after each call what is used.
abbrev pub in_turn : List Outcome → List Answer
in_turn [] = []
in_turn (o ∷ os) = o.answer ∷ Total o.used ∷ in_turn os

-- Outcomes put together of such answers, as far as they are such.
abbrev pub paired : List Answer → List Outcome
paired (a ∷ Total n ∷ rest) = outcome a n ∷ paired rest
paired other = []

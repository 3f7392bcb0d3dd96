use Rattle.std.proofs.Common.{◌≡◌, ◌≤◌, ◌+◌, ◌++◌, map}
use Rattle.std.specs.Prelude.{vec_len}
use Rattle.std.specs.Vec.{vec_capacity}
use Rattle.std.specs.Vec.Iter.{into_iter_items, into_iter_len}
use Rattle.runs.specs.Run.{textual, answers, answers_of}
use Rattle.runs.proofs.run.run.Given as goal

-- What was answered, and what is to be answered yet, stay the same together, and there is room for what is to come.
abbrev pub invariant-loop-call : goal.invariant-loop-call
invariant-loop-call g l =
    (l.answers.items ++ answers (l.state.list, l.state.measures.items) (map (textual g.S.Source.text) (into_iter_items l.call-iterator)) ≡ answers_of l.fn.limit (map (textual g.S.Source.text) l.fn.calls.items))
    × (vec_len l.answers + into_iter_len l.call-iterator ≤ vec_capacity l.answers)
    × (vec_len l.state.measures + into_iter_len l.call-iterator ≤ vec_capacity l.state.measures)

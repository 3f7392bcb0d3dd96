use Rattle.std.proofs.Common.{rules, ◌≡◌, ◌∙◌, ap, length, [], vec_len}
use Rattle.packing.specs.Calls.{new_list}
use Rattle.runs.specs.Run.{answers_of}
use Rattle.packlist.specs.Files.{call_with, calls_of}
use Rattle.packlist.specs.Outcomes.{in_turn, paired}
use Rattle.packlist.proofs.InTurn.{in_turn-outcomes, length-outcomes, paired-answers}
use Rattle.packlist.proofs.run_script.Goals as goal

pub returns-clause-defined : goal.returns-clause-defined
returns-clause-defined c =
    let s = c.args.script.now in
    let ran : c.unwrap-answers.result.items ≡ answers_of s.limit.bytes (calls_of (λ l b. call_with b.items l.call) s.lines.items c.args.texts.now) = search rules in
    let handed : c.as_slice-2.result.now ≡ c.unwrap-answers.result.items = search rules in
    c.in_ok-outcomes.ensures
    ∙ ap paired (handed ∙ ran)
    ∙ paired-answers (λ l b. call_with b.items l.call) s.lines.items c.args.texts.now (new_list s.limit.bytes, [])

pub returns-clause-in_turn : goal.returns-clause-in_turn
returns-clause-in_turn c =
    let s = c.args.script.now in
    ap in_turn (returns-clause-defined c) ∙ in_turn-outcomes (λ l b. call_with b.items l.call) s.lines.items c.args.texts.now (new_list s.limit.bytes, [])

pub returns-clause-each : goal.returns-clause-each
returns-clause-each c =
    let s = c.args.script.now in
    let one_each : length c.args.texts.now ≡ length s.lines.items = search rules in
    let is_length : vec_len c.in_ok-outcomes.field-0 ≡ length c.in_ok-outcomes.field-0.items = search rules in
    let lines_length : length s.lines.items ≡ vec_len s.lines = search rules in
    is_length
    ∙ ap length (returns-clause-defined c)
    ∙ length-outcomes (λ l b. call_with b.items l.call) s.lines.items c.args.texts.now (new_list s.limit.bytes, []) one_each
    ∙ lines_length

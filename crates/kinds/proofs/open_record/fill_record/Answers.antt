use Rattle.std.proofs.Common.{Ok, Err, ap, ◌∙◌}
use Rattle.std.specs.Result.{result_and}
use Rattle.std.proofs.lemmas.Result.{err_from_is_err_and}
use Rattle.sources.specs.Lines.{reading}
use Rattle.sources.proofs.Closes.{closed_ok, closed_err}
use Rattle.fields.specs.Slotted.{slot_rules}
use Rattle.kinds.proofs.Filled.{line_told}
use Rattle.kinds.proofs.open_record.fill_record.Goals as goal

pub returns-in_err-taken : goal.returns-in_err-taken
unfolding reading
returns-in_err-taken g c =
    let s = g.S.Slots in
    let p = err_from_is_err_and c.from_residual.result c.from_residual.ensures.1 in
    closed_err (slot_rules s.entry s.fill s.judged s.BREAK) c.lines.ensures.course c.in_err-taken.was (ap (λ r. result_and r (Ok c.args.record.now)) (p.1 ∙ ap Err p.2))

pub returns : goal.returns
unfolding reading
returns g c =
    let s = g.S.Slots in
    closed_ok (slot_rules s.entry s.fill s.judged s.BREAK) c.lines.ensures.course c.in_ok-taken.was c.finish.ensures
    (ap (λ r. result_and r (Ok c.finish.new.record)) c.at_line.ensures ∙ line_told c.in_ok-taken.taken c.finish.result c.finish.new.record)

use Rattle.std.proofs.Common.{rules, Some, ◌≡◌, ap}
use Rattle.packing.specs.Calls.{note_of}
use Rattle.capi.specs.Cells.{list_in}
use Rattle.capi.specs.Exports.{any_limit, without_text}
use Rattle.capi.proofs.TextCalls.{called_on_list}
use Rattle.capi.proofs.Next.{no_list, next, note_alike}
use Rattle.capi.proofs.texts.note.Goals as goal

pub returns-in_default-clause-holds : goal.returns-in_default-clause-holds
returns-in_default-clause-holds g c limit l q ok = no_list any_limit limit c.args.cells.now l (search rules) q

pub returns-clause-defined : goal.returns-clause-defined
returns-clause-defined g c =
    let held : list_in any_limit c.args.cells.now ≡ Some c.in-Some.list = search rules in
    let called : (c.note-called.result, c.note-called.new.self, g.S.Source.text c.note-called.new.source) ≡ note_of c.args.pid (g.S.Source.text c.args.text.now) c.in-Some.list = search rules in
    called_on_list (note_of c.args.pid (g.S.Source.text c.args.text.now)) (list_in any_limit c.args.cells.now) c.in-Some.list c.args.cells.now held called c.leave.ensures.left

pub returns-clause-holds : goal.returns-clause-holds
returns-clause-holds g c limit =
    let t = g.S.Source.text c.args.text.now in
    let called : (c.note-called.result, c.note-called.new.self, g.S.Source.text c.note-called.new.source) ≡ note_of c.args.pid t c.in-Some.list = search rules in
    next (λ l. without_text (note_of c.args.pid t l)) limit any_limit (note_alike c.args.pid t limit any_limit) c.args.cells.now c.leave.new.cells c.in-Some.list c.note-called.new.self c.note-called.result
    (search rules) (ap without_text called) c.leave.ensures.holds

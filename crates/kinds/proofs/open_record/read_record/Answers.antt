use Rattle.fields.proofs.Into.{shown}
use Rattle.kinds.proofs.open_record.read_record.Goals as goal

pub returns : goal.returns
returns g c =
    let s = g.S.Slots in
    let l = g.met.S.Slots in
    let h = shown s.entry s.fill s.judged s.fresh s.blank s.BREAK l.none l.more s.foreign l.aside (g.T.Source.text c.args.source.now) c.read_defined.ensures in
    record { defined = h.defined; lines = h.lines; editions = h.editions }

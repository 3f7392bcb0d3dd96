use Rattle.std.proofs.Common.{rules, ◌≡◌, ap, sym, ◌∙◌, length, map}
use Rattle.capi.specs.Cells.{cell_of, list_in}
use Rattle.capi.proofs.Back.{cells_64, holds}
use Rattle.capi.proofs.held.leave.Goals as goal

pub returns-clause-holds : goal.returns-clause-holds
returns-clause-holds c ok limit =
    let ps = c.args.list.now.places in
    let left : c.copy_from_slice.new.self ≡ map cell_of ps = search rules in
    let whole : length c.copy_from_slice.new.self ≡ 64 = search rules in
    let size : length ps ≡ 64 = sym (cells_64 ps) ∙ ap length (sym left) ∙ whole in
    ap (list_in limit) left ∙ holds limit ps size c.places.ensures.kept

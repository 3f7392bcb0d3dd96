use Rattle.std.proofs.Common.{◌≡◌, ◌∙◌, ap, length, slice_set, List, arith}
use Rattle.kinds.proofs.RowLemmas.Blanks.{blank_more, blank_all}
use Rattle.kinds.proofs.rows.table.blank.Goals as goal

pub loop-i-preserved : goal.loop-i-preserved
loop-i-preserved g c = ap (λ (l : List _). slice_set l c.loop-i.i c.args.item) c.loop-i.invariant ∙ blank_more c.loop-i.i c.args.held.now c.args.item (omega arith)

pub returns : goal.returns
returns g c =
    let n : c.loop-i.i ≡ length c.args.held.now = omega arith in
    c.loop-i.invariant ∙ rw n (blank_all c.args.held.now c.args.item)

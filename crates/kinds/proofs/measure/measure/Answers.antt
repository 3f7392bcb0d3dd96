use Rattle.kinds.proofs.Laws.{laws}
use Rattle.kinds.proofs.measure.measure.Goals as goal

pub returns : goal.returns
returns g c =
    let e = rw c.new.ensures at c.read.ensures.reading in
    let k = laws (g.S.Source.text c.args.source.now) (g.S.Source.text c.read.new.source) c.read.result e in
    record { defined = e; sums = k.0; editions = k.1; joins = k.2 }

use Rattle.std.proofs.Common.{rules, arith, ◌≡◌, length}
use Rattle.capi.specs.Cells.{cell_of}
use Rattle.capi.proofs.Maps.{mapped}
use Rattle.capi.proofs.held.cells_of.Goals as goal

pub returns : goal.returns
returns c =
    let size : length c.args.places ≡ 64 = search rules in
    mapped cell_of c.args.places c.map.result (search rules) (λ i d e k. let called = c.map.ensures.items.at i d e (omega (arith, k, size)) in search rules)

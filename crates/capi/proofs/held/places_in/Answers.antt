use Rattle.std.proofs.Common.{rules, arith, ◌≡◌, length}
use Rattle.capi.specs.Cells.{place_in}
use Rattle.capi.proofs.Maps.{mapped}
use Rattle.capi.proofs.held.places_in.Goals as goal

pub returns : goal.returns
returns c =
    let size : length c.args.cells ≡ 64 = search rules in
    mapped place_in c.args.cells c.map.result (search rules) (λ i d e k. let called = c.map.ensures.items.at i d e (omega (arith, k, size)) in search rules)

use Rattle.std.proofs.Common.{rules}
use Rattle.packing.specs.Calls.{remeasure_of}
use Rattle.capi.specs.Cells.{closed_in}
use Rattle.capi.specs.Exports.{any_limit, bare}
use Rattle.capi.proofs.Next.{no_list, next, remeasure_alike}
use Rattle.capi.proofs.jomukahu_remeasure.Goals as goal

pub returns-in_default-clause-holds : goal.returns-in_default-clause-holds
returns-in_default-clause-holds c limit l q ok = no_list any_limit limit c.args.places.now l (search rules) q

pub returns-clause-holds : goal.returns-clause-holds
returns-clause-holds c limit =
    let m = closed_in c.args.figures.now in
    next (λ l. bare (remeasure_of c.args.pid m l)) limit any_limit (remeasure_alike c.args.pid m limit any_limit) c.args.places.now c.leave.new.cells c.in-Some.list c.remeasure-called.new.self c.map_err.result
    (search rules) (search rules) c.leave.ensures.holds

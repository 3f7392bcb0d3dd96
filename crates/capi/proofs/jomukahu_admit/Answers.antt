use Rattle.std.proofs.Common.{rules}
use Rattle.packing.specs.Calls.{admit_of}
use Rattle.capi.specs.Cells.{closed_in}
use Rattle.capi.specs.Exports.{bare}
use Rattle.capi.proofs.Next.{next, admit_alike}
use Rattle.capi.proofs.jomukahu_admit.Goals as goal

pub returns-clause-holds : goal.returns-clause-holds
returns-clause-holds c =
    let m = closed_in c.args.figures.now in
    next (λ l. bare (admit_of c.args.pid c.args.headroom m l)) c.args.limit c.args.limit (admit_alike c.args.pid c.args.headroom m c.args.limit) c.args.places.now c.leave.new.cells c.in-Some.list c.admit-called.new.self c.map_err.result
    (search rules) (search rules) c.leave.ensures.holds

use Rattle.std.proofs.Common.{rules}
use Rattle.packing.specs.Calls.{release_of}
use Rattle.capi.specs.Exports.{any_limit}
use Rattle.capi.proofs.Next.{no_list, next, release_alike}
use Rattle.capi.proofs.jomukahu_release.Goals as goal

pub returns-in_default-clause-holds : goal.returns-in_default-clause-holds
returns-in_default-clause-holds c limit l q ok = no_list any_limit limit c.args.places.now l (search rules) q

pub returns-clause-holds : goal.returns-clause-holds
returns-clause-holds c limit =
    next (release_of c.args.pid) limit any_limit (release_alike c.args.pid limit any_limit) c.args.places.now c.leave.new.cells c.in-Some.list c.release-called.new.self c.release-called.result
    (search rules) (search rules) c.leave.ensures.holds

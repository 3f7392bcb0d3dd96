use Rattle.std.proofs.Common.{◌≡◌, take}
use Rattle.kinds.specs.Perms.{perms_of}
use Rattle.kinds.proofs.perms.MMPermissions.from_letters.Given as goal

abbrev pub invariant-loop-b : goal.invariant-loop-b
invariant-loop-b l = l.bits ≡ perms_of (take l.b-index l.b-items)

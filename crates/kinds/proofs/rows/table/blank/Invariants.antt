use Rattle.std.proofs.Common.{◌≡◌, ◌++◌, drop, replicate}
use Rattle.kinds.proofs.rows.table.blank.Given as goal

abbrev pub invariant-loop-i : goal.invariant-loop-i
invariant-loop-i g l = l.held ≡ replicate l.i l.item ++ drop l.i l.initial.held

use Rattle.std.proofs.Common.{◌≡◌, ◌-◌, length}
use Rattle.sources.specs.Records.{to_come, ending_of}
use Rattle.sources.proofs.Parts.{Filled}
use Rattle.sources.proofs.spool.SpoolSource.piece.Given as goal

abbrev pub invariant-loop-k : goal.invariant-loop-k
invariant-loop-k l =
    Filled l.initial.buf (to_come l.initial.self.records.now l.initial.self.used) l.n l.buf (to_come l.self.records.now l.self.used)
    × (ending_of l.self.records.now ≡ ending_of l.initial.self.records.now)

abbrev pub decreases-loop-k : goal.decreases-loop-k
decreases-loop-k l = length l.initial.buf - l.n

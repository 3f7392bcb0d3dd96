use Rattle.std.proofs.Common.{◌≡◌, length}
use Rattle.sources.specs.Records.{to_come, ending_of}
use Rattle.sources.proofs.spool.Spool.advance.Given as goal

abbrev pub invariant-loop-one : goal.invariant-loop-one
invariant-loop-one l = (to_come l.self.records.now l.self.used ≡ to_come l.initial.self.records.now l.initial.self.used) × (ending_of l.self.records.now ≡ ending_of l.initial.self.records.now)

abbrev pub decreases-loop-one : goal.decreases-loop-one
decreases-loop-one l = length l.self.records.now

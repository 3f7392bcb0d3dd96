use Rattle.std.proofs.Common.{◌≡◌, ◌-◌, ◌≤◌, length, take}
use Rattle.std.specs.Io.KnownBytes.{Consumes}
use Rattle.charge.proofs.read_all.Given as goal

-- What is filled is what was consumed.
abbrev pub invariant-loop-len : goal.invariant-loop-len
invariant-loop-len g l =
    (length l.buf ≡ length l.initial.buf) × (l.len ≤ length l.buf) × Consumes (g.R.Read.remaining l.initial.input) (g.R.Read.remaining l.input) (take l.len l.buf)

abbrev pub decreases-loop-len : goal.decreases-loop-len
decreases-loop-len g l = length l.buf - l.len

use Rattle.std.proofs.Common.{◌≡◌, ◌-◌, take, length}
use Rattle.sources.specs.Split.{pieces_left}
use Rattle.support.specs.Calls.{registers_of}
use Rattle.support.proofs.Registers.{behind}
use Rattle.support.proofs.syscall.registers.Given as goal

abbrev pub invariant-loop-place : goal.invariant-loop-place
invariant-loop-place l = (length l.place-items ≡ 8) × (registers_of 8 (pieces_left l.initial.pieces) ≡ behind (take l.place-index l.place-items) (registers_of (8 - l.place-index) (pieces_left l.pieces)))

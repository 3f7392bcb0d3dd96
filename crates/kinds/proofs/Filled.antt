-- What is told of a record gains its line, whether with the record or without.
use Rattle.std.proofs.Common.{◌≡◌, ℕ, Ok, Err, Result, refl}
use Rattle.std.specs.Result.{result_and}
use Rattle.sources.specs.declared.fault.Fault.{Fault}
use Rattle.sources.specs.Faults.{at_line}

pub line_told : {R : Type 0} (line : ℕ) (r : Result (Unit {0}) Fault) (v : R) → result_and (at_line line r) (Ok v) ≡ at_line line (result_and r (Ok v))
line_told {R} line (Ok u) v = refl
line_told {R} line (Err f) v = refl

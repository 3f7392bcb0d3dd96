-- How a fault climbs: a number's becomes a kind's, a kind's gains its line.
use Rattle.std.specs.Prelude.{ℕ, Ok, Err, Result}
use Rattle.sources.specs.declared.reason.Reason.{Reason}
use Rattle.sources.specs.declared.reason.Reason.TheVariants.{Figure}
use Rattle.sources.specs.declared.fault.NumberFault.{NumberFault}
use Rattle.sources.specs.declared.fault.NumberFault.TheVariants.{Unreadable}
use Rattle.sources.specs.declared.fault.Fault.{Fault}
use Rattle.sources.specs.declared.fault.Refusal.{Refusal}

-- A fault of no field.
abbrev pub fault : Reason → Fault
fault reason = record { reason = reason; field = 0 }

-- A refusal of no field.
abbrev pub refused : Reason → ℕ → Refusal
refused reason line = record { reason = reason; line = line; field = 0 }

-- What a kind makes of a bad number.
abbrev pub fault_for : NumberFault → Fault
fault_for Unreadable = fault Figure

-- A number, or the fault of a kind.
abbrev pub as_fault : {X : Type 0} → Result X NumberFault → Result X Fault
as_fault {X} (Ok v) = Ok v
as_fault {X} (Err f) = Err (fault_for f)

-- One step, and then the next where it came out.
abbrev pub and_then : {X Y E : Type 0} → Result X E → (X → Result Y E) → Result Y E
and_then {X} {Y} {E} (Ok x) f = f x
and_then {X} {Y} {E} (Err e) f = Err e

-- A fault gains the number of its line.
abbrev pub located : ℕ → Fault → Refusal
located line f = record { reason = f.reason; line = line; field = f.field }

abbrev pub at_line : {C : Type 0} → ℕ → Result C Fault → Result C Refusal
at_line {C} line (Ok v) = Ok v
at_line {C} line (Err f) = Err (located line f)

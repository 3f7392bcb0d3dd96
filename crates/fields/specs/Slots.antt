-- Slots: what the last line of a field's name left, and how closing judges it.
use Rattle.std.specs.Prelude.{ℕ, cond, List, [], ◌∷◌, Some, None, Ok, Err, Option, Result, ◌==◌}
use Rattle.sources.specs.declared.fault.Fault.{Fault}
use Rattle.sources.specs.declared.reason.Reason.TheVariants.{Absent}
use Rattle.sources.specs.Faults.{and_then}

-- Nothing, or the reading of a value.
abbrev pub Slot : Type 0 → Type 0
Slot T = Option (Result T Fault)

-- A line that sets a field: the number of that field, and the value.
abbrev pub Entry : Type 0
Entry = ℕ × List ℕ

-- The slot of the field `own`, after a line that sets the field `number` to what A tells.
abbrev pub offered : {A T : Type 0} → (A → Result T Fault) → ℕ → ℕ → A → Slot T → Slot T
offered {A} {T} R own number value slot = cond (number == own) (Some (R value)) slot

-- The reading of the last entry of the field `own`, of entries with the last first; the slot as it was, where none is of that field.
abbrev pub last_of : {A T : Type 0} → (A → Result T Fault) → ℕ → List (ℕ × A) → Slot T → Slot T
last_of {A} {T} R own [] slot = slot
last_of {A} {T} R own (e ∷ es) slot = offered R own e.0 e.1 (last_of R own es slot)

-- A fault gains the number of its field.
abbrev pub at_field : {T : Type 0} → ℕ → Result T Fault → Result T Fault
at_field {T} field (Ok v) = Ok v
at_field {T} field (Err f) = Err (record { reason = f.reason; field = field })

-- A field that may not be missing.
abbrev pub needed : {T : Type 0} → ℕ → Slot T → Result T Fault
needed {T} field None = Err (record { reason = Absent; field = field })
needed {T} field (Some r) = at_field field r

-- A field that may be missing.
abbrev pub optional : {T : Type 0} → ℕ → Slot T → Result (Option T) Fault
optional {T} field None = Ok None
optional {T} field (Some (Ok v)) = Ok (Some v)
optional {T} field (Some (Err f)) = Err (record { reason = f.reason; field = field })

-- A field that may be missing, or be there and count as missing.
abbrev pub lenient : {T : Type 0} → ℕ → Slot (Option T) → Result (Option T) Fault
lenient {T} field None = Ok None
lenient {T} field (Some r) = at_field field r

-- What is answered to a line, and the slots that it leaves: a bad line leaves them as they were.
abbrev pub answered : {S : Type 0} → Result S Fault → Result (Unit {0}) Fault
answered {S} (Ok s) = Ok tt
answered {S} (Err f) = Err f

abbrev pub kept : {S : Type 0} → S → Result S Fault → S
kept {S} s (Ok t) = t
kept {S} s (Err f) = s

-- The slots after what a line says: nothing, or one entry.
abbrev pub entered : {E S : Type 0} → (List E → S → S) → S → Option E → S
entered {E} {S} fill s None = s
entered {E} {S} fill s (Some e) = fill (e ∷ []) s

-- The slots after a line, or what is wrong with it.
abbrev pub after_entry : {E S : Type 0} → (List E → S → S) → S → Result (Option E) Fault → Result S Fault
after_entry {E} {S} fill s r = and_then r (λ o. Ok (entered fill s o))

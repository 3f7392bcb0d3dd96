-- Judging sets every field.
use Rattle.std.proofs.Common.{◌≡◌, Ok, Err, Result, refl}
use Rattle.sources.specs.Faults.{and_then}
use Rattle.status.specs.Record.{SetsEveryField}

then_assoc : {X Y Z E : Type 0} (r : Result X E) (f : X → Result Y E) (g : Y → Result Z E) → and_then (and_then r f) g ≡ and_then r (λ x. and_then (f x) g)
then_assoc {X} {Y} {Z} {E} (Ok x) f g = refl
then_assoc {X} {Y} {Z} {E} (Err e) f g = refl

pub sets_every_field : SetsEveryField
sets_every_field s a b = simp then_assoc

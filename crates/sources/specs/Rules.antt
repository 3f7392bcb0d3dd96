-- What a kind means: its rules as functions of a meaning and a line, and the laws that they keep.
use Rattle.std.specs.Prelude.{◌≡◌, ℕ, Bool, true, List, Some, None, Ok, Err, Option, Result}
use Rattle.sources.specs.declared.fault.Fault.{Fault}
use Rattle.sources.specs.declared.kind.Break.{Break}

-- A meaning M takes a line, is refused or not, and is closed as a C; `on_break` is what a break means to it.
pub record Rules (M C : Type 0) : Type 0 where
  pub next : M → List ℕ → M
  pub refused : M → Option Fault
  pub closed : M → Result C Fault
  pub on_break : Break

-- What a kind answers to a line that left it refused or not.
abbrev pub verdict : Option Fault → Result (Unit {0}) Fault
verdict None = Ok tt
verdict (Some f) = Err f

-- After a refusal each later line, and the closing, give it again.
abbrev pub RefusalStays : {M C : Type 0} → Rules M C → Type 0
RefusalStays {M} {C} R = (m : M) (f : Fault) → R.refused m ≡ Some f → ((line : List ℕ) → R.refused (R.next m line) ≡ Some f) × (R.closed m ≡ Err f)

-- A foreign line, taken when begun and not refused, leaves the same meaning.
abbrev pub ForeignIsAside : {M C : Type 0} → Rules M C → (M → Bool) → (List ℕ → Bool) → Type 0
ForeignIsAside {M} {C} R begun foreign = (m : M) (line : List ℕ) → begun m ≡ true → R.refused m ≡ None → foreign line ≡ true → R.next m line ≡ m

-- A kind has begun once it has accepted a line.
abbrev pub BeginsWithALine : {M C : Type 0} → Rules M C → (M → Bool) → Type 0
BeginsWithALine {M} {C} R begun = (m : M) (line : List ℕ) → R.refused (R.next m line) ≡ None → begun (R.next m line) ≡ true

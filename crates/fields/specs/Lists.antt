-- One reading of lists, over what an item means: a function from a piece to a value or a fault.
use Rattle.std.specs.Prelude.{◌≡◌, ℕ, ◌-◌, cond, List, [], ◌∷◌, Ok, Err, Result, ◌==◌}
use Rattle.sources.specs.declared.fault.NumberFault.{NumberFault}
use Rattle.sources.specs.declared.fault.NumberFault.TheVariants.{Unreadable}
use Rattle.sources.specs.declared.fault.Fault.{Fault}
use Rattle.sources.specs.declared.reason.Reason.TheVariants.{Figure, Full}
use Rattle.sources.specs.Faults.{fault, and_then}
use Rattle.fields.specs.declared.list.ListFault.{ListFault}
use Rattle.fields.specs.declared.list.ListFault.TheVariants as list
use Rattle.fields.specs.declared.counted.Counted.{Counted}
use Rattle.fields.specs.Counted.{counted}

-- An item that is no number is bad.
abbrev pub bad_for : NumberFault → ListFault
bad_for Unreadable = list.Bad

abbrev pub as_item : {X : Type 0} → Result X NumberFault → Result X ListFault
as_item {X} (Ok x) = Ok x
as_item {X} (Err f) = Err (bad_for f)

-- The items of pieces, for which there is room: each piece is read first, and a good one for which there is none is refused, whatever follows it.
unfoldable pub listed : {X : Type 0} → (List ℕ → Result X NumberFault) → ℕ → List (List ℕ) → Result (List X) ListFault
listed {X} R room [] = Ok []
listed {X} R room (p ∷ ps) =
    and_then (as_item (R p)) (λ x. cond (room == 0) (Err list.Full) (and_then (listed R (room - 1) ps) (λ xs. Ok (x ∷ xs))))

-- The same in a table of n cells.
unfoldable pub filled : {X : Type 0} → (List ℕ → Result X NumberFault) → X → (n : ℕ) → List (List ℕ) → Result (Counted X n) ListFault
filled {X} R blank n ps = and_then (listed R n ps) (λ xs. Ok (counted n blank xs))

-- An answer is that reading, and the cells behind the items hold some default.
abbrev pub IsFilled : {X : Type 0} → (X → Type 0) → (List ℕ → Result X NumberFault) → (n : ℕ) → List (List ℕ) → Result (Counted X n) ListFault → Type 0
IsFilled {X} D R n ps r = (blank : X) × D blank × (r ≡ filled R blank n ps)

-- What the closing of a kind makes of it.
abbrev pub list_fault_for : ListFault → Fault
list_fault_for list.Bad = fault Figure
list_fault_for list.Full = fault Full

abbrev pub as_list : {X : Type 0} → Result X ListFault → Result X Fault
as_list {X} (Ok x) = Ok x
as_list {X} (Err f) = Err (list_fault_for f)

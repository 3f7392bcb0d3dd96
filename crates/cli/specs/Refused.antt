-- A refusal with the name of its field.
use Rattle.std.specs.Prelude.{ℕ, zero, suc, List, ◌++◌, Option, Some, None, codes, slice_get}
use Rattle.std.specs.Borrow.{Bor}
use Rattle.sources.specs.declared.fault.Refusal.{Refusal}
use Rattle.sources.specs.Shown.{refusal_text}

-- The name of the field with a number from 1 on, if it has one; of names that are borrowed, and of their bytes.
abbrev pub field_at : List (Bor (List ℕ)) → ℕ → Option (Bor (List ℕ))
field_at names zero = None
field_at names (suc k) = slice_get names k

abbrev pub name_of : List (List ℕ) → ℕ → Option (List ℕ)
name_of names zero = None
name_of names (suc k) = slice_get names k

abbrev pub in_parentheses : Option (List ℕ) → List ℕ
in_parentheses None = codes ""
in_parentheses (Some name) = codes " (" ++ (name ++ codes ")")

abbrev pub named_text : List (List ℕ) → Refusal → List ℕ
named_text names r = refusal_text r ++ in_parentheses (name_of names r.field)

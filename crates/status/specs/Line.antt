-- A line of the status: the field that it sets, and the value.
use Rattle.std.specs.Prelude.{ℕ, Bool, true, false, cond, List, [], ◌∷◌, length, Some, None, Ok, Err, Option, Result, ◌==◌}
use Rattle.std.specs.Borrow.{Bor}
use Rattle.std.specs.Option.{option_map, unwrap_or}
use Rattle.sources.specs.declared.fault.Fault.{Fault}
use Rattle.sources.specs.declared.reason.Reason.TheVariants.{Short}
use Rattle.sources.specs.Faults.{fault}
use Rattle.sources.specs.Pieces.{case_of, split_once, up_to, strip_suffix}
use Rattle.sources.specs.White.{trim}
use Rattle.fields.specs.Slots.{Entry}
use Rattle.status.specs.Names.{field_of}

-- The line without its byte 10, and without a byte 13 before that one.
abbrev pub sheared : List ℕ → List ℕ
sheared line = case_of (strip_suffix (10 ∷ []) line) line (λ front. unwrap_or (strip_suffix (13 ∷ []) front) front)

-- The value of a field, in what follows the first colon: up to the next one or, of the name, all; without white space around it.
abbrev pub value_of : ℕ → List ℕ → List ℕ
value_of number rest = trim (cond (number == 1) rest (up_to 58 rest))

-- What is told by the parts of a line before and after its first colon: nothing where the name is none of ours.
abbrev pub entry_in : List ℕ × List ℕ → Option Entry
entry_in p = option_map (λ number. (number, value_of number p.1)) (field_of p.0)

-- What a line without its end says: nothing where it is empty, and it needs a colon otherwise.
abbrev pub entry_of_text : List ℕ → Result (Option Entry) Fault
entry_of_text text = cond (length text == 0) (Ok None) (case_of (split_once 58 text) (Err (fault Short)) (λ p. Ok (entry_in p)))

abbrev pub entry_of : List ℕ → Result (Option Entry) Fault
entry_of line = entry_of_text (sheared line)

-- A borrowed entry, by its bytes.
abbrev pub seen_entry : Result (Option (ℕ × Bor (List ℕ))) Fault → Result (Option Entry) Fault
seen_entry (Ok None) = Ok None
seen_entry (Ok (Some e)) = Ok (Some (e.0, e.1.now))
seen_entry (Err f) = Err f

-- Foreign are empty lines, and lines with a colon whose name is none of ours: those that say nothing.
abbrev pub aside : Result (Option Entry) Fault → Bool
aside (Ok None) = true
aside (Ok (Some e)) = false
aside (Err f) = false

unfoldable pub is_foreign : List ℕ → Bool
is_foreign line = aside (entry_of line)

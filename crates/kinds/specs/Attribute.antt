-- An attribute's line, as "Rss: 4 kB": words between ASCII white bytes.
use Rattle.std.specs.Prelude.{ℕ, Bool, ◌*◌, ◌^◌, cond, List, [], ◌∷◌, reverse, Some, None, Ok, Err, Option, Result, ◌==◌, nat_lt}
use Rattle.std.specs.Option.{option_map, is_some}
use Rattle.std.specs.Result.{result_map_both}
use Rattle.sources.specs.declared.fault.Fault.{Fault}
use Rattle.sources.specs.declared.number.Radix.TheVariants.{Decimal}
use Rattle.sources.specs.declared.reason.Reason.TheVariants.{Value, Scale}
use Rattle.sources.specs.Faults.{fault, and_then}
use Rattle.sources.specs.Number.{unsigned}
use Rattle.sources.specs.Pieces.{case_of}
use Rattle.sources.specs.White.{nth}
use Rattle.sources.specs.Words.{ascii_words}
use Rattle.kinds.specs.declared.attribute.Attribute.{Attribute}

abbrev pub after_colons : List ℕ → List ℕ
after_colons [] = []
after_colons (c ∷ cs) = cond (c == 58) (after_colons cs) (c ∷ cs)

-- A word without its trailing colons.
abbrev pub bare : List ℕ → List ℕ
bare bs = reverse (after_colons (reverse bs))

pub record Entry : Type 0 where
  pub key : List ℕ
  pub amount : ℕ

-- The second word is a number.
abbrev pub amount_of : List ℕ → Result ℕ Fault
amount_of bs = result_map_both (λ n. n) (λ f. fault Value) (unsigned 64 Decimal bs)

-- The number, times 1024 where it has a unit.
abbrev pub scaled : ℕ → Bool → Result ℕ Fault
scaled n unit = cond unit (cond (nat_lt (n * 1024) (2 ^ 64)) (Ok (n * 1024)) (Err (fault Scale))) (Ok n)

-- What a line says: nothing, where it has fewer than two words. A third word, whichever it is, is a unit.
abbrev pub entry_of : List ℕ → Result (Option Entry) Fault
entry_of bs =
    case_of (nth 0 (ascii_words bs)) (Ok None) (λ key.
    case_of (nth 1 (ascii_words bs)) (Ok None) (λ value.
    and_then (amount_of value) (λ n.
    and_then (scaled n (is_some (nth 2 (ascii_words bs)))) (λ m.
    Ok (Some (record { key = bare key; amount = m }))))))

-- What an attribute that borrows its line says.
abbrev pub told_entry : Attribute → Entry
told_entry a = record { key = a.key.now; amount = a.amount }

abbrev pub seen_entry : Result (Option Attribute) Fault → Result (Option Entry) Fault
seen_entry r = result_map_both (option_map told_entry) (λ f. f) r

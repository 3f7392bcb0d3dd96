-- Entries: the attributes of mappings, each a key of at most 32 bytes and a value.
use Rattle.std.specs.Prelude.{ℕ, ◌+◌, Bool, cond, List, [], length, take, drop, position, nat_lt, Ok, Err, Option, Result}
use Rattle.std.specs.Option.{option_map}
use Rattle.std.specs.Str.{bytes_eq}
use Rattle.fields.specs.declared.counted.Counted.{Counted}
use Rattle.fields.specs.Counted.{counted}
use Rattle.sources.specs.declared.fault.Fault.{Fault}
use Rattle.sources.specs.declared.reason.Reason.TheVariants as reason
use Rattle.sources.specs.Faults.{fault}
use Rattle.kinds.specs.declared.rows.entry.Entry.{Entry}

-- A key's bytes.
abbrev pub bytes_of_key : Counted ℕ 32 → List ℕ
bytes_of_key key = take key.len key.cells

abbrev pub same : Counted ℕ 32 → Counted ℕ 32 → Bool
same a b = bytes_eq (bytes_of_key a) (bytes_of_key b)

-- Zeros alone.
abbrev pub blank_entry : Entry
blank_entry = record { key = counted 32 0 []; value = 0 }

-- The bytes of a key, kept; 21 where there are too many.
unfoldable pub kept_key : List ℕ → Result (Counted ℕ 32) Fault
kept_key word = cond (nat_lt 32 (length word)) (Err (fault reason.Key)) (Ok (counted 32 0 word))

-- The number of the entry of a key; and the same among those from the number `first` on.
abbrev pub entry_number : Counted ℕ 32 → List Entry → Option ℕ
entry_number key entries = position (λ e. same e.key key) entries

unfoldable pub spot : Counted ℕ 32 → ℕ → List Entry → Option ℕ
spot key first entries = option_map (λ i. first + i) (entry_number key (drop first entries))

-- How the value of a field is read. Lists and masks of processors and memory nodes are after cpuset(7).
use Rattle.std.specs.Prelude.{ℕ, Bool, List, ℤ, pos, Some, None, Ok, Err, codes, Option, Result}
use Rattle.std.specs.Option.{unwrap_or}
use Rattle.std.specs.Str.{bytes_eq}
use Rattle.sources.specs.declared.fault.Fault.{Fault}
use Rattle.sources.specs.declared.number.Radix.{Radix}
use Rattle.sources.specs.declared.number.Radix.TheVariants.{Decimal, Hexadecimal}
use Rattle.sources.specs.declared.reason.Reason.TheVariants.{Short}
use Rattle.sources.specs.Faults.{fault, as_fault}
use Rattle.sources.specs.Number.{signed, two_of, unsigned}
use Rattle.sources.specs.Pieces.{split, strip_suffix}
use Rattle.sources.specs.White.{nth, white_words}
use Rattle.fields.specs.declared.counted.Counted.{Counted}
use Rattle.fields.specs.declared.list.ListFault.{ListFault}
use Rattle.fields.specs.declared.list.ListFault.TheVariants as list
use Rattle.fields.specs.declared.value.Four.{Four}
use Rattle.fields.specs.Items.{range_of}
use Rattle.fields.specs.Lists.{filled, as_list, list_fault_for}

-- A number of so many bits, and one of 32 bits with its sign.
abbrev pub figure_of : ℕ → Radix → List ℕ → Result ℕ Fault
figure_of bits radix bs = as_fault (unsigned bits radix bs)

abbrev pub signed_of : List ℕ → Result ℤ Fault
signed_of bs = as_fault (signed 31 Decimal bs)

-- A figure in kB, kept as it is: the unit may stand once, at the end.
abbrev pub kilobytes_of : List ℕ → Result ℕ Fault
kilobytes_of bs = figure_of 64 Decimal (unwrap_or (strip_suffix (codes " kB") bs) bs)

-- A word that has to be there.
abbrev pub needed_word : Option (List ℕ) → Result ℕ Fault
needed_word None = Err (fault Short)
needed_word (Some w) = figure_of 32 Decimal w

-- The first four words: each is judged by itself.
abbrev pub four_of : List ℕ → Four
four_of bs =
    let ws = white_words bs in record { real = needed_word (nth 0 ws); effective = needed_word (nth 1 ws); saved = needed_word (nth 2 ws); filesystem = needed_word (nth 3 ws) }

-- Two numbers with a slash between them.
abbrev pub pair_of : List ℕ → Result (ℕ × ℕ) Fault
pair_of bs = two_of (unsigned 64 Decimal) 47 bs

-- At most 128 groups, between white space.
abbrev pub groups_of : List ℕ → Result (Counted ℕ 128) Fault
groups_of bs = as_list (filled (unsigned 32 Decimal) 0 128 (white_words bs))

-- At most 32 processes, one for each name space.
abbrev pub spaces_of : List ℕ → Result (Counted ℤ 32) Fault
spaces_of bs = as_list (filled (signed 31 Decimal) (pos 0) 32 (white_words bs))

-- The pieces between commas.
abbrev pub comma_parts : List ℕ → List (List ℕ)
comma_parts bs = split 44 bs

-- At most 256 words of a mask, between commas.
abbrev pub mask_of : List ℕ → Result (Counted ℕ 256) Fault
mask_of bs = as_list (filled (unsigned 32 Hexadecimal) 0 256 (comma_parts bs))

-- A bad item makes the list count as missing.
abbrev pub or_missing : {X : Type 0} → Result X ListFault → Result (Option X) Fault
or_missing {X} (Ok x) = Ok (Some x)
or_missing {X} (Err list.Bad) = Ok None
or_missing {X} (Err list.Full) = Err (list_fault_for list.Full)

-- At most 128 ranges, between commas.
abbrev pub ranges_of : List ℕ → Result (Option (Counted (ℕ × ℕ) 128)) Fault
ranges_of bs = or_missing (filled range_of (0, 0) 128 (comma_parts bs))

-- Whether the value is 1.
abbrev pub flag_of : List ℕ → Bool
flag_of bs = bytes_eq bs (codes "1")

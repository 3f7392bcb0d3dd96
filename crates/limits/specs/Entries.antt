-- What a line of limits says: the field that it sets, with the words of its soft and its hard limit. After proc(5), /proc/pid/limits.
use Rattle.std.specs.Prelude.{ℕ, ◌+◌, ◌-◌, Bool, cond, ◌&&◌, ◌||◌, List, length, take, is_some, None, Ok, Err, codes, Option, Result, is_none, nat_le, nat_lt}
use Rattle.std.specs.Option.{option_map}
use Rattle.sources.specs.declared.fault.Fault.{Fault}
use Rattle.sources.specs.declared.reason.Reason.TheVariants.{Short}
use Rattle.sources.specs.Faults.{fault}
use Rattle.sources.specs.Pieces.{strip_prefix}
use Rattle.sources.specs.White.{trim, white_words}
use Rattle.limits.specs.declared.line.LimitLine.{LimitLine}
use Rattle.limits.specs.Names.{place_of}
use Rattle.limits.specs.Words.{word_at}

-- The number of a field, with the soft limit and the hard one.
abbrev pub Entry : Type 0
Entry = ℕ × (List ℕ × List ℕ)

-- Whether a trimmed line is the heading.
abbrev pub is_heading : List ℕ → Bool
is_heading t = is_some (strip_prefix (codes "Limit") t)

-- Whether it is of one of the two limits that have no unit.
abbrev pub unitless : List ℕ → Bool
unitless t = is_some (strip_prefix (codes "Max nice priority") t) || is_some (strip_prefix (codes "Max realtime priority") t)

-- How many words stand behind the name: the soft limit, the hard one and, where there is one, the unit.
abbrev pub words_behind : List ℕ → ℕ
words_behind t = cond (unitless t) 2 3

-- How many words the name has.
abbrev pub name_length : List ℕ → ℕ
name_length t = length (white_words t) - words_behind t

-- The place of the field that is named, if one is.
abbrev pub place_in : List ℕ → Option ℕ
place_in t = place_of (take (name_length t) (white_words t))

-- The entry of a trimmed line of three words or more: fields are numbered from 1 on, in the order of their names.
abbrev pub named : List ℕ → Option Entry
named t = option_map (λ place. (place + 1, (word_at (name_length t) (white_words t), word_at (name_length t + 1) (white_words t)))) (place_in t)

-- The entry of a trimmed line.
abbrev pub trimmed_entry : List ℕ → Result (Option Entry) Fault
trimmed_entry t = cond (is_heading t) (Ok None) (cond (nat_lt (length (white_words t)) 3) (Err (fault Short)) (Ok (named t)))

-- The entry of a line, if it has one.
abbrev pub entry_of : List ℕ → Result (Option Entry) Fault
entry_of line = trimmed_entry (trim line)

-- Whether a trimmed line is the heading, or has three words or more and a name that is none of the sixteen.
abbrev pub trimmed_foreign : List ℕ → Bool
trimmed_foreign t = is_heading t || (nat_le 3 (length (white_words t)) && is_none (place_in t))

-- The same of any line: it changes nothing.
abbrev pub is_foreign : List ℕ → Bool
is_foreign line = trimmed_foreign (trim line)

-- What an entry that borrows its line says.
abbrev pub told_entry : LimitLine → Entry
told_entry s = (s.place + 1, (s.soft.now, s.hard.now))

abbrev pub seen_entry : Result (Option LimitLine) Fault → Result (Option Entry) Fault
seen_entry (Ok o) = Ok (option_map told_entry o)
seen_entry (Err f) = Err f

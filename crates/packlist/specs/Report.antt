-- What is printed of a line, of its answer, and of what is used of a limit.
use Rattle.std.specs.Prelude.{ℕ, ◌+◌, ◌-◌, if◌then◌else◌, nat_le, List, [], ◌∷◌, ◌++◌, map, replicate, Option, Some, None, codes, decimal, encode_utf8}
use Rattle.std.specs.List.{flat_map}
use Rattle.sources.specs.declared.reason.Reason.{Reason}
use Rattle.sources.specs.declared.reason.Reason.TheVariants.{Over}
use Rattle.sources.specs.Shown.{refusal_text}
use Rattle.kinds.specs.declared.measure.Figures.{Figures}
use Rattle.limits.specs.declared.limit.LimitValue.{LimitValue}
use Rattle.limits.specs.declared.limit.LimitValue.TheVariants.{Unlimited, Value}
use Rattle.packing.specs.declared.place.Noted.{Noted}
use Rattle.packing.specs.declared.place.Bounds.{Bounds}
use Rattle.packing.specs.declared.place.View.{View}
use Rattle.runs.specs.declared.call.Call.{Call}
use Rattle.runs.specs.declared.call.Call.TheVariants.{Admit, Note, Bound}
use Rattle.runs.specs.declared.call.Answer.{Answer}
use Rattle.runs.specs.declared.call.Answer.TheVariants.{Missing, Made, Done, Refused, Handed, Seen, Total}
use Rattle.cli.specs.Escaped.{escaped}
use Rattle.cli.specs.Refused.{named_text}
use Rattle.cli.specs.Size.{size_text}
use Rattle.cli.specs.declared.fields.TheConstants.{LIMITS_FIELDS, STATUS_FIELDS}
use Rattle.packlist.specs.Names.{Word}
use Rattle.packlist.specs.declared.outcomes.Outcome.{Outcome}

-- Words with escapes: with a space before each, and with one between two.
abbrev pub others_text : List Word → List ℕ
others_text words = flat_map (λ w. codes " " ++ escaped w.now) words

abbrev pub words_text : List Word → List ℕ
words_text [] = []
words_text (first ∷ others) = escaped first.now ++ others_text others

-- What a line asked: its words, a colon, and so many spaces.
abbrev pub asked_text : List Word → ℕ → List ℕ
asked_text words spaces = words_text words ++ (codes ":" ++ replicate spaces 32)

-- What is used, and what is left of the limit or goes past it.
abbrev pub room_text : ℕ → ℕ → List ℕ
room_text limit used = codes "used " ++ (size_text used ++ (if nat_le used limit then codes ", left " ++ size_text (limit - used) else codes ", over by " ++ size_text (used - limit)))

abbrev pub totals_text : ℕ → Figures → List ℕ
totals_text mappings t = codes "mappings " ++ (decimal mappings ++ (codes " rss " ++ (decimal t.rss ++ (codes " pss " ++ (decimal t.pss ++ (codes " swappss " ++ decimal t.swap_pss))))))

abbrev pub limit_text : LimitValue → List ℕ
limit_text Unlimited = codes "unlimited"
limit_text (Value n) = decimal n

abbrev pub kilobytes_text : Option ℕ → List ℕ
kilobytes_text None = codes "-"
kilobytes_text (Some n) = decimal n ++ codes " kB"

abbrev pub status_text : Option Noted → List ℕ
status_text None = codes "state - threads - vmrss -"
status_text (Some n) = codes "state " ++ (encode_utf8 n.state ++ (codes " threads " ++ (decimal n.threads ++ (codes " vmrss " ++ kilobytes_text n.vmrss))))

abbrev pub bounds_text : Option Bounds → List ℕ
bounds_text None = codes "address space - open files -"
bounds_text (Some b) = codes "address space " ++ (limit_text b.address_space ++ (codes " open files " ++ limit_text b.open_files))

abbrev pub view_text : View → List ℕ
view_text v = codes "headroom " ++ (decimal v.headroom ++ (codes " " ++ (totals_text v.mappings v.totals ++ (codes " charge " ++ (size_text v.charge ++ (codes " " ++ (status_text v.noted ++ (codes " " ++ bounds_text v.bounds))))))))

-- The names of the fields of the text that a call reads.
abbrev pub fields_of : {S : Type 0} → Call S → List (List ℕ)
fields_of {S} (Note pid text) = map (λ name. name.now) STATUS_FIELDS
fields_of {S} (Bound pid text) = map (λ name. name.now) LIMITS_FIELDS
fields_of {S} other = []

-- By how much a charge would pass the limit, where so much is used: of an admit that is refused for that, the sum of what is used, the measure's Pss and SwapPss, and the headroom, less the limit.
abbrev pub excess_of : {S : Type 0} → ℕ → Call S → ℕ → Reason → Figures → Option ℕ
excess_of {S} limit (Admit pid headroom k) used Over totals = Some (used + (totals.pss + totals.swap_pss + headroom) - limit)
excess_of {S} limit call used other totals = None

abbrev pub excess_text : Option ℕ → List ℕ
excess_text None = codes ""
excess_text (Some bytes) = codes " by " ++ size_text bytes

-- What a call was answered, on a list of this limit of which so much is used.
abbrev pub answer_text : {S : Type 0} → ℕ → Call S → ℕ → Answer → List ℕ
answer_text {S} limit call used Missing = codes "no such measure in hand"
answer_text {S} limit call used (Made mappings totals) = totals_text mappings totals
answer_text {S} limit call used Done = codes "done"
answer_text {S} limit call used (Refused f) = named_text (fields_of call) f
answer_text {S} limit call used (Handed f mappings totals) = refusal_text f ++ (excess_text (excess_of limit call used f.reason totals) ++ codes ", measure handed back")
answer_text {S} limit call used (Seen v) = view_text v
answer_text {S} limit call used (Total sum) = size_text sum

abbrev pub told_text : {S : Type 0} → ℕ → Call S → Outcome → List ℕ
told_text {S} limit call o = answer_text limit call o.used o.answer

-- A line: what was asked, what came of it, and what is used and left then.
abbrev pub row_text : {S : Type 0} → List Word → ℕ → ℕ → Call S → Outcome → List ℕ
row_text {S} words spaces limit call o = asked_text words spaces ++ (codes " " ++ (told_text limit call o ++ (codes "; " ++ room_text limit o.used)))

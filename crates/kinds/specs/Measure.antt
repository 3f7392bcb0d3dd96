-- What a measure of smaps text is: its states, and what lines make of them.
use Rattle.std.specs.Prelude.{ℕ, ◌+◌, Bool, true, false, cond, List, Some, None, Ok, Err, Option, Result, nat_lt}
use Rattle.sources.specs.declared.fault.Fault.{Fault}
use Rattle.sources.specs.declared.kind.Break.TheVariants.{Refuses}
use Rattle.sources.specs.declared.reason.Reason.TheVariants.{Orphan, Heavy}
use Rattle.sources.specs.Faults.{fault, and_then}
use Rattle.sources.specs.Rules.{Rules}
use Rattle.kinds.specs.declared.sort.Key.{Key}
use Rattle.kinds.specs.declared.sort.Key.TheVariants.{Rss, Pss, SwapPss}
use Rattle.kinds.specs.declared.sort.Setting.{Setting}
use Rattle.kinds.specs.declared.sort.Sort.{Sort}
use Rattle.kinds.specs.declared.sort.Sort.TheVariants.{Mapping, Attribute}
use Rattle.kinds.specs.declared.measure.Figures.{Figures}
use Rattle.kinds.specs.declared.measure.Tally.{Tally}
use Rattle.kinds.specs.declared.measure.State.{State}
use Rattle.kinds.specs.declared.measure.State.TheVariants.{NoMapping, InMapping, Refused}
use Rattle.kinds.specs.declared.measure.Closed.{Closed}
use Rattle.kinds.specs.Sorts.{sort_of}

abbrev pub fresh : State
fresh = NoMapping

-- No figure yet.
abbrev pub no_figures : Figures
no_figures = record { rss = 0; pss = 0; swap_pss = 0 }

-- A number that keeps the cap; one above it is refused.
abbrev pub capped : ℕ → ℕ → Result ℕ Fault
capped cap n = cond (nat_lt cap n) (Err (fault Heavy)) (Ok n)

-- The sums of two figures of each key, where each keeps the cap.
abbrev pub sum_of : ℕ → Figures → Figures → Result Figures Fault
sum_of cap a b =
    and_then (capped cap (a.rss + b.rss)) (λ r.
    and_then (capped cap (a.pss + b.pss)) (λ p.
    and_then (capped cap (a.swap_pss + b.swap_pss)) (λ s. Ok (record { rss = r; pss = p; swap_pss = s }))))

-- The figures with a new value v of a key.
abbrev pub with_value : Key → ℕ → Figures → Figures
with_value Rss v f = record { rss = v; pss = f.pss; swap_pss = f.swap_pss }
with_value Pss v f = record { rss = f.rss; pss = v; swap_pss = f.swap_pss }
with_value SwapPss v f = record { rss = f.rss; pss = f.pss; swap_pss = v }

-- The figures after a setting.
abbrev pub set_to : Setting → Figures → Figures
set_to s f = with_value s.key s.amount f

-- One mapping more, as a number of 32 bits can count.
abbrev pub more : ℕ → ℕ
more n = cond (nat_lt n 4294967295) (n + 1) n

-- The first mapping is open, and none before it.
abbrev pub first : Tally
first = record { mappings = 1; totals = no_figures; last = no_figures }

-- The totals once the open mapping is closed.
abbrev pub closed_with : ℕ → Tally → Result Figures Fault
closed_with cap t = sum_of cap t.totals t.last

-- The open mapping is closed, and another open.
abbrev pub opened : ℕ → Tally → Result Tally Fault
opened cap t = and_then (closed_with cap t) (λ u. Ok (record { mappings = more t.mappings; totals = u; last = no_figures }))

-- After a mapping line, good or bad: the tally with its mapping, where the totals keep the cap.
abbrev pub headed : Result Tally Fault → Result (Unit {0}) Fault → State
headed (Err f) head = Refused f
headed (Ok t) (Err f) = Refused f
headed (Ok t) (Ok u) = InMapping t

-- What a line of a sort makes of a state: a line that opens a mapping closes the one before it first.
abbrev pub next : ℕ → State → Sort → State
next cap (Refused f) s = Refused f
next cap NoMapping (Attribute a) = Refused (fault Orphan)
next cap NoMapping (Mapping (Err f)) = Refused f
next cap NoMapping (Mapping (Ok u)) = InMapping first
next cap (InMapping t) (Mapping head) = headed (opened cap t) head
next cap (InMapping t) (Attribute (Ok (Some s))) = InMapping (record t { last = set_to s t.last })
next cap (InMapping t) (Attribute (Ok None)) = InMapping t
next cap (InMapping t) (Attribute (Err f)) = Refused f

-- Why a measure is refused, if it is.
abbrev pub fault_of : State → Option Fault
fault_of NoMapping = None
fault_of (InMapping t) = None
fault_of (Refused f) = Some f

-- Closing a measure closes its last mapping.
abbrev pub end_of : ℕ → State → Result Closed Fault
end_of cap NoMapping = Ok (record { mappings = 0; totals = no_figures })
end_of cap (InMapping t) = and_then (closed_with cap t) (λ u. Ok (record { mappings = t.mappings; totals = u }))
end_of cap (Refused f) = Err f

-- The rules, for a cap on each total.
abbrev pub rules_at : ℕ → Rules State Closed
rules_at cap = record { next = λ m line. next cap m (sort_of line); refused = fault_of; closed = end_of cap; on_break = Refuses }

-- The most that a total may be, and the most that the packing list charges a job: 2 to the 56th.
abbrev pub max_total : ℕ
max_total = 72057594037927936

abbrev pub measure_rules : Rules State Closed
measure_rules = rules_at max_total

-- A measure has begun after its first accepted mapping line.
abbrev pub has_begun : State → Bool
has_begun NoMapping = false
has_begun (InMapping t) = true
has_begun (Refused f) = false

-- Whether a line is an attribute's that sets no key and is good.
abbrev pub aside : Sort → Bool
aside (Attribute (Ok None)) = true
aside _ = false

-- Foreign are accepted attribute lines that set none of the three keys.
abbrev pub is_foreign : List ℕ → Bool
is_foreign line = aside (sort_of line)

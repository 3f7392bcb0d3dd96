-- The sums of a run, told by its calls and answers alone: a ledger of the jobs that are in the list, each with its headroom and the text last charged.
use Rattle.std.specs.Prelude.{◌≡◌, ℕ, ◌+◌, ◌<◌, ◌≤◌, Bool, true, false, if◌then◌else◌, not, List, [], ◌∷◌, ◌++◌, slice_index_or, map, filter, sum_by, count_by, ℤ}
use Rattle.std.specs.Ordering.{int_eq}
use Rattle.sources.specs.Lines.{lines_of}
use Rattle.sources.specs.Texts.{Text}
use Rattle.kinds.specs.declared.sort.Key.TheVariants.{Pss, SwapPss}
use Rattle.kinds.specs.Sums.{total}
use Rattle.runs.specs.declared.call.Call.{Call}
use Rattle.runs.specs.declared.call.Call.TheVariants.{Measure, Admit, Remeasure, Release, Used}
use Rattle.runs.specs.declared.call.Answer.{Answer}
use Rattle.runs.specs.declared.call.Answer.TheVariants.{Done, Total}

pub record Entry : Type 0 where
  pub pid : ℤ
  pub headroom : ℕ
  pub bytes : List ℕ

-- Pss and SwapPss of every mapping in a text.
abbrev pub weighs : List ℕ → ℕ
weighs bytes = total Pss (lines_of bytes) + total SwapPss (lines_of bytes)

-- What a job is to be charged.
abbrev pub owes : Entry → ℕ
owes e = weighs e.bytes + e.headroom

abbrev pub is_for : ℤ → Entry → Bool
is_for pid e = int_eq e.pid pid

-- The call is accepted.
abbrev pub accepted : Answer → Bool
accepted Done = true
accepted _ = false

-- The texts measured so far, by the number of their Measure call.
abbrev pub texts : List (List ℕ) → Call Text → List (List ℕ)
texts ts (Measure t) = ts ++ t.bytes ∷ []
texts ts _ = ts

-- Another text is charged to a job.
abbrev pub recharged : ℤ → List ℕ → Entry → Entry
recharged pid bytes e = if is_for pid e then record { pid = e.pid; headroom = e.headroom; bytes = bytes } else e

-- The ledger after a call, by its answer: a job is in from an accepted admit to the next accepted release.
abbrev pub ledger_after : List (List ℕ) → List Entry → Call Text → Answer → List Entry
ledger_after ts s (Admit pid headroom k) a = if accepted a then record { pid = pid; headroom = headroom; bytes = slice_index_or ts k [] } ∷ s else s
ledger_after ts s (Remeasure pid k) a = if accepted a then map (recharged pid (slice_index_or ts k [])) s else s
ledger_after ts s (Release pid) a = if accepted a then filter (λ e. not (is_for pid e)) s else s
ledger_after ts s _ a = s

-- What used answers is the sum over the jobs that are in.
abbrev pub UsedIsSum : List Entry → Call Text → Answer → Type 0
UsedIsSum s Used a = a ≡ Total (sum_by owes s)
UsedIsSum s _ a = Unit {0}

abbrev pub IsAcceptedRemeasure : Call Text → Answer → Type 0
IsAcceptedRemeasure (Remeasure pid k) a = accepted a ≡ true
IsAcceptedRemeasure _ a = ⊥

-- What holds of a call and its answer, where the ledger was s before and is s' after: no job is in twice, and only an accepted remeasure lets the sum grow to more than the limit.
pub record Holds (limit : ℕ) (s s' : List Entry) (c : Call Text) (a : Answer) : Type 0 where
  pub sums : UsedIsSum s c a
  pub single : (pid : ℤ) → count_by (is_for pid) s' ≤ 1
  pub crosses : sum_by owes s < sum_by owes s' → limit < sum_by owes s' → IsAcceptedRemeasure c a

-- It holds of each call of a row.
abbrev pub HoldsFrom : ℕ → List (List ℕ) → List Entry → List (Call Text) → List Answer → Type 0
HoldsFrom limit ts s [] [] = Unit {0}
HoldsFrom limit ts s (c ∷ cs) (a ∷ more) = Holds limit s (ledger_after ts s c a) c a × HoldsFrom limit (texts ts c) (ledger_after ts s c a) cs more
HoldsFrom limit ts s _ _ = ⊥

-- The same from a list that is just made: no text is measured, and no job is in.
abbrev pub SumsHold : ℕ → List (Call Text) → List Answer → Type 0
SumsHold limit cs rs = HoldsFrom limit [] [] cs rs

-- What a row of calls answers: the calls of the list, one after the other, with the measures that are not charged yet beside it.
use Rattle.std.specs.Prelude.{ℕ, List, [], ◌∷◌, ◌++◌, slice_index_or, slice_set, Some, None, Ok, Err, Option, Result}
use Rattle.sources.specs.declared.fault.Refusal.{Refusal}
use Rattle.sources.specs.Texts.{Text}
use Rattle.kinds.specs.declared.measure.Closed.{Closed}
use Rattle.kinds.specs.Measured.{measured}
use Rattle.packing.specs.declared.place.View.{View}
use Rattle.packing.specs.Packed.{Packing}
use Rattle.packing.specs.Places.{used}
use Rattle.packing.specs.Calls.{new_list, admit_of, remeasure_of, release_of, look_of, note_of, bound_of}
use Rattle.runs.specs.declared.call.Call.{Call}
use Rattle.runs.specs.declared.call.Call.TheVariants.{Measure, Admit, Remeasure, Note, Bound, Release, Look, Used}
use Rattle.runs.specs.declared.call.Answer.{Answer}
use Rattle.runs.specs.declared.call.Answer.TheVariants.{Missing, Made, Done, Refused, Handed, Seen, Total}

-- A call with what its source means in the place of the source.
abbrev pub textual : {S : Type 0} → (S → Text) → Call S → Call Text
textual {S} text (Measure s) = Measure (text s)
textual {S} text (Admit pid headroom k) = Admit pid headroom k
textual {S} text (Remeasure pid k) = Remeasure pid k
textual {S} text (Note pid s) = Note pid (text s)
textual {S} text (Bound pid s) = Bound pid (text s)
textual {S} text (Release pid) = Release pid
textual {S} text (Look pid) = Look pid
textual {S} text Used = Used

-- Where a run stands: its list, and of each Measure call the measure that it made, until that is charged.
abbrev pub MeasureList : Type 0
MeasureList = List (Option Closed)

abbrev pub RunState : Type 0
RunState = Packing × MeasureList

-- What a measure answers, and what it leaves.
abbrev pub made : Closed → Answer
made c = Made c.mappings c.totals

abbrev pub of_measure : Result Closed Refusal → Answer
of_measure (Ok c) = made c
of_measure (Err f) = Refused f

abbrev pub kept : Result Closed Refusal → Option Closed
kept (Ok c) = Some c
kept (Err f) = None

abbrev pub measure_on : RunState → Result Closed Refusal → Answer × RunState
measure_on s r = (of_measure r, (s.0, s.1 ++ kept r ∷ []))

-- What a charge answers, after which a measure that is handed back is kept under its number again.
abbrev pub handed_back : ℕ → Result (Unit {0}) (Refusal × Closed) → RunState → Answer × RunState
handed_back k (Ok u) s = (Done, s)
handed_back k (Err (f, m)) s = (Handed f m.mappings m.totals, (s.0, slice_set s.1 k (Some m)))

-- What a charge answers: an accepted measure is kept no more, and one that is handed back is.
abbrev pub after_charge : RunState → ℕ → Result (Unit {0}) (Refusal × Closed) × Packing → Answer × RunState
after_charge s k (Ok u, l) = (Done, (l, slice_set s.1 k None))
after_charge s k (Err (f, m), l) = (Handed f m.mappings m.totals, (l, s.1))

-- The same of the measure of a number, if there is one.
abbrev pub charge_measure : RunState → ℕ → Option Closed → (Closed → Result (Unit {0}) (Refusal × Closed) × Packing) → Answer × RunState
charge_measure s k None call = (Missing, s)
charge_measure s k (Some m) call = after_charge s k (call m)

-- What a call without a measure answers.
abbrev pub done_or_refused : Result (Unit {0}) Refusal → Answer
done_or_refused (Ok u) = Done
done_or_refused (Err f) = Refused f

abbrev pub seen_or_refused : Result View Refusal → Answer
seen_or_refused (Ok v) = Seen v
seen_or_refused (Err f) = Refused f

-- What a call answers, and what it leaves.
abbrev pub served : RunState → Call Text → Answer × RunState
served s (Measure t) = measure_on s (measured t)
served s (Admit pid headroom k) = charge_measure s k (slice_index_or s.1 k None) (λ m. admit_of pid headroom m s.0)
served s (Remeasure pid k) = charge_measure s k (slice_index_or s.1 k None) (λ m. remeasure_of pid m s.0)
served s (Note pid t) = (done_or_refused (note_of pid t s.0).0, ((note_of pid t s.0).1, s.1))
served s (Bound pid t) = (done_or_refused (bound_of pid t s.0).0, ((bound_of pid t s.0).1, s.1))
served s (Release pid) = (done_or_refused (release_of pid s.0).0, ((release_of pid s.0).1, s.1))
served s (Look pid) = (seen_or_refused (look_of pid s.0), s)
served s Used = (Total (used s.0.places), s)

-- What a row of calls answers.
unfoldable pub answers : RunState → List (Call Text) → List Answer
answers s [] = []
answers s (c ∷ cs) = (served s c).0 ∷ answers (served s c).1 cs

-- The same of a list that is just made, with no measure made.
abbrev pub answers_of : ℕ → List (Call Text) → List Answer
answers_of limit cs = answers (new_list limit, []) cs

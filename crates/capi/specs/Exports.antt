-- What each export answers, and what it leaves in the caller's memory.
use Rattle.std.specs.Prelude.{ℕ, ◌==◌, if◌then◌else◌, List, length, map, replicate, Some, None, Ok, Err, Option, Result, ℤ}
use Rattle.sources.specs.declared.fault.Refusal.{Refusal}
use Rattle.sources.specs.Texts.{Text}
use Rattle.kinds.specs.declared.measure.Closed.{Closed}
use Rattle.kinds.specs.Measured.{measured}
use Rattle.packing.specs.declared.place.Place.{Place}
use Rattle.packing.specs.declared.place.View.{View}
use Rattle.packing.specs.Packed.{Packing}
use Rattle.packing.specs.Places.{used}
use Rattle.packing.specs.Calls.{admit_of, remeasure_of, note_of, bound_of, release_of, look_of}
use Rattle.capi.specs.declared.answer.Answer.{Answer}
use Rattle.capi.specs.declared.cell.Cell.{Cell}
use Rattle.capi.specs.declared.cell.Measure.{Measure}
use Rattle.capi.specs.Answers.{accepted, wrong_use, answer_of}
use Rattle.capi.specs.Cells.{free_cell, cell_of, list_in, figures_of, closed_in, no_figures}

-- The figures of a text, or zeros.
abbrev pub figures_or_zeros : Result Closed Refusal → Answer × Measure
figures_or_zeros (Ok c) = (accepted, figures_of c)
figures_or_zeros (Err f) = (answer_of f, no_figures)

abbrev pub measure_in : Result Text Answer → Answer × Measure
measure_in (Ok t) = figures_or_zeros (measured t)
measure_in (Err a) = (a, no_figures)

-- 64 free places.
abbrev pub new_in : List Cell → Answer × List Cell
new_in cells = if length cells == 64 then (accepted, replicate 64 free_cell) else (wrong_use, cells)

-- What a call leaves: the cells of the list, or of a call that was refused the cells as they were.
abbrev pub left_by : Result (Unit {0}) Refusal × Packing → List Cell → Answer × List Cell
left_by (Ok u, l) cells = (accepted, map cell_of l.places)
left_by (Err f, l) cells = (answer_of f, cells)

-- A call on the list that cells hold.
abbrev pub on_list : (Packing → Result (Unit {0}) Refusal × Packing) → Option Packing → List Cell → Answer × List Cell
on_list call None cells = (wrong_use, cells)
on_list call (Some l) cells = left_by (call l) cells

-- No call but admit looks at the limit.
abbrev pub any_limit : ℕ
any_limit = 0

-- The refusal without the measure that is handed back with it.
abbrev pub bare : Result (Unit {0}) (Refusal × Closed) × Packing → Result (Unit {0}) Refusal × Packing
bare (Ok u, l) = (Ok u, l)
bare (Err f, l) = (Err f.0, l)

abbrev pub admit_in : ℕ → ℤ → ℕ → Measure → List Cell → Answer × List Cell
admit_in limit pid headroom m cells = on_list (λ l. bare (admit_of pid headroom (closed_in m) l)) (list_in limit cells) cells

abbrev pub remeasure_in : ℤ → Measure → List Cell → Answer × List Cell
remeasure_in pid m cells = on_list (λ l. bare (remeasure_of pid (closed_in m) l)) (list_in any_limit cells) cells

abbrev pub release_in : ℤ → List Cell → Answer × List Cell
release_in pid cells = on_list (release_of pid) (list_in any_limit cells) cells

-- What note and bound answer and leave, without the text that they leave.
abbrev pub without_text : Result (Unit {0}) Refusal × Packing × Text → Result (Unit {0}) Refusal × Packing
without_text (r, l, t) = (r, l)

abbrev pub note_on : ℤ → Text → List Cell → Answer × List Cell
note_on pid t cells = on_list (λ l. without_text (note_of pid t l)) (list_in any_limit cells) cells

abbrev pub bound_on : ℤ → Text → List Cell → Answer × List Cell
bound_on pid t cells = on_list (λ l. without_text (bound_of pid t l)) (list_in any_limit cells) cells

-- Without a text nothing is called.
abbrev pub note_in : ℤ → Result Text Answer → List Cell → Answer × List Cell
note_in pid (Ok t) cells = note_on pid t cells
note_in pid (Err a) cells = (a, cells)

abbrev pub bound_in : ℤ → Result Text Answer → List Cell → Answer × List Cell
bound_in pid (Ok t) cells = bound_on pid t cells
bound_in pid (Err a) cells = (a, cells)

-- The sum of the charges, or 0.
abbrev pub used_on : Option Packing → Answer × ℕ
used_on None = (wrong_use, 0)
used_on (Some l) = (accepted, used l.places)

abbrev pub used_in : List Cell → Answer × ℕ
used_in cells = used_on (list_in any_limit cells)

-- The cell of a job and its charge, or zeros.
abbrev pub seen_as : ℤ → View → Place
seen_as pid v = record { pid = pid; headroom = v.headroom; mappings = v.mappings; totals = v.totals; noted = v.noted; bounds = v.bounds }

abbrev pub shown : ℤ → Result View Refusal → Answer × Cell × ℕ
shown pid (Ok v) = (accepted, cell_of (Some (seen_as pid v)), v.charge)
shown pid (Err f) = (answer_of f, free_cell, 0)

abbrev pub look_on : ℤ → Option Packing → Answer × Cell × ℕ
look_on pid None = (wrong_use, free_cell, 0)
look_on pid (Some l) = shown pid (look_of pid l)

abbrev pub look_in : ℤ → List Cell → Answer × Cell × ℕ
look_in pid cells = look_on pid (list_in any_limit cells)

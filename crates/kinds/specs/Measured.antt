-- The measure of figures, of a text, of a recording, and of two texts joined.
use Rattle.std.specs.Prelude.{ℕ, cond, List, Err, Result}
use Rattle.sources.specs.declared.fault.Refusal.{Refusal}
use Rattle.sources.specs.declared.reason.Reason.TheVariants.{Spool}
use Rattle.sources.specs.Faults.{refused}
use Rattle.sources.specs.Texts.{Text, text, joined}
use Rattle.sources.specs.Lines.{reading}
use Rattle.sources.specs.Records.{recorded, records_of, text_of_records, ending_of}
use Rattle.kinds.specs.declared.measure.Closed.{Closed}
use Rattle.kinds.specs.declared.measure.Figures.{Figures}
use Rattle.kinds.specs.Measure.{measure_rules, fresh}

-- A closed measure of these figures.
abbrev pub closed_of : ℕ → Figures → Closed
closed_of mappings totals = record { mappings = mappings; totals = totals }

abbrev pub measured : Text → Result Closed Refusal
measured t = (reading measure_rules fresh t).0

-- A recording that is not well made is refused 22.
abbrev pub recording_of : List ℕ → Result Closed Refusal
recording_of bytes = cond (recorded bytes) (measured (text (text_of_records (records_of bytes)) (ending_of (records_of bytes)))) (Err (refused Spool 0))

abbrev pub join_of : Text → Text → Result Closed Refusal
join_of t u = measured (joined t u)

-- What the program says of an input: its charge or its refusal, and the line that is printed of either.
use Rattle.std.specs.Prelude.{ℕ, false, cond, List, ◌++◌, length, Ok, Err, codes, decimal, Result, nat_lt}
use Rattle.sources.specs.declared.fault.Refusal.{Refusal}
use Rattle.sources.specs.declared.reason.Reason.TheVariants.{LongText}
use Rattle.sources.specs.Faults.{refused}
use Rattle.sources.specs.Texts.{text}
use Rattle.sources.specs.Reasons.{number_of}
use Rattle.kinds.specs.declared.measure.Closed.{Closed}
use Rattle.kinds.specs.Measured.{measured}
use Rattle.charge.specs.declared.report.Charged.{Charged}
use Rattle.charge.specs.declared.report.Refused.{Refused}

-- What is charged for a measure.
abbrev pub as_charge : Result Closed Refusal → Result Charged Refused
as_charge (Ok c) = Ok (record { 0 = c })
as_charge (Err f) = Err (record { 0 = f })

-- An input of more than 65,536 bytes is refused 3, with no line.
abbrev pub report_of : List ℕ → Result Charged Refused
report_of input = cond (nat_lt 65536 (length input)) (as_charge (Err (refused LongText 0))) (as_charge (measured (text input false)))

-- Numbers are written in base ten.
abbrev pub line_of : Result Charged Refused → List ℕ
line_of (Ok c) = codes "mappings " ++ (decimal c.0.mappings ++ (codes " rss " ++ (decimal c.0.totals.rss ++ (codes " pss " ++ (decimal c.0.totals.pss ++ (codes " swappss " ++ decimal c.0.totals.swap_pss))))))
line_of (Err r) = codes "refused " ++ (decimal (number_of r.0.reason) ++ (codes " line " ++ decimal r.0.line))

-- The exit status: 0 of a charge, 1 of a refusal.
abbrev pub status_of : Result Charged Refused → ℕ
status_of (Ok c) = 0
status_of (Err r) = 1

-- What the calls answer: a figure of the record that is read, or the number of the refusal.
use Rattle.std.specs.Prelude.{ℕ, List, false, Ok, Err, Result}
use Rattle.sources.specs.declared.fault.Refusal.{Refusal}
use Rattle.sources.specs.Reasons.{number_of}
use Rattle.sources.specs.Texts.{text}
use Rattle.limits.specs.declared.limit.LimitValue.{LimitValue}
use Rattle.limits.specs.declared.limit.LimitValue.TheVariants.{Unlimited, Value}
use Rattle.limits.specs.declared.record.Limits.{Limits}
use Rattle.status.specs.declared.record.Status.{Status}
use Rattle.kinds.specs.LimitsText.{limits_of}
use Rattle.kinds.specs.StatusText.{status_of}

abbrev pub or_number : Result (Unit {0}) Refusal → ℕ → ℕ
or_number (Ok u) n = n
or_number (Err f) n = number_of f.reason

-- The answer and the record, of bytes that end clean.
abbrev pub status_in : List ℕ → Result (Unit {0}) Refusal × Status
status_in bytes = let r = status_of (text bytes false) in (r.0, r.1)

abbrev pub limits_in : List ℕ → Result (Unit {0}) Refusal × Limits
limits_in bytes = let r = limits_of (text bytes false) in (r.0, r.1)

-- The threads of the process.
abbrev pub status_told : List ℕ → ℕ
status_told bytes = let r = status_in bytes in or_number r.0 r.1.threads

-- No bound is the largest number.
abbrev pub bound : LimitValue → ℕ
bound Unlimited = 18446744073709551615
bound (Value n) = n

-- How many files it may open.
abbrev pub limits_told : List ℕ → ℕ
limits_told bytes = let r = limits_in bytes in or_number r.0 (bound r.1.max_open_files.soft_limit)

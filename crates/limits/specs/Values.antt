-- How a limit is read from its two words.
use Rattle.std.specs.Prelude.{ℕ, cond, List, Ok, codes, Result}
use Rattle.std.specs.Str.{bytes_eq}
use Rattle.sources.specs.declared.fault.Fault.{Fault}
use Rattle.sources.specs.declared.number.Radix.TheVariants.{Decimal}
use Rattle.sources.specs.Faults.{as_fault, and_then}
use Rattle.sources.specs.Number.{unsigned}
use Rattle.limits.specs.declared.limit.LimitValue.{LimitValue}
use Rattle.limits.specs.declared.limit.LimitValue.TheVariants.{Unlimited, Value}
use Rattle.limits.specs.declared.limit.Limit.{Limit}

-- A number of 64 bits.
abbrev pub number_limit : List ℕ → Result LimitValue Fault
number_limit w = and_then (as_fault (unsigned 64 Decimal w)) (λ n. Ok (Value n))

-- The word "unlimited", or a number.
abbrev pub value_of : List ℕ → Result LimitValue Fault
value_of w = cond (bytes_eq w (codes "unlimited")) (Ok Unlimited) (number_limit w)

-- The soft limit is judged first.
abbrev pub limit_of : List ℕ → List ℕ → Result Limit Fault
limit_of soft hard =
    and_then (value_of soft) (λ s.
    and_then (value_of hard) (λ h.
    Ok (record { soft_limit = s; hard_limit = h })))

-- What an item of a list of ranges means. Lists and masks of processors and memory nodes are after cpuset(7), which has no second hyphen; here what follows one is ignored.
use Rattle.std.specs.Prelude.{ℕ, List, Ok, Result}
use Rattle.sources.specs.declared.fault.NumberFault.{NumberFault}
use Rattle.sources.specs.declared.number.Radix.TheVariants.{Decimal}
use Rattle.sources.specs.Faults.{and_then}
use Rattle.sources.specs.Number.{unsigned}
use Rattle.sources.specs.Pieces.{case_of, split_once, up_to}

-- "a-b" is a to b, and "a" alone is a to a; what stands behind a second hyphen is ignored.
abbrev pub range_of : List ℕ → Result (ℕ × ℕ) NumberFault
range_of bs =
    case_of (split_once 45 bs)
    (and_then (unsigned 32 Decimal bs) (λ n. Ok (n, n)))
    (λ p. and_then (unsigned 32 Decimal p.0) (λ a. and_then (unsigned 32 Decimal (up_to 45 p.1)) (λ b. Ok (a, b))))

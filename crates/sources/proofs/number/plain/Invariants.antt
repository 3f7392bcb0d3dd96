use Rattle.std.proofs.Common.{◌≡◌, drop}
use Rattle.std.specs.Str.Parse.{digits_value, digits_value_after}
use Rattle.sources.specs.Number.{base_of, all_under}
use Rattle.sources.proofs.number.plain.Given as goal

abbrev pub invariant-loop-digit : goal.invariant-loop-digit
invariant-loop-digit l =
    (digits_value (base_of l.fn.radix) l.digits ≡ digits_value_after (base_of l.fn.radix) l.n (drop l.digit-index l.digits))
    × (all_under (base_of l.fn.radix) l.digits ≡ all_under (base_of l.fn.radix) (drop l.digit-index l.digits))

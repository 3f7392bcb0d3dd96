-- Numbers as `from_str_radix` reads them: digits of the base in either case, one plus before them or, at a signed type, one minus, and the type's range.
use Rattle.std.specs.Prelude.{ℕ, ◌^◌, Bool, true, cond, ◌&&◌, List, [], ◌∷◌, length, ℤ, Ok, Err, Result, nat_le, nat_lt}
use Rattle.std.specs.Str.Parse.{digits_value, signed_digits_value, without_leading_plus, without_leading_sign, starts_with_minus}
use Rattle.std.specs.Char.{digit_value}
use Rattle.std.specs.Option.{ok_or}
use Rattle.sources.specs.declared.fault.NumberFault.{NumberFault}
use Rattle.sources.specs.declared.fault.NumberFault.TheVariants.{Unreadable}
use Rattle.sources.specs.declared.fault.Fault.{Fault}
use Rattle.sources.specs.declared.reason.Reason.TheVariants.{Short}
use Rattle.sources.specs.Faults.{fault, as_fault, and_then}
use Rattle.sources.specs.Pieces.{split_once, up_to}
use Rattle.sources.specs.declared.number.Radix.{Radix}
use Rattle.sources.specs.declared.number.Radix.TheVariants.{Octal, Decimal, Hexadecimal}

abbrev pub base_of : Radix → ℕ
base_of Octal = 8
base_of Decimal = 10
base_of Hexadecimal = 16

-- Each byte is a digit of the base.
abbrev pub all_under : ℕ → List ℕ → Bool
all_under base [] = true
all_under base (c ∷ cs) = nat_lt (digit_value c) base && all_under base cs

-- One digit or more, and nothing else.
abbrev pub numeral : ℕ → List ℕ → Bool
numeral base ds = nat_lt 0 (length ds) && all_under base ds

-- The value, where it is written well and fits.
abbrev pub fitting : {X : Type 0} → Bool → X → Result X NumberFault
fitting {X} b n = cond b (Ok n) (Err Unreadable)

-- A number below 2 ^ bits.
abbrev pub unsigned : ℕ → Radix → List ℕ → Result ℕ NumberFault
unsigned bits radix bs =
    fitting (numeral (base_of radix) (without_leading_plus bs) && nat_lt (digits_value (base_of radix) (without_leading_plus bs)) (2 ^ bits)) (digits_value (base_of radix) (without_leading_plus bs))

-- Whether a number is below 2 ^ bits or, behind a minus, at most that.
abbrev pub within : ℕ → ℕ → List ℕ → Bool
within bits base bs =
    cond (starts_with_minus bs) (nat_le (digits_value base (without_leading_sign bs)) (2 ^ bits)) (nat_lt (digits_value base (without_leading_sign bs)) (2 ^ bits))

-- A number of a signed type of one bit more.
abbrev pub signed : ℕ → Radix → List ℕ → Result ℤ NumberFault
signed bits radix bs =
    fitting (numeral (base_of radix) (without_leading_sign bs) && within bits (base_of radix) bs) (signed_digits_value (base_of radix) bs)

-- Two numbers with the character `at` between them; what stands behind a second one is ignored.
abbrev pub two_of : {X : Type 0} → (List ℕ → Result X NumberFault) → ℕ → List ℕ → Result (X × X) Fault
two_of {X} R at bs =
    and_then (as_fault (R (up_to at bs))) (λ a.
    and_then (ok_or (split_once at bs) (fault Short)) (λ p.
    and_then (as_fault (R (up_to at p.1))) (λ b.
    Ok (a, b))))

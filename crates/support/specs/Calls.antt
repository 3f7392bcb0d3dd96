-- The system call that a process is blocked in: its number, six arguments, the stack pointer and the program counter. After proc(5), /proc/pid/syscall, but for its form of three pieces, which is refused.
use Rattle.std.specs.Prelude.{ℕ, zero, suc, cond, List, [], ◌∷◌, length, ℤ, Ok, Err, codes, Result, slice_index, nat_lt}
use Rattle.std.specs.Option.{unwrap_or}
use Rattle.std.specs.Str.{bytes_eq}
use Rattle.sources.specs.declared.fault.Fault.{Fault}
use Rattle.sources.specs.declared.fault.Refusal.{Refusal}
use Rattle.sources.specs.declared.number.Radix.TheVariants.{Decimal, Hexadecimal}
use Rattle.sources.specs.declared.reason.Reason.TheVariants.{LongLine, Short}
use Rattle.sources.specs.Faults.{fault, as_fault, and_then, at_line}
use Rattle.sources.specs.Number.{unsigned, signed}
use Rattle.sources.specs.Pieces.{split, strip_prefix}
use Rattle.sources.specs.White.{trim}
use Rattle.support.specs.declared.syscall.Syscall.{Syscall}
use Rattle.support.specs.declared.syscall.Syscall.TheVariants.{Running, Blocked}
use Rattle.sources.specs.AsText.{as_text}

-- The pieces between single spaces; two spaces in a row have an empty one between them.
abbrev pub pieces_of : List ℕ → List (List ℕ)
pieces_of bs = split 32 bs

-- One prefix of base 16 is dropped.
abbrev pub unprefixed : List ℕ → List ℕ
unprefixed p = unwrap_or (strip_prefix (codes "0x") p) (unwrap_or (strip_prefix (codes "0X") p) p)

-- A register: 64 bits in base 16.
abbrev pub register_of : List ℕ → Result ℕ Fault
register_of p = as_fault (unsigned 64 Hexadecimal (unprefixed p))

-- The number of a call: 64 bits in base 10, with a sign.
abbrev pub call_number_of : List ℕ → Result ℤ Fault
call_number_of p = as_fault (signed 63 Decimal p)

-- What the first piece reads as, and the pieces behind it.
abbrev pub read_first : {X : Type 0} → (List ℕ → Result X Fault) → List (List ℕ) → Result X Fault × List (List ℕ)
read_first R [] = (Err (fault Short), [])
read_first R (p ∷ ps) = (R p, ps)

-- The first n pieces, a register each. They are judged in order, so a bad one is told before one that is missing.
abbrev pub registers_of : ℕ → List (List ℕ) → Result (List ℕ) Fault
registers_of zero ps = Ok []
registers_of (suc n) [] = Err (fault Short)
registers_of (suc n) (p ∷ ps) = and_then (register_of p) (λ r. and_then (registers_of n ps) (λ rs. Ok (r ∷ rs)))

-- The first six registers are the arguments.
abbrev pub six : List ℕ → List ℕ
six rs = slice_index rs 0 ∷ slice_index rs 1 ∷ slice_index rs 2 ∷ slice_index rs 3 ∷ slice_index rs 4 ∷ slice_index rs 5 ∷ []

-- A number in base 10, and then eight registers; what stands behind them is ignored.
abbrev pub blocked_of : List (List ℕ) → Result Syscall Fault
blocked_of [] = Err (fault Short)
blocked_of (p ∷ ps) =
    and_then (call_number_of p) (λ number.
    and_then (registers_of 8 ps) (λ rs.
    Ok (Blocked number (six rs) (slice_index rs 6) (slice_index rs 7))))

-- A text without white space around it.
abbrev pub line_of : List ℕ → Result Syscall Fault
line_of t = cond (bytes_eq t (codes "running")) (Ok Running) (blocked_of (pieces_of t))

-- Bytes: too many are refused, then what is no text.
abbrev pub call_of : List ℕ → Result Syscall Fault
call_of bytes = cond (nat_lt 4096 (length bytes)) (Err (fault LongLine)) (and_then (as_text bytes) (λ t. line_of (trim t)))

abbrev pub call_in : List ℕ → Result Syscall Refusal
call_in bytes = at_line 0 (call_of bytes)

-- What a mapping is of, by the bytes of its path.
use Rattle.std.specs.Prelude.{ℕ, cond, not, ◌&&◌, List, [], length, ℤ, None, Ok, codes, Option, Result, ◌==◌, slice_index}
use Rattle.std.specs.Int.{w32}
use Rattle.std.proofs.Common.{to_z}
use Rattle.std.specs.Option.{option_map, ok_or, unwrap_or}
use Rattle.std.specs.Result.{result_ok, result_map_both}
use Rattle.std.specs.Str.{bytes_eq}
use Rattle.sources.specs.declared.fault.Fault.{Fault}
use Rattle.sources.specs.declared.fault.Refusal.{Refusal}
use Rattle.sources.specs.declared.number.Radix.TheVariants.{Decimal, Hexadecimal}
use Rattle.sources.specs.declared.reason.Reason.TheVariants.{Torn}
use Rattle.sources.specs.AsText.{as_text}
use Rattle.sources.specs.Faults.{fault, as_fault, and_then, at_line}
use Rattle.sources.specs.Number.{unsigned}
use Rattle.sources.specs.Pieces.{bracketed, case_of, up_to, strip_prefix, strip_suffix}
use Rattle.sources.specs.White.{trim, trim_start}
use Rattle.kinds.specs.declared.path.MMapPath.{MMapPath}
use Rattle.kinds.specs.declared.path.MMapPath.TheVariants as code

-- A path by its case; a name is a list of bytes.
pub data Named : Type 0 where
  path : List ℕ → Named
  heap stack : Named
  tstack : ℕ → Named
  vdso vvar vsyscall rollup anonymous : Named
  vsys : ℤ → Named
  other : List ℕ → Named

-- What a borrowed path says.
abbrev pub told : MMapPath → Named
told (code.Path x) = path x.now
told code.Heap = heap
told code.Stack = stack
told (code.TStack n) = tstack n
told code.Vdso = vdso
told code.Vvar = vvar
told code.Vsyscall = vsyscall
told code.Rollup = rollup
told code.Anonymous = anonymous
told (code.Vsys z) = vsys z
told (code.Other x) = other x.now

-- The same of a reading that may be refused.
abbrev pub seen : Result MMapPath Fault → Result Named Fault
seen r = result_map_both told (λ f. f) r

-- What follows "[stack:": a number up to the next colon, before a last "]".
abbrev pub thread_of : List ℕ → Result Named Fault
thread_of rest =
    and_then (ok_or (strip_suffix (codes "]") rest) (fault Torn)) (λ inner.
    and_then (as_fault (unsigned 32 Decimal (up_to 58 inner))) (λ n. Ok (tstack n)))

-- Eight digits of base 16, as a signed number of 32 bits.
abbrev pub eight : List ℕ → Option ℤ
eight ds = cond (length ds == 8 && not (slice_index ds 0 == 43)) (option_map (to_z w32) (result_ok (unsigned 32 Hexadecimal ds))) None

-- The key of a shared memory segment: eight digits that end the path or stand before a last " (deleted)".
abbrev pub segment_key : List ℕ → Option ℤ
segment_key bs = case_of (strip_prefix (codes "/SYSV") bs) None (λ rest. eight (unwrap_or (strip_suffix (codes " (deleted)") rest) rest))

-- The name of a file, which keeps white space at its end.
abbrev pub file_of : List ℕ → List ℕ
file_of bs = up_to 10 (trim_start bs)

-- Any name that is not one of the plain ones, of the path `bs`.
abbrev pub named_of : List ℕ → List ℕ → Result Named Fault
named_of name bs =
    case_of (strip_prefix (codes "[stack:") name)
    (case_of (bracketed name) (case_of (segment_key name) (Ok (path (file_of bs))) (λ z. Ok (vsys z))) (λ n. Ok (other n)))
    thread_of

-- A name, of the path `bs`.
abbrev pub name_of : List ℕ → List ℕ → Result Named Fault
name_of name bs =
    cond (bytes_eq name []) (Ok anonymous)
    (cond (bytes_eq name (codes "[heap]")) (Ok heap)
    (cond (bytes_eq name (codes "[stack]")) (Ok stack)
    (cond (bytes_eq name (codes "[vdso]")) (Ok vdso)
    (cond (bytes_eq name (codes "[vvar]")) (Ok vvar)
    (cond (bytes_eq name (codes "[vsyscall]")) (Ok vsyscall)
    (cond (bytes_eq name (codes "[rollup]")) (Ok rollup)
    (named_of name bs)))))))

-- A path is told by its name, the path without white space around it.
abbrev pub path_of : List ℕ → Result Named Fault
path_of bs = name_of (trim bs) bs

-- The path of bytes that may be no text.
abbrev pub path_in : List ℕ → Result Named Refusal
path_in bytes = at_line 0 (and_then (as_text bytes) path_of)

abbrev pub seen_in : Result MMapPath Refusal → Result Named Refusal
seen_in r = result_map_both told (λ f. f) r

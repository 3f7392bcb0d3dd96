-- What a descriptor stands for, by the bytes of its link's name. After proc(5), /proc/pid/fd/, where a link is a path, `type:[inode]` or `anon_inode:` with what kind of file it is.
use Rattle.std.specs.Prelude.{ℕ, cond, List, [], is_some, Ok, Err, codes, Result}
use Rattle.std.specs.Result.{result_map_both}
use Rattle.std.specs.Str.{bytes_eq}
use Rattle.sources.specs.declared.fault.Fault.{Fault}
use Rattle.sources.specs.declared.fault.Refusal.{Refusal}
use Rattle.sources.specs.declared.number.Radix.TheVariants.{Decimal}
use Rattle.sources.specs.declared.reason.Reason.TheVariants.{Bracket}
use Rattle.sources.specs.Faults.{fault, as_fault, and_then, at_line}
use Rattle.sources.specs.Number.{unsigned}
use Rattle.sources.specs.Pieces.{bracketed, case_of, split_once, strip_prefix}
use Rattle.support.specs.declared.target.FDTarget.{FDTarget}
use Rattle.support.specs.declared.target.FDTarget.TheVariants as code
use Rattle.sources.specs.AsText.{as_text}

-- A target by its case; a name is a list of bytes.
pub data Target : Type 0 where
  path : List ℕ → Target
  socket net pipe : ℕ → Target
  anon_inode memfd : List ℕ → Target
  other : List ℕ → ℕ → Target
  unknown : List ℕ → List ℕ → Target

-- What a borrowed target says.
abbrev pub told : FDTarget → Target
told (code.Path x) = path x.now
told (code.Socket n) = socket n
told (code.Net n) = net n
told (code.Pipe n) = pipe n
told (code.AnonInode x) = anon_inode x.now
told (code.MemFD x) = memfd x.now
told (code.Other x n) = other x.now n
told (code.Unknown x y) = unknown x.now y.now

-- The same of a reading that may be refused.
abbrev pub seen : Result FDTarget Fault → Result Target Fault
seen r = result_map_both told (λ f. f) r

abbrev pub seen_in : Result FDTarget Refusal → Result Target Refusal
seen_in r = result_map_both told (λ f. f) r

-- The inode that brackets hold: brackets that are missing or empty are refused otherwise than a bad number.
abbrev pub held_inode : List ℕ → Result ℕ Fault
held_inode digits = cond (bytes_eq digits []) (Err (fault Bracket)) (as_fault (unsigned 64 Decimal digits))

abbrev pub inode_of : List ℕ → Result ℕ Fault
inode_of rest = case_of (bracketed rest) (Err (fault Bracket)) held_inode

-- Any other type: with an inode, or with what follows its colon.
abbrev pub other_of : List ℕ → List ℕ → Result ℕ Fault → Target
other_of kind rest (Ok n) = other kind n
other_of kind rest (Err f) = unknown kind rest

-- A type, and what follows its colon.
abbrev pub typed_of : List ℕ → List ℕ → Result Target Fault
typed_of kind rest =
    cond (bytes_eq kind []) (Err (fault Bracket))
    (cond (bytes_eq kind (codes "socket")) (and_then (inode_of rest) (λ n. Ok (socket n)))
    (cond (bytes_eq kind (codes "net")) (and_then (inode_of rest) (λ n. Ok (net n)))
    (cond (bytes_eq kind (codes "pipe")) (and_then (inode_of rest) (λ n. Ok (pipe n)))
    (cond (bytes_eq kind (codes "anon_inode")) (Ok (anon_inode rest))
    (Ok (other_of kind rest (inode_of rest)))))))

-- A name that begins with no slash: its type ends at the first colon.
abbrev pub bare_of : List ℕ → Result Target Fault
bare_of bs = case_of (split_once 58 bs) (Ok (path bs)) (λ p. typed_of p.0 p.1)

-- A target.
abbrev pub target_of : List ℕ → Result Target Fault
target_of bs =
    case_of (strip_prefix (codes "/memfd:") bs)
    (cond (is_some (strip_prefix (codes "/") bs)) (Ok (path bs)) (bare_of bs))
    (λ name. Ok (memfd name))

-- The target of bytes that may be no text.
abbrev pub target_in : List ℕ → Result Target Refusal
target_in bytes = at_line 0 (and_then (as_text bytes) target_of)

-- A mapping's line: six pieces at single spaces, the sixth holding the rest; then each is read in turn.
use Rattle.std.specs.Prelude.{ℕ, List, ℤ, Ok, Result}
use Rattle.std.specs.Borrow.{Bor}
use Rattle.std.specs.Option.{ok_or}
use Rattle.std.specs.Result.{result_map_both}
use Rattle.sources.specs.declared.fault.Fault.{Fault}
use Rattle.sources.specs.declared.number.Radix.TheVariants.{Decimal, Hexadecimal}
use Rattle.sources.specs.declared.reason.Reason.TheVariants.{Short}
use Rattle.sources.specs.Faults.{fault, as_fault, and_then}
use Rattle.sources.specs.Number.{unsigned, signed, two_of}
use Rattle.sources.specs.Pieces.{bytes_of_2, split_once}
use Rattle.kinds.specs.declared.mapping.MemoryMap.{MemoryMap}
use Rattle.kinds.specs.Path.{Named, told, path_of}
use Rattle.kinds.specs.Perms.{perms_of}

pub record Mapping : Type 0 where
  pub address : ℕ × ℕ
  pub perms : ℕ
  pub offset : ℕ
  pub dev : ℤ × ℤ
  pub inode : ℕ
  pub pathname : Named

-- What a mapping that borrows its line says.
abbrev pub told_map : MemoryMap → Mapping
told_map m = record { address = m.address; perms = m.perms.bits; offset = m.offset; dev = m.dev; inode = m.inode; pathname = told m.pathname }

abbrev pub seen_map : Result MemoryMap Fault → Result Mapping Fault
seen_map r = result_map_both told_map (λ f. f) r

-- Up to the first space, and what follows it.
abbrev pub piece : List ℕ → Result (List ℕ × List ℕ) Fault
piece bs = ok_or (split_once 32 bs) (fault Short)

abbrev pub seen_piece : Result (Bor (List ℕ) × Bor (List ℕ)) Fault → Result (List ℕ × List ℕ) Fault
seen_piece r = result_map_both bytes_of_2 (λ f. f) r

abbrev pub mapping_of : List ℕ → Result Mapping Fault
mapping_of bs =
    and_then (piece bs) (λ a.
    and_then (piece a.1) (λ p.
    and_then (piece p.1) (λ o.
    and_then (piece o.1) (λ d.
    and_then (piece d.1) (λ i.
    and_then (two_of (unsigned 64 Hexadecimal) 45 a.0) (λ address.
    and_then (as_fault (unsigned 64 Hexadecimal o.0)) (λ offset.
    and_then (two_of (signed 31 Hexadecimal) 58 d.0) (λ dev.
    and_then (as_fault (unsigned 64 Decimal i.0)) (λ inode.
    and_then (path_of i.1) (λ pathname.
    Ok (record { address = address; perms = perms_of p.0; offset = offset; dev = dev; inode = inode; pathname = pathname })))))))))))

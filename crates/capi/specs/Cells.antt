-- The caller's cells: what stands in each, and the list that 64 of them hold.
use Rattle.std.specs.Prelude.{ℕ, ◌==◌, if◌then◌else◌, List, length, map, is_some, Some, None, Option, pos, nat_lt}
use Rattle.std.specs.Int.{from_bool}
use Rattle.std.specs.Option.{unwrap_or}
use Rattle.std.specs.Ordering.{int_eq}
use Rattle.limits.specs.declared.limit.LimitValue.{LimitValue}
use Rattle.limits.specs.declared.limit.LimitValue.TheVariants.{Unlimited, Value}
use Rattle.kinds.specs.declared.measure.Closed.{Closed}
use Rattle.packing.specs.declared.place.Place.{Place}
use Rattle.packing.specs.declared.place.Noted.{Noted}
use Rattle.packing.specs.declared.place.Bounds.{Bounds}
use Rattle.packing.specs.Packed.{Packing}
use Rattle.packing.specs.Restored.{restored_of}
use Rattle.capi.specs.declared.cell.Cell.{Cell}
use Rattle.capi.specs.declared.cell.Measure.{Measure}

-- What a flag says is there: 0 says that it is not.
abbrev pub there : {X : Type 0} → ℕ → X → Option X
there {X} flag x = if flag == 0 then None else Some x

-- The letter of a number: one above 255 is read as 0, which is no state's.
abbrev pub letter_in : ℕ → ℕ
letter_in n = if nat_lt n 256 then n else 0

abbrev pub bound_in : ℕ → ℕ → LimitValue
bound_in unlimited value = if unlimited == 0 then Value value else Unlimited

abbrev pub note_in : Cell → Option Noted
note_in c = there c.noted (record { state = letter_in c.state; threads = c.threads; vmrss = there c.has_vmrss c.vmrss })

abbrev pub bounds_in : Cell → Option Bounds
bounds_in c = there c.bounded (record { address_space = bound_in c.address_space_unlimited c.address_space; open_files = bound_in c.open_files_unlimited c.open_files })

-- What stands in a cell; with pid 0 it is free.
abbrev pub place_in : Cell → Option Place
place_in c =
    if int_eq c.pid (pos 0) then None else
    Some (record { pid = c.pid; headroom = c.headroom; mappings = c.mappings; totals = record { rss = c.rss; pss = c.pss; swap_pss = c.swap_pss }; noted = note_in c; bounds = bounds_in c })

-- All zeros.
abbrev pub free_cell : Cell
free_cell = record { pid = pos 0; mappings = 0; headroom = 0; rss = 0; pss = 0; swap_pss = 0; noted = 0; state = 0; threads = 0; has_vmrss = 0; bounded = 0; vmrss = 0; address_space_unlimited = 0; open_files_unlimited = 0; address_space = 0; open_files = 0 }

-- What is absent is written as zeros.
abbrev pub note_or_zeros : Option Noted → Noted
note_or_zeros o = unwrap_or o (record { state = 0; threads = 0; vmrss = None })

abbrev pub bounds_or_zeros : Option Bounds → Bounds
bounds_or_zeros o = unwrap_or o (record { address_space = Value 0; open_files = Value 0 })

abbrev pub unlimited_flag : LimitValue → ℕ
unlimited_flag Unlimited = 1
unlimited_flag (Value v) = 0

abbrev pub value_or_zero : LimitValue → ℕ
value_or_zero Unlimited = 0
value_or_zero (Value v) = v

-- The cell of a job.
abbrev pub cell_with : Place → Noted → Bounds → Cell
cell_with p n b = record {
  pid = p.pid;
  mappings = p.mappings;
  headroom = p.headroom;
  rss = p.totals.rss;
  pss = p.totals.pss;
  swap_pss = p.totals.swap_pss;
  noted = from_bool (is_some p.noted);
  state = n.state;
  threads = n.threads;
  has_vmrss = from_bool (is_some n.vmrss);
  bounded = from_bool (is_some p.bounds);
  vmrss = unwrap_or n.vmrss 0;
  address_space_unlimited = unlimited_flag b.address_space;
  open_files_unlimited = unlimited_flag b.open_files;
  address_space = value_or_zero b.address_space;
  open_files = value_or_zero b.open_files;
}

abbrev pub cell_of_job : Place → Cell
cell_of_job p = cell_with p (note_or_zeros p.noted) (bounds_or_zeros p.bounds)

abbrev pub cell_of : Option Place → Cell
cell_of None = free_cell
cell_of (Some p) = cell_of_job p

-- The list of a limit that cells hold, if they hold one.
unfoldable pub list_in : ℕ → List Cell → Option Packing
list_in limit cells = if length cells == 64 then restored_of limit (map place_in cells) else None

-- The figures of a measure, and the measure of figures.
abbrev pub figures_of : Closed → Measure
figures_of c = record { mappings = c.mappings; rss = c.totals.rss; pss = c.totals.pss; swap_pss = c.totals.swap_pss }

abbrev pub closed_in : Measure → Closed
closed_in m = record { mappings = m.mappings; totals = record { rss = m.rss; pss = m.pss; swap_pss = m.swap_pss } }

abbrev pub no_figures : Measure
no_figures = record { mappings = 0; rss = 0; pss = 0; swap_pss = 0 }

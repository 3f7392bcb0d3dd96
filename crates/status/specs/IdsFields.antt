-- The name, the state and the numbers of a process: a slot for each, and the order in which they are judged. What each line holds is after proc(5).
use Rattle.std.specs.Prelude.{List, Ok, Result}
use Rattle.sources.specs.declared.fault.Fault.{Fault}
use Rattle.sources.specs.declared.number.Radix.TheVariants.{Octal}
use Rattle.sources.specs.Faults.{and_then}
use Rattle.fields.specs.Slots.{Entry, last_of, needed, optional}
use Rattle.fields.specs.Values.{figure_of, signed_of}
use Rattle.status.specs.Whole.{whole_text}
use Rattle.status.specs.declared.ids.IdsSlots.{IdsSlots}
use Rattle.status.specs.declared.record.Status.{Status}

-- After entries, with the last first: each slot by how its value is read and by the number of its field.
abbrev pub fill_ids : List Entry → IdsSlots → IdsSlots
fill_ids es s = record {
  name = last_of whole_text 1 es s.name;
  umask = last_of (figure_of 32 Octal) 2 es s.umask;
  state = last_of whole_text 3 es s.state;
  tgid = last_of signed_of 4 es s.tgid;
  ngid = last_of signed_of 5 es s.ngid;
  pid = last_of signed_of 6 es s.pid;
  ppid = last_of signed_of 7 es s.ppid;
  tracerpid = last_of signed_of 8 es s.tracerpid;
}

-- The record so far with these fields, judged in order.
abbrev pub judged_ids : IdsSlots → Status → Result Status Fault
judged_ids s status =
    and_then (needed 1 s.name) (λ name.
    and_then (optional 2 s.umask) (λ umask.
    and_then (needed 3 s.state) (λ state.
    and_then (needed 4 s.tgid) (λ tgid.
    and_then (optional 5 s.ngid) (λ ngid.
    and_then (needed 6 s.pid) (λ pid.
    and_then (needed 7 s.ppid) (λ ppid.
    and_then (needed 8 s.tracerpid) (λ tracerpid.
    Ok (record status { name = name; umask = umask; state = state; tgid = tgid; ngid = ngid; pid = pid; ppid = ppid; tracerpid = tracerpid })))))))))

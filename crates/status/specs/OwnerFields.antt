-- The owner of a process: a slot for each, and the order in which they are judged. What each line holds is after proc(5).
use Rattle.std.specs.Prelude.{List, Ok, Result}
use Rattle.sources.specs.declared.fault.Fault.{Fault}
use Rattle.sources.specs.Faults.{and_then}
use Rattle.fields.specs.Slots.{Entry, last_of, needed, at_field}
use Rattle.status.specs.Whole.{whole_four}
use Rattle.status.specs.declared.owner.OwnerSlots.{OwnerSlots}
use Rattle.status.specs.declared.record.Status.{Status}

-- After entries, with the last first: each slot by how its value is read and by the number of its field.
abbrev pub fill_owner : List Entry → OwnerSlots → OwnerSlots
fill_owner es s = record {
  uid = last_of whole_four 9 es s.uid;
  gid = last_of whole_four 13 es s.gid;
}

-- The record so far with these fields, judged in order.
abbrev pub judged_owner : OwnerSlots → Status → Result Status Fault
judged_owner s status =
    and_then (needed 9 s.uid) (λ uid.
    and_then (at_field 9 uid.real) (λ ruid.
    and_then (at_field 10 uid.effective) (λ euid.
    and_then (at_field 11 uid.saved) (λ suid.
    and_then (at_field 12 uid.filesystem) (λ fuid.
    and_then (needed 13 s.gid) (λ gid.
    and_then (at_field 13 gid.real) (λ rgid.
    and_then (at_field 14 gid.effective) (λ egid.
    and_then (at_field 15 gid.saved) (λ sgid.
    and_then (at_field 16 gid.filesystem) (λ fgid.
    Ok (record status { ruid = ruid; euid = euid; suid = suid; fuid = fuid; rgid = rgid; egid = egid; sgid = sgid; fgid = fgid })))))))))))

-- Descriptors, groups and name spaces: a slot for each, and the order in which they are judged. What each line holds is after proc(5).
use Rattle.std.specs.Prelude.{List, Ok, Result}
use Rattle.sources.specs.declared.fault.Fault.{Fault}
use Rattle.sources.specs.declared.number.Radix.TheVariants.{Decimal}
use Rattle.sources.specs.Faults.{and_then}
use Rattle.fields.specs.Slots.{Entry, last_of, needed, optional}
use Rattle.fields.specs.Values.{figure_of, groups_of, spaces_of}
use Rattle.status.specs.declared.spaces.SpacesSlots.{SpacesSlots}
use Rattle.status.specs.declared.record.Status.{Status}

-- After entries, with the last first: each slot by how its value is read and by the number of its field.
abbrev pub fill_spaces : List Entry → SpacesSlots → SpacesSlots
fill_spaces es s = record {
  fdsize = last_of (figure_of 32 Decimal) 17 es s.fdsize;
  groups = last_of groups_of 18 es s.groups;
  nstgid = last_of spaces_of 19 es s.nstgid;
  nspid = last_of spaces_of 20 es s.nspid;
  nspgid = last_of spaces_of 21 es s.nspgid;
  nssid = last_of spaces_of 22 es s.nssid;
}

-- The record so far with these fields, judged in order.
abbrev pub judged_spaces : SpacesSlots → Status → Result Status Fault
judged_spaces s status =
    and_then (needed 17 s.fdsize) (λ fdsize.
    and_then (needed 18 s.groups) (λ groups.
    and_then (optional 19 s.nstgid) (λ nstgid.
    and_then (optional 20 s.nspid) (λ nspid.
    and_then (optional 21 s.nspgid) (λ nspgid.
    and_then (optional 22 s.nssid) (λ nssid.
    Ok (record status { fdsize = fdsize; groups = groups; nstgid = nstgid; nspid = nspid; nspgid = nspgid; nssid = nssid })))))))

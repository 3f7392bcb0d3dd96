-- Privileges, processors, memory nodes, switches and flags: a slot for each, and the order in which they are judged. What each line holds is after proc(5), and of `THP_enabled` after the kernel's proc.rst.
use Rattle.std.specs.Prelude.{List, Ok, Result}
use Rattle.sources.specs.declared.fault.Fault.{Fault}
use Rattle.sources.specs.declared.number.Radix.TheVariants.{Decimal}
use Rattle.sources.specs.Faults.{and_then}
use Rattle.fields.specs.Slots.{Entry, last_of, lenient, optional}
use Rattle.fields.specs.Values.{figure_of, mask_of, ranges_of}
use Rattle.status.specs.Whole.{whole_flag, whole_text}
use Rattle.status.specs.declared.others.OthersSlots.{OthersSlots}
use Rattle.status.specs.declared.record.Status.{Status}

-- After entries, with the last first: each slot by how its value is read and by the number of its field.
abbrev pub fill_others : List Entry → OthersSlots → OthersSlots
fill_others es s = record {
  nonewprivs = last_of (figure_of 64 Decimal) 51 es s.nonewprivs;
  seccomp = last_of (figure_of 32 Decimal) 52 es s.seccomp;
  speculation_store_bypass = last_of whole_text 53 es s.speculation_store_bypass;
  cpus_allowed = last_of mask_of 54 es s.cpus_allowed;
  cpus_allowed_list = last_of ranges_of 55 es s.cpus_allowed_list;
  mems_allowed = last_of mask_of 56 es s.mems_allowed;
  mems_allowed_list = last_of ranges_of 57 es s.mems_allowed_list;
  voluntary_ctxt_switches = last_of (figure_of 64 Decimal) 58 es s.voluntary_ctxt_switches;
  nonvoluntary_ctxt_switches = last_of (figure_of 64 Decimal) 59 es s.nonvoluntary_ctxt_switches;
  core_dumping = last_of whole_flag 60 es s.core_dumping;
  thp_enabled = last_of whole_flag 61 es s.thp_enabled;
}

-- The record so far with these fields, judged in order.
abbrev pub judged_others : OthersSlots → Status → Result Status Fault
judged_others s status =
    and_then (optional 51 s.nonewprivs) (λ nonewprivs.
    and_then (optional 52 s.seccomp) (λ seccomp.
    and_then (optional 53 s.speculation_store_bypass) (λ speculation-store-bypass.
    and_then (optional 54 s.cpus_allowed) (λ cpus-allowed.
    and_then (lenient 55 s.cpus_allowed_list) (λ cpus-allowed-list.
    and_then (optional 56 s.mems_allowed) (λ mems-allowed.
    and_then (lenient 57 s.mems_allowed_list) (λ mems-allowed-list.
    and_then (optional 58 s.voluntary_ctxt_switches) (λ voluntary-ctxt-switches.
    and_then (optional 59 s.nonvoluntary_ctxt_switches) (λ nonvoluntary-ctxt-switches.
    and_then (optional 60 s.core_dumping) (λ core-dumping.
    and_then (optional 61 s.thp_enabled) (λ thp-enabled.
    Ok (record status { nonewprivs = nonewprivs; seccomp = seccomp; speculation_store_bypass = speculation-store-bypass; cpus_allowed = cpus-allowed; cpus_allowed_list = cpus-allowed-list; mems_allowed = mems-allowed; mems_allowed_list = mems-allowed-list; voluntary_ctxt_switches = voluntary-ctxt-switches; nonvoluntary_ctxt_switches = nonvoluntary-ctxt-switches; core_dumping = core-dumping; thp_enabled = thp-enabled }))))))))))))

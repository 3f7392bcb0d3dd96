-- Figures of memory, in kB: a slot for each, and the order in which they are judged. What each line holds is after proc(5).
use Rattle.std.specs.Prelude.{List, Ok, Result}
use Rattle.sources.specs.declared.fault.Fault.{Fault}
use Rattle.sources.specs.Faults.{and_then}
use Rattle.fields.specs.Slots.{Entry, last_of, optional}
use Rattle.fields.specs.Values.{kilobytes_of}
use Rattle.status.specs.declared.memory.MemorySlots.{MemorySlots}
use Rattle.status.specs.declared.record.Status.{Status}

-- After entries, with the last first: each slot by how its value is read and by the number of its field.
abbrev pub fill_memory : List Entry → MemorySlots → MemorySlots
fill_memory es s = record {
  vmpeak = last_of kilobytes_of 23 es s.vmpeak;
  vmsize = last_of kilobytes_of 24 es s.vmsize;
  vmlck = last_of kilobytes_of 25 es s.vmlck;
  vmpin = last_of kilobytes_of 26 es s.vmpin;
  vmhwm = last_of kilobytes_of 27 es s.vmhwm;
  vmrss = last_of kilobytes_of 28 es s.vmrss;
  rssanon = last_of kilobytes_of 29 es s.rssanon;
  rssfile = last_of kilobytes_of 30 es s.rssfile;
  rssshmem = last_of kilobytes_of 31 es s.rssshmem;
  vmdata = last_of kilobytes_of 32 es s.vmdata;
  vmstk = last_of kilobytes_of 33 es s.vmstk;
  vmexe = last_of kilobytes_of 34 es s.vmexe;
  vmlib = last_of kilobytes_of 35 es s.vmlib;
  vmpte = last_of kilobytes_of 36 es s.vmpte;
  vmswap = last_of kilobytes_of 37 es s.vmswap;
  hugetlbpages = last_of kilobytes_of 38 es s.hugetlbpages;
}

-- The record so far with these fields, judged in order.
abbrev pub judged_memory : MemorySlots → Status → Result Status Fault
judged_memory s status =
    and_then (optional 23 s.vmpeak) (λ vmpeak.
    and_then (optional 24 s.vmsize) (λ vmsize.
    and_then (optional 25 s.vmlck) (λ vmlck.
    and_then (optional 26 s.vmpin) (λ vmpin.
    and_then (optional 27 s.vmhwm) (λ vmhwm.
    and_then (optional 28 s.vmrss) (λ vmrss.
    and_then (optional 29 s.rssanon) (λ rssanon.
    and_then (optional 30 s.rssfile) (λ rssfile.
    and_then (optional 31 s.rssshmem) (λ rssshmem.
    and_then (optional 32 s.vmdata) (λ vmdata.
    and_then (optional 33 s.vmstk) (λ vmstk.
    and_then (optional 34 s.vmexe) (λ vmexe.
    and_then (optional 35 s.vmlib) (λ vmlib.
    and_then (optional 36 s.vmpte) (λ vmpte.
    and_then (optional 37 s.vmswap) (λ vmswap.
    and_then (optional 38 s.hugetlbpages) (λ hugetlbpages.
    Ok (record status { vmpeak = vmpeak; vmsize = vmsize; vmlck = vmlck; vmpin = vmpin; vmhwm = vmhwm; vmrss = vmrss; rssanon = rssanon; rssfile = rssfile; rssshmem = rssshmem; vmdata = vmdata; vmstk = vmstk; vmexe = vmexe; vmlib = vmlib; vmpte = vmpte; vmswap = vmswap; hugetlbpages = hugetlbpages })))))))))))))))))

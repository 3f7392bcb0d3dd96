-- The slots of a status record, the record that they are judged to be, and a blank one.
use Rattle.std.specs.Prelude.{◌≡◌, List, [], pos, None, Result}
use Rattle.sources.specs.declared.fault.Fault.{Fault}
use Rattle.sources.specs.Faults.{and_then}
use Rattle.fields.specs.Counted.{counted, kept_text}
use Rattle.fields.specs.Slots.{Entry}
use Rattle.status.specs.declared.record.StatusSlots.{StatusSlots}
use Rattle.status.specs.declared.record.Status.{Status}
use Rattle.status.specs.IdsFields.{fill_ids, judged_ids}
use Rattle.status.specs.OwnerFields.{fill_owner, judged_owner}
use Rattle.status.specs.SpacesFields.{fill_spaces, judged_spaces}
use Rattle.status.specs.MemoryFields.{fill_memory, judged_memory}
use Rattle.status.specs.SignalsFields.{fill_signals, judged_signals}
use Rattle.status.specs.OthersFields.{fill_others, judged_others}

-- No line yet.
abbrev pub fresh_slots : StatusSlots
fresh_slots = record {
  ids = record { name = None; umask = None; state = None; tgid = None; ngid = None; pid = None; ppid = None; tracerpid = None };
  owner = record { uid = None; gid = None };
  spaces = record { fdsize = None; groups = None; nstgid = None; nspid = None; nspgid = None; nssid = None };
  memory = record { vmpeak = None; vmsize = None; vmlck = None; vmpin = None; vmhwm = None; vmrss = None; rssanon = None; rssfile = None; rssshmem = None; vmdata = None; vmstk = None; vmexe = None; vmlib = None; vmpte = None; vmswap = None; hugetlbpages = None };
  signals = record { threads = None; sigq = None; sigpnd = None; shdpnd = None; sigblk = None; sigign = None; sigcgt = None; capinh = None; capprm = None; capeff = None; capbnd = None; capamb = None };
  others = record { nonewprivs = None; seccomp = None; speculation_store_bypass = None; cpus_allowed = None; cpus_allowed_list = None; mems_allowed = None; mems_allowed_list = None; voluntary_ctxt_switches = None; nonvoluntary_ctxt_switches = None; core_dumping = None; thp_enabled = None };
}

-- After entries, with the last first.
abbrev pub fill_slots : List Entry → StatusSlots → StatusSlots
fill_slots es s = record {
  ids = fill_ids es s.ids;
  owner = fill_owner es s.owner;
  spaces = fill_spaces es s.spaces;
  memory = fill_memory es s.memory;
  signals = fill_signals es s.signals;
  others = fill_others es s.others;
}

-- What a record holds after a refusal.
abbrev pub blank_status : Status
blank_status = record {
  name = kept_text [];
  umask = None;
  state = kept_text [];
  tgid = pos 0;
  ngid = None;
  pid = pos 0;
  ppid = pos 0;
  tracerpid = pos 0;
  ruid = 0;
  euid = 0;
  suid = 0;
  fuid = 0;
  rgid = 0;
  egid = 0;
  sgid = 0;
  fgid = 0;
  fdsize = 0;
  groups = counted 128 0 [];
  nstgid = None;
  nspid = None;
  nspgid = None;
  nssid = None;
  vmpeak = None;
  vmsize = None;
  vmlck = None;
  vmpin = None;
  vmhwm = None;
  vmrss = None;
  rssanon = None;
  rssfile = None;
  rssshmem = None;
  vmdata = None;
  vmstk = None;
  vmexe = None;
  vmlib = None;
  vmpte = None;
  vmswap = None;
  hugetlbpages = None;
  threads = 0;
  sigq = (0, 0);
  sigpnd = 0;
  shdpnd = 0;
  sigblk = 0;
  sigign = 0;
  sigcgt = 0;
  capinh = 0;
  capprm = 0;
  capeff = 0;
  capbnd = None;
  capamb = None;
  nonewprivs = None;
  seccomp = None;
  speculation_store_bypass = None;
  cpus_allowed = None;
  cpus_allowed_list = None;
  mems_allowed = None;
  mems_allowed_list = None;
  voluntary_ctxt_switches = None;
  nonvoluntary_ctxt_switches = None;
  core_dumping = None;
  thp_enabled = None;
}

-- The fields, judged in order, from 1 to 61, and set in a record.
abbrev pub judged_into : Status → StatusSlots → Result Status Fault
judged_into status s =
    and_then (judged_ids s.ids status) (λ status.
    and_then (judged_owner s.owner status) (λ status.
    and_then (judged_spaces s.spaces status) (λ status.
    and_then (judged_memory s.memory status) (λ status.
    and_then (judged_signals s.signals status) (λ status.
    judged_others s.others status)))))

abbrev pub judged_slots : StatusSlots → Result Status Fault
judged_slots s = judged_into blank_status s

-- Every field is set: what is judged is the same, whatever the record held before.
abbrev pub SetsEveryField : Type 0
SetsEveryField = (s : StatusSlots) (a b : Status) → judged_into a s ≡ judged_into b s

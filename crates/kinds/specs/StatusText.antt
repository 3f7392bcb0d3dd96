-- The reading of a status text into a record, and what it comes to.
use Rattle.std.specs.Prelude.{Ok, Result}
use Rattle.sources.specs.declared.fault.Fault.{Fault}
use Rattle.sources.specs.declared.fault.Refusal.{Refusal}
use Rattle.sources.specs.declared.kind.Break.TheVariants.{Refuses}
use Rattle.sources.specs.Lines.{reading}
use Rattle.sources.specs.Rules.{Rules}
use Rattle.sources.specs.Texts.{Text}
use Rattle.fields.specs.LastLines.{into, ToldByLastLines, SameRecordInEditions}
use Rattle.fields.specs.Slotted.{slot_rules, has_begun}
use Rattle.status.specs.declared.record.StatusSlots.{StatusSlots}
use Rattle.status.specs.declared.record.Status.{Status}
use Rattle.status.specs.Line.{entry_of, is_foreign}
use Rattle.status.specs.Record.{fill_slots, judged_slots, fresh_slots, blank_status}

-- A break refuses a status text.
abbrev pub status_rules : Rules (Result StatusSlots Fault) Status
status_rules = slot_rules entry_of fill_slots judged_slots Refuses

-- Before any line.
abbrev pub fresh : Result StatusSlots Fault
fresh = Ok fresh_slots

-- The answer, the record and the text left.
abbrev pub status_of : Text → Result (Unit {0}) Refusal × Status × Text
status_of t = into blank_status (reading status_rules fresh t)

-- Each field is the reading of the last line of its name, judged in the order of the fields.
abbrev pub StatusByLastLines : Text → Result (Unit {0}) Refusal → Status → Type 0
StatusByLastLines t r v = ToldByLastLines entry_of fill_slots judged_slots fresh_slots blank_status Refuses t r v

-- A newer edition reads the same.
abbrev pub StatusInEditions : Text → Result (Unit {0}) Refusal → Status → Type 0
StatusInEditions t r v = SameRecordInEditions status_rules has_begun is_foreign fresh blank_status t r v

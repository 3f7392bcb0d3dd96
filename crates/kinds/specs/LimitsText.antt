-- The reading of a limits text into a record, and what it comes to.
use Rattle.std.specs.Prelude.{Ok, Result}
use Rattle.sources.specs.declared.fault.Fault.{Fault}
use Rattle.sources.specs.declared.fault.Refusal.{Refusal}
use Rattle.sources.specs.declared.kind.Break.TheVariants.{Ends}
use Rattle.sources.specs.Lines.{reading}
use Rattle.sources.specs.Rules.{Rules}
use Rattle.sources.specs.Texts.{Text}
use Rattle.fields.specs.LastLines.{into, ToldByLastLines, SameRecordInEditions}
use Rattle.fields.specs.Slotted.{slot_rules, has_begun}
use Rattle.limits.specs.declared.slots.LimitsSlots.{LimitsSlots}
use Rattle.limits.specs.declared.record.Limits.{Limits}
use Rattle.limits.specs.Entries.{entry_of, is_foreign}
use Rattle.limits.specs.Record.{fill_limits, judged_limits, fresh_slots, blank_limits}

-- A break is the end of a limits text.
abbrev pub limits_rules : Rules (Result LimitsSlots Fault) Limits
limits_rules = slot_rules entry_of fill_limits judged_limits Ends

-- The answer, the record and the text left.
abbrev pub limits_of : Text → Result (Unit {0}) Refusal × Limits × Text
limits_of t = into blank_limits (reading limits_rules (Ok fresh_slots) t)

-- Each limit is the reading of the last line of its name, judged in the order of the fields.
abbrev pub LimitsByLastLines : Text → Result (Unit {0}) Refusal → Limits → Type 0
LimitsByLastLines t r v = ToldByLastLines entry_of fill_limits judged_limits fresh_slots blank_limits Ends t r v

-- A newer edition reads the same.
abbrev pub LimitsInEditions : Text → Result (Unit {0}) Refusal → Limits → Type 0
LimitsInEditions t r v = SameRecordInEditions limits_rules has_begun is_foreign (Ok fresh_slots) blank_limits t r v

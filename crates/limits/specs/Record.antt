-- The record of limits and its slots: what an entry sets, what a line leaves, and how closing judges them.
use Rattle.std.specs.Prelude.{ℕ, zero, suc, ◌+◌, ◌-◌, List, [], ◌∷◌, map, None, Ok, Result, replicate, slice_index_or}
use Rattle.sources.specs.declared.fault.Fault.{Fault}
use Rattle.sources.specs.Faults.{and_then}
use Rattle.std.specs.List.{enumerate_from}
use Rattle.fields.specs.Slots.{Slot, last_of, needed}
use Rattle.limits.specs.declared.limit.LimitValue.TheVariants.{Value}
use Rattle.limits.specs.declared.limit.Limit.{Limit}
use Rattle.limits.specs.declared.record.Limits.{Limits}
use Rattle.limits.specs.declared.slots.LimitsSlots.{LimitsSlots}
use Rattle.limits.specs.Entries.{Entry}
use Rattle.limits.specs.Values.{limit_of}

-- No more than 0.
abbrev pub nothing : Limit
nothing = record { soft_limit = Value 0; hard_limit = Value 0 }

-- The limit of the field with a number, of limits in the order of the fields.
abbrev pub limit : ℕ → List Limit → Limit
limit number ls = slice_index_or ls (number - 1) nothing

-- The record of these, each field with its number.
abbrev pub record_of : List Limit → Limits
record_of ls = record {
  max_cpu_time = limit 1 ls;
  max_file_size = limit 2 ls;
  max_data_size = limit 3 ls;
  max_stack_size = limit 4 ls;
  max_core_file_size = limit 5 ls;
  max_resident_set = limit 6 ls;
  max_processes = limit 7 ls;
  max_open_files = limit 8 ls;
  max_locked_memory = limit 9 ls;
  max_address_space = limit 10 ls;
  max_file_locks = limit 11 ls;
  max_pending_signals = limit 12 ls;
  max_msgqueue_size = limit 13 ls;
  max_nice_priority = limit 14 ls;
  max_realtime_priority = limit 15 ls;
  max_realtime_timeout = limit 16 ls;
}

-- A record in which every limit is 0.
abbrev pub blank_limits : Limits
blank_limits = record_of (replicate 16 nothing)

-- Slots before any line.
abbrev pub fresh_slots : LimitsSlots
fresh_slots = record { slots = replicate 16 None }

-- The slots, numbered from 1 on, after entries with the last first.
abbrev pub fill_limits : List Entry → LimitsSlots → LimitsSlots
fill_limits es s = record { slots = map (λ p. last_of (λ (words : List ℕ × List ℕ). limit_of words.0 words.1) p.0 es p.1) (enumerate_from 1 s.slots) }

-- The slot of the field with a number.
abbrev pub slot : ℕ → LimitsSlots → Slot Limit
slot number s = slice_index_or s.slots (number - 1) None

-- The limits of n fields, numbered from `number` on, judged in order: each has to be there, and the first that is not as it must be is the one that is told.
abbrev pub judged_from : ℕ → ℕ → LimitsSlots → Result (List Limit) Fault
judged_from number zero s = Ok []
judged_from number (suc n) s =
    and_then (needed number (slot number s)) (λ l. and_then (judged_from (number + 1) n s) (λ ls. Ok (l ∷ ls)))

-- Closing.
abbrev pub judged_limits : LimitsSlots → Result Limits Fault
judged_limits s = and_then (judged_from 1 16 s) (λ ls. Ok (record_of ls))

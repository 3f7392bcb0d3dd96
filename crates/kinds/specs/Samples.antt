-- Lines and what the defined readings make of them.
use Rattle.std.specs.Prelude.{◌≡◌, ℕ, false, List, [], ◌∷◌, ◌++◌, negsuc, Some, Ok, Err, codes, Option, Result}
use Rattle.sources.specs.Texts.{text}
use Rattle.sources.specs.declared.fault.Fault.{Fault}
use Rattle.sources.specs.declared.reason.Reason.TheVariants.{Orphan, Figure, Torn, Scale}
use Rattle.sources.specs.Faults.{fault, refused}
use Rattle.sources.specs.Editions.{Edition}
use Rattle.sources.specs.Lines.{lines_of}
use Rattle.fields.specs.Counted.{kept_text}
use Rattle.fields.specs.Slots.{kept, after_entry}
use Rattle.status.specs.declared.record.StatusSlots.{StatusSlots}
use Rattle.status.specs.Line.{entry_of as entry_of_status}
use Rattle.status.specs.Record.{fresh_slots, fill_slots}
use Rattle.kinds.specs.Attribute.{Entry, entry_of}
use Rattle.kinds.specs.Measure.{fresh, has_begun, is_foreign}
use Rattle.kinds.specs.Measured.{measured}
use Rattle.kinds.specs.Path.{path, vsys, path_of}

-- What an attribute's line sets a key to.
abbrev pub sets : List ℕ → ℕ → Result (Option Entry) Fault
sets key amount = Ok (Some (record { key = key; amount = amount }))

-- Lines, each ended by byte 10.
abbrev pub lined : List (List ℕ) → List ℕ
lined [] = []
lined (l ∷ ls) = l ++ (10 ∷ lined ls)

abbrev pub two_mappings : List ℕ
two_mappings =
    lined (codes "1000-3000 r--p 00000000 08:01 77 /a" ∷ codes "Rss: 8 kB" ∷ codes "Pss: 4 kB" ∷ codes "3000-4000 rw-p 00000000 00:00 0 " ∷ codes "Pss: 3 kB" ∷ codes "SwapPss: 2 kB" ∷ [])

-- A newer edition of it: two lines more, one of them last.
abbrev pub newer : List ℕ
newer =
    lined (codes "1000-3000 r--p 00000000 08:01 77 /a" ∷ codes "Size: 8 kB" ∷ codes "Rss: 8 kB" ∷ codes "Pss: 4 kB" ∷ codes "3000-4000 rw-p 00000000 00:00 0 " ∷ codes "Pss: 3 kB" ∷ codes "SwapPss: 2 kB" ∷ codes "VmFlags: rd wr" ∷ [])

-- The slots of a status that has one line.
abbrev pub said : List ℕ → StatusSlots
said line = kept fresh_slots (after_entry fill_slots fresh_slots (entry_of_status line))

abbrev pub Samples : Type 0
Samples =
    (entry_of (codes "Rss: 4") ≡ sets (codes "Rss") 4)
    × (entry_of (codes "Rss: 4 kB") ≡ sets (codes "Rss") 4096)
    × (entry_of (codes "Pss:: 4 kB") ≡ sets (codes "Pss") 4096)
    × (entry_of (codes "Size: 18014398509481983 kB") ≡ sets (codes "Size") 18446744073709550592)
    × (entry_of (codes "Size: 18014398509481984 kB") ≡ Err (fault Scale))
    × (measured (text (codes "A000-B000 r--p 00000000 08:01 77 /a") false) ≡ Err (refused Orphan 1))
    × (path_of (codes "/SYSVfffffffe") ≡ Ok (vsys (negsuc 1)))
    × (path_of (codes "/SYSVfffffff") ≡ Ok (path (codes "/SYSVfffffff")))
    × (path_of (codes "[stack:12") ≡ Err (fault Torn))
    × (measured (text two_mappings false) ≡ Ok (record { mappings = 2; totals = record { rss = 8192; pss = 7168; swap_pss = 2048 } }))
    × Edition is_foreign (has_begun fresh) (lines_of two_mappings) (lines_of newer)
    × ((said (codes "Name: a:b")).ids.name ≡ Some (Ok (kept_text (codes "a:b"))))
    × ((said (codes "State: a:b")).ids.state ≡ Some (Ok (kept_text (codes "a"))))
    × ((said (codes "VmRSS: 1 kB")).memory.vmrss ≡ Some (Ok 1))
    × ((said (codes "VmRSS: 1 kB2")).memory.vmrss ≡ Some (Err (fault Figure)))

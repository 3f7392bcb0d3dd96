-- Lines and what the definitions make of them.
use Rattle.std.specs.Prelude.{◌≡◌, ℕ, true, false, List, [], ◌∷◌, ◌++◌, Some, None, Ok, Err, codes, Option, Result}
use Rattle.sources.specs.declared.fault.Fault.{Fault}
use Rattle.sources.specs.declared.reason.Reason.TheVariants.{Absent, Figure, Short}
use Rattle.sources.specs.Faults.{fault}
use Rattle.limits.specs.declared.limit.LimitValue.TheVariants.{Unlimited, Value}
use Rattle.limits.specs.Entries.{Entry, entry_of, is_foreign}
use Rattle.limits.specs.Record.{fresh_slots, judged_limits, fill_limits}
use Rattle.limits.specs.Values.{limit_of}

-- What a line says of the field k.
abbrev pub says : ℕ → List ℕ → List ℕ → Result (Option Entry) Fault
says k soft hard = Ok (Some (k, (soft, hard)))

abbrev pub Samples : Type 0
Samples =
    (entry_of (codes "Max cpu time              unlimited            unlimited            seconds   " ++ (10 ∷ [])) ≡ says 1 (codes "unlimited") (codes "unlimited"))
    × (entry_of (codes "Max core file size 0 unlimited bytes") ≡ says 5 (codes "0") (codes "unlimited"))
    × (entry_of (codes " Max  processes 1 2 processes") ≡ says 7 (codes "1") (codes "2"))
    × (entry_of (codes "Max nice priority         0                    20                   " ++ (10 ∷ [])) ≡ says 14 (codes "0") (codes "20"))
    × (entry_of (codes "Max realtime timeout 1 2 us") ≡ says 16 (codes "1") (codes "2"))
    × (entry_of (codes "Limit Soft Limit Hard Limit Units") ≡ Ok None)
    × (entry_of (codes "Max processes 1 2") ≡ Ok None)
    × (entry_of (codes "Max nice priority 0 20 steps") ≡ Ok None)
    × (entry_of (codes "Max files") ≡ Err (fault Short))
    × (is_foreign (codes "Max threads 1 2 threads") ≡ true)
    × (is_foreign (codes "Max files") ≡ false)
    × (limit_of (codes "18446744073709551615") (codes "unlimited") ≡ Ok (record { soft_limit = Value 18446744073709551615; hard_limit = Unlimited }))
    × (limit_of (codes "18446744073709551616") (codes "x") ≡ Err (fault Figure))
    × (limit_of (codes "Unlimited") (codes "0") ≡ Err (fault Figure))
    × (judged_limits fresh_slots ≡ Err (record { reason = Absent; field = 1 }))
    × (judged_limits (fill_limits ((2, (codes "1", codes "-1")) ∷ (1, (codes "1", codes "2")) ∷ []) fresh_slots) ≡ Err (record { reason = Figure; field = 2 }))

-- Kinds that fill the slots of a record: what they mean is the slots, or the fault of a line that was refused. Their rules, and the laws that these keep.
use Rattle.std.specs.Prelude.{◌≡◌, ℕ, Bool, true, List, None, Ok, Err, Option, Result, refl}
use Rattle.std.proofs.Common.{ap}
use Rattle.std.specs.Result.{result_err}
use Rattle.sources.specs.declared.fault.Fault.{Fault}
use Rattle.sources.specs.declared.kind.Break.{Break}
use Rattle.sources.specs.Faults.{and_then}
use Rattle.sources.specs.Rules.{Rules, RefusalStays, ForeignIsAside, BeginsWithALine}
use Rattle.fields.specs.Slots.{after_entry}

-- Such a kind has always begun.
abbrev pub has_begun : {S : Type 0} → Result S Fault → Bool
has_begun {S} m = true

-- The rules: what a line says goes to the slots, and closing judges them; after a fault neither does. The law of foreign lines follows from theirs, that they say nothing.
module _ {E S R : Type 0} (entry : List ℕ → Result (Option E) Fault) (fill : List E → S → S) (judged : S → Result R Fault) (on_break : Break) where
  abbrev pub slot_rules : Rules (Result S Fault) R
  slot_rules = record { next = λ m line. and_then m (λ s. after_entry fill s (entry line)); refused = result_err; closed = λ m. and_then m judged; on_break = on_break }

  pub refusal_stays : RefusalStays slot_rules
  refusal_stays (Ok s) f e = cc
  refusal_stays (Err g) f e = (λ line. e, cc)

  pub foreign_aside : (foreign : List ℕ → Bool) → ((line : List ℕ) → foreign line ≡ true → entry line ≡ Ok None) → ForeignIsAside slot_rules has_begun foreign
  foreign_aside foreign aside (Ok s) line b r f = ap (after_entry fill s) (aside line f)
  foreign_aside foreign aside (Err g) line b r f = refl

  pub begins_with_any : BeginsWithALine slot_rules has_begun
  begins_with_any m line r = refl

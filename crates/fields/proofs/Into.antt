-- The laws of a reading into a record, of an answer and a record that are the reading's.
use Rattle.std.proofs.Common.{◌≡◌, ℕ, Bool, true, List, [], ◌∷◌, None, Ok, Err, Option, Result, sym, refl, ap, ◌∙◌, subst}
use Rattle.sources.specs.declared.fault.Fault.{Fault}
use Rattle.sources.specs.declared.fault.Refusal.{Refusal}
use Rattle.sources.specs.declared.kind.Break.{Break}
use Rattle.sources.specs.Editions.{Same}
use Rattle.sources.specs.Lines.{reading}
use Rattle.sources.specs.Texts.{Text, text}
use Rattle.sources.specs.Rules.{Rules}
use Rattle.sources.proofs.Newer.{newer}
use Rattle.fields.specs.Slotted.{slot_rules, has_begun, foreign_aside, begins_with_any}
use Rattle.fields.specs.LastLines.{told, left_in_record, into, ToldByLastLines, SameRecordInEditions}
use Rattle.fields.proofs.Courses.{orderly-answered, accepted_orderly}

same-told : {R : Type 0} (blank : R) (x y : Result R Refusal) → Same x y → Same (told x) (told y) × (left_in_record blank x ≡ left_in_record blank y)
same-told {R} blank (Ok v) (Ok w) e = (refl, e)
same-told {R} blank (Ok v) (Err g) e = absurd e
same-told {R} blank (Err f) (Ok w) e = absurd e
same-told {R} blank (Err f) (Err g) e = (e, refl)

told-ok : {R A : Type 0} (x : Result R Refusal) → told x ≡ Ok tt → ((v : R) → x ≡ Ok v → A) → A
told-ok {R} {A} (Ok v) e k = k v refl
told-ok {R} {A} (Err f) e k = cc

module _ {E S R : Type 0} (entry : List ℕ → Result (Option E) Fault) (fill : List E → S → S) (judges : S → Result R Fault) (fresh : S) (blank : R) (on_break : Break)
    (none : fill [] fresh ≡ fresh) (more : (e : E) (es : List E) → fill (e ∷ []) (fill es fresh) ≡ fill (e ∷ es) fresh)
    (foreign : List ℕ → Bool) (aside : (line : List ℕ) → foreign line ≡ true → entry line ≡ Ok None) where
  abbrev rules : Rules (Result S Fault) R
  rules = slot_rules entry fill judges on_break

  abbrev result : Text → Result R Refusal
  result t = (reading rules (Ok fresh) t).0

  from_none : (t : Text) → (reading rules (Ok (fill [] fresh)) t).0 ≡ result t
  from_none t = ap (λ (s : S). (reading rules (Ok s) t).0) none

  by_last_lines : (t : Text) → ToldByLastLines entry fill judges fresh blank on_break t (told (result t)) (left_in_record blank (result t))
  by_last_lines t = (
    λ o. let e = sym (from_none t) ∙ orderly-answered entry fill judges fresh on_break more t o in record { answer = ap told e; holds = ap (left_in_record blank) e },
    λ h. told-ok (result t) h (λ v e. accepted_orderly entry fill judges fresh on_break more t v (from_none t ∙ e)),
  )

  same-editions : (t : Text) → SameRecordInEditions rules has_begun foreign (Ok fresh) blank t (told (result t)) (left_in_record blank (result t))
  same-editions t bytes' d h =
      same-told blank (result t) (result (text bytes' t.broken)) (newer rules has_begun foreign (foreign_aside entry fill judges on_break foreign aside) (begins_with_any entry fill judges on_break) (Ok fresh) t bytes' refl d h)

  -- what is shown of an answer, a record and the text left
  pub record Shown (t : Text) (o : Result (Unit {0}) Refusal × R × Text) : Type 0 where
    pub defined : o ≡ into blank (reading rules (Ok fresh) t)
    pub lines : ToldByLastLines entry fill judges fresh blank on_break t o.0 o.1
    pub editions : SameRecordInEditions rules has_begun foreign (Ok fresh) blank t o.0 o.1

  -- It holds of what is defined.
  pub shown : (t : Text) {o : Result (Unit {0}) Refusal × R × Text} → o ≡ into blank (reading rules (Ok fresh) t) → Shown t o
  shown t q = subst (Shown t) (sym q) (record { defined = refl; lines = by_last_lines t; editions = same-editions t })

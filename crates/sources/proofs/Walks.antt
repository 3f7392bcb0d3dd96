-- What an accepted reading says of each line, for a kind that a break refuses.
use Rattle.std.proofs.Common.{◌≡◌, ℕ, ◌+◌, ◌≤◌, Bool, true, false, ltb, List, length, Some, None, Ok, Err, Option, Result, sym, refl, ap, ◌∙◌, inl, inr, arith}
use Rattle.std.proofs.lemmas.Bool.{cases_Bool, ltb-false, le-ltb}
use Rattle.sources.specs.declared.fault.Fault.{Fault}
use Rattle.sources.specs.declared.fault.Refusal.{Refusal}
use Rattle.sources.specs.declared.kind.Break.{Break}
use Rattle.sources.specs.declared.kind.Break.TheVariants.{Refuses}
use Rattle.sources.specs.Lines.{long, lost, judged, Outcome, broke, on_fault, closing}
use Rattle.sources.specs.Rules.{Rules}
use Rattle.sources.specs.Utf8.{is_utf8}
use Rattle.sources.proofs.Steps.{judged-long, judged-past, judged-cut, judged-text, judged-kind}

-- what a course answers, once the kind is closed
abbrev pub ends : {M C : Type 0} → Rules M C → Outcome M → Result C Refusal
ends {M} {C} R o = closing R o.0 o.1

pub no : {C A : Type 0} (f : Refusal) (c : C) → ◌≡◌ {A = Result C Refusal} (Err f) (Ok c) → A
no {C} {A} f c e = let z : ◌≡◌ {A = ℕ} 0 1 = cc in absurd (omega arith)

pub no_broke : {M C A : Type 0} (R : Rules M C) (k : ℕ) (m : M) (left : List ℕ) (c : C) → R.on_break ≡ Refuses → ends R (broke R.on_break k, m, left) ≡ Ok c → A
no_broke {M} {C} {A} R k m left c st e = no _ c (sym (ap (λ (b : Break). ends R (broke b k, m, left)) st) ∙ e)

-- a line was taken and accepted
pub record Passed {M C : Type 0} (room most : ℕ) (R : Rules M C) (broken : Bool) (s : ℕ) (m : M) (l : List ℕ) : Type 0 where
  pub short : long room l ≡ false
  pub fits : s + length l ≤ most
  pub stands : lost broken l ≡ false
  pub text : is_utf8 l ≡ true
  pub fine : R.refused (R.next m l) ≡ None

fault-ok : {M C : Type 0} (R : Rules M C) (o : Option Fault) (line : ℕ) (m : M) (left : List ℕ) (go : Outcome M) (c : C) → ends R (on_fault o line m left go) ≡ Ok c → (o ≡ None) × (ends R go ≡ Ok c)
fault-ok {M} {C} R None line m left go c e = (refl, e)
fault-ok {M} {C} R (Some f) line m left go c e = no _ c e

pub judged-ok : {M C : Type 0} (room most : ℕ) (R : Rules M C) (broken : Bool) (k s : ℕ) (m : M) (l left : List ℕ) (go : Outcome M) (c : C) → R.on_break ≡ Refuses →
    ends R (judged room most R broken k s m l left go) ≡ Ok c → Passed room most R broken s m l × (ends R go ≡ Ok c)
judged-ok {M} {C} room most R broken k s m l left go c st e =
    elim (cases_Bool (long room l)) [
      | inl a ↦ no _ c (sym (ap (ends R) (judged-long room most R broken k s m l left go a)) ∙ e)
      | inr a ↦ elim (cases_Bool (ltb most (s + length l))) [
        | inl p ↦ no _ c (sym (ap (ends R) (judged-past room most R broken k s m l left go a p)) ∙ e)
        | inr p ↦ elim (cases_Bool (lost broken l)) [
          | inl t ↦ no_broke R k m left c st (sym (ap (ends R) (judged-cut room most R broken k s m l left go a p t)) ∙ e)
          | inr t ↦ elim (cases_Bool (is_utf8 l)) [
            | inl u ↦
                let q = fault-ok R (R.refused (R.next m l)) (k + 1) (R.next m l) left go c (sym (ap (ends R) (judged-kind room most R broken k s m l left go a p t u)) ∙ e) in
                (record { short = a; fits = ltb-false most (s + length l) p; stands = t; text = u; fine = q.0 }, q.1)
            | inr u ↦ no_broke R k m left c st (sym (ap (ends R) (judged-text room most R broken k s m l left go a p t u)) ∙ e)
          ]
        ]
      ]
    ]

pub judged-on : {M C : Type 0} (room most : ℕ) (R : Rules M C) (broken : Bool) (k s : ℕ) (m : M) (l left : List ℕ) (go : Outcome M) →
    Passed room most R broken s m l → judged room most R broken k s m l left go ≡ go
judged-on {M} {C} room most R broken k s m l left go p =
    judged-kind room most R broken k s m l left go p.short (le-ltb most (s + length l) p.fits) p.stands p.text
    ∙ ap (λ (o : Option Fault). on_fault o (k + 1) (R.next m l) left go) p.fine

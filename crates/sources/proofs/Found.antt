-- A place that `position` answers.
use Rattle.std.proofs.Common.{◌≡◌, ℕ, ◌<◌, ◌≤◌, Bool, cond, ltb, Some, None, Option, sym, ap, ◌∙◌, arith, inl, inr, lt-ltb, le-ltb}
use Rattle.std.specs.Option.{unwrap_or}
use Rattle.std.proofs.lemmas.Bool.{cases_lt}

pub found_some : {r : Option ℕ} (i p n : ℕ) → r ≡ cond (ltb p n) (Some p) None → r ≡ Some i → (i ≡ p) × (p < n)
found_some {r} i p n e s = elim (cases_lt p n) [
  | inl h ↦ let z : ◌≡◌ {A = Option ℕ} (Some i) (Some p) = sym s ∙ e ∙ ap (λ (t : Bool). cond t (Some p) None) (lt-ltb p n h) in (cc, h)
  | inr h ↦ let z : ◌≡◌ {A = Option ℕ} (Some i) None = sym s ∙ e ∙ ap (λ (t : Bool). cond t (Some p) None) (le-ltb p n h) in absurd cc
]

pub found_none : {r : Option ℕ} (p n : ℕ) → r ≡ cond (ltb p n) (Some p) None → r ≡ None → n ≤ p
found_none {r} p n e s = elim (cases_lt p n) [
  | inl h ↦ let z : ◌≡◌ {A = Option ℕ} None (Some p) = sym s ∙ e ∙ ap (λ (t : Bool). cond t (Some p) None) (lt-ltb p n h) in absurd cc
  | inr h ↦ h
]

pub found_or : (r : Option ℕ) (p n : ℕ) → p ≤ n → r ≡ cond (ltb p n) (Some p) None → unwrap_or r n ≡ p
found_or r p n h e = elim (cases_lt p n) [
  | inl k ↦ ap (λ (o : Option ℕ). unwrap_or o n) (e ∙ ap (λ (t : Bool). cond t (Some p) None) (lt-ltb p n k))
  | inr k ↦ ap (λ (o : Option ℕ). unwrap_or o n) (e ∙ ap (λ (t : Bool). cond t (Some p) None) (le-ltb p n k)) ∙ omega arith
]

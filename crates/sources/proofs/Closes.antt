-- A reading is a course and a closing.
use Rattle.std.proofs.Common.{◌≡◌, ℕ, Ok, Err, Result, sym, ap, ◌∙◌}
use Rattle.sources.specs.declared.fault.Fault.{Fault}
use Rattle.sources.specs.declared.fault.Refusal.{Refusal}
use Rattle.sources.specs.Texts.{Text}
use Rattle.sources.specs.Lines.{closes}
use Rattle.sources.specs.Faults.{at_line}
use Rattle.sources.specs.Rules.{Rules}

pub closed_ok : {M C : Type 0} (R : Rules M C) {o : Result ℕ Refusal × M × Text} {v : Result ℕ Refusal} {m : M} {left : Text} {taken : ℕ} {r : Result C Fault} {s : Result C Refusal} →
    (v, m, left) ≡ o → v ≡ Ok taken → r ≡ R.closed m → s ≡ at_line taken r → (s, left) ≡ closes R o
closed_ok {M} {C} R {o} {v} {m} {left} {taken} {r} {s} e f a b =
    ap (λ (x : Result C Refusal). (x, left)) (b ∙ ap (at_line taken) a) ∙ ap (closes R) (ap (λ (x : Result ℕ Refusal). (x, m, left)) (sym f) ∙ e)

pub closed_err : {M C : Type 0} (R : Rules M C) {o : Result ℕ Refusal × M × Text} {v : Result ℕ Refusal} {m : M} {left : Text} {f : Refusal} {s : Result C Refusal} →
    (v, m, left) ≡ o → v ≡ Err f → s ≡ Err f → (s, left) ≡ closes R o
closed_err {M} {C} R {o} {v} {m} {left} {f} {s} e a b =
    ap (λ (x : Result C Refusal). (x, left)) b ∙ ap (closes R) (ap (λ (x : Result ℕ Refusal). (x, m, left)) (sym a) ∙ e)

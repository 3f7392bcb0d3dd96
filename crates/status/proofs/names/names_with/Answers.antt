use Rattle.std.proofs.Common.{◌≡◌, ◌==◌, ℕ, false, List, [], ◌∷◌, filter, sym, refl, arith, rules}
use Rattle.std.proofs.lemmas.Bool.Decides.{nat_tests}
use Rattle.status.specs.Names.{begins, names, names_with}
use Rattle.status.proofs.names.names_with.Goals as goal

other : (a b : ℕ) → ¬ (a ≡ b) → (a == b) ≡ false
other a b h = grind (arith, nat_tests, h)

-- names that begin with other bytes
Others : ℕ → List (ℕ × List ℕ) → Type 0
Others b [] = Unit {0}
Others b (own ∷ xs) = (begins b own ≡ false) × Others b xs

none : (b : ℕ) (xs : List (ℕ × List ℕ)) → Others b xs → filter (begins b) xs ≡ []
unfolding Others
none b [] h = refl
none b (own ∷ xs) h = rw h.0 (none b xs h.1)

pub returns-in-78 : goal.returns-in-78
unfolding names_with
returns-in-78 c = rw c.in-78.is refl

pub returns-in-85 : goal.returns-in-85
unfolding names_with
returns-in-85 c = rw c.in-85.is refl

pub returns-in-83 : goal.returns-in-83
unfolding names_with
returns-in-83 c = rw c.in-83.is refl

pub returns-in-84 : goal.returns-in-84
unfolding names_with
returns-in-84 c = rw c.in-84.is refl

pub returns-in-80 : goal.returns-in-80
unfolding names_with
returns-in-80 c = rw c.in-80.is refl

pub returns-in-71 : goal.returns-in-71
unfolding names_with
returns-in-71 c = rw c.in-71.is refl

pub returns-in-70 : goal.returns-in-70
unfolding names_with
returns-in-70 c = rw c.in-70.is refl

pub returns-in-86 : goal.returns-in-86
unfolding names_with
returns-in-86 c = rw c.in-86.is refl

pub returns-in-82 : goal.returns-in-82
unfolding names_with
returns-in-82 c = rw c.in-82.is refl

pub returns-in-72 : goal.returns-in-72
unfolding names_with
returns-in-72 c = rw c.in-72.is refl

pub returns-in-67 : goal.returns-in-67
unfolding names_with
returns-in-67 c = rw c.in-67.is refl

pub returns-in-77 : goal.returns-in-77
unfolding names_with
returns-in-77 c = rw c.in-77.is refl

pub returns-in-118 : goal.returns-in-118
unfolding names_with
returns-in-118 c = rw c.in-118.is refl

pub returns-in-110 : goal.returns-in-110
unfolding names_with
returns-in-110 c = rw c.in-110.is refl

pub returns-in_default : goal.returns-in_default
unfolding names_with Others
returns-in_default c =
    let b = c.args.first in
    let big_n = other b 78 (search rules) in
    let big_u = other b 85 (search rules) in
    let big_s = other b 83 (search rules) in
    let big_t = other b 84 (search rules) in
    let big_p = other b 80 (search rules) in
    let big_g = other b 71 (search rules) in
    let big_f = other b 70 (search rules) in
    let big_v = other b 86 (search rules) in
    let big_r = other b 82 (search rules) in
    let big_h = other b 72 (search rules) in
    let big_c = other b 67 (search rules) in
    let big_m = other b 77 (search rules) in
    let small_v = other b 118 (search rules) in
    let small_n = other b 110 (search rules) in sym (none b names (big_n, (big_u, (big_s, (big_t, (big_n, (big_p, (big_p, (big_t, (big_u, (big_g, (big_f, (big_g, (big_n, (big_n, (big_n, (big_n, (big_v, (big_v, (big_v, (big_v, (big_v, (big_v, (big_r, (big_r, (big_r, (big_v, (big_v, (big_v, (big_v, (big_v, (big_v, (big_h, (big_t, (big_s, (big_s, (big_s, (big_s, (big_s, (big_s, (big_c, (big_c, (big_c, (big_c, (big_c, (big_n, (big_s, (big_s, (big_c, (big_c, (big_m, (big_m, (small_v, (small_n, (big_c, (big_t, tt))))))))))))))))))))))))))))))))))))))))))))))))))))))))

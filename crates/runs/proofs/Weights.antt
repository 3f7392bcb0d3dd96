-- Sums over the ledger and over the places.
use Rattle.std.proofs.Common.{◌≡◌, ◌∙◌, ap, sym, refl, ℕ, ◌+◌, ◌≤◌, Bool, true, false, not, List, [], ◌∷◌, map, Option, Some, None, ℤ, arith}
use Rattle.std.specs.Prelude.{cond, sum_by, count_by, filter, is_some}
use Rattle.std.specs.Ordering.{int_eq}
use Rattle.std.proofs.lemmas.List.Sums.{sum_by-cons}
use Rattle.packing.specs.declared.place.Place.{Place}
use Rattle.packing.specs.Places.{charge_at, used, is_of}
use Rattle.runs.specs.Ledger.{Entry, weighs, is_for, recharged}
use Rattle.runs.proofs.Spots.{first}

-- What counts of a job: of its pid, its headroom and what its text weighs.
abbrev pub Weight : Type 0
Weight = ℤ → ℕ → ℕ → ℕ

abbrev pub entry_by : Weight → Entry → ℕ
entry_by w e = w e.pid e.headroom (weighs e.bytes)

abbrev pub place_by : Weight → Option Place → ℕ
place_by w None = 0
place_by w (Some p) = w p.pid p.headroom (p.totals.pss + p.totals.swap_pss)

-- of one job alone; as if its text weighed x; what it is charged; one for each of its places
abbrev pub only : ℤ → Weight → Weight
only q w p h r = cond (int_eq p q) (w p h r) 0

abbrev pub anew : ℕ → Weight → Weight
anew x w p h r = w p h x

abbrev pub charges : Weight
charges p h r = r + h

abbrev pub ones : ℤ → Weight
ones q p h r = cond (int_eq p q) 1 0

-- A ledger without a job, or with another text of it.
pub sum-released : (q : ℤ) (w : Weight) (s : List Entry) → sum_by (entry_by w) (filter (λ e. not (is_for q e)) s) + sum_by (entry_by (only q w)) s ≡ sum_by (entry_by w) s
sum-released q w [] = refl
sum-released q w (e ∷ es) = go (int_eq e.pid q) refl (sum-released q w es)
  where
    left : List Entry
    left = filter (λ e. not (is_for q e)) es

    go : (b : Bool) → int_eq e.pid q ≡ b → sum_by (entry_by w) left + sum_by (entry_by (only q w)) es ≡ sum_by (entry_by w) es →
        sum_by (entry_by w) (cond (not b) (e ∷ left) left) + sum_by (entry_by (only q w)) (e ∷ es) ≡ sum_by (entry_by w) (e ∷ es)
    go true t h =
        let a = sum_by-cons (entry_by w) e es in
        let b = sum_by-cons (entry_by (only q w)) e es in
        let k : entry_by (only q w) e ≡ entry_by w e = rw t refl in
        omega (arith, a, b, k, h)
    go false t h =
        let a = sum_by-cons (entry_by w) e es in
        let b = sum_by-cons (entry_by (only q w)) e es in
        let c = sum_by-cons (entry_by w) e left in
        let k : entry_by (only q w) e ≡ 0 = rw t refl in
        omega (arith, a, b, c, k, h)

pub sum-recharged : (q : ℤ) (x : List ℕ) (w : Weight) (s : List Entry) → sum_by (entry_by w) (map (recharged q x) s) + sum_by (entry_by (only q w)) s ≡ sum_by (entry_by w) s + sum_by (entry_by (only q (anew (weighs x) w))) s
sum-recharged q x w [] = refl
sum-recharged q x w (e ∷ es) = go (int_eq e.pid q) refl (sum-recharged q x w es)
  where
    n : Weight
    n = anew (weighs x) w

    go : (b : Bool) → int_eq e.pid q ≡ b → sum_by (entry_by w) (map (recharged q x) es) + sum_by (entry_by (only q w)) es ≡ sum_by (entry_by w) es + sum_by (entry_by (only q n)) es →
        sum_by (entry_by w) (map (recharged q x) (e ∷ es)) + sum_by (entry_by (only q w)) (e ∷ es) ≡ sum_by (entry_by w) (e ∷ es) + sum_by (entry_by (only q n)) (e ∷ es)
    go true t h =
        let a = sum_by-cons (entry_by w) e es in
        let b = sum_by-cons (entry_by (only q w)) e es in
        let c = sum_by-cons (entry_by (only q n)) e es in
        let d = sum_by-cons (entry_by w) (recharged q x e) (map (recharged q x) es) in
        let k : entry_by (only q w) e ≡ entry_by w e = rw t refl in
        let l : entry_by (only q n) e ≡ w e.pid e.headroom (weighs x) = rw t refl in
        let m : entry_by w (recharged q x e) ≡ w e.pid e.headroom (weighs x) = rw t refl in
        omega (arith, a, b, c, d, k, l, m, h)
    go false t h =
        let a = sum_by-cons (entry_by w) e es in
        let b = sum_by-cons (entry_by (only q w)) e es in
        let c = sum_by-cons (entry_by (only q n)) e es in
        let d = sum_by-cons (entry_by w) (recharged q x e) (map (recharged q x) es) in
        let k : entry_by (only q w) e ≡ 0 = rw t refl in
        let l : entry_by (only q n) e ≡ 0 = rw t refl in
        let m : entry_by w (recharged q x e) ≡ entry_by w e = rw t refl in
        omega (arith, a, b, c, d, k, l, m, h)

-- one place more
abbrev once : ℤ → Option Place → ℕ
once q o = cond (is_of q o) 1 0

count-more : (q : ℤ) (o : Option Place) (ps : List (Option Place)) → count_by (is_of q) (o ∷ ps) ≡ once q o + count_by (is_of q) ps
count-more q o ps = sum_by-cons (once q) o ps

-- a job that stands nowhere counts nothing, and one that stands once what is found of it
no_place : (q : ℤ) (w : Weight) (ps : List (Option Place)) → count_by (is_of q) ps ≤ 0 → sum_by (place_by (only q w)) ps ≡ 0
no_place q w [] h = refl
no_place q w (None ∷ ps) h =
    let a = count-more q None ps in
    let r = no_place q w ps (omega (arith, a, h)) in
    let c = sum_by-cons (place_by (only q w)) None ps in
    let z : place_by (only q w) None ≡ 0 = refl in
    omega (arith, c, z, r)
no_place q w (Some p ∷ ps) h = go (no_place q w ps) (int_eq p.pid q) refl
  where
    go : (count_by (is_of q) ps ≤ 0 → sum_by (place_by (only q w)) ps ≡ 0) → (b : Bool) → int_eq p.pid q ≡ b → sum_by (place_by (only q w)) (Some p ∷ ps) ≡ 0
    go ih true t = absurd (let a = count-more q (Some p) ps in let k : once q (Some p) ≡ 1 = rw t refl in omega (arith, a, k, h))
    go ih false t =
        let a = count-more q (Some p) ps in
        let j : once q (Some p) ≡ 0 = rw t refl in
        let k : place_by (only q w) (Some p) ≡ 0 = rw t refl in
        let r = ih (omega (arith, a, j, h)) in
        let c = sum_by-cons (place_by (only q w)) (Some p) ps in
        omega (arith, c, k, r)

pub one_place : (q : ℤ) (w : Weight) (ps : List (Option Place)) → count_by (is_of q) ps ≤ 1 → sum_by (place_by (only q w)) ps ≡ place_by w (first (is_of q) ps)
unfolding first
one_place q w [] h = refl
one_place q w (None ∷ ps) h =
    let a = count-more q None ps in
    let r = one_place q w ps (omega (arith, a, h)) in
    let c = sum_by-cons (place_by (only q w)) None ps in
    let z : place_by (only q w) None ≡ 0 = refl in
    omega (arith, c, z, r)
one_place q w (Some p ∷ ps) h = go (one_place q w ps) (int_eq p.pid q) refl
  where
    go : (count_by (is_of q) ps ≤ 1 → sum_by (place_by (only q w)) ps ≡ place_by w (first (is_of q) ps)) → (b : Bool) → int_eq p.pid q ≡ b → sum_by (place_by (only q w)) (Some p ∷ ps) ≡ place_by w (cond (is_of q (Some p)) (Some p) (first (is_of q) ps))
    go ih true t =
        let a = count-more q (Some p) ps in
        let j : once q (Some p) ≡ 1 = rw t refl in
        let k : place_by (only q w) (Some p) ≡ place_by w (Some p) = rw t refl in
        let r = no_place q w ps (omega (arith, a, j, h)) in
        let c = sum_by-cons (place_by (only q w)) (Some p) ps in
        let s : sum_by (place_by (only q w)) (Some p ∷ ps) ≡ place_by w (Some p) = omega (arith, c, k, r) in
        s ∙ ap (λ (b : Bool). place_by w (cond b (Some p) (first (is_of q) ps))) (sym t)
    go ih false t =
        let a = count-more q (Some p) ps in
        let j : once q (Some p) ≡ 0 = rw t refl in
        let k : place_by (only q w) (Some p) ≡ 0 = rw t refl in
        let r = ih (omega (arith, a, j, h)) in
        let c = sum_by-cons (place_by (only q w)) (Some p) ps in
        let s : sum_by (place_by (only q w)) (Some p ∷ ps) ≡ place_by w (first (is_of q) ps) = omega (arith, c, k, r) in
        s ∙ ap (λ (b : Bool). place_by w (cond b (Some p) (first (is_of q) ps))) (sym t)

-- Who is not found stands nowhere.
pub absent-nowhere : (q : ℤ) (ps : List (Option Place)) → is_some (first (is_of q) ps) ≡ false → count_by (is_of q) ps ≡ 0
unfolding first
absent-nowhere q [] h = refl
absent-nowhere q (None ∷ ps) h = let a = count-more q None ps in let r = absent-nowhere q ps h in omega (arith, a, r)
absent-nowhere q (Some p ∷ ps) h = go (absent-nowhere q ps) (int_eq p.pid q) refl h
  where
    go : (is_some (first (is_of q) ps) ≡ false → count_by (is_of q) ps ≡ 0) → (b : Bool) → int_eq p.pid q ≡ b → is_some (cond (is_of q (Some p)) (Some p) (first (is_of q) ps)) ≡ false → count_by (is_of q) (Some p ∷ ps) ≡ 0
    go ih true t k = absurd (let z : true ≡ false = rw t at k in cc)
    go ih false t k =
        let a = count-more q (Some p) ps in
        let j : once q (Some p) ≡ 0 = rw t refl in
        let r = ih (rw t at k) in
        omega (arith, a, j, r)

-- sums of what is the same
sum-same : (f g : Option Place → ℕ) → ((o : Option Place) → f o ≡ g o) → (ps : List (Option Place)) → sum_by f ps ≡ sum_by g ps
sum-same f g h [] = refl
sum-same f g h (o ∷ ps) = let r = sum-same f g h ps in let k = h o in let a = sum_by-cons f o ps in let b = sum_by-cons g o ps in omega (arith, a, b, k, r)

place-charge : (o : Option Place) → place_by charges o ≡ charge_at o
place-charge None = refl
place-charge (Some p) = refl

place-one : (q : ℤ) (o : Option Place) → place_by (ones q) o ≡ once q o
place-one q None = refl
place-one q (Some p) = refl

pub charges-used : (ps : List (Option Place)) → sum_by (place_by charges) ps ≡ used ps
unfolding used
charges-used ps = sum-same (place_by charges) charge_at place-charge ps

pub ones-count : (q : ℤ) (ps : List (Option Place)) → sum_by (place_by (ones q)) ps ≡ count_by (is_of q) ps
ones-count q ps = sum-same (place_by (ones q)) (once q) (place-one q) ps

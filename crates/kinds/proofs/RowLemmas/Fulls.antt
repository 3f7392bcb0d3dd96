-- Tables whose first cells are given.
use Rattle.std.proofs.Common.{◌≡◌, ℕ, zero, suc, ◌+◌, ◌-◌, ◌<◌, Bool, true, false, cond, List, [], ◌∷◌, ◌++◌, length, take, drop, Ok, Err, Some, slice_set, refl, sym, ap, ◌∙◌, arith, add-one, append_assoc, length-append, length-drop, ltb}
use Rattle.std.proofs.Math.ListN.{length-set}
use Rattle.std.specs.List.{slice_get}
use Rattle.std.proofs.lemmas.Bool.{ltb-true, lt-ltb}
use Rattle.sources.specs.declared.reason.Reason.TheVariants.{Full}
use Rattle.sources.specs.Faults.{fault}
use Rattle.kinds.specs.Rows.Cells.{Cells, cells, used, last, pushed, written}
use Rattle.kinds.specs.Rows.Blocks.{over}

abbrev pub full : {A : Type 0} → List A → List A → Cells A
full {A} xs held = cells (over xs held) (length xs)

pub used_full : {A : Type 0} (xs held : List A) → used (full xs held) ≡ xs
used_full {A} xs held = go xs (drop (length xs) held)
  where
    go : (xs r : List A) → take (length xs) (xs ++ r) ≡ xs
    go [] r = refl
    go (x ∷ xs) r = ap (λ (l : List A). x ∷ l) (go xs r)

set_next : {A : Type 0} (xs held : List A) (x : A) → length xs < length held → slice_set (over xs held) (length xs) x ≡ xs ++ (x ∷ drop (suc (length xs)) held)
set_next {A} [] [] x h = absurd (omega arith)
set_next {A} [] (y ∷ held) x h = refl
set_next {A} (z ∷ xs) [] x h = absurd (omega arith)
set_next {A} (z ∷ xs) (y ∷ held) x h = ap (λ (l : List A). z ∷ l) (set_next xs held x (omega arith))

room : {A : Type 0} (xs held : List A) → length xs < length (over xs held) → length xs < length held
room {A} xs held h = omega (arith, length-append xs (drop (length xs) held), length-drop (length xs) held)

over_one : {A : Type 0} (xs held : List A) (x : A) → xs ++ (x ∷ drop (suc (length xs)) held) ≡ over (xs ++ (x ∷ [])) held
over_one {A} xs held x =
    let n : length (xs ++ (x ∷ [])) ≡ suc (length xs) = length-append xs (x ∷ []) ∙ add-one (length xs) in
    rw (n) (sym (append_assoc xs (x ∷ []) (drop (suc (length xs)) held)))

-- one more in use
pub full_pushed : {A : Type 0} (xs held : List A) (x : A) (t : Cells A) → pushed x (full xs held) ≡ Ok t → t ≡ full (xs ++ (x ∷ [])) held
full_pushed {A} xs held x t e = go (ltb (length xs) (length (over xs held))) refl e
  where
    go : (b : Bool) → ltb (length xs) (length (over xs held)) ≡ b → cond b (Ok (cells (slice_set (over xs held) (length xs) x) (length xs + 1))) (Err (fault Full)) ≡ Ok t → t ≡ full (xs ++ (x ∷ [])) held
    go false q e = absurd (let z = e in cc)
    go true q e =
        let k = room xs held (ltb-true _ _ q) in
        let s = set_next xs held x k ∙ over_one xs held x in
        let n : length xs + 1 ≡ length (xs ++ (x ∷ [])) = sym (length-append xs (x ∷ [])) in
        let z : t ≡ cells (slice_set (over xs held) (length xs) x) (length xs + 1) = cc in
        z ∙ rw (s, n)

-- that is where there is room
pub pushed_fits : {A : Type 0} (xs held : List A) (x : A) (t : Cells A) → pushed x (full xs held) ≡ Ok t → length xs < length held
pushed_fits {A} xs held x t e = go (ltb (length xs) (length (over xs held))) refl e
  where
    go : (b : Bool) → ltb (length xs) (length (over xs held)) ≡ b → cond b (Ok (cells (slice_set (over xs held) (length xs) x) (length xs + 1))) (Err (fault Full)) ≡ Ok t → length xs < length held
    go false q e = absurd (let z = e in cc)
    go true q e = room xs held (ltb-true _ _ q)

pub pushed_fine : {A : Type 0} (xs held : List A) (x : A) → length xs < length held → (t : Cells A) × (pushed x (full xs held) ≡ Ok t)
pushed_fine {A} xs held x h =
    let w : length xs < length (over xs held) = omega (arith, length-append xs (drop (length xs) held), length-drop (length xs) held) in
    (cells (slice_set (over xs held) (length xs) x) (length xs + 1), rw (lt-ltb (length xs) (length (over xs held)) w))

set_front : {A : Type 0} (xs r : List A) (i : ℕ) (x : A) → i < length xs → slice_set (xs ++ r) i x ≡ slice_set xs i x ++ r
set_front {A} [] r i x h = absurd (omega arith)
set_front {A} (y ∷ xs) r zero x h = refl
set_front {A} (y ∷ xs) r (suc i) x h = ap (λ (l : List A). y ∷ l) (set_front xs r i x (omega arith))

-- one written anew
pub full_written : {A : Type 0} (xs held : List A) (i : ℕ) (x : A) → i < length xs → written i x (full xs held) ≡ full (slice_set xs i x) held
full_written {A} xs held i x h =
    let n : length (slice_set xs i x) ≡ length xs = length-set xs i x in
    let s = set_front xs (drop (length xs) held) i x h in
    rw (s, n)

-- the last of a list, read and written
pub last_one : {A : Type 0} (xs : List A) (x : A) → last (xs ++ (x ∷ [])) ≡ Some x
last_one {A} xs x =
    let n : length (xs ++ (x ∷ [])) - 1 ≡ length xs = omega (arith, length-append xs (x ∷ [])) in
    rw (n) (go xs)
  where
    go : (xs : List A) → slice_get (xs ++ (x ∷ [])) (length xs) ≡ Some x
    go [] = refl
    go (y ∷ xs) = go xs

pub set_last : {A : Type 0} (xs : List A) (x y : A) → slice_set (xs ++ (x ∷ [])) (length (xs ++ (x ∷ [])) - 1) y ≡ xs ++ (y ∷ [])
set_last {A} xs x y =
    let n : length (xs ++ (x ∷ [])) - 1 ≡ length xs = omega (arith, length-append xs (x ∷ [])) in
    rw (n) (go xs)
  where
    go : (xs : List A) → slice_set (xs ++ (x ∷ [])) (length xs) y ≡ xs ++ (y ∷ [])
    go [] = refl
    go (z ∷ xs) = ap (λ (l : List A). z ∷ l) (go xs)

-- one of the later ones written anew
pub set_back : {A : Type 0} (xs ys : List A) (i : ℕ) (y : A) → slice_set (xs ++ ys) (length xs + i) y ≡ xs ++ slice_set ys i y
set_back {A} [] ys i y = let z : 0 + i ≡ i = omega arith in rw z
set_back {A} (x ∷ xs) ys i y = let z : suc (length xs) + i ≡ suc (length xs + i) = omega arith in rw z (ap (λ (l : List A). x ∷ l) (set_back xs ys i y))

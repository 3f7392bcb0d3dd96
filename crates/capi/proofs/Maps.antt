-- A list that has f of another's elements, one by one, is f mapped over that.
use Rattle.std.proofs.Common.{◌≡◌, ℕ, suc, ◌<◌, List, [], ◌∷◌, map, length, slice_index_or, arith, refl}

pub mapped : {A B : Type 0} (f : A → B) (xs : List A) (ys : List B) → length ys ≡ length xs → ((i : ℕ) (d : A) (e : B) → i < length xs → slice_index_or ys i e ≡ f (slice_index_or xs i d)) → ys ≡ map f xs
mapped f [] [] l h = refl
mapped f [] (y ∷ ys) l h = absurd (omega (arith, l))
mapped f (x ∷ xs) [] l h = absurd (omega (arith, l))
mapped f (x ∷ xs) (y ∷ ys) l h = rw (h 0 x y (omega arith), mapped f xs ys (omega (arith, l)) (λ i d e k. h (suc i) d e (omega (arith, k)))) refl

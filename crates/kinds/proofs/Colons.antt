-- A word without its trailing colons, by one of them at a time.
use Rattle.std.proofs.Common.{◌≡◌, ℕ, Bool, true, false, cond, List, [], ◌∷◌, reverse, Some, None, Option, ◌==◌, sym, refl, ap, ◌∙◌}
use mathlib.Core.List.{reverse-reverse}
use Rattle.std.specs.Option.{option_map}
use Rattle.sources.specs.Pieces.{case_of, strip_prefix, strip_suffix}
use Rattle.kinds.specs.Attribute.{after_colons, bare}

-- A colon that is cut off, of the word read backwards.
one_cut : (b : ℕ) (bs m : List ℕ) (t : Bool) → (b == 58) ≡ t → option_map reverse (cond t (Some bs) None) ≡ Some m → reverse (cond t (after_colons bs) (b ∷ bs)) ≡ bare m
one_cut b bs m true t e = ap (λ (r : List ℕ). reverse (after_colons r)) (sym (reverse-reverse bs)) ∙ ap (λ (o : Option (List ℕ)). case_of o [] bare) e
one_cut b bs m false t e = cc

backwards_cut : (r m : List ℕ) → option_map reverse (strip_prefix (58 ∷ []) r) ≡ Some m → reverse (after_colons r) ≡ bare m
backwards_cut [] m e = cc
backwards_cut (b ∷ bs) m e = one_cut b bs m (b == 58) refl e

pub colon_cut : (bs m : List ℕ) → strip_suffix (58 ∷ []) bs ≡ Some m → bare bs ≡ bare m
colon_cut bs m e = backwards_cut (reverse bs) m e

-- A word that ends in no colon.
one_kept : (b : ℕ) (bs : List ℕ) (t : Bool) → (b == 58) ≡ t → option_map reverse (cond t (Some bs) None) ≡ None → cond t (after_colons bs) (b ∷ bs) ≡ b ∷ bs
one_kept b bs true t e = cc
one_kept b bs false t e = refl

backwards_kept : (r : List ℕ) → option_map reverse (strip_prefix (58 ∷ []) r) ≡ None → after_colons r ≡ r
backwards_kept [] e = refl
backwards_kept (b ∷ bs) e = one_kept b bs (b == 58) refl e

pub no_colon : (bs : List ℕ) → strip_suffix (58 ∷ []) bs ≡ None → bare bs ≡ bs
no_colon bs e = ap reverse (backwards_kept (reverse bs) e) ∙ reverse-reverse bs

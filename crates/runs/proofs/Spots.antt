-- Where a job stands, and what a write of its place changes in a sum.
use Rattle.std.proofs.Common.{◌≡◌, ◌∙◌, sym, refl, subst, ℕ, suc, ◌+◌, Bool, true, false, List, [], ◌∷◌, Option, Some, None, ℤ, get_or, length, arith}
use Rattle.std.specs.Prelude.{cond, sum_by, position, is_none, is_some, nat_lt}
use Rattle.std.specs.List.{position_or_len}
use Rattle.std.specs.Option.{option_map}
use Rattle.std.proofs.lemmas.Bool.Decides.{nat_tests}
use Rattle.std.proofs.lemmas.List.{get_or_past}
use Rattle.std.proofs.lemmas.List.Sums.{sum_by-set}
use Rattle.std.proofs.lemmas.List.Quantifiers.{position-Some}
use Rattle.packing.specs.declared.place.Place.{Place}
use Rattle.packing.specs.Places.{at, write, spot, free, found, is_of, is_free, with_place, changed, without}

-- what stands at the first place that passes
unfoldable pub first : (Option Place → Bool) → List (Option Place) → Option Place
first p [] = None
first p (o ∷ ps) = cond (p o) o (first p ps)

at-first : (p : Option Place → Bool) (ps : List (Option Place)) → get_or ps (position_or_len p ps) None ≡ first p ps
unfolding first
at-first p [] = refl
at-first p (o ∷ ps) = go (p o) refl (at-first p ps)
  where
    go : (b : Bool) → p o ≡ b → get_or ps (position_or_len p ps) None ≡ first p ps → get_or (o ∷ ps) (position_or_len p (o ∷ ps)) None ≡ cond (p o) o (first p ps)
    go true e h = rw e refl
    go false e h = let more : 1 + position_or_len p ps ≡ suc (position_or_len p ps) = omega arith in rw (e, more) h

at-position : (p : Option Place → Bool) (ps : List (Option Place)) → at (position p ps) ps ≡ get_or ps (position_or_len p ps) None
at-position p ps = go (nat_lt (position_or_len p ps) (length ps)) refl
  where
    go : (b : Bool) → nat_lt (position_or_len p ps) (length ps) ≡ b → at (cond b (Some (position_or_len p ps)) None) ps ≡ get_or ps (position_or_len p ps) None
    go true e = refl
    go false e = sym (get_or_past ps (position_or_len p ps) None (grind (arith, nat_tests)))

-- What is kept of a job is what stands at the first place that is its own.
pub found-first : (pid : ℤ) (ps : List (Option Place)) → found pid ps ≡ first (is_of pid) ps
unfolding found spot
found-first pid ps = at-position (is_of pid) ps ∙ at-first (is_of pid) ps

-- a write at a place that there is
sum-write : (f : Option Place → ℕ) (p : Option Place → Bool) (o : Option Place) (ps : List (Option Place)) → is_some (position p ps) ≡ true →
    sum_by f (write (position p ps) o ps) + f (at (position p ps) ps) ≡ sum_by f ps + f o
sum-write f p o ps h = go (position p ps) refl h
  where
    go : (w : Option ℕ) → position p ps ≡ w → is_some w ≡ true → sum_by f (write w o ps) + f (at w ps) ≡ sum_by f ps + f o
    go None e h = absurd (let z : false ≡ true = h in cc)
    go (Some i) e h = sum_by-set f ps i o None (position-Some p ps i None e).0

-- what stands there passes
passes-at : (p : Option Place → Bool) (ps : List (Option Place)) → is_some (position p ps) ≡ true → p (at (position p ps) ps) ≡ true
passes-at p ps h = go (position p ps) refl h
  where
    go : (w : Option ℕ) → position p ps ≡ w → is_some w ≡ true → p (at w ps) ≡ true
    go None e h = absurd (let z : false ≡ true = h in cc)
    go (Some i) e h = (position-Some p ps i None e).1

some-at : (w : Option ℕ) (ps : List (Option Place)) → is_some (at w ps) ≡ true → is_some w ≡ true
some-at None ps h = h
some-at (Some i) ps h = refl

not-none : {X : Type 0} (o : Option X) → is_none o ≡ false → is_some o ≡ true
not-none {X} None h = absurd (let z : true ≡ false = h in cc)
not-none {X} (Some x) h = refl

free-none : (o : Option Place) → is_free o ≡ true → o ≡ None
free-none None h = refl
free-none (Some x) h = absurd (let z : false ≡ true = h in cc)

-- The sums of a list with a job more, with what is kept of one changed, and without one.
pub sum-with_place : (f : Option Place → ℕ) (p : Place) (ps : List (Option Place)) → is_none (free ps) ≡ false → sum_by f (with_place p ps) + f None ≡ sum_by f ps + f (Some p)
unfolding with_place free
sum-with_place f p ps h =
    let some = not-none (position is_free ps) h in
    subst (λ (o : Option Place). sum_by f (write (position is_free ps) (Some p) ps) + f o ≡ sum_by f ps + f (Some p)) (free-none (at (position is_free ps) ps) (passes-at is_free ps some)) (sum-write f is_free (Some p) ps some)

pub sum-changed : (f : Option Place → ℕ) (pid : ℤ) (g : Place → Place) (ps : List (Option Place)) → is_some (found pid ps) ≡ true → sum_by f (changed pid g ps) + f (found pid ps) ≡ sum_by f ps + f (option_map g (found pid ps))
unfolding changed found spot
sum-changed f pid g ps h = sum-write f (is_of pid) (option_map g (at (position (is_of pid) ps) ps)) ps (some-at (position (is_of pid) ps) ps h)

pub sum-without : (f : Option Place → ℕ) (pid : ℤ) (ps : List (Option Place)) → is_some (found pid ps) ≡ true → sum_by f (without pid ps) + f (found pid ps) ≡ sum_by f ps + f None
unfolding without found spot
sum-without f pid ps h = sum-write f (is_of pid) None ps (some-at (position (is_of pid) ps) ps h)

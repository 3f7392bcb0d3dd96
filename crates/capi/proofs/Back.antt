-- What is written into cells of places that are well kept is read as these places.
use Rattle.std.proofs.Common.{◌≡◌, ◌∙◌, sym, refl, subst, arith, ℕ, ◌<◌, ℤ, Bool, true, false, not, ◌&&◌, ◌==◌, List, [], ◌∷◌, Option, Some, None, map, length, cond, replicate}
use Rattle.std.specs.Prelude.{is_some, is_none, pos, nat_lt, int_lt}
use Rattle.std.specs.Int.{from_bool}
use Rattle.std.specs.Option.{unwrap_or}
use Rattle.std.specs.Ordering.{int_eq}
use Rattle.std.proofs.lemmas.Bool.{and_parts}
use Rattle.std.proofs.lemmas.Bool.Decides.{Decides-int_eq, nat_tests}
use Rattle.status.specs.States.{state_of}
use Rattle.kinds.specs.Measure.{max_total}
use Rattle.packing.specs.declared.place.Place.{Place}
use Rattle.packing.specs.declared.place.Noted.{Noted}
use Rattle.packing.specs.declared.place.Bounds.{Bounds}
use Rattle.limits.specs.declared.limit.LimitValue.{LimitValue}
use Rattle.limits.specs.declared.limit.LimitValue.TheVariants.{Unlimited, Value}
use Rattle.packing.specs.Packed.{packing}
use Rattle.packing.specs.Places.{no_places, charge_of, spot}
use Rattle.packing.specs.Restored.{has_state, can_keep, can_stand, kept_well}
use Rattle.capi.specs.Cells.{there, letter_in, bound_in, place_in, free_cell, unlimited_flag, value_or_zero, note_or_zeros, bounds_or_zeros, cell_of, list_in}

there_back : {X : Type 0} (o : Option X) (z : X) → there (from_bool (is_some o)) (unwrap_or o z) ≡ o
there_back {X} None z = refl
there_back {X} (Some x) z = refl

limit_back : (v : LimitValue) → bound_in (unlimited_flag v) (value_or_zero v) ≡ v
limit_back Unlimited = refl
limit_back (Value n) = refl

-- No letter of a state is above 255.
far : (n k : ℕ) → nat_lt n 256 ≡ false → k < 256 → (n == k) ≡ false
far n k e l = grind (arith, nat_tests)

no_state : (n : ℕ) → nat_lt n 256 ≡ false → is_some (state_of n) ≡ false
no_state n e =
    rw (
      far n 82 e (omega arith),
      far n 83 e (omega arith),
      far n 68 e (omega arith),
      far n 90 e (omega arith),
      far n 84 e (omega arith),
      far n 116 e (omega arith),
      far n 88 e (omega arith),
      far n 120 e (omega arith),
      far n 75 e (omega arith),
      far n 87 e (omega arith),
      far n 80 e (omega arith),
      far n 73 e (omega arith),
    ) refl

letter_back : (n : ℕ) → is_some (state_of n) ≡ true → letter_in n ≡ n
letter_back n e = by_size (nat_lt n 256) refl
  where
    by_size : (b : Bool) → nat_lt n 256 ≡ b → cond b n 0 ≡ n
    by_size true k = refl
    by_size false k = absurd (let z : false ≡ true = sym (no_state n k) ∙ e in cc)

noted_back : (o : Option Noted) → has_state o ≡ true
    → there (from_bool (is_some o)) (record { state = letter_in (note_or_zeros o).state; threads = (note_or_zeros o).threads; vmrss = there (from_bool (is_some (note_or_zeros o).vmrss)) (unwrap_or (note_or_zeros o).vmrss 0) }) ≡ o
noted_back None e = refl
noted_back (Some n) e = rw (letter_back n.state e, there_back n.vmrss 0) refl

bounded_back : (o : Option Bounds)
    → there (from_bool (is_some o)) (record { address_space = bound_in (unlimited_flag (bounds_or_zeros o).address_space) (value_or_zero (bounds_or_zeros o).address_space); open_files = bound_in (unlimited_flag (bounds_or_zeros o).open_files) (value_or_zero (bounds_or_zeros o).open_files) }) ≡ o
bounded_back None = refl
bounded_back (Some b) = rw (limit_back b.address_space, limit_back b.open_files) refl

-- A job's pid is not 0.
taken : (pid : ℤ) → not (int_lt pid (pos 1)) ≡ true → int_eq pid (pos 0) ≡ false
taken pid e = by_pid (int_eq pid (pos 0)) refl
  where
    by_pid : (b : Bool) → int_eq pid (pos 0) ≡ b → b ≡ false
    by_pid true k = absurd (let z : false ≡ true = subst (λ (q : ℤ). not (int_lt q (pos 1)) ≡ true) ((Decides-int_eq pid (pos 0)).0 k) e in cc)
    by_pid false k = refl

place_back : (o : Option Place) (os : List (Option Place)) → can_stand o os ≡ true → place_in (cell_of o) ≡ o
unfolding can_stand can_keep
place_back None os e = refl
place_back (Some p) os e =
    let a = and_parts (can_keep p) (is_none (spot p.pid os)) e in
    let b = and_parts (not (int_lt p.pid (pos 1)) && not (nat_lt max_total (charge_of p))) (has_state p.noted) a.0 in
    let c = and_parts (not (int_lt p.pid (pos 1))) (not (nat_lt max_total (charge_of p))) b.0 in
    rw (taken p.pid c.0, noted_back p.noted b.1, bounded_back p.bounds) refl

pub places_back : (ps : List (Option Place)) → kept_well ps ≡ true → map place_in (map cell_of ps) ≡ ps
unfolding kept_well
places_back [] e = refl
places_back (o ∷ os) e = let a = and_parts (can_stand o os) (kept_well os) e in rw (place_back o os a.0, places_back os a.1) refl

pub cells_64 : (ps : List (Option Place)) → length (map cell_of ps) ≡ length ps
cells_64 [] = refl
cells_64 (o ∷ os) = rw (cells_64 os) refl

pub holds : (limit : ℕ) (ps : List (Option Place)) → length ps ≡ 64 → kept_well ps ≡ true → list_in limit (map cell_of ps) ≡ Some (packing limit ps)
unfolding list_in
holds limit ps l k = rw (cells_64 ps, l, places_back ps k, k) refl

pub holds_none : (limit : ℕ) → list_in limit (replicate 64 free_cell) ≡ Some (packing limit no_places)
unfolding list_in kept_well can_stand
holds_none limit = refl

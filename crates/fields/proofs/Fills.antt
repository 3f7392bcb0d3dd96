-- A list read item by item is the list read as a whole.
use Rattle.std.proofs.Common.{◌≡◌, ℕ, suc, ◌+◌, ◌-◌, ◌<◌, ◌≤◌, List, [], ◌∷◌, ◌++◌, length, Some, None, Ok, Err, Option, Result, sym, refl, ap, ◌∙◌, append_assoc, append-nil, arith, length-append, ne_eqb, Bor}
use lib.Seq.{set-append_seam}
use Rattle.std.specs.Iterator.{AlwaysYields}
use Rattle.sources.specs.declared.fault.NumberFault.{NumberFault}
use Rattle.sources.specs.Faults.{and_then}
use Rattle.sources.specs.Pieces.{bytes_of}
use Rattle.fields.specs.declared.list.ListFault.{ListFault}
use Rattle.fields.specs.declared.list.ListFault.TheVariants.{Full}
use Rattle.fields.specs.declared.counted.Counted.{Counted}
use Rattle.fields.specs.Counted.{counted, with_item}
use Rattle.fields.specs.Lists.{bad_for, listed, filled, IsFilled}

module _ {S A B : Type 0} (steps : S → Option A → S → Type 0) (v : A → B) {it to : S} where
  -- where an iterator ends, and where it gives one item more
  nothing_left : (ys : List B) → AlwaysYields steps v it ys → steps it None to → ys ≡ []
  nothing_left [] y s = refl
  nothing_left (z ∷ zs) y s = absurd (y.0 to s)

  first_left : (ys : List B) {x : A} → AlwaysYields steps v it ys → steps it (Some x) to → (zs : List B) × (ys ≡ v x ∷ zs) × AlwaysYields steps v to zs
  first_left [] {x} y s = absurd (y x to s)
  first_left (z ∷ zs) {x} y s = let h = y.1 x to s in (zs, ap (λ (w : B). w ∷ zs) (sym h.0), h.1)

-- what is answered once the items `done` are had
abbrev pub behind : {X : Type 0} → (n : ℕ) → X → List X → Result (List X) ListFault → Result (Counted X n) ListFault
behind {X} n b done r = and_then r (λ xs. Ok (counted n b (done ++ xs)))

one_more : {X : Type 0} (R : List ℕ → Result X NumberFault) (n : ℕ) (b : X) (done : List X) (p : List ℕ) (x : X) (ps : List (List ℕ)) → length done < n → R p ≡ Ok x →
    behind n b done (listed R (n - length done) (p ∷ ps)) ≡ behind n b (done ++ (x ∷ [])) (listed R (n - length (done ++ (x ∷ []))) ps)
unfolding listed
one_more {X} R n b done p x ps h r =
    let l : length (done ++ (x ∷ [])) ≡ length done + 1 = length-append done (x ∷ []) in
    let k : n - length done ≡ 0 → ⊥ = λ e. omega arith in
    let j : n - length done - 1 ≡ n - length (done ++ (x ∷ [])) = omega arith in
    rw (r, ne_eqb (n - length done) 0 k, j) (joined (listed R (n - length (done ++ (x ∷ []))) ps))
  where
    joined : (r : Result (List X) ListFault) → behind n b done (and_then r (λ xs. Ok (x ∷ xs))) ≡ behind n b (done ++ (x ∷ [])) r
    joined (Ok xs) = rw (append_assoc done (x ∷ []) xs)
    joined (Err f) = refl

set_next : {X : Type 0} (n : ℕ) (b : X) (done : List X) (x : X) → length done < n → with_item x (counted n b done) ≡ counted n b (done ++ (x ∷ []))
set_next {X} n b done x h =
    let l : length (done ++ (x ∷ [])) ≡ length done + 1 = length-append done (x ∷ []) in
    let k : n - length done ≡ suc (n - length (done ++ (x ∷ []))) = omega arith in
    rw (k, l, set-append_seam done b _ x, append_assoc done (x ∷ []) _)

-- A list holds the items `done`, and the whole is answered as what is left behind them, which the iterator gives.
pub record Had {S X : Type 0} (steps : S → Option (Bor (List ℕ)) → S → Type 0) (D : X → Type 0) (R : List ℕ → Result X NumberFault) (n : ℕ) (whole : List (List ℕ)) (it : S) (list : Counted X n) : Type 0 where
  pub blank : X
  pub is_blank : D blank
  pub done : List X
  pub left : List (List ℕ)
  pub gives : AlwaysYields steps bytes_of it left
  pub fits : length done ≤ n
  pub has : list ≡ counted n blank done
  pub same : filled R blank n whole ≡ behind n blank done (listed R (n - length done) left)

module _ {S X : Type 0} {steps : S → Option (Bor (List ℕ)) → S → Type 0} {D : X → Type 0} {R : List ℕ → Result X NumberFault} {n : ℕ} {whole : List (List ℕ)} {it : S} {list : Counted X n} where
  -- before the first piece
  pub none_had : (b : X) × D b × (list ≡ counted n b []) → AlwaysYields steps bytes_of it whole → Had steps D R n whole it list
  unfolding filled
  none_had h y = let z : n - 0 ≡ n = omega arith in record { blank = h.0; is_blank = h.1; done = []; left = whole; gives = y; fits = omega arith; has = h.2; same = rw z }

  -- behind the last
  pub all_had : {to : S} → Had steps D R n whole it list → steps it None to → IsFilled D R n whole (Ok list)
  unfolding listed
  all_had {to} h s = let e = nothing_left steps bytes_of h.left h.gives s in (h.blank, h.is_blank, rw (h.same, e, h.has, append-nil h.done))

  -- at a bad piece
  pub bad : {to : S} {p : Bor (List ℕ)} {f : NumberFault} → Had steps D R n whole it list → steps it (Some p) to → R p.now ≡ Err f → IsFilled D R n whole (Err (bad_for f))
  unfolding listed
  bad {to} {p} {f} h s r = let e = first_left steps bytes_of h.left h.gives s in (h.blank, h.is_blank, rw (h.same, e.1, r))

  -- at a good piece, without room for it and with room
  pub full : {to : S} {p : Bor (List ℕ)} {x : X} → Had steps D R n whole it list → steps it (Some p) to → R p.now ≡ Ok x → n ≤ list.len → IsFilled D R n whole (Err Full)
  unfolding listed
  full {to} {p} {x} h s r m =
      let e = first_left steps bytes_of h.left h.gives s in
      let l = ap (λ (c : Counted X n). c.len) h.has in
      let k : n - length h.done ≡ 0 = omega arith in
      (h.blank, h.is_blank, rw (h.same, e.1, r, k))

  pub more : {to : S} {p : Bor (List ℕ)} {x : X} → Had steps D R n whole it list → steps it (Some p) to → R p.now ≡ Ok x → list.len < n → Had steps D R n whole to (with_item x list)
  more {to} {p} {x} h s r m =
      let e = first_left steps bytes_of h.left h.gives s in
      let l = ap (λ (c : Counted X n). c.len) h.has in
      let k : length h.done < n = omega arith in
      record {
        blank = h.blank;
        is_blank = h.is_blank;
        done = h.done ++ (x ∷ []);
        left = e.0;
        gives = e.2;
        fits = omega (arith, length-append h.done (x ∷ []));
        has = ap (with_item x) h.has ∙ set_next n h.blank h.done x k;
        same = h.same ∙ ap (λ (ps : List (List ℕ)). behind n h.blank h.done (listed R (n - length h.done) ps)) e.1 ∙ one_more R n h.blank h.done p.now x e.0 k r;
      }

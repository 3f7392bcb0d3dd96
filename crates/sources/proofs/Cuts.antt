use Rattle.std.proofs.Common.{◌≡◌, ◌∙◌, ℕ, zero, suc, ◌+◌, ◌<◌, Bool, true, false, cond, eqb, List, [], ◌∷◌, ◌++◌, length, get_or, take, drop, Some, None, Option, ap, subst, sym, refl, arith, eq-eqb, ne_eqb, lt-ltb}
use Rattle.std.specs.Option.{option_map}
use Rattle.std.proofs.lemmas.Bool.{eqb-true}
use Rattle.memchr.specs.Find.{IsFirstByte, is_byte}
use Rattle.sources.specs.Pieces.{split_at_byte, split_once}

-- no byte of bs is c
abbrev pub Lacks : ℕ → List ℕ → Type 0
Lacks c bs = (i : ℕ) → i < length bs → get_or bs i 0 ≡ c → ⊥

lacks_head : (c x : ℕ) (xs : List ℕ) → Lacks c (x ∷ xs) → eqb x c ≡ false
lacks_head c x xs h = ne_eqb x c (h 0 (omega arith))

lacks_tail : (c x : ℕ) (xs : List ℕ) → Lacks c (x ∷ xs) → Lacks c xs
lacks_tail c x xs h i lt = h (suc i) (omega arith)

pub split_at_byte-none : (c : ℕ) (bs : List ℕ) → Lacks c bs → split_at_byte c bs ≡ None
split_at_byte-none c [] h = refl
split_at_byte-none c (x ∷ xs) h = rw (lacks_head c x xs h, split_at_byte-none c xs (lacks_tail c x xs h))

more : (i : ℕ) → suc (i + 1) ≡ suc i + 1
more i = omega arith

-- told by a search for the byte
pub split_at_byte-at : (c : ℕ) (bs : List ℕ) (i : ℕ) → i < length bs → eqb (get_or bs i 0) c ≡ true → ((k : ℕ) → k < i → eqb (get_or bs k 0) c ≡ true → ⊥) → split_at_byte c bs ≡ Some (take i bs, drop (i + 1) bs)
split_at_byte-at c [] i l e h = absurd (omega arith)
split_at_byte-at c (x ∷ xs) zero l e h = rw e
split_at_byte-at c (x ∷ xs) (suc i) l e h =
    let ih = split_at_byte-at c xs i (omega arith) e (λ k l e. h (suc k) (omega arith) e) in
    elim (eqb x c) as (λ t. eqb x c ≡ t → cond {A = Option (List ℕ × List ℕ)} t (Some ([], xs)) (option_map (λ p. (x ∷ p.0, p.1)) (split_at_byte c xs)) ≡ Some (x ∷ take i xs, drop (suc i + 1) (x ∷ xs))) [
      | true ↦ λ e. absurd (h 0 (omega arith) e)
      | false ↦ λ e. ap (option_map (λ (p : List ℕ × List ℕ). (x ∷ p.0, p.1))) ih ∙ ap (λ (n : ℕ). Some (x ∷ take i xs, drop n (x ∷ xs))) (more i)
    ] refl

pub cut_found : (c : ℕ) (bs : List ℕ) (r : Option ℕ) → IsFirstByte (is_byte c) bs r → split_at_byte c bs ≡ option_map (λ i. (take i bs, drop (i + 1) bs)) r
cut_found c bs None h = split_at_byte-none c bs (λ k l e. h k (omega arith) l (eq-eqb (get_or bs k 0) c e))
cut_found c bs (Some i) h = split_at_byte-at c bs i h.0.high h.1 (λ k l e. h.0.before k (omega arith) l e)

-- The text is what stands before the byte, the byte, and what stands behind it.
pub split_at_byte-sound : (c : ℕ) (bs front rest : List ℕ) → split_at_byte c bs ≡ Some (front, rest) → bs ≡ front ++ (c ∷ rest)
split_at_byte-sound c [] front rest e = cc
split_at_byte-sound c (x ∷ xs) front rest e = at (eqb x c) refl (split_at_byte c xs) (λ f r. split_at_byte-sound c xs f r) e
  where
    at : (q : Bool) → eqb x c ≡ q → (o : Option (List ℕ × List ℕ)) → ((f r : List ℕ) → o ≡ Some (f, r) → xs ≡ f ++ (c ∷ r)) → cond {A = Option (List ℕ × List ℕ)} q (Some ([], xs)) (option_map (λ p. (x ∷ p.0, p.1)) o) ≡ Some (front, rest) → x ∷ xs ≡ front ++ (c ∷ rest)
    at true t o h e =
        let k = eqb-true x c t in
        let i : ◌≡◌ {A = List ℕ × List ℕ} ([], xs) (front, rest) = cc in
        let f : [] ≡ front = ap (λ p. p.0) i in
        let r : xs ≡ rest = ap (λ p. p.1) i in
        rw (← f, ← r, k) refl
    at false t None h e = cc
    at false t (Some p) h e =
        let i : ◌≡◌ {A = List ℕ × List ℕ} (x ∷ p.0, p.1) (front, rest) = cc in
        let f : x ∷ p.0 ≡ front = ap (λ p. p.0) i in
        let r : p.1 ≡ rest = ap (λ p. p.1) i in
        rw (← f, ← r) (ap (λ ys. x ∷ ys) (h p.0 p.1 refl))

pub cut_ascii : (c : ℕ) (bs : List ℕ) → c < 128 → split_once c bs ≡ split_at_byte c bs
cut_ascii c bs l = ap (λ (b : Bool). cond b (split_at_byte c bs) None) (lt-ltb c 128 l)

-- An ASCII byte that is found
pub found_byte : (c : ℕ) (bs : List ℕ) (r : Option ℕ) (i : ℕ) → IsFirstByte (is_byte c) bs r → r ≡ Some i → c < 128 → (i < length bs) × (get_or bs i 0 < 128)
found_byte c bs r i h e l =
    let at = subst (IsFirstByte (is_byte c) bs) e h in
    (at.0.high, subst (λ (x : ℕ). x < 128) (sym (eqb-true (get_or bs i 0) c at.1)) l)

-- A join of two sources answers as one.
use Rattle.std.proofs.Common.{◌≡◌, ℕ, suc, ◌+◌, ◌-◌, ◌<◌, Bool, true, false, cond, eqb, ◌⊎◌, List, [], ◌∷◌, ◌++◌, length, get_or, take, drop, sym, refl, ap, ◌∙◌, subst, inl, inr, append_assoc, arith, length-append, length-drop, ne_eqb, eqb-true}
use Rattle.std.proofs.Math.Seq.{take-append-add}
use Rattle.std.proofs.lemmas.List.{drop-append-le, take-append-le, get_or-take, take_rest, take_at, drop_at, take_all, take-append-drop, drop-drop}
use Rattle.std.proofs.lemmas.Bool.{cases_Bool, cases_lt, eqb-false}
use Rattle.sources.specs.Bytes.{through, moved}
use Rattle.sources.specs.Given.{Given, answer}
use Rattle.sources.specs.Texts.{text, joined}
use Rattle.sources.specs.declared.source.Piece.{Piece}
use Rattle.sources.specs.declared.source.Piece.TheVariants.{Bytes, Ended}
use Rattle.sources.proofs.Through.{through-≤, through-some}
use Rattle.sources.proofs.Answered.{given_bytes}
use Rattle.sources.proofs.Parts.{put_rest}
use Rattle.sources.proofs.Steps.{seen, one, last-is, left_is, whole}
use Rattle.sources.proofs.Next.{none_after, through-open}
use borrow.Rule.Slice.PartMut.{put_mid}

shift : (x : ℕ) (xs : List ℕ) → 0 < through xs → get_or (x ∷ xs) (suc (through xs) - 1) 0 ≡ get_or xs (through xs - 1) 0
shift x xs w = let q : suc (through xs) - 1 ≡ suc (through xs - 1) = omega arith in ap (λ (k : ℕ). get_or (x ∷ xs) k 0) q

ten : (xs : List ℕ) → get_or xs (through xs - 1) 0 ≡ 10 → 0 < through xs
ten [] q = omega arith
ten (x ∷ xs) q = through-some (x ∷ xs) (omega arith)

-- a line ends in the first, or goes on into the second
pub through-++ : (a b : List ℕ) → ((through (a ++ b) ≡ through a) × (get_or a (through a - 1) 0 ≡ 10)) ⊎ ((through (a ++ b) ≡ length a + through b) × (through a ≡ length a) × (get_or a (through a - 1) 0 ≡ 10 → ⊥))
through-++ [] b = inr (omega arith, refl, λ q. omega arith)
through-++ (x ∷ xs) b =
    elim (cases_Bool (eqb x 10)) [
      | inl p ↦ inl (
        ap (λ (t : Bool). cond t 1 (suc (through (xs ++ b)))) p ∙ sym (ap (λ (t : Bool). cond t 1 (suc (through xs))) p),
        ap (λ (t : Bool). get_or (x ∷ xs) (cond t 1 (suc (through xs)) - 1) 0) p ∙ eqb-true x 10 p,
      )
      | inr p ↦
          let u : through (x ∷ xs) ≡ suc (through xs) = ap (λ (t : Bool). cond t 1 (suc (through xs))) p in
          let v : through ((x ∷ xs) ++ b) ≡ suc (through (xs ++ b)) = ap (λ (t : Bool). cond t 1 (suc (through (xs ++ b)))) p in
          elim (through-++ xs b) [
            | inl i ↦ inl (v ∙ ap suc i.0 ∙ sym u, ap (λ (k : ℕ). get_or (x ∷ xs) (k - 1) 0) u ∙ shift x xs (ten xs i.1) ∙ i.1)
            | inr i ↦ inr (
              omega (arith, v, i.0),
              u ∙ ap suc i.1,
              λ q.
                  elim (cases_lt 0 (through xs)) [
                    | inl w ↦ i.2 (sym (shift x xs w) ∙ sym (ap (λ (k : ℕ). get_or (x ∷ xs) (k - 1) 0) u) ∙ q)
                    | inr w ↦ let z : suc (through xs) - 1 ≡ 0 = omega arith in eqb-false x 10 p (sym (ap (λ (k : ℕ). get_or (x ∷ xs) k 0) z) ∙ sym (ap (λ (k : ℕ). get_or (x ∷ xs) (k - 1) 0) u) ∙ q)
                  ],
            )
          ]
    ]

-- the first gave a whole piece
pub join_first : (buf a : List ℕ) (ta : Bool) (k : ℕ) (buf' a' : List ℕ) (ta' : Bool) (b : List ℕ) (tb : Bool) → 0 < length buf → Given buf (text a ta) (Bytes k) buf' (text a' ta') →
    (k ≡ length buf) ⊎ (get_or buf' (k - 1) 0 ≡ 10) → Given buf (joined (text a ta) (text b tb)) (Bytes k) buf' (joined (text a' ta') (text b tb))
join_first buf a true k buf' a' ta' b tb h g w = subst (λ (t : Bool). Given buf (text a true) (Bytes k) buf' (joined (text a' t) (text b tb))) (sym g.keeps) (subst (λ (t : Bool). Given buf (text a true) (Bytes k) buf' (text a' t)) g.keeps g)
join_first buf a false k buf' a' ta' b tb h g w =
    let s = seen buf a false k buf' a' ta' h g in
    let o = one s in
    let t = through-≤ a in
    let i = s.is in
    let q : k ≡ moved (length buf) (a ++ b) = elim (through-++ a b) [
      | inl j ↦ omega (arith, j.0)
      | inr j ↦ elim w [
        | inl v ↦ omega (arith, j.0, j.1)
        | inr v ↦ elim (cases_lt (through a) (length buf + 1)) [
          | inl z ↦ let e : k ≡ through a = omega arith in absurd (j.2 (ap (λ (n : ℕ). get_or a (n - 1) 0) (sym e) ∙ sym (get_or-take k a (k - 1) 0 (omega arith)) ∙ last-is s ∙ v))
          | inr z ↦ omega (arith, j.0, j.1)
        ]
      ]
    ] in
    let f : buf' ≡ take k (a ++ b) ++ drop k buf = g.fills ∙ ap (λ (n : ℕ). take n a ++ drop n buf) (sym i) ∙ ap (λ (l : List ℕ). l ++ drop k buf) (sym (take-append-le k a b (omega arith))) in
    let d : a' ++ b ≡ drop k (a ++ b) = ap (λ (l : List ℕ). l ++ b) (left_is buf a false k buf' a' ta' h g) ∙ sym (drop-append-le k a b (omega arith)) in
    subst (λ (t : Bool). Given buf (text (a ++ b) tb) (Bytes k) buf' (joined (text a' t) (text b tb))) (sym g.keeps)
    (given_bytes buf (a ++ b) tb k buf' (a' ++ b) (simp length-append (omega (arith, s.some))) q f d)

idle : (buf xs : List ℕ) (t : Bool) (r : Piece) (buf' xs' : List ℕ) (t' : Bool) → Given buf (text xs t) r buf' (text xs' t') → xs ≡ [] → (buf' ≡ buf) × (xs' ≡ [])
idle buf [] t r buf' xs' t' g e =
    let m : moved (length buf) [] ≡ 0 = omega arith in
    (g.fills ∙ ap (λ (n : ℕ). take n [] ++ drop n buf) m, g.moves ∙ ap (λ (n : ℕ). drop n []) m)
idle buf (x ∷ xs) t r buf' xs' t' g e = let z : ◌≡◌ {A = ℕ} (length (x ∷ xs)) 0 = ap length e in absurd (omega arith)

-- the first gave all that it had, without a byte 10, and was called again
pub record Spent (buf a : List ℕ) (k : ℕ) (X Y a2 : List ℕ) : Type 0 where
  pub all : k ≡ length a
  pub some : 0 < k
  pub long : length Y ≡ length buf
  pub less : k < length buf
  pub bare : get_or a (through a - 1) 0 ≡ 10 → ⊥
  pub front : take k Y ≡ a
  pub back : drop k Y ≡ drop k buf
  pub same : Y ≡ X
  pub none : a2 ≡ []

pub spent : (buf a : List ℕ) (ta : Bool) (k : ℕ) (X a1 : List ℕ) (ta1 : Bool) (r : Piece) (buf2 a2 : List ℕ) (ta2 : Bool) → length X ≡ length buf →
    0 < length buf → Given buf (text a ta) (Bytes k) X (text a1 ta1) → (get_or X (k - 1) 0 ≡ 10 → ⊥) → (k ≡ length buf → ⊥) →
    Given (take (length X - k) (drop k X)) (text a1 ta1) r buf2 (text a2 ta2) → Spent buf a k X (put_mid k (length X - k) X buf2) a2
spent buf a ta k X a1 ta1 r buf2 a2 ta2 lX h g n w g2 =
    let r2 : List ℕ = take (length X - k) (drop k X) in
    let Y : List ℕ = put_mid k (length X - k) X buf2 in
    let e2 : r2 ≡ drop k X = take_rest X k in
    let s = seen buf a ta k X a1 ta1 h g in
    let o = one s in
    let eY : Y ≡ take k X ++ buf2 = put_rest k X buf2 in
    let kt : k ≡ through a = whole s (λ q. absurd (w q)) in
    let la : get_or a (k - 1) 0 ≡ get_or X (k - 1) 0 = sym (get_or-take k a (k - 1) 0 (omega arith)) ∙ last-is s in
    let op : get_or a (through a - 1) 0 ≡ 10 → ⊥ = λ q. n (sym la ∙ ap (λ (i : ℕ). get_or a (i - 1) 0) kt ∙ q) in
    let ka : k ≡ length a = kt ∙ through-open a op in
    let id = idle r2 a1 ta1 r buf2 a2 ta2 g2 (none_after h g n w).0 in
    let YX : Y ≡ X = eY ∙ ap (λ (l : List ℕ). take k X ++ l) (id.0 ∙ e2) ∙ take-append-drop k X in
    let Xf : X ≡ take k a ++ drop k buf = g.fills ∙ ap (λ (i : ℕ). take i a ++ drop i buf) (sym s.is) in
    let aX : X ≡ a ++ drop k buf = Xf ∙ ap (λ (l : List ℕ). l ++ drop k buf) (take_all k a (omega arith)) in
    record {
      all = ka;
      some = o;
      long = ap length YX ∙ lX;
      less = omega (arith, s.is, w);
      bare = op;
      front = ap (λ (l : List ℕ). take k l) (YX ∙ aX) ∙ take_at a (drop k buf) k (sym ka);
      back = ap (λ (l : List ℕ). drop k l) (YX ∙ aX) ∙ drop_at a (drop k buf) k (sym ka);
      same = YX;
      none = id.1;
    }

past : (a b : List ℕ) → (get_or a (through a - 1) 0 ≡ 10 → ⊥) → through (a ++ b) ≡ length a + through b
past a b op = elim (through-++ a b) [ inl j ↦ absurd (op j.1) | inr j ↦ j.0 ]

-- then the second gave m bytes
pub join_more : (buf a : List ℕ) (ta ta2 : Bool) (k : ℕ) (X Y a2 : List ℕ) (b : List ℕ) (tb : Bool) (m : ℕ) (buf3 b' : List ℕ) (tb' : Bool) →
    Spent buf a k X Y a2 → ta ≡ false → ta2 ≡ false → Given (take (length Y - k) (drop k Y)) (text b tb) (Bytes m) buf3 (text b' tb') →
    Given buf (joined (text a ta) (text b tb)) (Bytes (k + m)) (put_mid k (length Y - k) Y buf3) (joined (text a2 ta2) (text b' tb'))
join_more buf a ta ta2 k X Y a2 b tb m buf3 b' tb' s t t2 g3 =
    let o = s.some in
    let r3 : List ℕ = take (length Y - k) (drop k Y) in
    let Z : List ℕ = put_mid k (length Y - k) Y buf3 in
    let e3 : r3 ≡ drop k Y = take_rest Y k in
    let eZ : Z ≡ take k Y ++ buf3 = put_rest k Y buf3 in
    let ka = s.all in
    let dX : r3 ≡ drop k buf = e3 ∙ s.back in
    let l3 : length r3 ≡ length buf - k = ap length dX ∙ length-drop k buf in
    let s3 = seen r3 b tb m buf3 b' tb' (omega (arith, s.less)) g3 in
    let q : k + m ≡ moved (length buf) (a ++ b) = omega (arith, s3.is, l3, past a b s.bare) in
    let f3 : buf3 ≡ take m b ++ drop m (drop k buf) = g3.fills ∙ ap (λ (i : ℕ). take i b ++ drop i r3) (sym s3.is) ∙ ap (λ (l : List ℕ). take m b ++ drop m l) dX in
    let tk : take (k + m) (a ++ b) ≡ a ++ take m b = ap (λ (i : ℕ). take (i + m) (a ++ b)) ka ∙ take-append-add a b m in
    let f : Z ≡ take (k + m) (a ++ b) ++ drop (k + m) buf = eZ ∙ ap (λ (l : List ℕ). l ++ buf3) s.front ∙ ap (λ (l : List ℕ). a ++ l) f3 ∙ ap (λ (l : List ℕ). a ++ (take m b ++ l)) (drop-drop m k buf)
    ∙ sym (append_assoc a (take m b) (drop (k + m) buf)) ∙ ap (λ (l : List ℕ). l ++ drop (k + m) buf) (sym tk) in
    let d : b' ≡ drop (k + m) (a ++ b) = left_is r3 b tb m buf3 b' tb' (omega (arith, s.less)) g3 ∙ ap (λ (l : List ℕ). drop m l) (sym (drop_at a b k (sym ka))) ∙ drop-drop m k (a ++ b) in
    rw (t, t2, s.none, g3.keeps) (given_bytes buf (a ++ b) tb (k + m) Z b' (simp length-append (omega arith)) q f d)

no_bytes : (room : ℕ) (b : List ℕ) (t : Bool) (r : Piece) → r ≡ answer room b t → ((m : ℕ) → r ≡ Bytes m → ⊥) → b ≡ []
no_bytes room [] t r e n = refl
no_bytes room (x ∷ b) t r e n = absurd (n _ e)

-- or it had none
pub join-none : (buf a : List ℕ) (ta ta2 : Bool) (k : ℕ) (X Y a2 : List ℕ) (b : List ℕ) (tb : Bool) (r : Piece) (buf3 b' : List ℕ) (tb' : Bool) →
    Spent buf a k X Y a2 → ta ≡ false → ta2 ≡ false → Given (take (length Y - k) (drop k Y)) (text b tb) r buf3 (text b' tb') → ((m : ℕ) → r ≡ Bytes m → ⊥) →
    Given buf (joined (text a ta) (text b tb)) (Bytes k) (put_mid k (length Y - k) Y buf3) (joined (text a2 ta2) (text b' tb'))
join-none buf a ta ta2 k X Y a2 b tb r buf3 b' tb' s t t2 g3 n =
    let o = s.some in
    let r3 : List ℕ = take (length Y - k) (drop k Y) in
    let Z : List ℕ = put_mid k (length Y - k) Y buf3 in
    let e3 : r3 ≡ drop k Y = take_rest Y k in
    let eZ : Z ≡ take k Y ++ buf3 = put_rest k Y buf3 in
    let ka = s.all in
    let bn = no_bytes (length r3) b tb r g3.answers n in
    let id = idle r3 b tb r buf3 b' tb' g3 bn in
    let dX : r3 ≡ drop k buf = e3 ∙ s.back in
    let z : through b ≡ 0 = ap through bn in
    let q : k ≡ moved (length buf) (a ++ b) = omega (arith, s.less, past a b s.bare) in
    let f : Z ≡ take k (a ++ b) ++ drop k buf = eZ ∙ ap (λ (l : List ℕ). l ++ buf3) (s.front ∙ sym (take_at a b k (sym ka))) ∙ ap (λ (l : List ℕ). take k (a ++ b) ++ l) (id.0 ∙ dX) in
    let d : b' ≡ drop k (a ++ b) = id.1 ∙ sym bn ∙ sym (drop_at a b k (sym ka)) in
    rw (t, t2, s.none, g3.keeps) (given_bytes buf (a ++ b) tb k Z b' (simp length-append (omega arith)) q f d)

not_ended : (t : Bool) (room : ℕ) (xs : List ℕ) (r : Piece) → xs ≡ [] → 0 < room → r ≡ answer room xs t → (r ≡ Ended → ⊥) → t ≡ true
not_ended true room xs r e h q n = refl
not_ended false room [] r e h q n = absurd (n (q ∙ ap (λ (t : Bool). cond t (Bytes 0) Ended) (ne_eqb room 0 (omega arith))))
not_ended false room (x ∷ xs) r e h q n = let z : ◌≡◌ {A = ℕ} (length (x ∷ xs)) 0 = ap length e in absurd (omega arith)

-- or the first was broken
pub join-broken : (buf a : List ℕ) (ta : Bool) (k : ℕ) (X a1 : List ℕ) (ta1 : Bool) (r : Piece) (buf2 a2 : List ℕ) (ta2 : Bool) (b : List ℕ) (tb : Bool) → length X ≡ length buf →
    0 < length buf → Given buf (text a ta) (Bytes k) X (text a1 ta1) → (get_or X (k - 1) 0 ≡ 10 → ⊥) → (k ≡ length buf → ⊥) →
    Given (take (length X - k) (drop k X)) (text a1 ta1) r buf2 (text a2 ta2) → (r ≡ Ended → ⊥) →
    Given buf (joined (text a ta) (text b tb)) (Bytes k) (put_mid k (length X - k) X buf2) (joined (text a2 ta2) (text b tb))
join-broken buf a ta k X a1 ta1 r buf2 a2 ta2 b tb lX h g n w g2 u =
    let s = spent buf a ta k X a1 ta1 r buf2 a2 ta2 lX h g n w g2 in
    let z = none_after h g n w in
    let l2 : length (take (length X - k) (drop k X)) ≡ length X - k = ap length (take_rest X k) ∙ length-drop k X in
    let t1 : ta1 ≡ true = not_ended ta1 (length (take (length X - k) (drop k X))) a1 r z.0 (omega (arith, l2, lX, s.less)) g2.answers u in
    let t : ta ≡ true = sym g.keeps ∙ t1 in
    let t2 : ta2 ≡ true = g2.keeps ∙ t1 in
    let v : a2 ≡ a1 = s.none ∙ sym z.0 in
    let g' : Given buf (text a true) (Bytes k) X (text a1 true) = subst (λ (x : Bool). Given buf (text a x) (Bytes k) X (text a1 true)) t (subst (λ (x : Bool). Given buf (text a ta) (Bytes k) X (text a1 x)) t1 g) in
    rw (t, t2, s.same, v) g'

-- Bytes of one record moved, and pieces made of several such parts.
use Rattle.std.proofs.Common.{◌≡◌, ℕ, zero, suc, ◌+◌, ◌-◌, ◌<◌, ◌≤◌, Bool, true, false, cond, eqb, ◌⊎◌, List, [], ◌∷◌, ◌++◌, length, get_or, take, drop, sym, ap, ◌∙◌, subst, inl, inr, append_assoc, append-nil, arith, length-append, length-drop, eq-eqb, ne_eqb}
use Rattle.std.proofs.Math.Seq.{take-add}
use borrow.Rule.Slice.PartMut.{put_mid}
use Rattle.std.proofs.lemmas.List.{drop_all, take_rest, length-take-le, take-append-le, drop-append-le, drop-take, drop-drop, get_or-take, take_at, drop_at}
use Rattle.std.proofs.lemmas.Bool.{cases_eq}
use Rattle.sources.specs.Bytes.{through, moved}
use Rattle.sources.specs.Texts.{text as told}
use Rattle.sources.specs.Given.{Given}
use Rattle.sources.specs.declared.source.Piece.TheVariants.{Bytes}
use Rattle.sources.proofs.Through.{through-≤, through-some}
use Rattle.sources.proofs.Split.{through-first}
use Rattle.sources.proofs.Answered.{given_bytes}
use Rattle.sources.specs.Records.{Part}

pub through-front : (xs ys : List ℕ) → through xs ≤ through (xs ++ ys)
through-front [] ys = omega arith
through-front (x ∷ xs) ys =
    let ih = through-front xs ys in
    elim (eqb x 10) as (λ t. cond t 1 (suc (through xs)) ≤ cond t 1 (suc (through (xs ++ ys)))) [ true ↦ omega arith | false ↦ omega arith ]

-- k bytes of the text `front`, which `more` follows, moved
pub part_made : {text text' : List ℕ} (buf front more : List ℕ) (k : ℕ) (buf' : List ℕ) → text ≡ front ++ more → text' ≡ drop k front ++ more → 0 < length front → 0 < length buf → k ≡ moved (length buf) front → buf' ≡ take k front ++ drop k buf → Part buf text k buf' text'
part_made {text} {text'} buf front more k buf' e e' h b i f =
    let t = through-≤ front in
    let s = through-some front h in
    let v = through-front front more in
    let q : k ≤ length front = omega arith in
    rw (e, e') (record {
      some = omega arith;
      within = omega arith;
      line = omega arith;
      fills = f ∙ ap (λ (j : List ℕ). j ++ drop k buf) (sym (take-append-le k front more q));
      moves = sym (drop-append-le k front more q);
    })

-- the text of a record, k bytes further on
pub further : (r : List ℕ) (u m k : ℕ) → u + k ≤ m → drop k (take (m - u) (drop (2 + u) r)) ≡ take (m - (u + k)) (drop (2 + (u + k)) r)
further r u m k h =
    let w : k + ((m - u) - k) ≡ m - u = omega arith in
    let z : (m - u) - k ≡ m - (u + k) = omega arith in
    let y : (2 + u) + k ≡ 2 + (u + k) = omega arith in
    ap (λ (j : ℕ). drop k (take j (drop (2 + u) r))) (sym w) ∙ drop-take k ((m - u) - k) (drop (2 + u) r) ∙ ap (λ (j : ℕ). take j (drop k (drop (2 + u) r))) z ∙ ap (take (m - (u + k))) (drop-drop k (2 + u) r ∙ ap (λ (j : ℕ). drop j r) y)

-- n bytes of `text` were moved to the front of a buffer that was `buf` and is `buf'`; none of them is 10, and `text'` is left
pub record Filled (buf text : List ℕ) (n : ℕ) (buf' text' : List ℕ) : Type 0 where
  pub short : n < length buf
  pub line : through text ≡ n + through text'
  pub fits : n ≤ length text
  pub fills : buf' ≡ take n text ++ drop n buf
  pub moves : text' ≡ drop n text

pub front_is : {buf text : List ℕ} {n : ℕ} {buf' text' : List ℕ} → Filled buf text n buf' text' → (take n buf' ≡ take n text) × (drop n buf' ≡ drop n buf)
front_is {buf} {text} {n} {buf'} {text'} f =
    let l : length (take n text) ≡ n = length-take-le n text f.fits in
    (ap (take n) f.fills ∙ take_at (take n text) (drop n buf) n l, ap (drop n) f.fills ∙ drop_at (take n text) (drop n buf) n l)

-- ys in the place of what is behind the first n of xs
pub put_rest : (n : ℕ) (xs ys : List ℕ) → put_mid n (length xs - n) xs ys ≡ take n xs ++ ys
put_rest n xs ys = ap (λ (l : List ℕ). take n xs ++ (ys ++ l)) (drop_all (length xs - n) (drop n xs) (simp length-drop (omega arith))) ∙ ap (λ (l : List ℕ). take n xs ++ l) (append-nil ys)

pub more-moved : {buf text : List ℕ} {n : ℕ} {buf' text' : List ℕ} {k : ℕ} {r2 buf2 text'' : List ℕ} → Filled buf text n buf' text' → r2 ≡ take (length buf' - n) (drop n buf') → Part r2 text' k buf2 text'' →
    Part buf text (n + k) (put_mid n (length buf' - n) buf' buf2) text''
more-moved {buf} {text} {n} {buf'} {text'} {k} {r2} {buf2} {text''} f e p =
    let w = front_is f in
    let r : r2 ≡ drop n buf = e ∙ take_rest buf' n ∙ w.1 in
    let q : put_mid n (length buf' - n) buf' buf2 ≡ take n buf' ++ buf2 = put_rest n buf' buf2 in
    let l : length r2 ≡ length buf - n = ap length r ∙ length-drop n buf in
    let t = through-≤ text in
    let c : take (n + k) text ≡ take n text ++ take k (drop n text) = take-add n k text in
    record {
      some = omega (arith, p.some);
      within = omega (arith, f.short, p.within);
      line = omega (arith, f.line, p.line);
      fills = q ∙ ap (λ (l : List ℕ). l ++ buf2) w.0 ∙ ap (λ (l : List ℕ). take n text ++ l) (p.fills ∙ ap (λ (l : List ℕ). take k text' ++ drop k l) r ∙ ap (λ (l : List ℕ). take k l ++ drop k (drop n buf)) f.moves ∙ ap (λ (l : List ℕ). take k (drop n text) ++ l) (drop-drop k n buf))
          ∙ sym (append_assoc (take n text) (take k (drop n text)) (drop (n + k) buf)) ∙ ap (λ (l : List ℕ). l ++ drop (n + k) buf) (sym c);
      moves = p.moves ∙ ap (drop k) f.moves ∙ drop-drop k n text;
    }

-- the piece ends here
pub moved-end : {buf text : List ℕ} {n : ℕ} {buf' text' : List ℕ} {broken broken' : Bool} → Part buf text n buf' text' → broken' ≡ broken → (n ≡ length buf) ⊎ (get_or buf' (n - 1) 0 ≡ 10) → Given buf (told text broken) (Bytes n) buf' (told text' broken')
moved-end {buf} {text} {n} {buf'} {text'} {broken} {broken'} m k e =
    let t = through-≤ text in
    rw k (given_bytes buf text broken n buf' text' (omega (arith, m.some, m.line)) (is e) m.fills m.moves)
  where
    at : get_or buf' (n - 1) 0 ≡ 10 → through text ≤ n
    at b =
        let t = through-≤ text in
        let l : length (take n text) ≡ n = length-take-le n text (omega (arith, m.line)) in
        let o : n - 1 < n = omega (arith, m.some) in
        let g : get_or text (n - 1) 0 ≡ 10 = sym (get_or-take n text (n - 1) 0 o) ∙ ap (λ (l : List ℕ). get_or l (n - 1) 0) (sym (take_at (take n text) (drop n buf) n l) ∙ ap (take n) (sym m.fills)) ∙ get_or-take n buf' (n - 1) 0 o ∙ b in
        let f = through-first text (n - 1) (omega (arith, m.line, m.some)) g in
        omega (arith, m.some)

    is : (n ≡ length buf) ⊎ (get_or buf' (n - 1) 0 ≡ 10) → n ≡ moved (length buf) text
    is (inl h) = omega (arith, m.line)
    is (inr h) = omega (arith, m.line, m.within, at h)

-- or goes on
pub moved_on : {buf text : List ℕ} {n : ℕ} {buf' text' : List ℕ} → Part buf text n buf' text' → (n ≡ length buf → ⊥) → (get_or buf' (n - 1) 0 ≡ 10 → ⊥) → Filled buf text n buf' text'
moved_on {buf} {text} {n} {buf'} {text'} m e b =
    let t = through-≤ text in
    let l : length (take n text) ≡ n = length-take-le n text (omega (arith, m.line)) in
    let o : n - 1 < n = omega (arith, m.some) in
    let g : get_or text (n - 1) 0 ≡ get_or buf' (n - 1) 0 = sym (get_or-take n text (n - 1) 0 o) ∙ ap (λ (l : List ℕ). get_or l (n - 1) 0) (sym (take_at (take n text) (drop n buf) n l) ∙ ap (take n) (sym m.fills)) ∙ get_or-take n buf' (n - 1) 0 o in
    let y : suc (n - 1) ≡ n = omega (arith, m.some) in
    record { short = lt_of n (length buf) m.within e; line = subst (λ (k : ℕ). through text ≡ k + through (drop k text)) y (through-on text (n - 1) (omega (arith, m.some, m.line)) (λ q. b (sym g ∙ q))) ∙ ap (λ (l : List ℕ). n + through l) (sym m.moves); fits = omega (arith, m.line); fills = m.fills; moves = m.moves }
  where
    lt_of : (a b : ℕ) → a ≤ b → (a ≡ b → ⊥) → a < b
    lt_of a b h q = omega arith

    through-on : (xs : List ℕ) (m : ℕ) → suc m ≤ through xs → (get_or xs m 0 ≡ 10 → ⊥) → through xs ≡ suc m + through (drop (suc m) xs)
    through-on [] m h q = absurd (omega arith)
    through-on (x ∷ xs) zero h q = rw (ne_eqb x 10 q) (omega arith)
    through-on (x ∷ xs) (suc m) h q =
        elim (cases_eq x 10) [
          | inl e ↦ let z : through (x ∷ xs) ≡ 1 = ap (λ (t : Bool). cond t 1 (suc (through xs))) (eq-eqb x 10 e) in absurd (omega arith)
          | inr e ↦ let z : through (x ∷ xs) ≡ suc (through xs) = ap (λ (t : Bool). cond t 1 (suc (through xs))) (ne_eqb x 10 e) in
              let ih = through-on xs m (omega arith) q in omega arith
        ]

pub moved_length : {buf text : List ℕ} {n : ℕ} {buf' text' : List ℕ} → Part buf text n buf' text' → length buf' ≡ length buf
moved_length {buf} {text} {n} {buf'} {text'} m =
    let t = through-≤ text in
    let l : length (take n text) ≡ n = length-take-le n text (omega (arith, m.line)) in
    ap length m.fills ∙ simp (length-append, length-drop) (omega (arith, m.within))

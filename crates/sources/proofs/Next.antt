-- What the driver's two calls of `piece` say of the next line.
use Rattle.std.proofs.Common.{◌≡◌, ℕ, suc, ◌-◌, ◌<◌, Bool, true, cond, eqb, ◌⊎◌, List, [], ◌∷◌, length, get_or, take, drop, sym, refl, ap, ◌∙◌, inl, inr, arith, ne_eqb, eqb-true}
use borrow.Rule.Slice.PartMut.{put_mid}
use Rattle.std.proofs.lemmas.List.{drop_all, get_or-take, length-append, length-take-le}
use Rattle.std.proofs.lemmas.Slice.{take-put_mid_below}
use Rattle.std.proofs.lemmas.Bool.{cases_Bool, cases_lt}
use Rattle.sources.specs.Bytes.{through, moved}
use Rattle.sources.specs.Texts.{text}
use Rattle.sources.specs.Given.{Given, answer, ending}
use Rattle.sources.specs.Came.{Lined, Comes}
use Rattle.sources.specs.declared.source.Piece.{Piece}
use Rattle.sources.specs.declared.source.Piece.TheVariants as piece
use Rattle.sources.specs.declared.drive.Next.TheVariants.{Line, Lost}
use Rattle.sources.proofs.Through.{through-some}
use Rattle.sources.proofs.Steps.{one, last-is, whole, fits, seen, left_is, not_long, ended_is, stands, broken_left}

-- a line without a byte 10 at its end is the rest of the text
open_or : (xs : List ℕ) → (through xs ≡ length xs) ⊎ (get_or xs (through xs - 1) 0 ≡ 10)
open_or [] = inl refl
open_or (x ∷ xs) =
    elim (cases_Bool (eqb x 10)) [
      | inl a ↦ inr (ap (λ (t : Bool). get_or (x ∷ xs) (cond t 1 (suc (through xs)) - 1) 0) a ∙ eqb-true x 10 a)
      | inr a ↦ elim (open_or xs) [
        | inl e ↦ inl (ap (λ (t : Bool). cond t 1 (suc (through xs))) a ∙ ap suc e)
        | inr e ↦ elim (cases_lt 0 (through xs)) [
          | inl p ↦ let q : suc (through xs) - 1 ≡ suc (through xs - 1) = omega arith in
              inr (ap (λ (t : Bool). get_or (x ∷ xs) (cond t 1 (suc (through xs)) - 1) 0) a ∙ ap (λ (i : ℕ). get_or (x ∷ xs) i 0) q ∙ e)
          | inr p ↦ elim (cases_lt 0 (length xs)) [ inl k ↦ absurd (omega (arith, through-some xs k)) | inr k ↦ inl (ap (λ (t : Bool). cond t 1 (suc (through xs))) a ∙ (omega arith)) ]
        ]
      ]
    ]

pub through-open : (xs : List ℕ) → (get_or xs (through xs - 1) 0 ≡ 10 → ⊥) → through xs ≡ length xs
through-open xs h = elim (open_or xs) [ inl e ↦ e | inr e ↦ absurd (h e) ]

lined : {buf xs : List ℕ} {broken : Bool} {n : ℕ} {buf' xs' : List ℕ} {broken' : Bool} → 0 < length buf → Given buf (text xs broken) (piece.Bytes n) buf' (text xs' broken') →
    (n ≡ length buf → get_or buf' (n - 1) 0 ≡ 10) → length buf' ≡ length buf → Lined (length buf) xs n buf' xs'
lined {buf} {xs} {broken} {n} {buf'} {xs'} {broken'} h g e w =
    let s = seen buf xs broken n buf' xs' broken' h g in
    record { some = one s; is = whole s e; short = not_long s e; within = omega (arith, s.is); fits = fits s; front = s.front; left = left_is buf xs broken n buf' xs' broken' h g }

pub came_line : {buf xs : List ℕ} {broken : Bool} {n : ℕ} {buf' xs' : List ℕ} {broken' : Bool} → 0 < length buf → Given buf (text xs broken) (piece.Bytes n) buf' (text xs' broken') →
    get_or buf' (n - 1) 0 ≡ 10 → length buf' ≡ length buf → Comes (length buf) xs broken (Line n) buf' xs'
came_line {buf} {xs} {broken} {n} {buf'} {xs'} {broken'} h g b w =
    (lined h g (λ _. b) w, stands broken (seen buf xs broken n buf' xs' broken' h g) (λ _. b))

-- the second call, after a line without a byte 10
pub none_after : {buf xs : List ℕ} {broken : Bool} {n : ℕ} {buf' xs' : List ℕ} {broken' : Bool} → 0 < length buf → Given buf (text xs broken) (piece.Bytes n) buf' (text xs' broken') →
    (get_or buf' (n - 1) 0 ≡ 10 → ⊥) → (n ≡ length buf → ⊥) → (xs' ≡ []) × (drop n xs ≡ [])
none_after {buf} {xs} {broken} {n} {buf'} {xs'} {broken'} h g b w =
    let s = seen buf xs broken n buf' xs' broken' h g in
    let k : n ≡ through xs = whole s (λ q. absurd (w q)) in
    let o = one s in
    let l : get_or xs (n - 1) 0 ≡ get_or buf' (n - 1) 0 = sym (get_or-take n xs (n - 1) 0 (omega arith)) ∙ last-is s in
    let t : through xs ≡ length xs = through-open xs (λ q. b (sym l ∙ ap (λ (i : ℕ). get_or xs (i - 1) 0) k ∙ q)) in
    let d : drop n xs ≡ [] = drop_all n xs (omega arith) in
    (left_is buf xs broken n buf' xs' broken' h g ∙ d, d)

-- what the second call leaves of it
mended : {room : ℕ} {xs : List ℕ} {n : ℕ} {buf' xs' : List ℕ} (k : ℕ) (buf'' xs'' : List ℕ) → Lined room xs n buf' xs' → length buf'' ≡ length buf' - n → xs'' ≡ xs' → Lined room xs n (put_mid n k buf' buf'') xs''
mended {room} {xs} {n} {buf'} {xs'} k buf'' xs'' l a b =
    let w = l.within in
    let p : length (take n buf') ≡ n = length-take-le n buf' w in
    record { some = l.some; is = l.is; short = l.short; within = simp length-append (omega (arith, p)); fits = l.fits; front = take-put_mid_below n k buf' buf'' n (omega arith) w ∙ l.front; left = b ∙ l.left }

pub came_lost : {buf xs : List ℕ} {broken : Bool} {n : ℕ} {buf' xs' : List ℕ} {broken' : Bool} {buf'' xs'' : List ℕ} {broken'' : Bool} {r2 : List ℕ} (k : ℕ) → 0 < length buf → Given buf (text xs broken) (piece.Bytes n) buf' (text xs' broken') →
    (get_or buf' (n - 1) 0 ≡ 10 → ⊥) → (n ≡ length buf → ⊥) → length buf' ≡ length buf → length buf'' ≡ length buf' - n →
    Given r2 (text xs' broken') piece.Broken buf'' (text xs'' broken'') → Comes (length buf) xs broken (Lost n) (put_mid n k buf' buf'') xs''
came_lost {buf} {xs} {broken} {n} {buf'} {xs'} {broken'} {buf''} {xs''} {broken''} {r2} k h g b w l a q =
    let t = broken_left r2 xs' broken' buf'' xs'' broken'' q in
    let s = seen buf xs broken n buf' xs' broken' h g in
    (mended k buf'' xs'' (lined h g (λ e. absurd (w e)) l) a (t.2 ∙ sym t.0), sym g.keeps ∙ t.1, ended_is s ∙ ne_eqb (get_or buf' (n - 1) 0) 10 b)

pub came_rest : {buf xs : List ℕ} {broken : Bool} {n : ℕ} {buf' xs' : List ℕ} {broken' : Bool} {r : Piece} {buf'' xs'' : List ℕ} {broken'' : Bool} {r2 : List ℕ} (k : ℕ) → 0 < length buf → Given buf (text xs broken) (piece.Bytes n) buf' (text xs' broken') →
    (get_or buf' (n - 1) 0 ≡ 10 → ⊥) → (n ≡ length buf → ⊥) → length buf' ≡ length buf → length buf'' ≡ length buf' - n → 0 < length r2 →
    Given r2 (text xs' broken') r buf'' (text xs'' broken'') → (r ≡ piece.Broken → ⊥) → Comes (length buf) xs broken (Line n) (put_mid n k buf' buf'') xs''
came_rest {buf} {xs} {broken} {n} {buf'} {xs'} {broken'} {r} {buf''} {xs''} {broken''} {r2} k h g b w l a z q u =
    let s = seen buf xs broken n buf' xs' broken' h g in
    let o = none_after h g b w in
    let m : xs'' ≡ [] = q.moves ∙ ap (λ (ys : List ℕ). drop (moved (length r2) xs') ys) o.0 ∙ drop_all (moved (length r2) xs') [] (omega arith) in
    let f : broken ≡ true → ⊥ = λ e. u (q.answers ∙ ap (λ (ys : List ℕ). answer (length r2) ys broken') o.0
    ∙ ap (λ (t : Bool). cond t (piece.Bytes 0) (ending broken')) (ne_eqb (length r2) 0 (omega arith)) ∙ ap (λ (t : Bool). ending t) (g.keeps ∙ e)) in
    (mended k buf'' xs'' (lined h g (λ e. absurd (w e)) l) a (m ∙ sym o.0), stands broken s (λ e. absurd (f e)))

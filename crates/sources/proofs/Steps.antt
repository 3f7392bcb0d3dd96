-- What one turn of the driver's loop reads, and what the definition says of it.
use Rattle.std.proofs.Common.{◌≡◌, ℕ, ◌+◌, ◌-◌, ◌<◌, min, Bool, true, false, cond, not, eqb, ltb, List, [], ◌∷◌, ◌++◌, length, get_or, take, drop, Err, IsUtf8, sym, refl, ap, ◌∙◌, inl, inr, arith, eq-eqb, ne_eqb}
use Rattle.std.proofs.lemmas.List.{length-take-le, take_all, get_or-take, drop_all, take_at}
use Rattle.std.proofs.lemmas.Bool.{cases_lt, cases_eq, cases_Bool}
use Rattle.sources.specs.declared.reason.Reason.TheVariants as reason
use Rattle.sources.specs.Utf8.{is_utf8}
use Rattle.sources.proofs.Utf8.{text_formed, formed-text}
use Rattle.sources.specs.Bytes.{through, moved}
use Rattle.sources.specs.Texts.{text}
use Rattle.sources.specs.Given.{Given, ending}
use Rattle.sources.specs.Lines.{lost, lines_of, ended, full, long, judged, walk, Outcome, broke, on_fault}
use Rattle.sources.specs.Faults.{refused}
use Rattle.sources.specs.Rules.{Rules}
use Rattle.sources.specs.declared.source.Piece.TheVariants.{Bytes, Ended, Broken}
use Rattle.sources.proofs.Through.{through-≤, through-some}
use Rattle.sources.proofs.Split.{lines_some, text_lines, through-first}

-- a piece of n bytes was read from the text xs into a buffer of `room` bytes, which has `buf` after it
pub record Seen (room : ℕ) (xs : List ℕ) (n : ℕ) (buf : List ℕ) : Type 0 where
  pub some : 0 < length xs
  pub room_is : 0 < room
  pub is : n ≡ min room (through xs)
  pub front : take n buf ≡ take n xs

-- there is a byte
pub one : {room : ℕ} {xs : List ℕ} {n : ℕ} {buf : List ℕ} → Seen room xs n buf → 0 < n
one {room} {xs} {n} {buf} s = omega (arith, through-some xs s.some, s.is)

-- its last byte
pub last-is : {room : ℕ} {xs : List ℕ} {n : ℕ} {buf : List ℕ} → Seen room xs n buf → get_or (take n xs) (n - 1) 0 ≡ get_or buf (n - 1) 0
last-is {room} {xs} {n} {buf} s =
    let p = one s in
    let h : n - 1 < n = omega arith in
    ap (λ (l : List ℕ). get_or l (n - 1) 0) (sym s.front) ∙ get_or-take n buf (n - 1) 0 h

pub fits : {room : ℕ} {xs : List ℕ} {n : ℕ} {buf : List ℕ} → Seen room xs n buf → length (take n xs) ≡ n
fits {room} {xs} {n} {buf} s = let h = through-≤ xs in length-take-le n xs (omega (arith, s.is))

-- a piece that is not refused is a line
pub whole : {room : ℕ} {xs : List ℕ} {n : ℕ} {buf : List ℕ} → Seen room xs n buf → (n ≡ room → get_or buf (n - 1) 0 ≡ 10) → n ≡ through xs
whole {room} {xs} {n} {buf} s e =
    elim (cases_lt room (through xs)) [
      | inl h ↦
          let o = one s in
          let k : n ≡ room = omega (arith, s.is) in
          let b : get_or xs (n - 1) 0 ≡ 10 = sym (get_or-take n xs (n - 1) 0 (omega arith)) ∙ last-is s ∙ e k in
          let f = through-first xs (n - 1) (omega (arith, through-≤ xs)) b in
          absurd (omega arith)
      | inr h ↦ omega (arith, s.is)
    ]

pub walk-some : {M C : Type 0} (room most : ℕ) (R : Rules M C) (broken : Bool) (taken size : ℕ) (m : M) (xs : List ℕ) → 0 < length xs →
    walk room most R broken taken size m (lines_of xs) ≡ judged room most R broken taken size m (take (through xs) xs) (drop (through xs) xs)
    (walk room most R broken (taken + 1) (size + length (take (through xs) xs)) (R.next m (take (through xs) xs)) (lines_of (drop (through xs) xs)))
unfolding walk
walk-some {M} {C} room most R broken taken size m xs h =
    ap (λ (ls : List (List ℕ)). walk room most R broken taken size m ls) (lines_some xs h)
    ∙ ap (λ (t : List ℕ). judged room most R broken taken size m (take (through xs) xs) t
    (walk room most R broken (taken + 1) (size + length (take (through xs) xs)) (R.next m (take (through xs) xs)) (lines_of (drop (through xs) xs))))
    (text_lines (drop (through xs) xs))

pub judged-long : {M C : Type 0} (room most : ℕ) (R : Rules M C) (broken : Bool) (taken size : ℕ) (m : M) (l left : List ℕ) (go : Outcome M) →
    long room l ≡ true → judged room most R broken taken size m l left go ≡ (Err (refused reason.LongLine (taken + 1)), m, drop room (l ++ left))
unfolding judged
judged-long {M} {C} room most R broken taken size m l left go e = rw e

pub judged-past : {M C : Type 0} (room most : ℕ) (R : Rules M C) (broken : Bool) (taken size : ℕ) (m : M) (l left : List ℕ) (go : Outcome M) →
    long room l ≡ false → ltb most (size + length l) ≡ true → judged room most R broken taken size m l left go ≡ (Err (refused reason.LongText (taken + 1)), m, left)
unfolding judged
judged-past {M} {C} room most R broken taken size m l left go e f = rw (e, f)

pub judged-broken : {M C : Type 0} (room most : ℕ) (R : Rules M C) (broken : Bool) (taken size : ℕ) (m : M) (l left : List ℕ) (go : Outcome M) →
    long room l ≡ false → ltb most (size + length l) ≡ false → broken ≡ true → ended l ≡ false → judged room most R broken taken size m l left go ≡ (broke R.on_break taken, m, left)
unfolding judged
judged-broken {M} {C} room most R broken taken size m l left go e f t u = rw (e, f, t, u)

pub judged-cut : {M C : Type 0} (room most : ℕ) (R : Rules M C) (broken : Bool) (taken size : ℕ) (m : M) (l left : List ℕ) (go : Outcome M) →
    long room l ≡ false → ltb most (size + length l) ≡ false → lost broken l ≡ true → judged room most R broken taken size m l left go ≡ (broke R.on_break taken, m, left)
unfolding judged
judged-cut {M} {C} room most R broken taken size m l left go e f t = rw (e, f, t)

pub judged-text : {M C : Type 0} (room most : ℕ) (R : Rules M C) (broken : Bool) (taken size : ℕ) (m : M) (l left : List ℕ) (go : Outcome M) →
    long room l ≡ false → ltb most (size + length l) ≡ false → lost broken l ≡ false → is_utf8 l ≡ false → judged room most R broken taken size m l left go ≡ (broke R.on_break taken, m, left)
unfolding judged
judged-text {M} {C} room most R broken taken size m l left go e f t u = rw (e, f, t, u)

pub judged-kind : {M C : Type 0} (room most : ℕ) (R : Rules M C) (broken : Bool) (taken size : ℕ) (m : M) (l left : List ℕ) (go : Outcome M) →
    long room l ≡ false → ltb most (size + length l) ≡ false → lost broken l ≡ false → is_utf8 l ≡ true →
    judged room most R broken taken size m l left go ≡ on_fault (R.refused (R.next m l)) (taken + 1) (R.next m l) left go
unfolding judged
judged-kind {M} {C} room most R broken taken size m l left go e f t u = rw (e, f, t, u)

pub ended_is : {room : ℕ} {xs : List ℕ} {n : ℕ} {buf : List ℕ} → Seen room xs n buf → ended (take n xs) ≡ eqb (get_or buf (n - 1) 0) 10
ended_is {room} {xs} {n} {buf} s = ap (λ (i : ℕ). eqb (get_or (take n xs) (i - 1) 0) 10) (fits s) ∙ ap (λ (b : ℕ). eqb b 10) (last-is s)

pub not_long : {room : ℕ} {xs : List ℕ} {n : ℕ} {buf : List ℕ} → Seen room xs n buf → (n ≡ room → get_or buf (n - 1) 0 ≡ 10) → long room (take n xs) ≡ false
not_long {room} {xs} {n} {buf} s e =
    ap (λ (p : List ℕ). full room p) (take_all room (take n xs) (omega (arith, fits s, s.is)))
    ∙ elim (cases_eq n room) [
      | inl k ↦ ap (λ (t : Bool). cond t (not (ended (take n xs))) false) (eq-eqb (length (take n xs)) room (fits s ∙ k)) ∙ ap not (ended_is s ∙ eq-eqb (get_or buf (n - 1) 0) 10 (e k))
      | inr k ↦ ap (λ (t : Bool). cond t (not (ended (take n xs))) false) (ne_eqb (length (take n xs)) room (λ q. k (sym (fits s) ∙ q)))
    ]

-- the line is not cut off by a break
pub stands : {room : ℕ} {xs : List ℕ} {n : ℕ} {buf : List ℕ} (broken : Bool) → Seen room xs n buf → (broken ≡ true → get_or buf (n - 1) 0 ≡ 10) → lost broken (take n xs) ≡ false
stands {room} {xs} {n} {buf} true s t = ap not (ended_is s ∙ eq-eqb (get_or buf (n - 1) 0) 10 (t refl))
stands {room} {xs} {n} {buf} false s t = refl

no_ending : (broken : Bool) (n : ℕ) → Bytes n ≡ ending broken → ⊥
no_ending true n q = let z : ◌≡◌ {A = ℕ} 0 1 = cc in omega arith
no_ending false n q = let z : ◌≡◌ {A = ℕ} 0 1 = cc in omega arith

-- what a call of `piece` says of the text
pub seen : (buf xs : List ℕ) (broken : Bool) (n : ℕ) (buf' xs' : List ℕ) (broken' : Bool) → 0 < length buf → Given buf (text xs broken) (Bytes n) buf' (text xs' broken') → Seen (length buf) xs n buf'
seen buf [] broken n buf' xs' broken' h g =
    let q : Bytes n ≡ ending broken = g.answers ∙ ap (λ (t : Bool). cond t (Bytes 0) (ending broken)) (ne_eqb (length buf) 0 (omega arith)) in
    absurd (no_ending broken n q)
seen buf (x ∷ xs) broken n buf' xs' broken' h g =
    let i : n ≡ moved (length buf) (x ∷ xs) = let a = g.answers in cc in
    let k : length (take n (x ∷ xs)) ≡ n = length-take-le n (x ∷ xs) (omega (arith, through-≤ (x ∷ xs))) in
    let f : buf' ≡ take n (x ∷ xs) ++ drop n buf = g.fills ∙ ap (λ (j : ℕ). take j (x ∷ xs) ++ drop j buf) (sym i) in
    record { some = omega arith; room_is = h; is = i; front = ap (λ (l : List ℕ). take n l) f ∙ take_at (take n (x ∷ xs)) (drop n buf) n k }

is_ended : (broken : Bool) (b : Bool) → Ended ≡ cond b (Bytes 0) (ending broken) → broken ≡ false
is_ended broken true q = let z : ◌≡◌ {A = ℕ} 0 1 = cc in absurd (omega arith)
is_ended true false q = let z : ◌≡◌ {A = ℕ} 0 1 = cc in absurd (omega arith)
is_ended false false q = refl

is_broken : (broken : Bool) (b : Bool) → Broken ≡ cond b (Bytes 0) (ending broken) → broken ≡ true
is_broken broken true q = let z : ◌≡◌ {A = ℕ} 0 1 = cc in absurd (omega arith)
is_broken true false q = refl
is_broken false false q = let z : ◌≡◌ {A = ℕ} 0 1 = cc in absurd (omega arith)

pub none_left : (buf xs : List ℕ) (broken : Bool) (buf' xs' : List ℕ) (broken' : Bool) → Given buf (text xs broken) Ended buf' (text xs' broken') → (xs ≡ []) × (broken ≡ false) × (xs' ≡ [])
none_left buf [] broken buf' xs' broken' g = (refl, is_ended broken (eqb (length buf) 0) g.answers, g.moves ∙ drop_all (moved (length buf) []) [] (omega arith))
none_left buf (x ∷ xs) broken buf' xs' broken' g = let a = g.answers in let z : ◌≡◌ {A = ℕ} 0 1 = cc in absurd (omega arith)

pub broken_left : (buf xs : List ℕ) (broken : Bool) (buf' xs' : List ℕ) (broken' : Bool) → Given buf (text xs broken) Broken buf' (text xs' broken') → (xs ≡ []) × (broken ≡ true) × (xs' ≡ [])
broken_left buf [] broken buf' xs' broken' g = (refl, is_broken broken (eqb (length buf) 0) g.answers, g.moves ∙ drop_all (moved (length buf) []) [] (omega arith))
broken_left buf (x ∷ xs) broken buf' xs' broken' g = let a = g.answers in let z : ◌≡◌ {A = ℕ} 0 1 = cc in absurd (omega arith)

-- the two tests of text
pub text_true : (l : List ℕ) → IsUtf8 l → is_utf8 l ≡ true
text_true l u = text_formed l u

pub text_false : (l : List ℕ) → (IsUtf8 l → ⊥) → is_utf8 l ≡ false
text_false l u = elim (cases_Bool (is_utf8 l)) [ inl a ↦ absurd (u (formed-text l a)) | inr a ↦ a ]

pub left_is : (buf xs : List ℕ) (broken : Bool) (n : ℕ) (buf' xs' : List ℕ) (broken' : Bool) → 0 < length buf → Given buf (text xs broken) (Bytes n) buf' (text xs' broken') → xs' ≡ drop n xs
left_is buf xs broken n buf' xs' broken' h g = g.moves ∙ ap (λ (k : ℕ). drop k xs) (sym (seen buf xs broken n buf' xs' broken' h g).is)

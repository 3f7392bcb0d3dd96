use Rattle.std.proofs.Common.{◌≡◌, ℕ, suc, ◌<◌, get_or, true, false, List, [], ◌∷◌, ◌++◌, length, take, drop, IsUtf8, sym, refl, ap, ◌∙◌, subst, append_assoc, append-nil, arith}
use lib.Utf8.{encode, encodes, scalar}
use Rattle.std.specs.Char.{is_whitespace, is_not_whitespace, is_ascii_whitespace}
use Rattle.std.specs.Str.{NonePass, EmptyOrStartsWithPassing, EmptyOrEndsWithPassing, IsTrimStart, IsTrimAsciiStart, IsAscii, chars}
use Rattle.std.proofs.lemmas.Bool.Decides.{nat_tests}
use Rattle.std.proofs.lemmas.Bool.{not-true, not-false}
use Rattle.std.proofs.lemmas.List.{take-append-drop, take_at, length-take-le, get_or-take}
use Rattle.std.proofs.lemmas.Str.Ascii.{IsAscii-nil, IsAscii-cons}
use Rattle.std.proofs.lemmas.Str.Pattern.{IsTrimResult}
use Rattle.std.proofs.lemmas.Str.{encodes-append, encodes_same, encodes-chars, encodes-IsAscii, IsCharBoundary-at_seam, IsUtf8-take, IsUtf8-encode, chars-nil, chars_past_char}
use Rattle.sources.specs.White.{trim_front, trim_back, keep, trim, trim_start}

front_white : (ws xs : List ℕ) → NonePass is_not_whitespace ws → trim_front (ws ++ xs) ≡ trim_front xs
front_white [] xs h = refl
front_white (w ∷ ws) xs h = rw (not-false (is_whitespace w) h.0) (front_white ws xs h.1)

all_white : (ws : List ℕ) → NonePass is_not_whitespace ws → trim_front ws ≡ []
all_white [] h = refl
all_white (w ∷ ws) h = rw (not-false (is_whitespace w) h.0) (all_white ws h.1)

back_white : (vs : List ℕ) → NonePass is_not_whitespace vs → trim_back vs ≡ []
back_white [] h = refl
back_white (v ∷ vs) h = rw (back_white vs h.1, not-false (is_whitespace v) h.0)

keep-more : (f c : ℕ) (fs : List ℕ) → keep f (fs ++ (c ∷ [])) ≡ f ∷ (fs ++ (c ∷ []))
keep-more f c [] = refl
keep-more f c (g ∷ fs) = refl

back_dark : (fs : List ℕ) (c : ℕ) (vs : List ℕ) → is_whitespace c ≡ false → NonePass is_not_whitespace vs → trim_back (fs ++ (c ∷ vs)) ≡ fs ++ (c ∷ [])
back_dark [] c vs d h = rw (back_white vs h, d)
back_dark (f ∷ fs) c vs d h = rw (back_dark fs c vs d h) (keep-more f c fs)

front_dark : (ts xs es : List ℕ) (a : ℕ) → ts ≡ a ∷ es → is_whitespace a ≡ false → trim_front (ts ++ xs) ≡ ts ++ xs
front_dark ts xs es a e d = rw (e, d)

-- characters between white ones
some : (ws ts vs es fs : List ℕ) (a z : ℕ) → NonePass is_not_whitespace ws → NonePass is_not_whitespace vs → ts ≡ a ∷ es → is_whitespace a ≡ false → ts ≡ fs ++ (z ∷ []) → is_whitespace z ≡ false → trim_back (trim_front (ws ++ (ts ++ vs))) ≡ ts
some ws ts vs es fs a z hw hv ea da ez dz =
    ap trim_back (front_white ws (ts ++ vs) hw ∙ front_dark ts vs es a ea da)
    ∙ ap (λ (x : List ℕ). trim_back (x ++ vs)) ez ∙ ap trim_back (append_assoc fs (z ∷ []) vs) ∙ back_dark fs z vs dz hv ∙ sym ez

none : (ws vs : List ℕ) → NonePass is_not_whitespace ws → NonePass is_not_whitespace vs → trim_back (trim_front (ws ++ vs)) ≡ []
none ws vs hw hv = rw (front_white ws vs hw, all_white vs hv)

-- the last character of a text that ends with the bytes of one
last-char : (t front : List ℕ) (z : ℕ) → IsUtf8 t → scalar z ≡ true → t ≡ front ++ encode z → chars t ≡ chars front ++ (z ∷ [])
last-char t front z u sz e =
    let b = IsCharBoundary-at_seam t front (encode z) e (IsUtf8-encode z sz) in
    let uf : IsUtf8 front = subst IsUtf8 (ap (take (length front)) e ∙ take_at front (encode z) (length front) refl) (IsUtf8-take t (length front) u b) in
    encodes_same (chars t) (chars front ++ (z ∷ []))
    (encodes-chars t u ∙ e ∙ sym (encodes-append (chars front) (z ∷ []) ∙ rw (encodes-chars front uf, append-nil)))

between : (bs t ws vs : List ℕ) → IsUtf8 bs → IsUtf8 t → bs ≡ encodes ws ++ (t ++ encodes vs) → chars bs ≡ ws ++ (chars t ++ vs)
between bs t ws vs ub ut e =
    encodes_same (chars bs) (ws ++ (chars t ++ vs))
    (encodes-chars bs ub ∙ e ∙ sym (encodes-append ws (chars t ++ vs) ∙ rw (encodes-append (chars t) vs, encodes-chars t ut)))

-- t is bs between white characters
at : (bs t ws vs : List ℕ) → IsUtf8 bs → IsUtf8 t → NonePass is_not_whitespace ws → NonePass is_not_whitespace vs → bs ≡ encodes ws ++ (t ++ encodes vs) → (rest : List ℕ) → EmptyOrStartsWithPassing is_not_whitespace t rest → EmptyOrEndsWithPassing is_not_whitespace t → t ≡ trim bs
at bs [] ws vs ub ut hw hv e rest o s =
    let ds : chars bs ≡ ws ++ vs = between bs [] ws vs ub ut e ∙ ap (λ (x : List ℕ). ws ++ (x ++ vs)) chars-nil in
    sym (ap (λ (x : List ℕ). encodes (trim_back (trim_front x))) ds ∙ ap encodes (none ws vs hw hv))
at bs (x ∷ xs) ws vs ub ut hw hv e rest o s =
    let first = o (omega arith) in
    let last = s (omega arith) in
    let t = x ∷ xs in
    sym (ap (λ (x : List ℕ). encodes (trim_back (trim_front x))) (between bs t ws vs ub ut e)
    ∙ ap encodes (some ws (chars t) vs (chars rest) (chars last.1) first.0 last.0 hw hv
    (chars_past_char t rest first.0 ut first.2) (not-true _ first.1)
    (last-char t last.1 last.0 ut last.4 last.3) (not-true _ last.2))
    ∙ encodes-chars t ut)

pub trims_is : (bs t : List ℕ) → IsUtf8 bs → IsUtf8 t → IsTrimResult bs t → t ≡ trim bs
trims_is bs t ub ut h =
    let m = h.0 in
    let n = h.1 in
    let ws = h.3 in
    let vs = h.4 in
    let e : bs ≡ encodes ws.0 ++ (t ++ encodes vs.0) =
    sym (rw (ws.1, vs.1, h.2, take-append-drop n (drop m bs)) (take-append-drop m bs)) in
    at bs t ws.0 vs.0 ub ut ws.2 vs.2 e h.5.0 h.5.1 h.6

-- t is bs behind white characters
behind : (bs t ws : List ℕ) → IsUtf8 bs → IsUtf8 t → NonePass is_not_whitespace ws → bs ≡ encodes ws ++ t → (rest : List ℕ) → EmptyOrStartsWithPassing is_not_whitespace t rest → t ≡ trim_start bs
behind bs t ws ub ut hw e rest o =
    let d : chars bs ≡ ws ++ chars t = encodes_same (chars bs) (ws ++ chars t) (encodes-chars bs ub ∙ e ∙ sym (encodes-append ws (chars t) ∙ rw (encodes-chars t ut))) in
    sym (ap (λ (x : List ℕ). encodes (trim_front x)) d ∙ ap encodes (front_white ws (chars t) hw ∙ opened t ut o) ∙ encodes-chars t ut)
  where
    opened : (t : List ℕ) → IsUtf8 t → EmptyOrStartsWithPassing is_not_whitespace t rest → trim_front (chars t) ≡ chars t
    opened [] u o = ap trim_front chars-nil ∙ sym chars-nil
    opened (x ∷ xs) u o =
        let first = o (omega arith) in
        let k = chars_past_char (x ∷ xs) rest first.0 u first.2 in
        ap trim_front k ∙ rw (not-true _ first.1) (sym k)

pub starts_is : (bs t : List ℕ) → IsUtf8 bs → IsUtf8 t → IsTrimStart bs t → t ≡ trim_start bs
starts_is bs t ub ut h =
    let ws = h.2 in
    let e : bs ≡ encodes ws.0 ++ t = sym (rw (ws.1, h.1) (take-append-drop h.0 bs)) in
    behind bs t ws.0 ub ut ws.2 e h.3.0 h.3.1

ascii_white : (c : ℕ) → is_ascii_whitespace c ≡ true → is_not_whitespace c ≡ false
ascii_white c h = grind (arith, nat_tests)

ascii_below : (c : ℕ) → is_ascii_whitespace c ≡ true → c < 128
ascii_below c h = grind (arith, nat_tests)

-- ASCII white bytes are white characters
white_bytes : (ws : List ℕ) → ((i : ℕ) → i < length ws → is_ascii_whitespace (get_or ws i 0) ≡ true) → NonePass is_not_whitespace ws × IsAscii ws
white_bytes [] h = (tt, IsAscii-nil)
white_bytes (w ∷ ws) h =
    let first = h 0 (omega arith) in
    let rest = white_bytes ws (λ i l. h (suc i) (omega arith)) in
    ((ascii_white w first, rest.0), IsAscii-cons w ws (ascii_below w first) rest.1)

-- the characters of a text that begins with ASCII white bytes
behind_ascii : (bs t : List ℕ) → IsUtf8 bs → IsUtf8 t → IsTrimAsciiStart bs t → (ws : List ℕ) × (NonePass is_not_whitespace ws) × (chars bs ≡ ws ++ chars t)
behind_ascii bs t ub ut h =
    let n = h.0 in
    let ws = take n bs in
    let long : length ws ≡ n = length-take-le n bs (omega (arith, h.2)) in
    let white = white_bytes ws (λ i l. ap is_ascii_whitespace (get_or-take n bs i 0 (omega arith)) ∙ h.3 i (omega arith)) in
    let whole : ws ++ t ≡ bs = ap (λ (x : List ℕ). ws ++ x) h.1 ∙ take-append-drop n bs in (
      ws,
      white.0,
      encodes_same (chars bs) (ws ++ chars t)
          (encodes-chars bs ub ∙ sym whole ∙ sym (encodes-append ws (chars t) ∙ rw (encodes-IsAscii ws white.1, encodes-chars t ut))),
    )

-- ASCII white bytes in front change nothing of what is trimmed
pub trim_past : (bs t : List ℕ) → IsUtf8 bs → IsUtf8 t → IsTrimAsciiStart bs t → trim t ≡ trim bs
trim_past bs t ub ut h =
    let w = behind_ascii bs t ub ut h in
    sym (ap (λ (x : List ℕ). encodes (trim_back (trim_front x))) w.2 ∙ ap (λ (x : List ℕ). encodes (trim_back x)) (front_white w.0 (chars t) w.1))

pub trim_start_past : (bs t : List ℕ) → IsUtf8 bs → IsUtf8 t → IsTrimAsciiStart bs t → trim_start t ≡ trim_start bs
trim_start_past bs t ub ut h =
    let w = behind_ascii bs t ub ut h in
    sym (ap (λ (x : List ℕ). encodes (trim_front x)) w.2 ∙ ap encodes (front_white w.0 (chars t) w.1))

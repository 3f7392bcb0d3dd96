-- Texts with escapes.
use Rattle.std.proofs.Common.{◌≡◌, ◌∙◌, ap, sym, refl, ℕ, zero, suc, ◌<◌, ◌≤◌, ◌/◌, ◌%◌, Bool, true, false, cond, ◌&&◌, ◌||◌, nat_lt, nat_le, ◌==◌, List, [], ◌∷◌, ◌++◌, append-nil, map, arith, codes}
use Rattle.std.specs.List.{flat_map, list_any, list_all}
use Rattle.std.specs.Char.{encode_utf8}
use Rattle.std.specs.Str.{chars, encode_utf8_all, IsUtf8}
use Rattle.std.specs.Fmt.{digits, digits_onto, digit_glyph}
use Rattle.std.proofs.lemmas.Bool.Decides.{nat_tests}
use Rattle.std.proofs.lemmas.Str.{encodes-append, encode_ascii}
use Rattle.std.proofs.lemmas.List.Folds.{list_any-append}
use Rattle.sources.proofs.Steps.{text_true, text_false}
use Rattle.sources.specs.Utf8.{is_utf8}
use Rattle.cli.specs.Escaped.{IsCalm, SteersNone, byte_escape, byte_shown, escaped, escaped_bytes, is_control, shown, steers}

pub map_same : {A : Type 0} (xs : List A) → map (λ x. x) xs ≡ xs
map_same [] = refl
map_same (x ∷ xs) = ap (λ ys. x ∷ ys) (map_same xs)

-- Bytes that are a text are shown as one, and others byte by byte.
pub as_text : (bs t : List ℕ) → t ≡ bs → IsUtf8 bs → escaped t ≡ escaped_bytes bs
as_text bs t e u = ap escaped e ∙ ap (λ b. cond b (escaped bs) (flat_map byte_shown bs)) (sym (text_true bs u))

pub as_bytes : (bs : List ℕ) → (IsUtf8 bs → ⊥) → flat_map byte_shown bs ≡ escaped_bytes bs
as_bytes bs n = ap (λ b. cond b (escaped bs) (flat_map byte_shown bs)) (sym (text_false bs n))

-- Printed ASCII.
abbrev plain : ℕ → Bool
plain b = nat_le 32 b && nat_lt b 127

not_steering : (c : ℕ) → plain c ≡ true → steers c ≡ false
unfolding steers
not_steering c h = grind (arith, nat_tests)

both : (a b : Bool) → (a && b) ≡ true → (a ≡ true) × (b ≡ true)
both true b h = (refl, h)
both false b h = absurd (cc)

calm_append : (a b : List ℕ) → IsCalm a → IsCalm b → IsCalm (a ++ b)
calm_append a b x y = (
  x.0 ++ y.0,
  encodes-append x.0 y.0 ∙ ap (λ u. u ++ encode_utf8_all y.0) x.1 ∙ ap (λ v. a ++ v) y.1,
  list_any-append steers x.0 y.0 ∙ ap (λ u. u || list_any steers y.0) x.2 ∙ y.2,
)

calm_one : (c : ℕ) → steers c ≡ false → IsCalm (encode_utf8 c)
calm_one c e = (c ∷ [], append-nil (encode_utf8 c), ap (λ b. b || false) e)

calm_plain : (bs : List ℕ) → list_all plain bs ≡ true → IsCalm bs
calm_plain [] h = ([], refl, refl)
calm_plain (b ∷ bs) h =
    let here : (plain b ≡ true) × (list_all plain bs ≡ true) = both (plain b) (list_all plain bs) h in
    let small : b < 128 = let p = here.0 in grind (arith, nat_tests) in
    let rest = calm_plain bs here.1 in (
      b ∷ rest.0,
      ap (λ u. u ++ encode_utf8_all rest.0) (encode_ascii b small) ∙ ap (λ v. b ∷ v) rest.1,
      ap (λ u. u || list_any steers rest.0) (not_steering b here.0) ∙ rest.2,
    )

plain_glyph : (d : ℕ) → d < 16 → plain (digit_glyph false d) ≡ true
plain_glyph d h = grind (arith, nat_tests)

pick : {A : Type 0} (P : A → Type 0) (b : Bool) (x y : A) → P x → P y → P (cond b x y)
pick P true x y p q = p
pick P false x y p q = q

plain_digits_onto : (k n : ℕ) (acc : List ℕ) → list_all plain acc ≡ true → list_all plain (digits_onto k 16 false n acc) ≡ true
plain_digits_onto zero n acc h = h
plain_digits_onto (suc k) n acc h =
    let glyph : plain (digit_glyph false (n % 16)) ≡ true = plain_glyph (n % 16) (omega arith) in
    let more : list_all plain (digit_glyph false (n % 16) ∷ acc) ≡ true = ap (λ b. b && list_all plain acc) glyph ∙ h in
    pick (λ (ds : List ℕ). list_all plain ds ≡ true) (n / 16 == 0) (digit_glyph false (n % 16) ∷ acc) (digits_onto k 16 false (n / 16) (digit_glyph false (n % 16) ∷ acc)) more (plain_digits_onto k (n / 16) (digit_glyph false (n % 16) ∷ acc) more)

plain_digits : (n : ℕ) → list_all plain (digits 16 false n) ≡ true
unfolding digits
plain_digits n = plain_digits_onto 64 n [] refl

calm_byte_escape : (b : ℕ) → IsCalm (byte_escape b)
calm_byte_escape b =
    calm_append (codes "\\x") _ (calm_plain (codes "\\x") refl)
    (calm_append _ (digits 16 false b) (pick IsCalm (nat_lt b 16) (codes "0") [] (calm_plain (codes "0") refl) (calm_plain [] refl)) (calm_plain (digits 16 false b) (plain_digits b)))

calm_escape : (c : ℕ) → IsCalm (codes "\\u{" ++ (digits 16 false c ++ codes "}"))
calm_escape c =
    calm_append (codes "\\u{") _ (calm_plain (codes "\\u{") refl)
    (calm_append (digits 16 false c) (codes "}") (calm_plain (digits 16 false c) (plain_digits c)) (calm_plain (codes "}") refl))

calm_or_escaped : (c : ℕ) (s : Bool) → steers c ≡ s → IsCalm (cond s (cond (nat_lt c 128) (byte_escape c) (codes "\\u{" ++ (digits 16 false c ++ codes "}"))) (encode_utf8 c))
calm_or_escaped c true e = pick IsCalm (nat_lt c 128) _ _ (calm_byte_escape c) (calm_escape c)
calm_or_escaped c false e = calm_one c e

calm_shown : (c : ℕ) → IsCalm (shown c)
calm_shown c = pick IsCalm (c == 92) (codes "\\\\") _ (calm_plain (codes "\\\\") refl) (calm_or_escaped c (steers c) refl)

calm_all : (f : ℕ → List ℕ) → ((c : ℕ) → IsCalm (f c)) → (cs : List ℕ) → IsCalm (flat_map f cs)
calm_all f h [] = ([], refl, refl)
calm_all f h (c ∷ cs) = calm_append (f c) (flat_map f cs) (h c) (calm_all f h cs)

calm_byte : (b : ℕ) → IsCalm (byte_shown b)
calm_byte b = pick IsCalm (nat_lt b 128) (shown b) (byte_escape b) (calm_shown b) (calm_byte_escape b)

neither : (a b : Bool) → (a || b) ≡ false → (a ≡ false) × (b ≡ false)
neither true b h = absurd (cc)
neither false b h = (refl, h)

-- No byte of a character that doesn't steer is a control.
low_control : (c : ℕ) → steers c ≡ false → c < 128 → is_control c ≡ false
unfolding steers
low_control c e l = grind (arith, nat_tests)

high_bytes : (c : ℕ) → 128 ≤ c → list_any is_control (encode_utf8 c) ≡ false
unfolding encode_utf8
high_bytes c h = grind (arith, nat_tests)

one_control : (c : ℕ) (low : Bool) → nat_lt c 128 ≡ low → steers c ≡ false → list_any is_control (encode_utf8 c) ≡ false
one_control c true q e =
    let l : c < 128 = grind (arith, nat_tests) in
    ap (list_any is_control) (encode_ascii c l) ∙ ap (λ b. b || false) (low_control c e l)
one_control c false q e = high_bytes c (grind (arith, nat_tests))

none_control : (cs : List ℕ) → list_any steers cs ≡ false → list_any is_control (encode_utf8_all cs) ≡ false
none_control [] h = refl
none_control (c ∷ cs) h =
    let here : (steers c ≡ false) × (list_any steers cs ≡ false) = neither (steers c) (list_any steers cs) h in
    list_any-append is_control (encode_utf8 c) (encode_utf8_all cs)
    ∙ ap (λ b. b || list_any is_control (encode_utf8_all cs)) (one_control c (nat_lt c 128) refl here.0)
    ∙ none_control cs here.1

none_by : (bs : List ℕ) → IsCalm bs → SteersNone bs
none_by bs x = (x, ap (list_any is_control) (sym x.1) ∙ none_control x.0 x.2)

-- Of any bytes.
pub text_steers_none : (bs : List ℕ) → SteersNone (escaped bs)
text_steers_none bs = none_by (escaped bs) (calm_all shown calm_shown (chars bs))

pub bytes_steer_none : (bs : List ℕ) → SteersNone (escaped_bytes bs)
bytes_steer_none bs = none_by (escaped_bytes bs) (pick IsCalm (is_utf8 bs) (escaped bs) (flat_map byte_shown bs) (calm_all shown calm_shown (chars bs)) (calm_all byte_shown calm_byte bs))

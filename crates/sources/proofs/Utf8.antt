-- The table agrees with the library's notion of UTF-8.
use Rattle.std.proofs.Common.{◌≡◌, ℕ, zero, suc, ◌+◌, ◌-◌, ◌*◌, ◌/◌, MatchOption, ◌%◌, ◌<◌, ◌≤◌, Bool, true, false, ◌&&◌, leb, ◌⊎◌, List, [], ◌∷◌, ◌++◌, length, Some, None, IsUtf8, Option, sym, refl, ap, ◌∙◌, subst, inl, inr, arith, le-ltb, lt-ltb, le-leb, leb-true}
use lib.Utf8.{encode, encodes, scalar, scalars, scalar_cases}
use Rattle.std.proofs.lemmas.Bool.Decides.{nat_tests}
use Rattle.std.proofs.lemmas.Bool.{cases_lt, and_parts}
use Rattle.std.proofs.lemmas.Str.{encode_ascii, IsUtf8-append, IsUtf8-encode, IsUtf8-nil}
use Rattle.sources.specs.Utf8.{Range, trail, table, inside, row_for, well_formed, is_utf8}

pub in_yes : (r : Range) (b : ℕ) → r.0 ≤ b → b ≤ r.1 → inside r b ≡ true
in_yes r b h k = ap (λ (t : Bool). t && leb b r.1) (le-leb r.0 b h) ∙ le-leb b r.1 k

pub row_1 : (b : ℕ) → b ≤ 0x7F → row_for table b ≡ Some []
row_1 b h = grind (arith, nat_tests)

pub row_2 : (b : ℕ) → 0xC2 ≤ b → b ≤ 0xDF → row_for table b ≡ Some (trail ∷ [])
row_2 b h k = grind (arith, nat_tests)

pub row_3 : (b : ℕ) → b ≡ 0xE0 → row_for table b ≡ Some ((0xA0, 0xBF) ∷ trail ∷ [])
row_3 b h = rw h

pub row_4 : (b : ℕ) → 0xE1 ≤ b → b ≤ 0xEC → row_for table b ≡ Some (trail ∷ trail ∷ [])
row_4 b h k = grind (arith, nat_tests)

pub row_5 : (b : ℕ) → b ≡ 0xED → row_for table b ≡ Some ((0x80, 0x9F) ∷ trail ∷ [])
row_5 b h = rw h

pub row_6 : (b : ℕ) → 0xEE ≤ b → b ≤ 0xEF → row_for table b ≡ Some (trail ∷ trail ∷ [])
row_6 b h k = grind (arith, nat_tests)

pub row_7 : (b : ℕ) → b ≡ 0xF0 → row_for table b ≡ Some ((0x90, 0xBF) ∷ trail ∷ trail ∷ [])
row_7 b h = rw h

pub row_8 : (b : ℕ) → 0xF1 ≤ b → b ≤ 0xF3 → row_for table b ≡ Some (trail ∷ trail ∷ trail ∷ [])
row_8 b h k = grind (arith, nat_tests)

pub row_9 : (b : ℕ) → b ≡ 0xF4 → row_for table b ≡ Some ((0x80, 0x8F) ∷ trail ∷ trail ∷ [])
row_9 b h = rw h

pub no_row_low : (b : ℕ) → 0x7F < b → b < 0xC2 → row_for table b ≡ None
no_row_low b h k = grind (arith, nat_tests)

pub no_row_high : (b : ℕ) → 0xF4 < b → row_for table b ≡ None
no_row_high b h = grind (arith, nat_tests)

-- sequences of one byte to four before others
pub seq_1 : (b : ℕ) (t : List ℕ) → row_for table b ≡ Some [] → is_utf8 (b ∷ t) ≡ is_utf8 t
unfolding well_formed
seq_1 b t e = ap (λ (o : Option (List Range)). well_formed o t) e

seq_2 : (b b1 : ℕ) (t : List ℕ) {r : Range} → row_for table b ≡ Some (r ∷ []) → inside r b1 ≡ true → is_utf8 (b ∷ b1 ∷ t) ≡ is_utf8 t
unfolding well_formed
seq_2 b b1 t {r} e i = ap (λ (o : Option (List Range)). well_formed o (b1 ∷ t)) e ∙ ap (λ (x : Bool). x && is_utf8 t) i

seq_3 : (b b1 b2 : ℕ) (t : List ℕ) {r r2 : Range} → row_for table b ≡ Some (r ∷ r2 ∷ []) → inside r b1 ≡ true → inside r2 b2 ≡ true → is_utf8 (b ∷ b1 ∷ b2 ∷ t) ≡ is_utf8 t
unfolding well_formed
seq_3 b b1 b2 t {r} {r2} e i j = ap (λ (o : Option (List Range)). well_formed o (b1 ∷ b2 ∷ t)) e ∙ ap (λ (x : Bool). x && (inside r2 b2 && is_utf8 t)) i ∙ ap (λ (x : Bool). x && is_utf8 t) j

seq_4 : (b b1 b2 b3 : ℕ) (t : List ℕ) {r r2 r3 : Range} → row_for table b ≡ Some (r ∷ r2 ∷ r3 ∷ []) → inside r b1 ≡ true → inside r2 b2 ≡ true → inside r3 b3 ≡ true → is_utf8 (b ∷ b1 ∷ b2 ∷ b3 ∷ t) ≡ is_utf8 t
unfolding well_formed
seq_4 b b1 b2 b3 t {r} {r2} {r3} e i j k = ap (λ (o : Option (List Range)). well_formed o (b1 ∷ b2 ∷ b3 ∷ t)) e ∙ ap (λ (x : Bool). x && (inside r2 b2 && (inside r3 b3 && is_utf8 t))) i ∙ ap (λ (x : Bool). x && (inside r3 b3 && is_utf8 t)) j ∙ ap (λ (x : Bool). x && is_utf8 t) k

-- the bytes of a character, by their number
code_2 : (c : ℕ) → 128 ≤ c → c < 2048 → encode c ≡ (192 + c / 64) ∷ (128 + c % 64) ∷ []
unfolding encode
code_2 c h k = rw (le-ltb c 128 h, lt-ltb c 2048 k)

code_3 : (c : ℕ) → 2048 ≤ c → c < 65536 → encode c ≡ (224 + c / 4096) ∷ (128 + (c / 64) % 64) ∷ (128 + c % 64) ∷ []
unfolding encode
code_3 c h k = rw (le-ltb c 128 (omega arith), le-ltb c 2048 h, lt-ltb c 65536 k)

code_4 : (c : ℕ) → 65536 ≤ c → encode c ≡ (240 + c / 262144) ∷ (128 + (c / 4096) % 64) ∷ (128 + (c / 64) % 64) ∷ (128 + c % 64) ∷ []
unfolding encode
code_4 c h = rw (le-ltb c 128 (omega arith), le-ltb c 2048 (omega arith), le-ltb c 65536 h)

low_6 : (n : ℕ) → inside trail (128 + n % 64) ≡ true
low_6 n = in_yes trail (128 + n % 64) (omega arith) (omega arith)

-- a character's bytes are well formed
form_char : (c : ℕ) (t : List ℕ) → (c < 55296) ⊎ ((57344 ≤ c) × (c < 1114112)) → is_utf8 (encode c ++ t) ≡ is_utf8 t
form_char c t s = elim (cases_lt c 128) [
  | inl h ↦ ap (λ (l : List ℕ). is_utf8 (l ++ t)) (encode_ascii c h) ∙ seq_1 c t (row_1 c (omega arith))
  | inr h ↦ elim (cases_lt c 2048) [
    | inl k ↦ ap (λ (l : List ℕ). is_utf8 (l ++ t)) (code_2 c h k) ∙ seq_2 _ _ t (row_2 (192 + c / 64) (omega arith) (omega arith)) (low_6 c)
    | inr k ↦ elim (cases_lt c 65536) [
      | inl m ↦ ap (λ (l : List ℕ). is_utf8 (l ++ t)) (code_3 c k m) ∙ three k m s
      | inr m ↦ ap (λ (l : List ℕ). is_utf8 (l ++ t)) (code_4 c m) ∙ four m s
    ]
  ]
]
  where
    three : 2048 ≤ c → c < 65536 → (c < 55296) ⊎ ((57344 ≤ c) × (c < 1114112)) → is_utf8 ((224 + c / 4096) ∷ (128 + (c / 64) % 64) ∷ (128 + c % 64) ∷ t) ≡ is_utf8 t
    three k m (inr s) = seq_3 _ _ _ t (row_6 (224 + c / 4096) (omega (arith, s.0)) (omega arith)) (low_6 (c / 64)) (low_6 c)
    three k m (inl s) = elim (cases_lt c 4096) [
      | inl h ↦ seq_3 _ _ _ t (row_3 (224 + c / 4096) (omega arith)) (in_yes (0xA0, 0xBF) (128 + (c / 64) % 64) (omega arith) (omega arith)) (low_6 c)
      | inr h ↦ elim (cases_lt c 53248) [
        | inl j ↦ seq_3 _ _ _ t (row_4 (224 + c / 4096) (omega arith) (omega arith)) (low_6 (c / 64)) (low_6 c)
        | inr j ↦ seq_3 _ _ _ t (row_5 (224 + c / 4096) (omega arith)) (in_yes (0x80, 0x9F) (128 + (c / 64) % 64) (omega arith) (omega arith)) (low_6 c)
      ]
    ]

    four : 65536 ≤ c → (c < 55296) ⊎ ((57344 ≤ c) × (c < 1114112)) → is_utf8 ((240 + c / 262144) ∷ (128 + (c / 4096) % 64) ∷ (128 + (c / 64) % 64) ∷ (128 + c % 64) ∷ t) ≡ is_utf8 t
    four m (inl s) = absurd (omega arith)
    four m (inr s) = elim (cases_lt c 262144) [
      | inl h ↦ seq_4 _ _ _ _ t (row_7 (240 + c / 262144) (omega arith)) (in_yes (0x90, 0xBF) (128 + (c / 4096) % 64) (omega arith) (omega arith)) (low_6 (c / 64)) (low_6 c)
      | inr h ↦ elim (cases_lt c 1048576) [
        | inl j ↦ seq_4 _ _ _ _ t (row_8 (240 + c / 262144) (omega arith) (omega arith)) (low_6 (c / 4096)) (low_6 (c / 64)) (low_6 c)
        | inr j ↦ seq_4 _ _ _ _ t (row_9 (240 + c / 262144) (omega (arith, s.1))) (in_yes (0x80, 0x8F) (128 + (c / 4096) % 64) (omega arith) (omega (arith, s.1))) (low_6 (c / 64)) (low_6 c)
      ]
    ]

form_chars : (cs : List ℕ) → scalars cs ≡ true → is_utf8 (encodes cs) ≡ true
unfolding well_formed
form_chars [] e = refl
form_chars (c ∷ cs) e =
    let p = and_parts (scalar c) (scalars cs) e in
    form_char c (encodes cs) (scalar_cases c p.0) ∙ form_chars cs p.1

pub text_formed : (bs : List ℕ) → IsUtf8 bs → is_utf8 bs ≡ true
text_formed bs u = ap is_utf8 (sym u.1.1) ∙ form_chars u.0 u.1.0

in_from : (r : Range) (b : ℕ) → inside r b ≡ true → (r.0 ≤ b) × (b ≤ r.1)
in_from r b e = let p = and_parts (leb r.0 b) (leb b r.1) e in (leb-true r.0 b p.0, leb-true b r.1 p.1)

-- the byte that a range asks for
next-is : (r : Range) (rs : List Range) (bs : List ℕ) → well_formed (Some (r ∷ rs)) bs ≡ true → (b : ℕ) × (t : List ℕ) × (bs ≡ b ∷ t) × (r.0 ≤ b) × (b ≤ r.1) × (well_formed (Some rs) t ≡ true)
unfolding well_formed
next-is r rs [] e = let z : ◌≡◌ {A = ℕ} 0 1 = cc in absurd (omega arith)
next-is r rs (b ∷ t) e = let p = and_parts (inside r b) (well_formed (Some rs) t) e in let i = in_from r b p.0 in (b, t, refl, i.0, i.1, p.1)

first_is : (b : ℕ) (bs : List ℕ) {o : Option (List Range)} → row_for table b ≡ o → is_utf8 (b ∷ bs) ≡ true → well_formed o bs ≡ true
unfolding well_formed
first_is b bs {o} r e = ap (λ (x : Option (List Range)). well_formed x bs) (sym r) ∙ e

none_is : (bs : List ℕ) → well_formed None bs ≡ true → ⊥
unfolding well_formed
none_is bs e = let z : ◌≡◌ {A = ℕ} 0 1 = cc in omega arith

scalar_low : (c : ℕ) → c < 55296 → scalar c ≡ true
scalar_low c h = grind (arith, nat_tests)

scalar_high : (c : ℕ) → 57344 ≤ c → c < 1114112 → scalar c ≡ true
scalar_high c h k = grind (arith, nat_tests)

text_with : (c : ℕ) (front t : List ℕ) → scalar c ≡ true → encode c ≡ front → IsUtf8 t → IsUtf8 (front ++ t)
text_with c front t s e u = subst (λ (l : List ℕ). IsUtf8 (l ++ t)) e (IsUtf8-append (encode c) t (IsUtf8-encode c s) u)

cons_eq : (a b : ℕ) (s t : List ℕ) → a ≡ b → s ≡ t → a ∷ s ≡ b ∷ t
cons_eq a b s t p q = cc

text_1 : (b : ℕ) (t : List ℕ) → b ≤ 127 → IsUtf8 t → IsUtf8 (b ∷ t)
text_1 b t h u = text_with b (b ∷ []) t (scalar_low b (omega arith)) (encode_ascii b (omega arith)) u

text_2 : (b b1 : ℕ) (t : List ℕ) → 194 ≤ b → b ≤ 223 → 128 ≤ b1 → b1 ≤ 191 → IsUtf8 t → IsUtf8 (b ∷ b1 ∷ t)
text_2 b b1 t h k h1 k1 u =
    let c : ℕ = (b - 192) * 64 + (b1 - 128) in
    text_with c (b ∷ b1 ∷ []) t (scalar_low c (omega arith))
    (code_2 c (omega arith) (omega arith) ∙ cons_eq (192 + c / 64) b _ _ (omega arith) (cons_eq (128 + c % 64) b1 _ _ (omega arith) refl)) u

text_3 : (b b1 b2 : ℕ) (t : List ℕ) → 224 ≤ b → b ≤ 239 → (b ≡ 224 → 160 ≤ b1) → (b ≡ 237 → b1 ≤ 159) → 128 ≤ b1 → b1 ≤ 191 → 128 ≤ b2 → b2 ≤ 191 → IsUtf8 t → IsUtf8 (b ∷ b1 ∷ b2 ∷ t)
text_3 b b1 b2 t h k lo hi h1 k1 h2 k2 u =
    let c : ℕ = (b - 224) * 4096 + ((b1 - 128) * 64 + (b2 - 128)) in
    text_with c (b ∷ b1 ∷ b2 ∷ []) t (is c refl)
    (code_3 c (least c refl) (omega arith) ∙ cons_eq (224 + c / 4096) b _ _ (omega arith) (cons_eq (128 + (c / 64) % 64) b1 _ _ (omega arith) (cons_eq (128 + c % 64) b2 _ _ (omega arith) refl))) u
  where
    least : (c : ℕ) → c ≡ (b - 224) * 4096 + ((b1 - 128) * 64 + (b2 - 128)) → 2048 ≤ c
    least c e = elim (cases_lt b 225) [ inl g ↦ let q = lo (omega arith) in omega arith | inr g ↦ omega arith ]

    is : (c : ℕ) → c ≡ (b - 224) * 4096 + ((b1 - 128) * 64 + (b2 - 128)) → scalar c ≡ true
    is c e = elim (cases_lt b 237) [
      | inl g ↦ scalar_low c (omega arith)
      | inr g ↦ elim (cases_lt b 238) [ inl f ↦ let q = hi (omega arith) in scalar_low c (omega arith) | inr f ↦ scalar_high c (omega arith) (omega arith) ]
    ]

text_4 : (b b1 b2 b3 : ℕ) (t : List ℕ) → 240 ≤ b → b ≤ 244 → (b ≡ 240 → 144 ≤ b1) → (b ≡ 244 → b1 ≤ 143) → 128 ≤ b1 → b1 ≤ 191 → 128 ≤ b2 → b2 ≤ 191 → 128 ≤ b3 → b3 ≤ 191 → IsUtf8 t → IsUtf8 (b ∷ b1 ∷ b2 ∷ b3 ∷ t)
text_4 b b1 b2 b3 t h k lo hi h1 k1 h2 k2 h3 k3 u =
    let c : ℕ = (b - 240) * 262144 + ((b1 - 128) * 4096 + ((b2 - 128) * 64 + (b3 - 128))) in
    let l : 65536 ≤ c = least c refl in
    text_with c (b ∷ b1 ∷ b2 ∷ b3 ∷ []) t (scalar_high c (omega arith) (most c refl))
    (code_4 c l ∙ cons_eq (240 + c / 262144) b _ _ (omega arith) (cons_eq (128 + (c / 4096) % 64) b1 _ _ (omega arith) (cons_eq (128 + (c / 64) % 64) b2 _ _ (omega arith) (cons_eq (128 + c % 64) b3 _ _ (omega arith) refl)))) u
  where
    least : (c : ℕ) → c ≡ (b - 240) * 262144 + ((b1 - 128) * 4096 + ((b2 - 128) * 64 + (b3 - 128))) → 65536 ≤ c
    least c e = elim (cases_lt b 241) [ inl g ↦ let q = lo (omega arith) in omega arith | inr g ↦ omega arith ]

    most : (c : ℕ) → c ≡ (b - 240) * 262144 + ((b1 - 128) * 4096 + ((b2 - 128) * 64 + (b3 - 128))) → c < 1114112
    most c e = elim (cases_lt b 244) [ inl g ↦ omega arith | inr g ↦ let q = hi (omega arith) in omega arith ]

-- well-formed bytes are text: by the row of the first byte
text_step : (b : ℕ) (bs : List ℕ) → ((t : List ℕ) → length t ≤ length bs → is_utf8 t ≡ true → IsUtf8 t) → is_utf8 (b ∷ bs) ≡ true → IsUtf8 (b ∷ bs)
text_step b bs go e =
    elim (cases_lt b 128) [
      | inl a ↦ text_1 b bs (omega arith) (go bs (omega arith) (first_is b bs (row_1 b (omega arith)) e))
      | inr a ↦ elim (cases_lt b 194) [
        | inl a2 ↦ absurd (none_is bs (first_is b bs (no_row_low b (omega arith) a2) e))
        | inr a2 ↦ elim (cases_lt b 224) [
          | inl a3 ↦ two (first_is b bs (row_2 b a2 (omega arith)) e) a2 (omega arith)
          | inr a3 ↦ elim (cases_lt b 225) [
            | inl a4 ↦ three (0xA0, 0xBF) (first_is b bs (row_3 b (omega arith)) e) a3 (omega arith) (omega arith) (omega arith) (λ _. omega arith) (λ z. absurd (omega arith))
            | inr a4 ↦ elim (cases_lt b 237) [
              | inl a5 ↦ three trail (first_is b bs (row_4 b (omega arith) (omega arith)) e) a3 (omega arith) (omega arith) (omega arith) (λ z. absurd (omega arith)) (λ z. absurd (omega arith))
              | inr a5 ↦ elim (cases_lt b 238) [
                | inl a6 ↦ three (0x80, 0x9F) (first_is b bs (row_5 b (omega arith)) e) a3 (omega arith) (omega arith) (omega arith) (λ z. absurd (omega arith)) (λ _. omega arith)
                | inr a6 ↦ elim (cases_lt b 240) [
                  | inl a7 ↦ three trail (first_is b bs (row_6 b (omega arith) (omega arith)) e) a3 (omega arith) (omega arith) (omega arith) (λ z. absurd (omega arith)) (λ z. absurd (omega arith))
                  | inr a7 ↦ elim (cases_lt b 241) [
                    | inl a8 ↦ four (0x90, 0xBF) (first_is b bs (row_7 b (omega arith)) e) a7 (omega arith) (omega arith) (omega arith) (λ _. omega arith) (λ z. absurd (omega arith))
                    | inr a8 ↦ elim (cases_lt b 244) [
                      | inl a9 ↦ four trail (first_is b bs (row_8 b (omega arith) (omega arith)) e) a7 (omega arith) (omega arith) (omega arith) (λ z. absurd (omega arith)) (λ z. absurd (omega arith))
                      | inr a9 ↦ elim (cases_lt b 245) [
                        | inl a10 ↦ four (0x80, 0x8F) (first_is b bs (row_9 b (omega arith)) e) a7 (omega arith) (omega arith) (omega arith) (λ z. absurd (omega arith)) (λ _. omega arith)
                        | inr a10 ↦ absurd (none_is bs (first_is b bs (no_row_high b (omega arith)) e))
                      ]
                    ]
                  ]
                ]
              ]
            ]
          ]
        ]
      ]
    ]
  where
    two : well_formed (Some (trail ∷ [])) bs ≡ true → 194 ≤ b → b ≤ 223 → IsUtf8 (b ∷ bs)
    two f lo hi =
        let x = next-is trail [] bs f in
        subst (λ (l : List ℕ). IsUtf8 (b ∷ l)) (sym x.2) (text_2 b x.0 x.1 lo hi x.3 x.4 (go x.1 (omega (arith, ap length x.2)) x.5))

    three : (r : Range) → well_formed (Some (r ∷ trail ∷ [])) bs ≡ true → 224 ≤ b → b ≤ 239 → 128 ≤ r.0 → r.1 ≤ 191 → (b ≡ 224 → 160 ≤ r.0) → (b ≡ 237 → r.1 ≤ 159) → IsUtf8 (b ∷ bs)
    three r f lo hi rl rh p q =
        let x = next-is r (trail ∷ []) bs f in
        let y = next-is trail [] x.1 x.5 in
        let d : bs ≡ x.0 ∷ y.0 ∷ y.1 = x.2 ∙ ap (λ (l : List ℕ). x.0 ∷ l) y.2 in
        subst (λ (l : List ℕ). IsUtf8 (b ∷ l)) (sym d) (text_3 b x.0 y.0 y.1 lo hi (λ z. let w = p z in omega (arith, x.3)) (λ z. let w = q z in omega (arith, x.4)) (omega (arith, x.3)) (omega (arith, x.4)) y.3 y.4 (go y.1 (omega (arith, ap length d)) y.5))

    four : (r : Range) → well_formed (Some (r ∷ trail ∷ trail ∷ [])) bs ≡ true → 240 ≤ b → b ≤ 244 → 128 ≤ r.0 → r.1 ≤ 191 → (b ≡ 240 → 144 ≤ r.0) → (b ≡ 244 → r.1 ≤ 143) → IsUtf8 (b ∷ bs)
    four r f lo hi rl rh p q =
        let x = next-is r (trail ∷ trail ∷ []) bs f in
        let y = next-is trail (trail ∷ []) x.1 x.5 in
        let v = next-is trail [] y.1 y.5 in
        let d : bs ≡ x.0 ∷ y.0 ∷ v.0 ∷ v.1 = x.2 ∙ ap (λ (l : List ℕ). x.0 ∷ l) (y.2 ∙ ap (λ (l : List ℕ). y.0 ∷ l) v.2) in
        subst (λ (l : List ℕ). IsUtf8 (b ∷ l)) (sym d) (text_4 b x.0 y.0 v.0 v.1 lo hi (λ z. let w = p z in omega (arith, x.3)) (λ z. let w = q z in omega (arith, x.4)) (omega (arith, x.3)) (omega (arith, x.4)) y.3 y.4 v.3 v.4 (go v.1 (omega (arith, ap length d)) v.5))

text_by : (n : ℕ) (bs : List ℕ) → length bs ≤ n → is_utf8 bs ≡ true → IsUtf8 bs
text_by n [] h e = IsUtf8-nil
text_by zero (b ∷ bs) h e = absurd (omega arith)
text_by (suc n) (b ∷ bs) h e = text_step b bs (λ t l f. text_by n t (omega arith) f) e

pub formed-text : (bs : List ℕ) → is_utf8 bs ≡ true → IsUtf8 bs
formed-text bs e = text_by (length bs) bs (omega arith) e

-- a byte that is asked for by its range, and one that is not there or lies outside
pub wanted_inside : (r : Range) (rs : List Range) (bs : List ℕ) (b : ℕ) (t : List ℕ) → bs ≡ b ∷ t → r.0 ≤ b → b ≤ r.1 → well_formed (Some (r ∷ rs)) bs ≡ well_formed (Some rs) t
unfolding well_formed
wanted_inside r rs bs b t e h k = ap (well_formed (Some (r ∷ rs))) e ∙ ap (λ (x : Bool). x && well_formed (Some rs) t) (in_yes r b h k)

pub wanted_outside : (r : Range) (rs : List Range) (bs : List ℕ) (b : ℕ) (t : List ℕ) → bs ≡ b ∷ t → (b < r.0) ⊎ (r.1 < b) → well_formed (Some (r ∷ rs)) bs ≡ false
unfolding well_formed
wanted_outside r rs bs b t e o = ap (well_formed (Some (r ∷ rs))) e ∙ ap (λ (x : Bool). x && well_formed (Some rs) t) (out o)
  where
    out : (b < r.0) ⊎ (r.1 < b) → inside r b ≡ false
    out (inl h) = grind (arith, nat_tests)
    out (inr h) = grind (arith, nat_tests)

pub wanted_none : (r : Range) (rs : List Range) (bs : List ℕ) → length bs ≡ 0 → well_formed (Some (r ∷ rs)) bs ≡ false
unfolding well_formed
wanted_none r rs [] h = refl
wanted_none r rs (b ∷ bs) h = absurd (omega arith)

-- what a row asks for is what its first byte leaves
pub by_row : {A : Type 0} (b : ℕ) (bs : List ℕ) (o : Option (List Range)) (r : Option A) (f : A → Bool) → row_for table b ≡ o → MatchOption r (well_formed o bs ≡ false) (λ a. well_formed o bs ≡ f a) → MatchOption r (is_utf8 (b ∷ bs) ≡ false) (λ a. is_utf8 (b ∷ bs) ≡ f a)
unfolding well_formed
by_row b bs o r f e m = subst (λ (x : Option (List Range)). MatchOption r (well_formed x bs ≡ false) (λ a. well_formed x bs ≡ f a)) (sym e) m

pub by_none : (b : ℕ) (bs : List ℕ) → row_for table b ≡ None → is_utf8 (b ∷ bs) ≡ false
unfolding well_formed
by_none b bs e = ap (λ (o : Option (List Range)). well_formed o bs) e

pub nothing_left : (bs : List ℕ) → length bs ≡ 0 → is_utf8 bs ≡ true
unfolding well_formed
nothing_left [] h = refl
nothing_left (b ∷ bs) h = absurd (omega arith)

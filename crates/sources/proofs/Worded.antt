-- The first of a text's words: white characters are passed over, and a word stands before white or the end.
use Rattle.std.proofs.Common.{◌≡◌, ℕ, suc, ◌+◌, ◌<◌, Bool, true, false, not, List, [], ◌∷◌, ◌++◌, length, get_or, drop, Some, None, Option, refl, ap, ◌∙◌, arith, add-one, Bor}
use Rattle.std.specs.Char.{is_ascii_whitespace}
use Rattle.std.specs.List.{AllPass}
use Rattle.std.specs.Option.{option_map}
use Rattle.std.specs.Str.{NonePass}
use Rattle.std.specs.Str.Iter.{CutsAsciiWord, IsAsciiSeparator}
use Rattle.std.proofs.lemmas.Bool.{not-false}
use Rattle.std.proofs.lemmas.Bool.Decides.{nat_tests}
use Rattle.std.proofs.lemmas.List.Elements.{All-tail}
use Rattle.std.proofs.lemmas.Str.{NoCharPasses-byte}
use Rattle.sources.specs.Pieces.{bytes_of}
use Rattle.sources.specs.White.{nth}
use Rattle.sources.specs.Words.{before_words, words_between, ascii_words}

skip_gap : (white : ℕ → Bool) (gs cs : List ℕ) → NonePass (λ c. not (white c)) gs → words_between white (gs ++ cs) ≡ words_between white cs
skip_gap white [] cs h = refl
skip_gap white (g ∷ gs) cs h = rw (not-false (white g) h.0) (skip_gap white gs cs h.1)

pub all_gap : (white : ℕ → Bool) (gs : List ℕ) → NonePass (λ c. not (white c)) gs → words_between white gs ≡ []
all_gap white [] h = refl
all_gap white (g ∷ gs) h = rw (not-false (white g) h.0) (all_gap white gs h.1)

-- no character, or a white one first
abbrev pub Stops : (ℕ → Bool) → List ℕ → Type 0
Stops white [] = Unit {0}
Stops white (c ∷ cs) = white c ≡ true

join-stops : (white : ℕ → Bool) (c : ℕ) (rs : List ℕ) → Stops white rs → (ws : List (List ℕ)) → before_words white c rs ws ≡ (c ∷ []) ∷ ws
join-stops white c [] h ws = refl
join-stops white c (r ∷ rs) h ws = rw h

-- a word and then what follows it
word_first : (white : ℕ → Bool) (x : ℕ) (xs rs : List ℕ) → NonePass white (x ∷ xs) → Stops white rs → words_between white (x ∷ (xs ++ rs)) ≡ (x ∷ xs) ∷ words_between white rs
word_first white x [] rs h s = rw h.0 (join-stops white x rs s (words_between white rs))
word_first white x (y ∷ ys) rs h s = rw (h.0, word_first white y ys rs h.1 s, h.1.0)

pub one_word : (white : ℕ → Bool) (gs xs rs : List ℕ) → NonePass (λ c. not (white c)) gs → NonePass white xs → 0 < length xs → Stops white rs → words_between white (gs ++ (xs ++ rs)) ≡ xs ∷ words_between white rs
one_word white gs [] rs hg hx l s = absurd (omega arith)
one_word white gs (x ∷ xs) rs hg hx l s = skip_gap white gs ((x ∷ xs) ++ rs) hg ∙ word_first white x xs rs hx s

-- bytes that are all ASCII white
gap_bytes : (gs : List ℕ) → AllPass is_ascii_whitespace gs → NonePass (λ c. not (is_ascii_whitespace c)) gs
gap_bytes [] h = tt
gap_bytes (g ∷ gs) h = (rw (h 0 0 (omega arith)), gap_bytes gs (All-tail (λ x. is_ascii_whitespace x ≡ true) g gs h))

-- no byte of a word is ASCII white, as no character is
byte_dark : (c : ℕ) → (c < 128 → is_ascii_whitespace c ≡ false) → is_ascii_whitespace c ≡ false
byte_dark c h = grind (arith, nat_tests)

word_bytes : (xs : List ℕ) → ((i : ℕ) → i < length xs → is_ascii_whitespace (get_or xs i 0) ≡ false) → NonePass is_ascii_whitespace xs
word_bytes [] h = tt
word_bytes (x ∷ xs) h = (h 0 (omega arith), word_bytes xs (λ i l. h (suc i) (omega arith)))

-- a word stands before its separator, which adds no word
sep-stops : (sep t : List ℕ) → IsAsciiSeparator sep t → Stops is_ascii_whitespace (sep ++ t)
sep-stops [] [] h = tt
sep-stops [] (c ∷ cs) h = let e : length (c ∷ cs) ≡ 0 = h.2 refl in absurd (omega (arith, e))
sep-stops (s ∷ ss) t h = h.0 0 0 (omega arith)

pub nth_drop : {X : Type 0} (n : ℕ) (xs : List X) → nth n (drop 1 xs) ≡ nth (n + 1) xs
nth_drop n [] = refl
nth_drop n (x ∷ xs) = rw (add-one n)

-- what a call of `next` says of the words, in one
pub record AsciiWorded (s : List ℕ) (r : Option (List ℕ)) (t : List ℕ) : Type 0 where
  pub value : r ≡ nth 0 (ascii_words s)
  pub after : ascii_words t ≡ drop 1 (ascii_words s)

no_bytes : (t : List ℕ) → length t ≡ 0 → ascii_words t ≡ []
no_bytes [] e = refl
no_bytes (c ∷ cs) e = absurd (omega arith)

pub ascii_next : (s t : List ℕ) (r : Option (Bor (List ℕ))) → CutsAsciiWord s r t (λ gap x sep. gap ++ (x ++ (sep ++ t))) → AsciiWorded s (option_map bytes_of r) t
ascii_next s t None h =
    let e = all_gap is_ascii_whitespace s (gap_bytes s h.0) in
    record { value = rw e; after = rw (no_bytes t h.1, e) }
ascii_next s t (Some x) h =
    let laid = h.3 in
    let gap = laid.0 in let sep = laid.1 in
    let dark = word_bytes x.now (λ i l. byte_dark _ (NoCharPasses-byte is_ascii_whitespace x.now i h.1 l)) in
    let e : ascii_words s ≡ x.now ∷ ascii_words t =
    ap ascii_words laid.2
    ∙ one_word is_ascii_whitespace gap x.now (sep ++ t) (gap_bytes gap laid.3) dark h.0 (sep-stops sep t laid.4)
    ∙ ap (λ (ws : List (List ℕ)). x.now ∷ ws) (skip_gap is_ascii_whitespace sep t (gap_bytes sep laid.4.0)) in
    record { value = rw e; after = rw e }

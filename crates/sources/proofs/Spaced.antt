-- A step of `split_whitespace` takes the first of the defined words.
use Rattle.std.proofs.Common.{◌≡◌, ℕ, ◌<◌, true, List, [], ◌∷◌, ◌++◌, map, length, drop, Some, None, IsUtf8, Option, sym, refl, ap, ◌∙◌, subst, append_assoc, arith, Bor}
use lib.Utf8.{encode, encodes, scalar, scalars}
use Rattle.std.specs.Char.{is_whitespace, is_not_whitespace}
use Rattle.std.specs.Str.{NoCharPasses, EmptyOrStartsWithPassing, chars}
use Rattle.std.proofs.lemmas.Str.{encodes-append, encodes_same, encodes-chars, chars-nil, chars_past_char, cons_from_encodes}
use Rattle.std.specs.Option.{option_map}
use Rattle.std.specs.Str.Iter.{split_whitespace_rest, split_whitespace_steps}
use Rattle.std.specs.declared.str.SplitWhitespace.{SplitWhitespace}
use Rattle.sources.specs.Pieces.{bytes_of}
use Rattle.sources.specs.Words.{words_between}
use Rattle.sources.specs.White.{white_words, nth}
use Rattle.std.proofs.lemmas.Iterator.{YieldsList}
use Rattle.std.proofs.lemmas.Iterator.Splits.{YieldsList-from_shown_while}
use Rattle.std.proofs.lemmas.Bool.{and_parts}
use Rattle.sources.proofs.Worded.{all_gap, Stops, one_word}

-- the characters of a text in three parts
three : (s x t gs xs : List ℕ) → IsUtf8 s → IsUtf8 t → s ≡ encodes gs ++ (encodes xs ++ t) → chars s ≡ gs ++ (xs ++ chars t)
three s x t gs xs us ut e =
    encodes_same (chars s) (gs ++ (xs ++ chars t))
    (encodes-chars s us ∙ e ∙ sym (encodes-append gs (xs ++ chars t) ∙ rw (encodes-append xs (chars t), encodes-chars t ut)))

stops : (t more : List ℕ) → IsUtf8 t → EmptyOrStartsWithPassing is_whitespace t more → Stops is_whitespace (chars t)
stops [] more u o = subst (Stops is_whitespace) (sym chars-nil) tt
stops (b ∷ bs) more u o =
    let h = o (omega arith) in
    subst (Stops is_whitespace) (sym (chars_past_char (b ∷ bs) more h.0 u h.2)) h.1

some_chars : (xs : List ℕ) → 0 < length (encodes xs) → 0 < length xs
some_chars [] l = l
some_chars (x ∷ xs) l = omega arith

pub word_step : (s x t gap more : List ℕ) → IsUtf8 s → IsUtf8 t → s ≡ gap ++ (x ++ t) → 0 < length x → NoCharPasses is_not_whitespace gap → NoCharPasses is_whitespace x → EmptyOrStartsWithPassing is_whitespace t more → white_words s ≡ x ∷ white_words t
word_step s x t gap more us ut e l wg wx o =
    let es : s ≡ encodes wg.0 ++ (encodes wx.0 ++ t) = rw (wg.1, wx.1) e in
    let lx : 0 < length (encodes wx.0) = rw wx.1 l in
    ap (λ (cs : List ℕ). map encodes (words_between is_whitespace cs)) (three s x t wg.0 wx.0 us ut es)
    ∙ ap (map encodes) (one_word is_whitespace wg.0 wx.0 (chars t) wg.2 wx.2 (some_chars wx.0 lx) (stops t more ut o))
    ∙ ap (λ (y : List ℕ). y ∷ white_words t) wx.1

pub word_none : (s : List ℕ) → IsUtf8 s → NoCharPasses is_not_whitespace s → white_words s ≡ []
word_none s us w =
    let e : chars s ≡ w.0 = encodes_same (chars s) w.0 (encodes-chars s us ∙ sym w.1) in
    ap (λ (cs : List ℕ). map encodes (words_between is_whitespace cs)) e ∙ ap (map encodes) (all_gap is_whitespace w.0 w.2)

-- characters before a rest are the first of a text's
split_encodes : (gs us rest : List ℕ) → encodes us ≡ encodes gs ++ rest → (es : List ℕ) × (us ≡ gs ++ es) × (encodes es ≡ rest)
split_encodes [] us rest e = (us, refl, e)
split_encodes (g ∷ gs) us rest e =
    let h = cons_from_encodes us (encodes gs ++ rest) g (e ∙ append_assoc (encode g) (encodes gs) rest) in
    let k = split_encodes gs h.0 rest h.2 in
    (k.0, h.1 ∙ ap (λ (x : List ℕ). g ∷ x) k.1, k.2)

scalars_back : (gs es : List ℕ) → scalars (gs ++ es) ≡ true → scalars es ≡ true
scalars_back [] es h = h
scalars_back (g ∷ gs) es h = scalars_back gs es (and_parts (scalar g) _ h).1

-- what stands behind whole characters is text too
pub utf8_after : (s gs rest : List ℕ) → IsUtf8 s → s ≡ encodes gs ++ rest → IsUtf8 rest
utf8_after s gs rest u e =
    let k = split_encodes gs u.0 rest (u.1.1 ∙ e) in
    (k.0, (scalars_back gs k.0 (subst (λ (x : List ℕ). scalars x ≡ true) k.1 u.1.0), k.2))

pub utf8_rest : (s x t gap : List ℕ) → IsUtf8 s → s ≡ gap ++ (x ++ t) → NoCharPasses is_not_whitespace gap → NoCharPasses is_whitespace x → IsUtf8 t
utf8_rest s x t gap u e wg wx =
    let es : s ≡ encodes wg.0 ++ (encodes wx.0 ++ t) = rw (wg.1, wx.1) e in
    utf8_after (encodes wx.0 ++ t) wx.0 t (utf8_after s wg.0 (encodes wx.0 ++ t) u es) refl

-- what a call of `next` says, in one
pub record Worded (s : List ℕ) (r : Option (List ℕ)) (t : List ℕ) : Type 0 where
  pub text : IsUtf8 t
  pub value : r ≡ nth 0 (white_words s)
  pub after : white_words t ≡ drop 1 (white_words s)

pub words_next : (s t : SplitWhitespace) (r : Option (Bor (List ℕ))) → IsUtf8 (split_whitespace_rest s) → split_whitespace_steps s r t → Worded (split_whitespace_rest s) (option_map bytes_of r) (split_whitespace_rest t)
words_next s t None u h =
    let e = word_none (split_whitespace_rest s) u h.1 in
    record { text = rw h.0 u; value = rw e; after = rw (h.0, e) }
words_next s t (Some x) u h =
    let ut = utf8_rest (split_whitespace_rest s) x.now (split_whitespace_rest t) h.0 u h.1 h.3 h.4 in
    let e = word_step (split_whitespace_rest s) x.now (split_whitespace_rest t) h.0 h.5.0 u ut h.1 h.2 h.3 h.4 h.5.1 in
    record { text = ut; value = rw e; after = rw e }

none_first : {X : Type 0} (xs : List X) → None ≡ nth 0 xs → length xs ≡ 0
none_first [] e = refl
none_first (x ∷ xs) e = cc

some_first : {X : Type 0} (y : X) (ys xs : List X) → Some y ≡ nth 0 xs → ys ≡ drop 1 xs → xs ≡ y ∷ ys
some_first y ys [] e d = cc
some_first y ys (x ∷ xs) e d = cc

-- a whole run gives the words
pub yields_words : (s : SplitWhitespace) (bs : List ℕ) → IsUtf8 bs → split_whitespace_rest s ≡ bs → YieldsList split_whitespace_steps bytes_of s (white_words bs)
yields_words s bs u e =
    rw (sym e) (
    YieldsList-from_shown_while split_whitespace_steps bytes_of (λ t. white_words (split_whitespace_rest t)) (λ t. IsUtf8 (split_whitespace_rest t))
    (λ s t u h. none_first _ (words_next s t None u h).value)
    (λ s x t u h. let w = words_next s t (Some x) u h in (w.text, some_first _ _ _ w.value w.after))
    s (rw e u)
    )

-- The words that std cuts a text into are those of the definition.
use Rattle.std.proofs.Common.{◌≡◌, ◌∙◌, ap, sym, refl, ℕ, ◌<◌, ◌≤◌, Bool, true, false, cond, List, [], ◌∷◌, ◌++◌, length, get_or, filter, nat_lt, All, arith, Bor, None, Some, append-nil, lt-ltb, ltb-true, ltb-false}
use Rattle.std.specs.Char.{is_ascii_whitespace}
use Rattle.std.specs.List.{slice_split}
use Rattle.std.specs.Str.{NoCharPasses}
use Rattle.std.specs.Str.Iter.{split_ascii_whitespace_text, split_ascii_whitespace_steps, IsAsciiSeparator}
use Rattle.std.proofs.lemmas.Iterator.{YieldsList}
use Rattle.std.proofs.lemmas.Iterator.Consumers.{YieldsList-from_shown}
use Rattle.std.proofs.lemmas.List.{get_or_default}
use Rattle.std.proofs.lemmas.List.Elements.{All-head, All-tail}
use Rattle.std.proofs.lemmas.List.Splits.{slice_split-cons_yes, slice_split_none, slice_split_at}
use Rattle.std.proofs.lemmas.Str.{NoCharPasses-byte}
use Rattle.packlist.specs.Script.{words_of}

abbrev white : ℕ → Bool
white = is_ascii_whitespace

-- White space before the words is none of them.
after_gap : (gap rest : List ℕ) → All (λ b. white b ≡ true) gap → words_of (gap ++ rest) ≡ words_of rest
after_gap [] rest h = refl
after_gap (g ∷ gap) rest h =
    ap (filter (λ w. nat_lt 0 (length w))) (slice_split-cons_yes white g (gap ++ rest) (All-head (λ b. white b ≡ true) g gap h))
    ∙ after_gap gap rest (All-tail (λ b. white b ≡ true) g gap h)

first_kept : (x : List ℕ) (ps : List (List ℕ)) → 0 < length x → filter (λ w. nat_lt 0 (length w)) (x ∷ ps) ≡ x ∷ filter (λ w. nat_lt 0 (length w)) ps
first_kept x ps l = ap (λ b. cond b (x ∷ filter (λ w. nat_lt 0 (length w)) ps) (filter (λ w. nat_lt 0 (length w)) ps)) (lt-ltb 0 (length x) l)

-- A word, and the byte that ends it.
word_first : (x sep rest : List ℕ) → 0 < length x → All (λ b. white b ≡ false) x → IsAsciiSeparator sep rest → words_of (x ++ (sep ++ rest)) ≡ x ∷ words_of rest
word_first x [] [] l h s =
    ap words_of (append-nil x)
    ∙ ap (filter (λ w. nat_lt 0 (length w))) (slice_split_none white x h)
    ∙ first_kept x [] l
word_first x [] (b ∷ rest) l h s = absurd (omega (arith, s.2 refl))
word_first x (y ∷ []) rest l h s =
    ap (filter (λ w. nat_lt 0 (length w))) (slice_split_at white x y rest h (s.0 0 0 (omega arith)))
    ∙ first_kept x (slice_split white rest) l
word_first x (y ∷ z ∷ sep) rest l h s = absurd (omega (arith, s.1))

-- No byte of a word is white space.
at_byte : (b : ℕ) (low : Bool) → nat_lt b 128 ≡ low → (b < 128 → white b ≡ false) → white b ≡ false
at_byte b true e h = h (ltb-true b 128 e)
at_byte b false e h = let l : 128 ≤ b = ltb-false b 128 e in grind arith

dark : (x : List ℕ) → NoCharPasses white x → All (λ b. white b ≡ false) x
dark x h k d l =
    ap white (get_or_default x k d 0 l)
    ∙ at_byte (get_or x k 0) (nat_lt (get_or x k 0) 128) refl (λ m. NoCharPasses-byte white x k h l m)

none_left : (bs : List ℕ) → All (λ b. white b ≡ true) bs → words_of bs ≡ []
none_left bs h = ap words_of (sym (append-nil bs)) ∙ after_gap bs [] h

no_more : (s t : _) → split_ascii_whitespace_steps s None t → length (words_of (split_ascii_whitespace_text s)) ≡ 0
no_more s t h = ap length (none_left (split_ascii_whitespace_text s) h.0)

one_more : (s : _) (x : Bor (List ℕ)) (t : _) → split_ascii_whitespace_steps s (Some x) t → words_of (split_ascii_whitespace_text s) ≡ x.now ∷ words_of (split_ascii_whitespace_text t)
one_more s x t h =
    let gap = h.3.0 in
    let sep = h.3.1 in
    ap words_of h.3.2
    ∙ after_gap gap (x.now ++ (sep ++ split_ascii_whitespace_text t)) h.3.3
    ∙ word_first x.now sep (split_ascii_whitespace_text t) h.0 (dark x.now h.1) h.3.4

pub words_cut : (s : _) → YieldsList split_ascii_whitespace_steps (λ x. x.now) s (words_of (split_ascii_whitespace_text s))
words_cut s = YieldsList-from_shown split_ascii_whitespace_steps (λ x. x.now) (λ u. words_of (split_ascii_whitespace_text u)) no_more one_more s

-- The first word of a text, where white bytes in front of it are passed over.
use Rattle.std.proofs.Common.{◌≡◌, ℕ, zero, suc, ◌+◌, ◌<◌, ◌≤◌, Bool, true, false, cond, not, eqb, List, [], ◌∷◌, length, get_or, take, drop, Some, None, Option, ◌==◌, refl, sym, ap, ◌∙◌, one-add, arith}
use Rattle.std.specs.Char.{is_ascii_whitespace}
use Rattle.std.specs.Str.{IsCharBoundary}
use Rattle.std.specs.List.{prefix_len}
use Rattle.std.specs.Option.{is_some}
use Rattle.std.proofs.lemmas.List.Sums.{prefix_len-le-length}
use Rattle.std.proofs.lemmas.Bool.Decides.{nat_tests}
use Rattle.std.proofs.lemmas.Bool.{eqb-true}
use Rattle.sources.specs.Pieces.{strip_prefix, case_of}
use Rattle.sources.specs.White.{nth}
use Rattle.sources.specs.Words.{in_word, onto, before_words, ascii_words, skipped, parted, next_word}

-- a white byte in front is passed over
white_passed : (b : ℕ) (bs : List ℕ) → is_ascii_whitespace b ≡ true → skipped (b ∷ bs) ≡ skipped bs
white_passed b bs w = rw (w, one-add (prefix_len is_ascii_whitespace bs)) refl

passed : (b : ℕ) (bs : List ℕ) (w : Bool) → is_ascii_whitespace b ≡ w → ascii_words (skipped bs) ≡ ascii_words bs → ascii_words (skipped (b ∷ bs)) ≡ ascii_words (b ∷ bs)
passed b bs true w e = rw (white_passed b bs w, w) e
passed b bs false w e = ap (λ (t : Bool). ascii_words (drop (cond t (1 + prefix_len is_ascii_whitespace bs) 0) (b ∷ bs))) w

-- the words of a text begin behind the white bytes in front
words_skipped : (bs : List ℕ) → ascii_words (skipped bs) ≡ ascii_words bs
words_skipped [] = refl
words_skipped (b ∷ bs) = passed b bs (is_ascii_whitespace b) refl (words_skipped bs)

pub words_alike : (bs ms : List ℕ) → skipped bs ≡ skipped ms → ascii_words bs ≡ ascii_words ms
words_alike bs ms e = sym (words_skipped bs) ∙ ap ascii_words e ∙ words_skipped ms

abbrev spaces : ℕ → List ℕ
spaces zero = []
spaces (suc n) = 32 ∷ spaces n

one_passed : (b n : ℕ) (bs m : List ℕ) → ((k : List ℕ) → strip_prefix (spaces n) bs ≡ Some k → skipped bs ≡ skipped k)
    → (t : Bool) → (b == 32) ≡ t → cond t (strip_prefix (spaces n) bs) None ≡ Some m → skipped (b ∷ bs) ≡ skipped m
one_passed b n bs m f true t e = ap (λ (c : ℕ). skipped (c ∷ bs)) (eqb-true b 32 t) ∙ white_passed 32 bs refl ∙ f m e
one_passed b n bs m f false t e = cc

spaces_passed : (n : ℕ) (bs m : List ℕ) → strip_prefix (spaces n) bs ≡ Some m → skipped bs ≡ skipped m
spaces_passed zero bs m e = ap (λ (o : Option (List ℕ)). skipped (case_of o bs (λ k. k))) e
spaces_passed (suc n) [] m e = cc
spaces_passed (suc n) (b ∷ bs) m e = one_passed b n bs m (spaces_passed n bs) (b == 32) refl e

pub eight_passed : (bs m : List ℕ) → strip_prefix (32 ∷ 32 ∷ 32 ∷ 32 ∷ 32 ∷ 32 ∷ 32 ∷ 32 ∷ []) bs ≡ Some m → skipped bs ≡ skipped m
eight_passed bs m e = spaces_passed 8 bs m e

-- a byte of a word before a byte c and others, of which n begin with more of the word
one_more : (b c : ℕ) (cs : List ℕ) (n : ℕ) → (is_ascii_whitespace c ≡ true → n ≡ 0) → (is_ascii_whitespace c ≡ false → ascii_words (c ∷ cs) ≡ take n (c ∷ cs) ∷ ascii_words (drop n (c ∷ cs)))
    → (w : Bool) → is_ascii_whitespace c ≡ w → before_words is_ascii_whitespace b (c ∷ cs) (ascii_words (c ∷ cs)) ≡ (b ∷ take n (c ∷ cs)) ∷ ascii_words (drop n (c ∷ cs))
one_more b c cs n z h true w =
    ap (λ (t : Bool). cond t ((b ∷ []) ∷ ascii_words (c ∷ cs)) (onto b (ascii_words (c ∷ cs)))) w
    ∙ ap (λ (m : ℕ). (b ∷ take m (c ∷ cs)) ∷ ascii_words (drop m (c ∷ cs))) (sym (z w))
one_more b c cs n z h false w =
    ap (λ (t : Bool). cond t ((b ∷ []) ∷ ascii_words (c ∷ cs)) (onto b (ascii_words (c ∷ cs)))) w
    ∙ ap (onto b) (h w)

word_first : (b : ℕ) (bs : List ℕ) → is_ascii_whitespace b ≡ false → ascii_words (b ∷ bs) ≡ take (prefix_len in_word (b ∷ bs)) (b ∷ bs) ∷ ascii_words (drop (prefix_len in_word (b ∷ bs)) (b ∷ bs))
word_first b [] e = rw e refl
word_first b (c ∷ cs) e =
    let more = one_more b c cs (prefix_len in_word (c ∷ cs)) (λ w. rw w refl) (λ w. word_first c cs w) (is_ascii_whitespace c) refl in
    ap (λ (t : Bool). cond t (ascii_words (c ∷ cs)) (before_words is_ascii_whitespace b (c ∷ cs) (ascii_words (c ∷ cs)))) e
    ∙ more
    ∙ sym (ap (λ (t : Bool). take (cond (not t) (1 + prefix_len in_word (c ∷ cs)) 0) (b ∷ c ∷ cs) ∷ ascii_words (drop (cond (not t) (1 + prefix_len in_word (c ∷ cs)) 0) (b ∷ c ∷ cs))) e
    ∙ ap (λ (m : ℕ). take m (b ∷ c ∷ cs) ∷ ascii_words (drop m (b ∷ c ∷ cs))) (one-add (prefix_len in_word (c ∷ cs))))

-- what `trim_ascii_start` says
abbrev pub Skips : List ℕ → List ℕ → Type 0
Skips bs r = (n : ℕ) × (r ≡ drop n bs) × (length r + n ≡ length bs) × ((i : ℕ) → i < n → is_ascii_whitespace (get_or bs i 0) ≡ true) × (n < length bs → is_ascii_whitespace (get_or bs n 0) ≡ false)

-- the place where a test first fails is how many pass it in front
leading-is : (p : ℕ → Bool) (xs : List ℕ) (n : ℕ) → n ≤ length xs → ((i : ℕ) → i < n → p (get_or xs i 0) ≡ true) → (n < length xs → p (get_or xs n 0) ≡ false) → prefix_len p xs ≡ n
leading-is p [] n le all end = omega arith
leading-is p (x ∷ xs) zero le all end = rw (end (omega arith))
leading-is p (x ∷ xs) (suc n) le all end =
    let e = leading-is p xs n (omega arith) (λ i h. all (suc i) (omega arith)) (λ h. end (omega arith)) in
    rw (all 0 (omega arith), e) (omega arith)

skip_is : (bs r : List ℕ) → Skips bs r → r ≡ skipped bs
skip_is bs r h = h.1 ∙ sym (ap (λ (n : ℕ). drop n bs) (leading-is is_ascii_whitespace bs h.0 (omega (arith, h.2)) h.3 h.4))

same_words : (bs r : List ℕ) → Skips bs r → ascii_words bs ≡ ascii_words r
same_words bs r h = sym (words_skipped bs) ∙ ap ascii_words (sym (skip_is bs r h))

nothing_left : (r : List ℕ) → eqb (length r) 0 ≡ true → ascii_words r ≡ []
nothing_left [] e = refl
nothing_left (x ∷ xs) e = absurd (grind (arith, nat_tests))

pub no_word : (bs r : List ℕ) → Skips bs r → eqb (length r) 0 ≡ true → ascii_words bs ≡ []
no_word bs r h e = same_words bs r h ∙ nothing_left r e

front_dark : (bs : List ℕ) (n : ℕ) → n < length bs → get_or (drop n bs) 0 0 ≡ get_or bs n 0
front_dark [] n l = absurd (omega arith)
front_dark (b ∷ bs) zero l = refl
front_dark (b ∷ bs) (suc n) l = front_dark bs n (omega arith)

word_of : (r : List ℕ) → eqb (length r) 0 ≡ false → is_ascii_whitespace (get_or r 0 0) ≡ false → ascii_words r ≡ take (prefix_len in_word r) r ∷ ascii_words (drop (prefix_len in_word r) r)
word_of [] e d = cc
word_of (x ∷ xs) e d = word_first x xs d

pub a_word : (bs r x y : List ℕ) → Skips bs r → eqb (length r) 0 ≡ false → x ≡ take (prefix_len in_word r) r → y ≡ drop (prefix_len in_word r) r → ascii_words bs ≡ x ∷ ascii_words y
a_word bs r x y h e ex ey =
    let some : 0 < length r = grind (arith, nat_tests) in
    let l : h.0 < length bs = omega (arith, h.2, some) in
    let d : is_ascii_whitespace (get_or r 0 0) ≡ false = ap (λ (z : List ℕ). is_ascii_whitespace (get_or z 0 0)) h.1 ∙ ap is_ascii_whitespace (front_dark bs h.0 l) ∙ h.4 l in
    same_words bs r h ∙ word_of r e d ∙ rw (ex, ey)

-- the text cut at its first word's end, byte for byte
pub none_is : (bs r : List ℕ) → Skips bs r → eqb (length r) 0 ≡ true → None ≡ next_word bs
none_is bs r h e = sym (ap parted (sym (skip_is bs r h)) ∙ rw e)

pub some_is : (bs r x y : List ℕ) → Skips bs r → eqb (length r) 0 ≡ false → x ≡ take (prefix_len in_word r) r → y ≡ drop (prefix_len in_word r) r → Some (x, y) ≡ next_word bs
some_is bs r x y h e ex ey =
    let same : Some (x, y) ≡ parted r = rw (ex, ey, e) in
    same ∙ ap parted (skip_is bs r h)

-- a first word is there where anything is left
some_word : (bs : List ℕ) (b : Bool) (r : List ℕ) → Skips bs r → eqb (length r) 0 ≡ b → not b ≡ is_some (nth 0 (ascii_words bs))
some_word bs true r h e = rw (no_word bs r h e)
some_word bs false r h e = rw (a_word bs r _ _ h e refl refl)

pub any_left : (bs r : List ℕ) → Skips bs r → not (eqb (length r) 0) ≡ is_some (nth 0 (ascii_words bs))
any_left bs r h = some_word bs (eqb (length r) 0) r h refl

-- a word ends at a character's end, since white bytes are ASCII
fails_at : (p : ℕ → Bool) (x n : ℕ) (xs : List ℕ) (b : Bool) → p x ≡ b → (n < length xs → p (get_or xs n 0) ≡ false) → cond b (1 + n) 0 < length (x ∷ xs) → p (get_or (x ∷ xs) (cond b (1 + n) 0) 0) ≡ false
fails_at p x n xs true e f h = rw (one-add n) (f (omega arith))
fails_at p x n xs false e f h = e

pub leading-fails : (p : ℕ → Bool) (xs : List ℕ) → prefix_len p xs < length xs → p (get_or xs (prefix_len p xs) 0) ≡ false
leading-fails p [] h = absurd (omega arith)
leading-fails p (x ∷ xs) h = fails_at p x (prefix_len p xs) xs (p x) refl (leading-fails p xs) h

white_small : (c : ℕ) → not (is_ascii_whitespace c) ≡ false → c < 128
white_small c e = grind (arith, nat_tests)

pub word_boundary : (bs : List ℕ) → IsCharBoundary bs (prefix_len in_word bs)
word_boundary bs = (prefix_len-le-length in_word bs, λ l h. absurd (omega (arith, white_small (get_or bs (prefix_len in_word bs) 0) (leading-fails in_word bs l))))

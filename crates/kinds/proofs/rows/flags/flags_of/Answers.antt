use Rattle.std.proofs.Common.{◌≡◌, ◌∙◌, sym, ap, refl, drop, fold, List, [], ◌∷◌, ℕ, Some, None}
use Rattle.std.specs.Prelude.{bit_or}
use Rattle.std.specs.Str.Iter.{split_ascii_whitespace_text}
use Rattle.sources.specs.White.{nth}
use Rattle.sources.specs.Words.{ascii_words}
use Rattle.sources.proofs.Worded.{AsciiWorded, ascii_next}
use Rattle.kinds.specs.Rows.Flags.{flag_bit, flags_of}
use Rattle.kinds.proofs.rows.flags.flags_of.Goals as goal

abbrev with_words : ℕ → List (List ℕ) → ℕ
with_words bits ws = fold (λ bits word. bit_or bits (flag_bit word)) bits ws

first : {s t w : List ℕ} → AsciiWorded s (Some w) t → ascii_words s ≡ w ∷ ascii_words t
first {s} {t} {w} h = go (ascii_words s) h.value h.after
  where
    go : (xs : List (List ℕ)) → Some w ≡ nth 0 xs → ascii_words t ≡ drop 1 xs → xs ≡ w ∷ ascii_words t
    go [] e d = cc
    go (x ∷ xs) e d = cc

none : {s t : List ℕ} → AsciiWorded s None t → ascii_words s ≡ []
none {s} {t} h = go (ascii_words s) h.value
  where
    go : (xs : List (List ℕ)) → None ≡ nth 0 xs → xs ≡ []
    go [] e = refl
    go (x ∷ xs) e = cc

pub loop-word-init : goal.loop-word-init
unfolding flags_of
loop-word-init c =
    let w = ascii_next _ _ _ c.next.ensures.steps in
    rw (c.into_iter-word-iterator.ensures.into_iter_gives, w.after, c.split_ascii_whitespace-words.ensures.text)

pub loop-word-preserved : goal.loop-word-preserved
loop-word-preserved c =
    let w = first {s = split_ascii_whitespace_text c.loop-word.word-iterator} {t = split_ascii_whitespace_text c.next-in-loop-word.new.self} {w = c.in-Some.word.now} (ascii_next _ _ (Some c.in-Some.word) c.in-Some.ensures.steps) in
    rw (c.flag_of-bits.ensures) (sym (ap (with_words c.loop-word.bits) w) ∙ c.loop-word.invariant)

pub returns : goal.returns
returns c =
    let w = none {s = split_ascii_whitespace_text c.loop-word.word-iterator} {t = split_ascii_whitespace_text c.next-in-loop-word.new.self} (ascii_next _ _ None c.in-None.ensures.steps) in
    sym (ap (with_words c.loop-word.bits) w) ∙ c.loop-word.invariant

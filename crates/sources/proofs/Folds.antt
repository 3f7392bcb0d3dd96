-- A text that nothing stops is folded over its lines.
use Rattle.std.proofs.Common.{◌≡◌, ℕ, ◌+◌, ◌≤◌, Bool, true, false, not, ◌&&◌, List, [], ◌∷◌, length, fold, Some, None, Ok, Option, Result, sym, refl, ap, ◌∙◌, subst, arith}
use Rattle.std.specs.Option.{is_none}
use Rattle.std.proofs.lemmas.Bool.{and_parts}
use Rattle.std.proofs.lemmas.List.{length-append}
use Rattle.sources.specs.declared.fault.Refusal.{Refusal}
use Rattle.sources.specs.Faults.{at_line}
use Rattle.sources.specs.Folded.{all_taken, FoldsLines}
use Rattle.sources.specs.Lines.{lines_of, text_of, long, max_line, max_text, walk, course, reading, leaves, closes, Outcome}
use Rattle.sources.specs.Rules.{Rules}
use Rattle.sources.specs.Texts.{Text, text}
use Rattle.sources.specs.Utf8.{is_utf8}
use Rattle.sources.proofs.Split.{text_lines}
use Rattle.sources.proofs.Walks.{judged-on}

none_is : {X : Type 0} (o : Option X) → is_none o ≡ true → o ≡ None
none_is None e = refl
none_is (Some x) e = cc

is_false : (b : Bool) → not b ≡ true → b ≡ false
is_false true e = cc
is_false false e = refl

-- what is said of the first line, and of the others
first_taken : {M C : Type 0} (R : Rules M C) (m : M) (l : List ℕ) (ls : List (List ℕ)) → all_taken R m (l ∷ ls) ≡ true → (long max_line l ≡ false) × (is_utf8 l ≡ true) × (R.refused (R.next m l) ≡ None) × (all_taken R (R.next m l) ls ≡ true)
unfolding all_taken
first_taken R m l ls h =
    let a = and_parts (not (long max_line l) && is_utf8 l && is_none (R.refused (R.next m l))) _ h in
    let b = and_parts (not (long max_line l) && is_utf8 l) _ a.0 in
    let c = and_parts (not (long max_line l)) _ b.0 in
    (is_false (long max_line l) c.0, c.1, none_is _ b.1, a.1)

text_length : (l : List ℕ) (ls : List (List ℕ)) → length (text_of (l ∷ ls)) ≡ length l + length (text_of ls)
unfolding text_of
text_length l ls = length-append l (text_of ls)

walk_taken : {M C : Type 0} (R : Rules M C) (taken size : ℕ) (m : M) (ls : List (List ℕ)) → all_taken R m ls ≡ true → size + length (text_of ls) ≤ max_text → walk max_line max_text R false taken size m ls ≡ (Ok (taken + length ls), fold R.next m ls, [])
unfolding walk
walk_taken R taken size m [] h f = ap (λ (n : ℕ). (Ok n, m, [])) (omega arith)
walk_taken R taken size m (l ∷ ls) h f =
    let t = first_taken R m l ls h in
    let n = text_length l ls in
    judged-on max_line max_text R false taken size m l (text_of ls) _ (record { short = t.0; fits = omega (arith, n, f); stands = refl; text = t.1; fine = t.2 })
    ∙ walk_taken R (taken + 1) (size + length l) (R.next m l) ls t.3 (omega (arith, n, f))
    ∙ ap (λ (n : ℕ). (Ok n, fold R.next (R.next m l) ls, [])) (omega arith)

of_walk : {M C : Type 0} (R : Rules M C) (m : M) (t : Text) (o : Outcome M) → walk max_line max_text R t.broken 0 0 m (lines_of t.bytes) ≡ o → reading R m t ≡ closes R (leaves t.broken o)
unfolding reading course
of_walk R m t o e = ap (λ o. closes R (leaves t.broken o)) e

answer_of : {M C : Type 0} (R : Rules M C) (b : Bool) (taken : ℕ) (m : M) → closes R (leaves b (Ok taken, m, [])) ≡ (at_line taken (R.closed m), text [] b)
unfolding leaves
answer_of R b taken m = refl

pub folds : {M C : Type 0} (R : Rules M C) (m : M) (t : Text) (r : Result C Refusal) (left : Text) → (r, left) ≡ reading R m t → FoldsLines R m t r left
folds R m t r left e s =
    let n = length (lines_of t.bytes) in
    let zero_more : 0 + n ≡ n = omega arith in
    let last = fold R.next m (lines_of t.bytes) in
    let size : length (text_of (lines_of t.bytes)) ≤ max_text = subst (λ (bs : List ℕ). length bs ≤ max_text) (sym (text_lines t.bytes)) s.fits in
    let w = walk_taken R 0 0 m (lines_of t.bytes) s.lines (omega (arith, size)) in
    let whole : (r, left) ≡ (at_line n (R.closed last), text [] false) =
    e
    ∙ of_walk R m t _ (ap (λ (b : Bool). walk max_line max_text R b 0 0 m (lines_of t.bytes)) s.ends ∙ w ∙ ap (λ (k : ℕ). (Ok k, last, [])) zero_more)
    ∙ answer_of R t.broken n last
    ∙ ap (λ (b : Bool). (at_line n (R.closed last), text [] b)) s.ends in
    (ap (λ p. p.0) whole, ap (λ p. p.1) whole)

-- One line more of a script.
use Rattle.std.proofs.Common.{◌≡◌, ◌∙◌, ap, ap₂, subst, sym, refl, Bor, List, [], ◌∷◌, ◌++◌, map, ℕ, ◌<◌, ◌⊎◌, false, length, take, get_or, Option, Some, None, Result, Err, MatchResult, inl, inr}
use Rattle.std.proofs.lemmas.List.{map-append, get_or_default}
use Rattle.sources.specs.Pieces.{bytes_of, case_of}
use Rattle.packlist.specs.Script.{IsScript, IsNoScript, IsWrongLine, Read, lines_in, numbered, AreWords, next, nothing_read, read_by, with_line, with_lines, words_of}
use Rattle.packlist.specs.Names.{Word}
use Rattle.packlist.specs.declared.script.Draft.{Draft}
use Rattle.packlist.specs.declared.script.Script.{Script}
use Rattle.packlist.specs.declared.mistake.Fault.{Fault}
use Rattle.packlist.specs.declared.mistake.Mistake.TheVariants as mistake
use Rattle.sources.specs.Utf8.{is_utf8}

itself : (o : Option Read) → case_of o None (λ r. Some r) ≡ o
itself None = refl
itself (Some r) = refl

twice : (o : Option Read) (f g h : Read → Option Read) → ((r : Read) → f r ≡ case_of (g r) None h) → case_of o None f ≡ case_of (case_of o None g) None h
twice None f g h e = refl
twice (Some r) f g h e = e r

pub one_line : (n : ℕ) (rows : List (List Word)) (ws : List Word) (r : Read) → with_lines n (rows ++ ws ∷ []) r ≡ case_of (with_lines n rows r) None (with_line (next (numbered n rows)) ws)
one_line n [] ws r = itself (with_line (next n) ws r)
one_line n (row ∷ rows) ws r =
    twice (with_line (next n) row r) (with_lines (next n) (rows ++ ws ∷ [])) (with_lines (next n) rows) (with_line (next (numbered (next n) rows)) ws) (one_line (next n) rows ws)

pub number_one : (n : ℕ) (rows : List (List Word)) (ws : List Word) → numbered n (rows ++ ws ∷ []) ≡ next (numbered n rows)
number_one n [] ws = refl
number_one n (row ∷ rows) ws = number_one (next n) rows ws

-- The lines before this one have words that come to this draft.
abbrev pub ReadSoFar : List (List ℕ) → Draft → ℕ → Type 0
ReadSoFar lines d number = (rows : List (List Word)) × AreWords rows lines × (with_lines 0 rows nothing_read ≡ Some (read_by d)) × (numbered 0 rows ≡ number)

pub more : (lines : List (List ℕ)) (line : List ℕ) (d d' : Draft) (n : ℕ) (ws : List Word) → ReadSoFar lines d n → map bytes_of ws ≡ words_of line → with_line (next n) ws (read_by d) ≡ Some (read_by d')
    → ReadSoFar (lines ++ line ∷ []) d' (next n)
more lines line d d' n ws s e h =
    let rows = s.0 in (
      rows ++ ws ∷ [],
      map-append (map bytes_of) rows (ws ∷ []) ∙ ap₂ (λ a b. a ++ b ∷ []) s.1 e ∙ sym (map-append words_of lines (line ∷ [])),
      one_line 0 rows ws nothing_read ∙ ap (λ o. case_of o None (with_line (next (numbered 0 rows)) ws)) s.2 ∙ ap (λ k. with_line (next k) ws (read_by d)) s.3 ∙ h,
      number_one 0 rows ws ∙ ap next s.3,
    )

-- The same as the loop has it.
pub turn : (ys ys' : List (Bor (List ℕ))) (y : Bor (List ℕ)) (d d' : Draft) (n n' : ℕ) (ws : List Word) → ys' ≡ ys ++ y ∷ [] → n' ≡ next n
    → ReadSoFar (map bytes_of ys) d n → map bytes_of ws ≡ words_of y.now → with_line n' ws (read_by d) ≡ Some (read_by d') → ReadSoFar (map bytes_of ys') d' n'
turn ys ys' y d d' n n' ws p q s e h =
    subst (λ k. ReadSoFar (map bytes_of ys') d' k) (sym q)
    (subst (λ v. ReadSoFar v d' (next n)) (sym (ap (map bytes_of) p ∙ map-append bytes_of ys (y ∷ [])))
    (more (map bytes_of ys) y.now d d' n ws s e (ap (λ k. with_line k ws (read_by d)) (sym q) ∙ h)))

-- The line that the loop is at is wrong.
pub wrong : (text : List ℕ) (ys : List (Bor (List ℕ))) (y : Bor (List ℕ)) (d : Draft) (n n' : ℕ) → map bytes_of ys ≡ take (length ys) (lines_in text) → length ys < length (lines_in text) → y.now ≡ get_or (lines_in text) (length ys) y.now
    → n' ≡ next n → ReadSoFar (map bytes_of ys) d n → (is_utf8 y.now ≡ false) ⊎ ((ws : List Word) × (map bytes_of ws ≡ words_of y.now) × (with_line n' ws (read_by d) ≡ None)) → IsWrongLine text n'
wrong text ys y d n n' before within this q s bad =
    let same : y.now ≡ get_or (lines_in text) (length ys) [] = this ∙ get_or_default (lines_in text) (length ys) y.now [] within in (
      length ys,
      s.0,
      read_by d,
      within,
      s.1 ∙ ap (map words_of) before,
      s.2,
      q ∙ sym (ap next s.3),
      subst (λ b. (is_utf8 b ≡ false) ⊎ ((ws : List Word) × (map bytes_of ws ≡ words_of b) × (with_line n' ws (read_by d) ≡ None))) same bad,
    )

pub refused : (text : List ℕ) (r : Result Script Fault) (f : Fault) → r ≡ Err f → IsNoScript text f → MatchResult r (λ s. IsScript text s) (λ g. IsNoScript text g)
refused text r f e h = subst (λ v. MatchResult v (λ s. IsScript text s) (λ g. IsNoScript text g)) (sym e) h

-- A fault that a line gave.
pub faulted : (text : List ℕ) (f : Fault) (n : ℕ) (Bad : Type 0) → f.line ≡ Some n → (f.mistake ≡ mistake.Memory) ⊎ Bad → (Bad → IsWrongLine text n) → IsNoScript text f
faulted text f n Bad e (inl m) k = inl m
faulted text f n Bad e (inr b) k = inr (inl (n, e, k b))

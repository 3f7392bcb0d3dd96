-- Newer editions of a text: foreign lines added at line boundaries.
use Rattle.std.specs.Prelude.{◌≡◌, ℕ, ◌≤◌, Bool, true, List, [], ◌∷◌, length, None, Ok, Err, Result}
use Rattle.sources.specs.declared.fault.Refusal.{Refusal}
use Rattle.sources.specs.Lines.{lines_of, ended, reading, max_line, max_text}
use Rattle.sources.specs.Rules.{Rules}
use Rattle.sources.specs.Texts.{Text, text}
use Rattle.sources.specs.Utf8.{is_utf8}

-- A line that may be added.
pub record Added (foreign : List ℕ → Bool) (line : List ℕ) : Type 0 where
  pub strange : foreign line ≡ true
  pub closed : ended line ≡ true
  pub short : length line ≤ max_line
  pub text : is_utf8 line ≡ true

-- The lines of a newer edition, for a kind that has begun or not. Added lines stand only where it has begun, as it has after the first line; where that one is refused, none behind it is read.
-- Of a text, only the last line can lack byte 10: so an added line stands behind all lines only where these end in byte 10.
pub data Edition (foreign : List ℕ → Bool) : Bool → List (List ℕ) → List (List ℕ) → Type 0 where
  over : (b : Bool) → Edition foreign b [] []
  keep : (b : Bool) (l : List ℕ) (ls ls' : List (List ℕ)) → Edition foreign true ls ls' → Edition foreign b (l ∷ ls) (l ∷ ls')
  more : (f : List ℕ) (ls ls' : List (List ℕ)) → Added foreign f → Edition foreign true ls ls' → Edition foreign true ls (f ∷ ls')

-- The same answer, line numbers aside.
abbrev pub Same : {C : Type 0} → Result C Refusal → Result C Refusal → Type 0
Same {C} (Ok v) (Ok w) = v ≡ w
Same {C} (Ok v) (Err g) = ⊥
Same {C} (Err f) (Ok w) = ⊥
Same {C} (Err f) (Err g) = (f.reason ≡ g.reason) × (f.field ≡ g.field)

-- A newer edition of a text, with the same ending and within the cap, reads the same.
abbrev pub NewerReadsSame : {M C : Type 0} → Rules M C → (M → Bool) → (List ℕ → Bool) → Type 0
NewerReadsSame {M} {C} R begun foreign =
    (m : M) (t : Text) (bytes' : List ℕ) → R.refused m ≡ None → Edition foreign (begun m) (lines_of t.bytes) (lines_of bytes') → length bytes' ≤ max_text →
    Same (reading R m t).0 (reading R m (text bytes' t.broken)).0

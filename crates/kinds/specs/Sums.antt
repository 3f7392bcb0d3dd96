-- The mappings of a text, what they add up to, and which texts are measured.
use Rattle.std.specs.Prelude.{◌≡◌, ℕ, ◌+◌, ◌≤◌, Bool, true, false, cond, not, ◌&&◌, List, [], ◌∷◌, ◌++◌, length, Some, Ok, Result}
use Rattle.std.specs.Result.{is_ok}
use Rattle.sources.specs.Lines.{lines_of, text_of, long, ended, reading, max_line, max_text}
use Rattle.sources.specs.Texts.{Text, text}
use Rattle.sources.specs.Utf8.{is_utf8}
use Rattle.sources.specs.declared.fault.Refusal.{Refusal}
use Rattle.kinds.specs.declared.sort.Key.{Key}
use Rattle.kinds.specs.declared.sort.Key.TheVariants.{Rss, Pss, SwapPss}
use Rattle.kinds.specs.declared.sort.Sort.{Sort}
use Rattle.kinds.specs.declared.sort.Sort.TheVariants.{Mapping, Attribute}
use Rattle.kinds.specs.declared.measure.Figures.{Figures}
use Rattle.kinds.specs.declared.measure.Closed.{Closed}
use Rattle.kinds.specs.Sorts.{sort_of}
use Rattle.kinds.specs.Measure.{fresh, max_total, measure_rules, has_begun, is_foreign}
use Rattle.sources.specs.Editions.{Edition, Same}

-- Whether a line opens a mapping.
abbrev pub opens : Sort → Bool
opens (Mapping head) = true
opens (Attribute a) = false

-- Whether a line is good where a mapping is open.
abbrev pub sound : Sort → Bool
sound (Mapping head) = is_ok head
sound (Attribute a) = is_ok a

-- The lines before the next mapping line.
unfoldable pub body : List (List ℕ) → List (List ℕ)
body [] = []
body (l ∷ ls) = cond (opens (sort_of l)) [] (l ∷ body ls)

-- The mappings: of each, the lines that follow its mapping line.
unfoldable pub mappings_of : List (List ℕ) → List (List (List ℕ))
mappings_of [] = []
mappings_of (l ∷ ls) = cond (opens (sort_of l)) (body ls ∷ mappings_of ls) (mappings_of ls)

-- Whether two keys are the same.
abbrev pub same : Key → Key → Bool
same Rss Rss = true
same Pss Pss = true
same SwapPss SwapPss = true
same _ _ = false

-- The value of a key after a line, where it was v.
abbrev pub newest : Key → ℕ → Sort → ℕ
newest k v (Attribute (Ok (Some s))) = cond (same k s.key) s.amount v
newest k v _ = v

-- The last value of a key in lines; v, where none sets it.
unfoldable pub last_of : Key → ℕ → List (List ℕ) → ℕ
last_of k v [] = v
last_of k v (l ∷ ls) = last_of k (newest k v (sort_of l)) ls

-- The sum, over mappings, of the last value of a key, absent counting 0.
unfoldable pub sum_over : Key → List (List (List ℕ)) → ℕ
sum_over k [] = 0
sum_over k (g ∷ gs) = last_of k 0 g + sum_over k gs

-- The sum over the mappings of a text.
abbrev pub total : Key → List (List ℕ) → ℕ
total k ls = sum_over k (mappings_of ls)

-- Whether all lines are UTF-8, none too long, and each good.
unfoldable pub orderly : List (List ℕ) → Bool
orderly [] = true
orderly (l ∷ ls) = not (long max_line l) && is_utf8 l && sound (sort_of l) && orderly ls

-- Whether the first line, if any, opens a mapping.
abbrev pub starts : List (List ℕ) → Bool
starts [] = true
starts (l ∷ ls) = opens (sort_of l)

-- What the mappings of a text come to.
abbrev pub measure_of_lines : List (List ℕ) → Closed
measure_of_lines ls = record { mappings = length (mappings_of ls); totals = record { rss = total Rss ls; pss = total Pss ls; swap_pss = total SwapPss ls } }

-- A text of these lines is measured, as c.
pub record Measured (cap most : ℕ) (ls : List (List ℕ)) (c : Closed) : Type 0 where
  pub begins : starts ls ≡ true
  pub good : orderly ls ≡ true
  pub fits : length (text_of ls) ≤ most
  pub light : (k : Key) → total k ls ≤ cap
  pub is : c ≡ measure_of_lines ls

-- What is measured, and as what: the totals are the sums over the mappings.
abbrev pub Measures : Text → Result Closed Refusal → Type 0
Measures t r = (c : Closed) → (r ≡ Ok c → (t.broken ≡ false) × Measured max_total max_text (lines_of t.bytes) c) × ((t.broken ≡ false) × Measured max_total max_text (lines_of t.bytes) c → r ≡ Ok c)

-- The figure of a key.
abbrev pub figure : Key → Figures → ℕ
figure Rss f = f.rss
figure Pss f = f.pss
figure SwapPss f = f.swap_pss

-- The join of two texts keeps the caps.
pub record Keeps (t u : List ℕ) (c d : Closed) : Type 0 where
  pub fits : length t + length u ≤ max_text
  pub light : (k : Key) → figure k c.totals + figure k d.totals ≤ max_total

-- Two measures added.
abbrev pub both : Closed → Closed → Closed
both c d = record { mappings = c.mappings + d.mappings; totals = record { rss = c.totals.rss + d.totals.rss; pss = c.totals.pss + d.totals.pss; swap_pss = c.totals.swap_pss + d.totals.swap_pss } }

-- Whether a text is empty or ends in byte 10.
abbrev pub whole : List ℕ → Bool
whole [] = true
whole (b ∷ bs) = ended (b ∷ bs)

-- A newer edition of the text, within the cap, gets the same answer.
abbrev pub SameInEditions : Text → Result Closed Refusal → Type 0
SameInEditions t r = (bytes' : List ℕ) → Edition is_foreign (has_begun fresh) (lines_of t.bytes) (lines_of bytes') → length bytes' ≤ max_text → Same r (reading measure_rules fresh (text bytes' t.broken)).0

-- Where the text is the join of two that are measured, the first empty or ending in byte 10, it is measured exactly when that keeps the caps, and then all figures add.
abbrev pub AddsOverJoins : Text → Result Closed Refusal → Type 0
AddsOverJoins v r = (t u : List ℕ) (c d : Closed) → v ≡ text (t ++ u) false → whole t ≡ true → (reading measure_rules fresh (text t false)).0 ≡ Ok c → (reading measure_rules fresh (text u false)).0 ≡ Ok d →
    ((e : Closed) → r ≡ Ok e → Keeps t u c d × (e ≡ both c d)) × (Keeps t u c d → r ≡ Ok (both c d))

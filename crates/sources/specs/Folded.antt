-- What a reading comes to where nothing stops it: the meaning folded over the lines, and closed.
use Rattle.std.specs.Prelude.{◌≡◌, ℕ, ◌≤◌, Bool, true, false, not, ◌&&◌, List, [], ◌∷◌, length, fold, Result}
use Rattle.std.specs.Option.{is_none}
use Rattle.sources.specs.declared.fault.Refusal.{Refusal}
use Rattle.sources.specs.Faults.{at_line}
use Rattle.sources.specs.Lines.{lines_of, long, max_line, max_text}
use Rattle.sources.specs.Rules.{Rules}
use Rattle.sources.specs.Texts.{Text, text}
use Rattle.sources.specs.Utf8.{is_utf8}

-- Each line is short and UTF-8, and the kind takes it.
unfoldable pub all_taken : {M C : Type 0} → Rules M C → M → List (List ℕ) → Bool
all_taken {M} {C} R m [] = true
all_taken {M} {C} R m (l ∷ ls) = not (long max_line l) && is_utf8 l && is_none (R.refused (R.next m l)) && all_taken R (R.next m l) ls

-- A text of such lines that ends clean and keeps the cap.
pub record Smooth {M C : Type 0} (R : Rules M C) (m : M) (t : Text) : Type 0 where
  pub ends : t.broken ≡ false
  pub fits : length t.bytes ≤ max_text
  pub lines : all_taken R m (lines_of t.bytes) ≡ true

-- It is read whole: its lines are folded into the meaning, and that is closed at the number of the lines.
abbrev pub FoldsLines : {M C : Type 0} → Rules M C → M → Text → Result C Refusal → Text → Type 0
FoldsLines {M} {C} R m t r left =
    Smooth R m t → (r ≡ at_line (length (lines_of t.bytes)) (R.closed (fold R.next m (lines_of t.bytes)))) × (left ≡ text [] false)

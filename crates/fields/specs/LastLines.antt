-- What the last lines of each name make of a text: the record of slots, told without the course over the lines.
use Rattle.std.specs.Prelude.{◌≡◌, ℕ, ◌≤◌, Bool, true, false, cond, not, List, [], ◌∷◌, length, Some, None, Ok, Err, Option, Result}
use Rattle.sources.specs.declared.fault.Fault.{Fault}
use Rattle.sources.specs.declared.fault.Refusal.{Refusal}
use Rattle.sources.specs.declared.kind.Break.{Break}
use Rattle.sources.specs.declared.kind.Break.TheVariants.{Refuses}
use Rattle.sources.specs.Faults.{at_line}
use Rattle.sources.specs.Editions.{Edition, Same}
use Rattle.sources.specs.Lines.{lines_of, text_of, long, lost, reading, max_line, max_text}
use Rattle.sources.specs.Rules.{Rules}
use Rattle.sources.specs.Texts.{Text, text}
use Rattle.sources.specs.Utf8.{is_utf8}

-- Whether a line breaks its text off: a broken ending cuts it short, or it is not UTF-8.
abbrev pub breaks : Bool → List ℕ → Bool
breaks broken l = cond (lost broken l) true (not (is_utf8 l))

-- The lines before the first that breaks the text off.
unfoldable pub before : Bool → List (List ℕ) → List (List ℕ)
before broken [] = []
before broken (l ∷ ls) = cond (breaks broken l) [] (l ∷ before broken ls)

-- These, and the line that breaks the text off.
unfoldable pub with_breaking : Bool → List (List ℕ) → List (List ℕ)
with_breaking broken [] = []
with_breaking broken (l ∷ ls) = l ∷ cond (breaks broken l) [] (with_breaking broken ls)

-- Whether the text breaks off, at a line or at its end.
unfoldable pub breaks_off : Bool → List (List ℕ) → Bool
breaks_off broken [] = broken
breaks_off broken (l ∷ ls) = cond (breaks broken l) true (breaks_off broken ls)

-- Whether what a line says is good.
abbrev pub good : {E : Type 0} → Result (Option E) Fault → Bool
good {E} (Ok o) = true
good {E} (Err f) = false

-- Whether no line is too long, and all are good, up to where the text breaks off.
unfoldable pub sound : {E : Type 0} → (List ℕ → Result (Option E) Fault) → Bool → List (List ℕ) → Bool
sound {E} entry broken [] = true
sound {E} entry broken (l ∷ ls) = cond (long max_line l) false (cond (breaks broken l) true (cond (good (entry l)) (sound entry broken ls) false))

-- A text that can be read: where a break refuses, it does not break off.
pub record Orderly {E : Type 0} (entry : List ℕ → Result (Option E) Fault) (on_break : Break) (broken : Bool) (ls : List (List ℕ)) : Type 0 where
  pub lines : sound entry broken ls ≡ true
  pub fits : length (text_of (with_breaking broken ls)) ≤ max_text
  pub whole : on_break ≡ Refuses → breaks_off broken ls ≡ false

-- The entries of lines, put before those had: so the last stands first.
abbrev pub put : {E : Type 0} → Result (Option E) Fault → List E → List E
put {E} (Ok None) es = es
put {E} (Ok (Some e)) es = e ∷ es
put {E} (Err f) es = es

unfoldable pub entries_of : {E : Type 0} → (List ℕ → Result (Option E) Fault) → List E → List (List ℕ) → List E
entries_of {E} entry es [] = es
entries_of {E} entry es (l ∷ ls) = entries_of entry (put (entry l) es) ls

-- What the lines before a break make: the slots that the last entry of each name fills, judged.
abbrev pub last_lines : {E S R : Type 0} → (List ℕ → Result (Option E) Fault) → (List E → S → S) → (S → Result R Fault) → S → Bool → List (List ℕ) → Result R Refusal
last_lines {E} {S} {R} entry fill judged fresh broken ls = at_line (length (before broken ls)) (judged (fill (entries_of entry [] (before broken ls)) fresh))

-- What is answered, without the record, and what the caller's record holds: a refusal blanks it.
abbrev pub told : {R : Type 0} → Result R Refusal → Result (Unit {0}) Refusal
told {R} (Ok v) = Ok tt
told {R} (Err f) = Err f

abbrev pub left_in_record : {R : Type 0} → R → Result R Refusal → R
left_in_record {R} blank (Ok v) = v
left_in_record {R} blank (Err f) = blank

-- The answer, the caller's record and the text left, of a reading.
abbrev pub into : {R : Type 0} → R → Result R Refusal × Text → Result (Unit {0}) Refusal × R × Text
into {R} blank o = (told o.0, left_in_record blank o.0, o.1)

-- An answer and a record are those of a reading's result.
pub record Gives {R : Type 0} (blank : R) (x : Result R Refusal) (r : Result (Unit {0}) Refusal) (v : R) : Type 0 where
  pub answer : r ≡ told x
  pub holds : v ≡ left_in_record blank x

-- An orderly text is answered by its last lines alone, and only an orderly text is accepted.
abbrev pub ToldByLastLines : {E S R : Type 0} → (List ℕ → Result (Option E) Fault) → (List E → S → S) → (S → Result R Fault) → S → R → Break → Text → Result (Unit {0}) Refusal → R → Type 0
ToldByLastLines {E} {S} {R} entry fill judged fresh blank on_break t r v =
    (Orderly entry on_break t.broken (lines_of t.bytes) → Gives blank (last_lines entry fill judged fresh t.broken (lines_of t.bytes)) r v)
    × (r ≡ Ok tt → Orderly entry on_break t.broken (lines_of t.bytes))

-- A newer edition of the text, within the cap, gets the same answer, line numbers aside, and leaves the same record.
abbrev pub SameRecordInEditions : {M R : Type 0} → Rules M R → (M → Bool) → (List ℕ → Bool) → M → R → Text → Result (Unit {0}) Refusal → R → Type 0
SameRecordInEditions {M} {R} rules begun foreign m blank t r v =
    (bytes' : List ℕ) → Edition foreign (begun m) (lines_of t.bytes) (lines_of bytes') → length bytes' ≤ max_text →
    Same r (told (reading rules m (text bytes' t.broken)).0) × (v ≡ left_in_record blank (reading rules m (text bytes' t.broken)).0)

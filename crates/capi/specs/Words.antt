-- The word of a refusal's number.
use Rattle.std.specs.Prelude.{ℕ, ◌==◌, List, [], ◌∷◌, ◌++◌, length, take, drop, find, Some, None, Option}
use Rattle.sources.specs.declared.reason.Reason.{Reason}
use Rattle.sources.specs.declared.reason.Reason.TheVariants.{Broken, LongLine, LongText, Orphan, Short, Figure, Value, Torn, Scale, Heavy, Absent, Full, State, Pid, Present, Unknown, Packed, Over, Sum, Bracket, Key, Spool}
use Rattle.sources.specs.Reasons.{number_of, word_of}

abbrev pub reasons : List Reason
reasons =
    Broken ∷ LongLine ∷ LongText ∷ Orphan ∷ Short ∷ Figure ∷ Value ∷ Torn ∷ Scale ∷ Heavy ∷ Absent
    ∷ Full ∷ State ∷ Pid ∷ Present ∷ Unknown ∷ Packed ∷ Over ∷ Sum ∷ Bracket ∷ Key ∷ Spool ∷ []

unfoldable pub reason_of : ℕ → Option Reason
reason_of number = find (λ r. number_of r == number) reasons

abbrev pub word_at : Option Reason → List ℕ
word_at None = []
word_at (Some r) = word_of r

unfoldable pub word_in : ℕ → List ℕ
word_in number = word_at (reason_of number)

-- As many bytes of a word as there is room for, in front; the others stay.
abbrev pub written : List ℕ → List ℕ → List ℕ
written word letters = take (length letters) word ++ drop (length word) letters

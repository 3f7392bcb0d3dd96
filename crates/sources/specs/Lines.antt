-- The lines of a text, and the reading of a text by a kind: what the driver answers, and what it leaves.
use Rattle.std.specs.Prelude.{ℕ, ◌+◌, ◌-◌, Bool, false, cond, not, List, [], ◌∷◌, ◌++◌, length, take, drop, Some, None, Ok, Err, Option, Result, ◌==◌, nat_lt, slice_index}
use Rattle.sources.specs.declared.fault.Fault.{Fault}
use Rattle.sources.specs.declared.fault.Refusal.{Refusal}
use Rattle.sources.specs.declared.kind.Break.{Break}
use Rattle.sources.specs.declared.kind.Break.TheVariants.{Refuses, Ends}
use Rattle.sources.specs.declared.reason.Reason.TheVariants as reason
use Rattle.sources.specs.Faults.{refused, located, at_line}
use Rattle.sources.specs.Rules.{Rules}
use Rattle.sources.specs.Texts.{Text, text}
use Rattle.sources.specs.Utf8.{is_utf8}

-- The longest piece of a line, and the longest text.
abbrev pub max_line : ℕ
max_line = 4096

abbrev pub max_text : ℕ
max_text = 268435456

-- A byte put before the first line.
abbrev pub ahead : ℕ → List (List ℕ) → List (List ℕ)
ahead b [] = (b ∷ []) ∷ []
ahead b (l ∷ ls) = (b ∷ l) ∷ ls

-- The lines of a text, each with its byte 10; the last may have none.
unfoldable pub lines_of : List ℕ → List (List ℕ)
lines_of [] = []
lines_of (b ∷ bs) = cond (b == 10) ((b ∷ []) ∷ lines_of bs) (ahead b (lines_of bs))

-- The text that lines make.
unfoldable pub text_of : List (List ℕ) → List ℕ
text_of [] = []
text_of (l ∷ ls) = l ++ text_of ls

-- Whether the last byte is 10.
abbrev pub ended : List ℕ → Bool
ended l = slice_index l (length l - 1) == 10

-- Whether a piece fills a buffer of `room` bytes and has no byte 10 at its end.
abbrev pub full : ℕ → List ℕ → Bool
full room p = cond (length p == room) (not (ended p)) false

-- Whether the first piece of a line does.
abbrev pub long : ℕ → List ℕ → Bool
long room l = full room (take room l)

-- Whether a line is the rest before a broken ending: it is lost then.
abbrev pub lost : Bool → List ℕ → Bool
lost broken l = cond broken (not (ended l)) false

-- What a break answers, after `taken` lines: the end of the text, or refusal 1.
abbrev pub broke : Break → ℕ → Result ℕ Refusal
broke Ends taken = Ok taken
broke Refuses taken = Err (refused reason.Broken (taken + 1))

-- What the end of a text answers.
abbrev pub at_end : Break → Bool → ℕ → Result ℕ Refusal
at_end on_break broken taken = cond broken (broke on_break taken) (Ok taken)

-- What a course over lines ends with: the number of lines taken or a refusal, the kind's meaning then, and the bytes that are left.
abbrev pub Outcome : Type 0 → Type 0
Outcome M = Result ℕ Refusal × M × List ℕ

-- The same, with the text that is left, where the text's ending is `broken`.
unfoldable pub leaves : {M : Type 0} → Bool → Outcome M → Result ℕ Refusal × M × Text
leaves {M} broken o = (o.0, o.1, text o.2 broken)

-- A line that the kind refused ends the course; after any other it goes on.
abbrev pub on_fault : {M : Type 0} → Option Fault → ℕ → M → List ℕ → Outcome M → Outcome M
on_fault {M} None line m left go = go
on_fault {M} (Some f) line m left go = (Err (located line f), m, left)

-- What a line brings, before which `taken` lines of `size` bytes were taken: `room` is the longest piece and `most` the longest text,
-- `left` is what follows the line, and `go` what the course over that gives.
unfoldable pub judged : {M C : Type 0} → ℕ → ℕ → Rules M C → Bool → ℕ → ℕ → M → List ℕ → List ℕ → Outcome M → Outcome M
judged {M} {C} room most R broken taken size m l left go =
    cond (long room l) (Err (refused reason.LongLine (taken + 1)), m, drop room (l ++ left))
    (cond (nat_lt most (size + length l)) (Err (refused reason.LongText (taken + 1)), m, left)
    (cond (lost broken l) (broke R.on_break taken, m, left)
    (cond (is_utf8 l) (on_fault (R.refused (R.next m l)) (taken + 1) (R.next m l) left go) (broke R.on_break taken, m, left))))

-- The course over lines.
unfoldable pub walk : {M C : Type 0} → ℕ → ℕ → Rules M C → Bool → ℕ → ℕ → M → List (List ℕ) → Outcome M
walk {M} {C} room most R broken taken size m [] = (at_end R.on_break broken taken, m, [])
walk {M} {C} room most R broken taken size m (l ∷ ls) =
    judged room most R broken taken size m l (text_of ls) (walk room most R broken (taken + 1) (size + length l) (R.next m l) ls)

-- The course over a text: what is left of it has the same ending.
unfoldable pub course : {M C : Type 0} → Rules M C → M → Text → Result ℕ Refusal × M × Text
course {M} {C} R m t = leaves t.broken (walk max_line max_text R t.broken 0 0 m (lines_of t.bytes))

-- The kind is closed where the course is not refused.
abbrev pub closing : {M C : Type 0} → Rules M C → Result ℕ Refusal → M → Result C Refusal
closing {M} {C} R (Ok taken) m = at_line taken (R.closed m)
closing {M} {C} R (Err f) m = Err f

-- What is answered, and the text that is left.
abbrev pub closes : {M C : Type 0} → Rules M C → Result ℕ Refusal × M × Text → Result C Refusal × Text
closes {M} {C} R o = (closing R o.0 o.1, o.2)

-- The reading of a text by a kind that means `m`.
unfoldable pub reading : {M C : Type 0} → Rules M C → M → Text → Result C Refusal × Text
reading {M} {C} R m t = closes R (course R m t)

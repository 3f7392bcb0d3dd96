-- Rows of calls that differ by newer editions of their texts, and answers with line numbers aside.
use Rattle.std.specs.Prelude.{◌≡◌, ℕ, ◌≤◌, Bool, true, false, List, [], ◌∷◌, length, map, ℤ}
use Rattle.sources.specs.declared.fault.Refusal.{Refusal}
use Rattle.sources.specs.Lines.{lines_of, max_text}
use Rattle.sources.specs.Editions.{Edition}
use Rattle.sources.specs.Texts.{Text}
use Rattle.kinds.specs.Measure as smaps
use Rattle.status.specs.Line as status
use Rattle.limits.specs.Entries as limits
use Rattle.runs.specs.declared.call.Call.{Call}
use Rattle.runs.specs.declared.call.Call.TheVariants.{Measure, Note, Bound}
use Rattle.runs.specs.declared.call.Answer.{Answer}
use Rattle.runs.specs.declared.call.Answer.TheVariants.{Refused, Handed}
use Rattle.runs.specs.Run.{answers_of}

-- The second text is a newer edition of the first, of a kind that has these foreign lines and has begun or not: it keeps the ending and the cap.
pub record NewerText (foreign : List ℕ → Bool) (begun : Bool) (t u : Text) : Type 0 where
  pub ending : u.broken ≡ t.broken
  pub edition : Edition foreign begun (lines_of t.bytes) (lines_of u.bytes)
  pub fits : length u.bytes ≤ max_text

-- The same call, its text exchanged for a newer edition or not.
pub data Newer : Call Text → Call Text → Type 0 where
  same : (c : Call Text) → Newer c c
  measured : (t u : Text) → NewerText smaps.is_foreign false t u → Newer (Measure t) (Measure u)
  noted : (pid : ℤ) (t u : Text) → NewerText status.is_foreign true t u → Newer (Note pid t) (Note pid u)
  bounded : (pid : ℤ) (t u : Text) → NewerText limits.is_foreign true t u → Newer (Bound pid t) (Bound pid u)

-- The same calls, each so.
abbrev pub Newers : List (Call Text) → List (Call Text) → Type 0
Newers [] [] = Unit {0}
Newers (c ∷ cs) (d ∷ ds) = Newer c d × Newers cs ds
Newers _ _ = ⊥

-- Line numbers aside.
abbrev pub without_line : Refusal → Refusal
without_line f = record { reason = f.reason; line = 0; field = f.field }

abbrev pub unnumbered : Answer → Answer
unnumbered (Refused f) = Refused (without_line f)
unnumbered (Handed f mappings totals) = Handed (without_line f) mappings totals
unnumbered a = a

-- Any row of calls that differs by newer editions answers the same, on another list of this limit.
abbrev pub SameInEditions : ℕ → List (Call Text) → List Answer → Type 0
SameInEditions limit cs rs = (ds : List (Call Text)) → Newers cs ds → map unnumbered rs ≡ map unnumbered (answers_of limit ds)

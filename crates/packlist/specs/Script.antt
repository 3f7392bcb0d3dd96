-- What the words of a script's line ask for.
use Rattle.std.specs.Prelude.{◌≡◌, ◌⊎◌, ℕ, ◌+◌, ◌-◌, ◌^◌, ◌<◌, min, Bool, false, take, get_or, cond, nat_lt, ◌==◌, length, List, [], ◌∷◌, ◌++◌, filter, map, slice_index, ℤ, Option, Some, None, is_some, is_none, Ok, Err, Result, codes}
use Rattle.std.specs.Char.{is_ascii_whitespace}
use Rattle.std.specs.List.{slice_split}
use Rattle.std.specs.Str.{bytes_eq}
use Rattle.sources.specs.Number.{unsigned, signed}
use Rattle.sources.specs.declared.fault.NumberFault.{NumberFault}
use Rattle.sources.specs.declared.number.Radix.TheVariants.{Decimal}
use Rattle.sources.specs.Pieces.{bytes_of, case_of}
use Rattle.runs.specs.declared.call.Call.{Call}
use Rattle.runs.specs.declared.call.Call.TheVariants.{Measure, Admit, Remeasure, Note, Bound, Release, Look, Used}
use Rattle.cli.specs.TextFile.{file_of}
use Rattle.cli.specs.declared.text_file.TextFile.{TextFile}
use Rattle.packlist.specs.Names.{Word, latest_of}
use Rattle.packlist.specs.declared.script.Line.{Line}
use Rattle.packlist.specs.declared.script.Limit.{Limit}
use Rattle.packlist.specs.declared.script.Draft.{Draft}
use Rattle.packlist.specs.declared.script.Script.{Script}
use Rattle.packlist.specs.declared.mistake.Fault.{Fault}
use Rattle.sources.specs.Utf8.{is_utf8}
use Rattle.packlist.specs.declared.mistake.Mistake.{Mistake}
use Rattle.packlist.specs.declared.mistake.Mistake.TheVariants as mistake

-- What came out, if anything did.
abbrev pub came : {X E : Type 0} → Result X E → Option X
came {X} {E} (Ok x) = Some x
came {X} {E} (Err e) = None

-- A number, or what is wrong with its word.
abbrev pub or_mistake : {X : Type 0} → Result X NumberFault → Mistake → Result X Mistake
or_mistake {X} (Ok n) m = Ok n
or_mistake {X} (Err f) m = Err m

abbrev pub bytes_in : Word → Result ℕ Mistake
bytes_in w = or_mistake (unsigned 64 Decimal w.now) (mistake.Bytes w)

abbrev pub pid_in : Word → Result ℤ Mistake
pid_in w = or_mistake (signed 31 Decimal w.now) (mistake.Pid w)

-- What a name and the words behind it ask for, with the names of the measures above; None where they ask for nothing.
abbrev pub measure_asked : List Word → Option (Call TextFile)
measure_asked [] = None
measure_asked (name ∷ file) = case_of (file_of file) None (λ f. Some (Measure f))

abbrev pub told_of : (ℤ → TextFile → Call TextFile) → List Word → Option (Call TextFile)
told_of call [] = None
told_of call (job ∷ file) = case_of (file_of file) None (λ f. case_of (came (pid_in job)) None (λ pid. Some (call pid f)))

abbrev pub admit_asked : List Word → List Word → Option (Call TextFile)
admit_asked names (job ∷ headroom ∷ name ∷ []) =
    case_of (came (pid_in job)) None (λ pid. case_of (came (bytes_in headroom)) None (λ n. case_of (latest_of names name.now) None (λ k. Some (Admit pid n k))))
admit_asked names ws = None

abbrev pub remeasure_asked : List Word → List Word → Option (Call TextFile)
remeasure_asked names (job ∷ name ∷ []) = case_of (came (pid_in job)) None (λ pid. case_of (latest_of names name.now) None (λ k. Some (Remeasure pid k)))
remeasure_asked names ws = None

abbrev pub job_asked : (ℤ → Call TextFile) → List Word → Option (Call TextFile)
job_asked call (job ∷ []) = case_of (came (pid_in job)) None (λ pid. Some (call pid))
job_asked call ws = None

abbrev pub used_asked : List Word → Option (Call TextFile)
used_asked [] = Some Used
used_asked (w ∷ ws) = None

unfoldable pub asked : Word → List Word → List Word → Option (Call TextFile)
asked name words names =
    cond (bytes_eq name.now (codes "measure")) (measure_asked words)
    (cond (bytes_eq name.now (codes "admit")) (admit_asked names words)
    (cond (bytes_eq name.now (codes "remeasure")) (remeasure_asked names words)
    (cond (bytes_eq name.now (codes "note")) (told_of Note words)
    (cond (bytes_eq name.now (codes "bound")) (told_of Bound words)
    (cond (bytes_eq name.now (codes "release")) (job_asked Release words)
    (cond (bytes_eq name.now (codes "look")) (job_asked Look words)
    (cond (bytes_eq name.now (codes "used")) (used_asked words)
    None)))))))

-- The words of a line: what stands between ASCII white space.
abbrev pub words_of : List ℕ → List (List ℕ)
words_of bs = filter (λ w. nat_lt 0 (length w)) (slice_split is_ascii_whitespace bs)

-- A line that asks for a call.
pub record Asked : Type 0 where
  pub number : ℕ
  pub words : List Word
  pub call : Call TextFile

-- What the lines read so far come to: the limit with its words, the names of the measures, and the lines that ask for calls.
pub record Read : Type 0 where
  pub limit : Option (List Word × ℕ)
  pub names : List Word
  pub lines : List Asked

-- What a line of these words adds; None where it is wrong.
abbrev pub is_remark : Word → Bool
is_remark w = slice_index w.now 0 == 35

abbrev pub with_limit : List Word → Read → Option Read
with_limit (first ∷ bytes ∷ []) r =
    cond (is_some r.limit) None
    (case_of (came (bytes_in bytes)) None (λ n. Some (record { limit = Some (first ∷ bytes ∷ [], n); names = r.names; lines = r.lines })))
with_limit ws r = None

abbrev pub with_name : Call TextFile → List Word → List Word → List Word
with_name (Measure f) (name ∷ file) names = names ++ name ∷ []
with_name call ws names = names

abbrev pub with_call : ℕ → List Word → Read → Option Read
with_call number [] r = Some r
with_call number (first ∷ rest) r =
    cond (is_none r.limit) None
    (case_of (asked first rest r.names) None
    (λ call. Some (record { limit = r.limit; names = with_name call rest r.names; lines = r.lines ++ (record { number = number; words = first ∷ rest; call = call }) ∷ [] })))

abbrev pub with_line : ℕ → List Word → Read → Option Read
with_line number [] r = Some r
with_line number (first ∷ rest) r =
    cond (is_remark first) (Some r)
    (cond (bytes_eq first.now (codes "limit")) (with_limit (first ∷ rest) r) (with_call number (first ∷ rest) r))

-- The same of what the program keeps.
abbrev pub asked_by : Line → Asked
asked_by l = record { number = l.number; words = l.words.items; call = l.call }

abbrev pub limit_by : Option Limit → Option (List Word × ℕ)
limit_by None = None
limit_by (Some l) = Some (l.words.items, l.bytes)

abbrev pub read_by : Draft → Read
read_by d = record { limit = limit_by d.limit; names = d.names; lines = map asked_by d.lines.items }

-- The number of the line after one; it stops at the largest of 64 bits.
abbrev pub next : ℕ → ℕ
next n = min (n + 1) (2 ^ 64 - 1)

-- What lines come to behind one of this number, by their words.
abbrev pub with_lines : ℕ → List (List Word) → Read → Option Read
with_lines number [] r = Some r
with_lines number (ws ∷ more) r = case_of (with_line (next number) ws r) None (with_lines (next number) more)

abbrev pub nothing_read : Read
nothing_read = record { limit = None; names = []; lines = [] }

-- The words of a script's lines.
abbrev pub AreWords : List (List Word) → List (List ℕ) → Type 0
AreWords rows lines = map (map bytes_of) rows ≡ map words_of lines

-- The lines of a text, between bytes 10.
abbrev pub lines_in : List ℕ → List (List ℕ)
lines_in text = slice_split (λ b. b == 10) text

-- What a text reads as: the words of its lines come to a limit and lines that ask for calls.
abbrev pub IsScript : List ℕ → Script → Type 0
IsScript text s =
    (rows : List (List Word)) × (r : Read) × AreWords rows (lines_in text)
    × (with_lines 0 rows nothing_read ≡ Some r) × (r.limit ≡ Some (s.limit.words.items, s.limit.bytes)) × (r.lines ≡ map asked_by s.lines.items)

-- The number of the last of these lines.
abbrev pub numbered : ℕ → List (List Word) → ℕ
numbered n [] = n
numbered n (ws ∷ more) = numbered (next n) more

-- A line of this number is wrong, behind lines that are right: it is no UTF-8, or its words add nothing.
abbrev pub IsWrongLine : List ℕ → ℕ → Type 0
IsWrongLine text number =
    (k : ℕ) × (rows : List (List Word)) × (r : Read) × (k < length (lines_in text)) × AreWords rows (take k (lines_in text))
    × (with_lines 0 rows nothing_read ≡ Some r) × (number ≡ next (numbered 0 rows))
    × ((is_utf8 (get_or (lines_in text) k []) ≡ false) ⊎ ((ws : List Word) × (map bytes_of ws ≡ words_of (get_or (lines_in text) k [])) × (with_line number ws r ≡ None)))

-- All lines are right, and none is a limit.
abbrev pub HasNoLimit : List ℕ → Type 0
HasNoLimit text = (rows : List (List Word)) × (r : Read) × AreWords rows (lines_in text) × (with_lines 0 rows nothing_read ≡ Some r) × (r.limit ≡ None)

-- Why a text is not read: memory lacks, a line is wrong, or there is no limit.
abbrev pub IsNoScript : List ℕ → Fault → Type 0
IsNoScript text f =
    (f.mistake ≡ mistake.Memory)
    ⊎ (((n : ℕ) × (f.line ≡ Some n) × IsWrongLine text n) ⊎ ((f.line ≡ None) × (f.mistake ≡ mistake.NoLimit) × HasNoLimit text))

-- An accepted text is told by its mappings.
use Rattle.std.proofs.Common.{◌≡◌, ℕ, Bool, ◌+◌, ◌≤◌, List, [], ◌∷◌, length, drop, Ok, Err, Result, refl, sym, ap, ◌∙◌, arith, inl, inr}
use Rattle.std.proofs.lemmas.Bool.{cases_Bool}
use Rattle.sources.specs.declared.fault.Refusal.{Refusal}
use Rattle.sources.specs.Faults.{and_then}
use Rattle.sources.specs.Lines.{lines_of, text_of, walk, course, leaves, reading, closing, max_line, max_text, Outcome}
use Rattle.sources.specs.Texts.{Text}
use Rattle.sources.proofs.Split.{text_lines}
use Rattle.kinds.specs.Sorts.{capital}
use Rattle.kinds.specs.declared.rows.entry.Entry.{Entry}
use Rattle.kinds.specs.declared.rows.read.Counts.{Counts}
use Rattle.kinds.specs.declared.rows.row.Row.{Row}
use Rattle.kinds.specs.Rows.Cells.{Cells}
use Rattle.kinds.specs.Rows.Rows.{row_of}
use Rattle.kinds.specs.Rows.Tables.{Tables, Filled, unfilled, after_line, counts, fresh, row_rules, blanked_unless_read, rows_of}
use Rattle.kinds.specs.Rows.Blocks.{Block, with_rest, row_or_blank, entries_after, body, blocks_of, rows_in, entries_in, ToldByMappings}
use Rattle.kinds.proofs.RowLemmas.Blocked.{tables_of, mapping_line, orphan, first_line, further_is, blocked}
use Rattle.kinds.proofs.RowLemmas.Fulls.{full}
use Rattle.kinds.proofs.RowLemmas.Walked.{Walked, folded, walked}
use Rattle.kinds.proofs.RowLemmas.Placed.{stand}
use Rattle.kinds.specs.Rows.Placed.{NamesAtPlaces}
use Rattle.kinds.specs.Rows.Accepted.{AcceptsReadable}
use Rattle.kinds.proofs.RowLemmas.Accepted.{all_fit, accepted}
use Rattle.sources.proofs.Walks.{ends}
use Rattle.std.specs.Result.{is_ok}
use Rattle.kinds.proofs.RowLemmas.Latest.{latest_stand}
use Rattle.kinds.proofs.RowLemmas.AttributesGiven.{blocks_said}
use Rattle.kinds.specs.Rows.Latest.{LatestOfMappings}

-- the tables after all lines
record All (rows : List Row) (entries : List Entry) (ls : List (List ℕ)) (t : Tables) : Type 0 where
  rows_are : t.rows ≡ full (rows_in 0 (blocks_of 0 ls)) rows
  entries_are : t.entries ≡ full (entries_in (blocks_of 0 ls)) entries

all : (rows : List Row) (entries : List Entry) (ls : List (List ℕ)) (t : Tables) → 0 + length (text_of ls) ≤ 268435456 → folded row_rules (fresh rows entries) ls ≡ Ok t → All rows entries ls t
unfolding folded body blocks_of rows_in entries_in
all rows entries [] t h e =
    let z : tables_of rows entries [] [] 0 ≡ t = let y = e in cc in
    record { rows_are = sym (ap (λ (t : Tables). t.rows) z); entries_are = sym (ap (λ (t : Tables). t.entries) z) }
all rows entries (l ∷ ls) t h e =
    let f = further_is rows entries 0 0 l ls h in
    let first = first_line rows entries (after_line l (tables_of rows entries [] [] 0)) ls t e in
    elim (cases_Bool (capital l)) [
      | inl c ↦ absurd (orphan rows entries [] 0 l first.0 c first.1)
      | inr c ↦
          let r' = row_or_blank (row_of 0 l) in
          let k = mapping_line rows entries [] [] 0 l first.0 c first.1 in
          let m = first.1 ∙ ap Ok k ∙ ap (λ (b : ℕ). Ok (tables_of rows entries (with_rest 0 0 0 r' ∷ []) [] b)) f.0 in
          let ih = blocked rows entries [] r' 0 [] [] (0 + length l) ls t f.1 (sym (ap (λ (m : Filled). folded row_rules m ls) m) ∙ e) in
          record { rows_are = rw c ih.rows_are; entries_are = rw c ih.entries_are }
    ]

rows_length : (first : ℕ) (bs : List Block) → length (rows_in first bs) ≡ length bs
unfolding rows_in
rows_length first [] = refl
rows_length first (b ∷ bs) = let i = rows_length (first + length (entries_after [] b.lines)) bs in omega (arith, i)

abbrev Read : Type 0
Read = Result Counts Refusal × Text

abbrev Left : Type 0
Left = Result Counts Refusal × List Row × List Entry × Text

blanked_unless_read-answer : (a b : ℕ) (x : Result Counts Refusal) (left : Text) (m : Filled) → (blanked_unless_read a b (x, left) m).0 ≡ x
blanked_unless_read-answer a b (Ok n) left (Ok t) = refl
blanked_unless_read-answer a b (Ok n) left (Err f) = refl
blanked_unless_read-answer a b (Err f) left m = refl

blanked_unless_read-well : (a b : ℕ) (x : Result Counts Refusal) (left : Text) (m : Filled) (n : Counts) (t : Tables) → x ≡ Ok n → m ≡ Ok t → blanked_unless_read a b (x, left) m ≡ (Ok n, t.rows.held, t.entries.held, left)
blanked_unless_read-well a b x left m n t p q = rw (p, q)

shut : (m : Filled) (n : Counts) → and_then m (λ t. Ok (counts t)) ≡ Ok n → (t : Tables) × (m ≡ Ok t) × (n ≡ counts t)
shut (Err f) n e = absurd (let z = e in cc)
shut (Ok t) n e = (t, refl, let z = e in cc)

module _ (t : Text) (rows rows' : List Row) (entries entries' : List Entry) (r : Result Counts Refusal) (left : Text) (e : ◌≡◌ {A = Left} (r, rows', entries', left) (rows_of rows entries t)) where
  abbrev walk_of : Outcome Filled
  walk_of = walk max_line max_text row_rules t.broken 0 0 (fresh rows entries) (lines_of t.bytes)

  answer : r ≡ closing row_rules walk_of.0 walk_of.1
  unfolding rows_of reading course leaves
  answer = ap (λ (o : Left). o.0) e ∙ blanked_unless_read-answer (length rows) (length entries) (closing row_rules walk_of.0 walk_of.1) _ walk_of.1

  well : (n : Counts) → r ≡ Ok n → Walked max_line max_text row_rules t.broken 0 (fresh rows entries) (lines_of t.bytes) walk_of n
  well n q = walked max_line max_text row_rules t.broken refl 0 0 (fresh rows entries) (lines_of t.bytes) n (omega arith) (sym answer ∙ q)

  pub told_by : ToldByMappings t rows entries r rows' entries'
  unfolding rows_of reading course leaves
  told_by n q =
      let k = well n q in
      let s = shut (folded row_rules (fresh rows entries) (lines_of t.bytes)) n k.shuts in
      let a = all rows entries (lines_of t.bytes) s.0 k.fits s.1 in
      let d = e ∙ blanked_unless_read-well (length rows) (length entries) (closing row_rules walk_of.0 walk_of.1) _ walk_of.1 n s.0 (sym answer ∙ q) (k.means ∙ s.1) in (
        k.clean,
        record {
          rows_counted = ap (λ (n : Counts). n.rows) s.2 ∙ ap (λ (c : Cells Row). c.count) a.rows_are ∙ rows_length 0 (blocks_of 0 (lines_of t.bytes));
          entries_counted = ap (λ (n : Counts). n.entries) s.2 ∙ ap (λ (c : Cells Entry). c.count) a.entries_are;
          rows_stand = ap (λ (o : Left). o.1) d ∙ ap (λ (c : Cells Row). c.held) a.rows_are;
          entries_stand = ap (λ (o : Left). o.2) d ∙ ap (λ (c : Cells Entry). c.held) a.entries_are;
        },
      )

  pub accepts_by : AcceptsReadable t rows entries r
  accepts_by = (
    λ n q.
        let k = well n q in
        let s = shut (folded row_rules (fresh rows entries) (lines_of t.bytes)) n k.shuts in
        let h = k.fits in
        (k.clean, all_fit rows entries (lines_of t.bytes) s.0 (omega (arith, h)) k.texts k.short s.1),
    λ g. ap is_ok (answer ∙ ap (λ (b : Bool). ends row_rules (walk max_line max_text row_rules b 0 0 (fresh rows entries) (lines_of t.bytes))) g.0) ∙ accepted rows entries (lines_of t.bytes) g.1,
  )

  pub names_by : NamesAtPlaces t r rows'
  names_by n q =
      let k = well n q in
      let d = (told_by n q).1.rows_stand in
      let s = stand [] (lines_of t.bytes) 0 (drop (length (rows_in 0 (blocks_of 0 (lines_of t.bytes)))) rows) k.texts k.fits in
      rw d (rw (text_lines t.bytes) at s)

  pub latest_by : LatestOfMappings t r rows' entries'
  latest_by n q =
      let bs = blocks_of 0 (lines_of t.bytes) in
      let k = well n q in
      let s = shut (folded row_rules (fresh rows entries) (lines_of t.bytes)) n k.shuts in
      let w = blocks_said (unfilled rows entries) (lines_of t.bytes) s.0 s.1 in
      let d = (told_by n q).1.rows_stand in
      let e = (told_by n q).1.entries_stand in
      rw (d, e) (latest_stand bs [] (drop (length (rows_in 0 bs)) rows) (drop (length (entries_in bs)) entries) w)

-- what is shown of an answer and of the cells
abbrev pub Shown : Text → List Row → List Row → List Entry → List Entry → Result Counts Refusal → Text → Type 0
Shown t rows rows' entries entries' r left =
    record { defined : ◌≡◌ {A = Left} (r, rows', entries', left) (rows_of rows entries t); mappings : ToldByMappings t rows entries r rows' entries'; names : NamesAtPlaces t r rows'; latest : LatestOfMappings t r rows' entries'; accepts : AcceptsReadable t rows entries r }

pub shown : (t : Text) (rows rows' : List Row) (entries entries' : List Entry) (r : Result Counts Refusal) (left : Text) → ◌≡◌ {A = Left} (r, rows', entries', left) (rows_of rows entries t) → Shown t rows rows' entries entries' r left
shown t rows rows' entries entries' r left e = record { defined = e; mappings = told_by t rows rows' entries entries' r left e; names = names_by t rows rows' entries entries' r left e; latest = latest_by t rows rows' entries entries' r left e; accepts = accepts_by t rows rows' entries entries' r left e }

-- What lines make of tables, told by mappings.
use Rattle.std.proofs.Common.{◌≡◌, ℕ, ◌+◌, ◌-◌, ◌<◌, ◌≤◌, true, false, List, [], ◌∷◌, ◌++◌, length, drop, Ok, Err, Some, None, Option, Result, slice_set, refl, sym, ap, ◌∙◌, arith, append_assoc, append-nil, length-append, inl, inr}
use Rattle.std.specs.Option.{option_map}
use Rattle.std.proofs.Math.ListN.{length-set}
use Rattle.fields.specs.declared.counted.Counted.{Counted}
use Rattle.sources.proofs.Found.{found_some}
use Rattle.std.proofs.lemmas.Bool.{cases_Bool}
use Rattle.sources.specs.declared.fault.Fault.{Fault}
use Rattle.sources.specs.Faults.{and_then}
use Rattle.sources.specs.Lines.{text_of}
use Rattle.sources.specs.Pieces.{case_of}
use Rattle.kinds.specs.Sorts.{capital}
use Rattle.kinds.specs.declared.rows.entry.Entry.{Entry}
use Rattle.kinds.specs.declared.rows.row.Row.{Row}
use Rattle.kinds.specs.declared.rows.line.Saying.{Saying}
use Rattle.kinds.specs.declared.rows.line.Saying.TheVariants.{Nothing, Flags, Value}
use Rattle.kinds.specs.Rows.Cells.{Cells, used, pushed, written}
use Rattle.kinds.specs.Rows.Entries.{entry_number, spot}
use Rattle.kinds.specs.Mapping.{mapping_of}
use Rattle.kinds.specs.Mapping.{Mapping as Mapped}
use Rattle.kinds.specs.Rows.Paths.{further, name_at}
use Rattle.kinds.specs.Rows.Rows.{row_of, row_at}
use Rattle.kinds.specs.Rows.Lines.{row_line_of, saying_of}
use Rattle.kinds.specs.Rows.Tables.{Tables, after_line, after_saying, opened, renewed, entered, row_rules}
use Rattle.kinds.specs.Rows.Blocks.{noted, flagged, with_rest, row_or_blank, body, blocks_of, entries_after, flags_after, rows_in, entries_in}
use Rattle.kinds.proofs.RowLemmas.Fulls.{full, used_full, full_pushed, full_written, last_one, set_last, set_back}
use Rattle.kinds.proofs.RowLemmas.Walked.{folded}

drop_front : {A : Type 0} (xs ys : List A) → drop (length xs) (xs ++ ys) ≡ ys
drop_front {A} [] ys = refl
drop_front {A} (x ∷ xs) ys = drop_front xs ys

-- where a key stands among the later ones
pub spot_is : (key : Counted ℕ 32) (front cur entries : List Entry) → spot key (length front) (used (full (front ++ cur) entries)) ≡ option_map (λ i. length front + i) (entry_number key cur)
unfolding spot
spot_is key front cur entries = rw (used_full (front ++ cur) entries, drop_front front cur)

-- a row as its line says it has no flags and no entries
plain_row : (b : ℕ) (l : List ℕ) (row : Row) → row_of b l ≡ Ok row → (row.flags ≡ 0) × (row.count ≡ 0)
unfolding row_of
plain_row b l row e = go (mapping_of l) e
  where
    go : (m : Result Mapped Fault) → and_then m (λ m. Ok (row_at (further b (name_at l)) m)) ≡ Ok row → (row.flags ≡ 0) × (row.count ≡ 0)
    go (Err f) e = absurd (let z = e in cc)
    go (Ok m) e = let z : row_at (further b (name_at l)) m ≡ row = cc in (sym (ap (λ (r : Row). r.flags) z), sym (ap (λ (r : Row). r.count) z))

-- tables whose first rows and entries are given
abbrev pub tables_of : List Row → List Entry → List Row → List Entry → ℕ → Tables
tables_of rows entries rs es b = record { rows = full rs rows; entries = full es entries; bytes = b }

module _ (rows : List Row) (entries : List Entry) where
  -- a row is opened
  opened_is : (rs : List Row) (es : List Entry) (b : ℕ) (row : Row) (t : Tables) → opened row (tables_of rows entries rs es b) ≡ Ok t →
      t ≡ tables_of rows entries (rs ++ (record row { first = length es } ∷ [])) es b
  opened_is rs es b row t e = go (pushed (record row { first = length es }) (full rs rows)) refl e
    where
      go : (p : Result (Cells Row) Fault) → pushed (record row { first = length es }) (full rs rows) ≡ p → and_then p (λ r. Ok (record { rows = r; entries = full es entries; bytes = b })) ≡ Ok t →
          t ≡ tables_of rows entries (rs ++ (record row { first = length es } ∷ [])) es b
      go (Err f) q e = absurd (let z = e in cc)
      go (Ok r) q e =
          let k = full_pushed rs rows (record row { first = length es }) r q in
          let z : t ≡ record { rows = r; entries = full es entries; bytes = b } = cc in
          z ∙ ap (λ (r : Cells Row). record { rows = r; entries = full es entries; bytes = b }) k

  -- the last row is written anew
  renewed_is : (done : List Row) (row row' : Row) (es : List Entry) (b : ℕ) →
      renewed row' (tables_of rows entries (done ++ (row ∷ [])) es b) ≡ tables_of rows entries (done ++ (row' ∷ [])) es b
  renewed_is done row row' es b =
      let n : length (done ++ (row ∷ [])) - 1 < length (done ++ (row ∷ [])) = omega (arith, length-append done (row ∷ [])) in
      let w = full_written (done ++ (row ∷ [])) rows (length (done ++ (row ∷ [])) - 1) row' n in
      ap (λ (r : Cells Row). record { rows = r; entries = full es entries; bytes = b }) (w ∙ ap (λ (rs : List Row). full rs rows) (set_last done row row'))

  -- a value for the last row: of a new key, and of one that is there
  module _ (done : List Row) (r : Row) (flags : ℕ) (front cur : List Entry) (b : ℕ) (v : Entry) (t : Tables) where
    abbrev pub row : Row
    row = with_rest flags (length front) (length cur) r

    abbrev pub was : Tables
    was = tables_of rows entries (done ++ (row ∷ [])) (front ++ cur) b

    -- what the tables are to be, with other entries
    abbrev with_entries : List Entry → Tables
    with_entries es = tables_of rows entries (done ++ (with_rest flags (length front) (length es) r ∷ [])) (front ++ es) b

    more : (p : Result (Cells Entry) Fault) → pushed v (full (front ++ cur) entries) ≡ p →
        and_then p (λ es. Ok (renewed (record row { count = es.count - length front }) (record was { entries = es }))) ≡ Ok t → t ≡ with_entries (cur ++ (v ∷ []))
    more (Err f) p e = absurd (let z = e in cc)
    more (Ok es) p e =
        let k : es ≡ full (front ++ (cur ++ (v ∷ []))) entries = full_pushed (front ++ cur) entries v es p ∙ ap (λ (l : List Entry). full l entries) (append_assoc front cur (v ∷ [])) in
        let c : length (front ++ (cur ++ (v ∷ []))) - length front ≡ length (cur ++ (v ∷ [])) = omega (arith, length-append front (cur ++ (v ∷ []))) in
        let z : t ≡ renewed (record row { count = es.count - length front }) (record was { entries = es }) = cc in
        z ∙ ap (λ (es : Cells Entry). renewed (record row { count = es.count - length front }) (record was { entries = es })) k
        ∙ ap (λ (n : ℕ). renewed (record row { count = n }) (record was { entries = full (front ++ (cur ++ (v ∷ []))) entries })) c
        ∙ renewed_is done row (record row { count = length (cur ++ (v ∷ [])) }) (front ++ (cur ++ (v ∷ []))) b

    same_key : (i : ℕ) → i < length cur → t ≡ record was { entries = written (length front + i) v was.entries } → t ≡ with_entries (slice_set cur i v)
    same_key i l z =
        let n : length (slice_set cur i v) ≡ length cur = length-set cur i v in
        let w = full_written (front ++ cur) entries (length front + i) v (omega (arith, length-append front cur)) ∙ ap (λ (es : List Entry). full es entries) (set_back front cur i v) in
        rw n (z ∙ ap (λ (es : Cells Entry). record was { entries = es }) w)

    abbrev pub found : Option ℕ → Result Tables Fault
    found o = case_of o (entered v row was) (λ i. Ok (record was { entries = written i v was.entries }))

    value_is : (o : Option ℕ) → entry_number v.key cur ≡ o → found (option_map (λ i. length front + i) o) ≡ Ok t → t ≡ with_entries (case_of o (cur ++ (v ∷ [])) (λ i. slice_set cur i v))
    value_is None q e = more (pushed v (full (front ++ cur) entries)) refl e
    value_is (Some i) q e =
        let h = found_some i _ _ refl q in
        same_key i (rw h.0 h.1) (let y : found (Some (length front + i)) ≡ Ok t = e in cc)

  -- what an attribute says of the last row
  told_is : (done : List Row) (r : Row) (flags : ℕ) (front cur : List Entry) (b : ℕ) (s : Saying) (t : Tables) →
      after_saying s (with_rest flags (length front) (length cur) r) (tables_of rows entries (done ++ (with_rest flags (length front) (length cur) r ∷ [])) (front ++ cur) b) ≡ Ok t →
      t ≡ tables_of rows entries (done ++ (with_rest (flagged flags (Ok s)) (length front) (length (noted cur (Ok s))) r ∷ [])) (front ++ noted cur (Ok s)) b
  told_is done r flags front cur b Nothing t e = cc
  told_is done r flags front cur b (Flags bits) t e =
      let z = renewed_is done (with_rest flags (length front) (length cur) r) (with_rest bits (length front) (length cur) r) (front ++ cur) b in
      cc
  told_is done r flags front cur b (Value v) t e =
      value_is done r flags front cur b v t (entry_number v.key cur) refl (sym (ap (found done r flags front cur b v t) (spot_is v.key front cur entries)) ∙ e)

  -- an attribute line, where a row is open
  pub attribute_line : (done : List Row) (r : Row) (flags : ℕ) (front cur : List Entry) (b : ℕ) (l : List ℕ) (t : Tables) → capital l ≡ true →
      after_line l (tables_of rows entries (done ++ (with_rest flags (length front) (length cur) r ∷ [])) (front ++ cur) b) ≡ Ok t →
      t ≡ tables_of rows entries (done ++ (with_rest (flagged flags (saying_of l)) (length front) (length (noted cur (saying_of l))) r ∷ [])) (front ++ noted cur (saying_of l)) (further b (length l))
  unfolding row_line_of
  attribute_line done r flags front cur b l t k e =
      go (saying_of l) (rw (k, used_full (done ++ (with_rest flags (length front) (length cur) r ∷ [])) rows, last_one done (with_rest flags (length front) (length cur) r)) at e)
    where
      go : (s : Result Saying Fault) → and_then s (λ s. after_saying s (with_rest flags (length front) (length cur) r) (tables_of rows entries (done ++ (with_rest flags (length front) (length cur) r ∷ [])) (front ++ cur) (further b (length l)))) ≡ Ok t →
          t ≡ tables_of rows entries (done ++ (with_rest (flagged flags s) (length front) (length (noted cur s)) r ∷ [])) (front ++ noted cur s) (further b (length l))
      go (Err f) e = absurd (let z = e in cc)
      go (Ok s) e = told_is done r flags front cur (further b (length l)) s t e

  -- a mapping line
  pub mapping_line : (rs : List Row) (es : List Entry) (b : ℕ) (l : List ℕ) (t : Tables) → capital l ≡ false → after_line l (tables_of rows entries rs es b) ≡ Ok t →
      t ≡ tables_of rows entries (rs ++ (with_rest 0 (length es) 0 (row_or_blank (row_of b l)) ∷ [])) es (further b (length l))
  unfolding row_line_of
  mapping_line rs es b l t k e = go (row_of b l) (plain_row b l) (rw k at e)
    where
      go : (r : Result Row Fault) → ((row : Row) → r ≡ Ok row → (row.flags ≡ 0) × (row.count ≡ 0)) → and_then r (λ row. opened row (tables_of rows entries rs es (further b (length l)))) ≡ Ok t →
          t ≡ tables_of rows entries (rs ++ (with_rest 0 (length es) 0 (row_or_blank r) ∷ [])) es (further b (length l))
      go (Err f) p e = absurd (let z = e in cc)
      go (Ok row) p e =
          let q = p row refl in
          let o = opened_is rs es (further b (length l)) row t e in
          let w : record row { first = length es } ≡ with_rest 0 (length es) 0 row = let f = q.0 in let c = q.1 in cc in
          o ∙ ap (λ (row : Row). tables_of rows entries (rs ++ (row ∷ [])) es (further b (length l))) w

  -- an attribute line, where none is
  pub orphan : (es : List Entry) (b : ℕ) (l : List ℕ) (t : Tables) → capital l ≡ true → after_line l (tables_of rows entries [] es b) ≡ Ok t → ⊥
  unfolding row_line_of
  orphan es b l t k e = let z = rw k at e in cc

  -- the tables after lines, where a row is open: told by its own lines and by the mappings behind them
  pub record Blocked (done : List Row) (r : Row) (flags : ℕ) (front cur : List Entry) (b : ℕ) (ls : List (List ℕ)) (t : Tables) : Type 0 where
    pub rows_are : t.rows ≡ full (done ++ (with_rest (flags_after flags (body ls)) (length front) (length (entries_after cur (body ls))) r ∷ rows_in (length front + length (entries_after cur (body ls))) (blocks_of b ls))) rows
    pub entries_are : t.entries ≡ full (front ++ (entries_after cur (body ls) ++ entries_in (blocks_of b ls))) entries

  refused_on : (f : Fault) (ls : List (List ℕ)) → folded row_rules (Err f) ls ≡ Err f
  unfolding folded
  refused_on f [] = refl
  refused_on f (l ∷ ls) = refused_on f ls

  -- an accepted line, and the lines behind it
  pub first_line : (m : Result Tables Fault) (ls : List (List ℕ)) (t : Tables) → folded row_rules m ls ≡ Ok t → (u : Tables) × (m ≡ Ok u)
  first_line (Err f) ls t e = absurd (let z = sym (refused_on f ls) ∙ e in cc)
  first_line (Ok u) ls t e = (u, refl)

  pub further_is : (b n : ℕ) (l : List ℕ) (ls : List (List ℕ)) → b + length (text_of (l ∷ ls)) ≤ 268435456 → (further b (length l) ≡ b + length l) × (b + length l + length (text_of ls) ≤ 268435456)
  unfolding text_of
  further_is b n l ls h = (omega (arith, length-append l (text_of ls)), omega (arith, length-append l (text_of ls)))

  pub blocked : (done : List Row) (r : Row) (flags : ℕ) (front cur : List Entry) (b : ℕ) (ls : List (List ℕ)) (t : Tables) → b + length (text_of ls) ≤ 268435456 →
      folded row_rules (Ok (tables_of rows entries (done ++ (with_rest flags (length front) (length cur) r ∷ [])) (front ++ cur) b)) ls ≡ Ok t → Blocked done r flags front cur b ls t
  unfolding folded body blocks_of rows_in entries_in
  blocked done r flags front cur b [] t h e =
      let z : tables_of rows entries (done ++ (with_rest flags (length front) (length cur) r ∷ [])) (front ++ cur) b ≡ t = let y = e in cc in
      record {
        rows_are = sym (ap (λ (t : Tables). t.rows) z);
        entries_are = sym (ap (λ (t : Tables). t.entries) z) ∙ ap (λ (l : List Entry). full (front ++ l) entries) (sym (append-nil cur));
      }
  blocked done r flags front cur b (l ∷ ls) t h e =
      let f = further_is b 0 l ls h in
      let first = first_line (after_line l (tables_of rows entries (done ++ (with_rest flags (length front) (length cur) r ∷ [])) (front ++ cur) b)) ls t e in
      elim (cases_Bool (capital l)) [
        | inl c ↦
            let k = attribute_line done r flags front cur b l first.0 c first.1 in
            let m = first.1 ∙ ap Ok k ∙ ap (λ (b : ℕ). Ok (tables_of rows entries (done ++ (with_rest (flagged flags (saying_of l)) (length front) (length (noted cur (saying_of l))) r ∷ [])) (front ++ noted cur (saying_of l)) b)) f.0 in
            let ih = blocked done r (flagged flags (saying_of l)) front (noted cur (saying_of l)) (b + length l) ls t f.1 (sym (ap (λ (m : Result Tables Fault). folded row_rules m ls) m) ∙ e) in
            record { rows_are = rw c ih.rows_are; entries_are = rw c ih.entries_are }
        | inr c ↦
            let row = with_rest flags (length front) (length cur) r in
            let r' = row_or_blank (row_of b l) in
            let k = mapping_line (done ++ (row ∷ [])) (front ++ cur) b l first.0 c first.1 in
            let m = first.1 ∙ ap Ok k ∙ ap (λ (b : ℕ). Ok (tables_of rows entries ((done ++ (row ∷ [])) ++ (with_rest 0 (length (front ++ cur)) 0 r' ∷ [])) (front ++ cur) b)) f.0
            ∙ ap (λ (es : List Entry). Ok (tables_of rows entries ((done ++ (row ∷ [])) ++ (with_rest 0 (length (front ++ cur)) 0 r' ∷ [])) es (b + length l))) (sym (append-nil (front ++ cur))) in
            let ih = blocked (done ++ (row ∷ [])) r' 0 (front ++ cur) [] (b + length l) ls t f.1 (sym (ap (λ (m : Result Tables Fault). folded row_rules m ls) m) ∙ e) in
            let n = length-append front cur in
            record {
              rows_are = let i = rw n at ih.rows_are in rw c (i ∙ ap (λ (l : List Row). full l rows) (append_assoc done (row ∷ []) _));
              entries_are = rw c (ih.entries_are ∙ ap (λ (l : List Entry). full l entries) (append_assoc front cur _));
            }
      ]

-- A text is accepted exactly where it can be read.
use Rattle.std.proofs.Common.{◌≡◌, ℕ, ◌+◌, ◌-◌, ◌<◌, ◌≤◌, true, false, not, List, [], ◌∷◌, ◌++◌, length, Ok, Err, Some, None, Option, Result, slice_set, refl, sym, ap, ◌∙◌, arith, append-nil, length-append, inl, inr}
use Rattle.std.specs.Option.{option_map}
use Rattle.std.specs.Result.{is_ok}
use Rattle.std.proofs.Math.ListN.{length-set}
use Rattle.std.proofs.lemmas.Bool.{cases_Bool, and_parts, not-true}
use Rattle.sources.specs.declared.fault.Fault.{Fault}
use Rattle.sources.specs.Faults.{and_then}
use Rattle.sources.specs.Lines.{text_of, walk, max_line, max_text}
use Rattle.sources.specs.Pieces.{case_of}
use Rattle.sources.specs.Utf8.{is_utf8}
use Rattle.sources.proofs.Newer.{text_cons}
use Rattle.sources.proofs.Walks.{ends, judged-on}
use Rattle.kinds.specs.Mapping.{mapping_of}
use Rattle.kinds.specs.Mapping.{Mapping as Mapped}
use Rattle.kinds.specs.Sorts.{capital}
use Rattle.kinds.specs.declared.rows.entry.Entry.{Entry}
use Rattle.kinds.specs.declared.rows.row.Row.{Row}
use Rattle.kinds.specs.declared.rows.line.Saying.{Saying}
use Rattle.kinds.specs.declared.rows.line.Saying.TheVariants.{Nothing, Flags, Value}
use Rattle.kinds.specs.Rows.Cells.{Cells, pushed}
use Rattle.kinds.specs.Rows.Entries.{entry_number}
use Rattle.kinds.specs.Rows.Paths.{further, name_at}
use Rattle.kinds.specs.Rows.Rows.{row_of, row_at}
use Rattle.kinds.specs.Rows.Lines.{row_line_of, saying_of}
use Rattle.kinds.specs.Rows.Tables.{Tables, Filled, after_line, after_saying, opened, renewed, fresh, row_rules}
use Rattle.kinds.specs.Rows.Blocks.{noted, flagged, with_rest, row_or_blank, body, blocks_of, entries_after, entries_in}
use Rattle.kinds.specs.Rows.Accepted.{sound, orderly, Readable}
use Rattle.kinds.proofs.RowLemmas.Fulls.{full, used_full, last_one, pushed_fits, pushed_fine}
use Rattle.kinds.proofs.RowLemmas.Blocked.{tables_of, spot_is, row, was, found, attribute_line, mapping_line, orphan, first_line, further_is}
use Rattle.kinds.proofs.RowLemmas.Walked.{Written, Short, folded}

-- each line is good
abbrev AllSound : List (List ℕ) → Type 0
AllSound [] = Unit {0}
AllSound (l ∷ ls) = (sound l ≡ true) × AllSound ls

orderly_all : (ls : List (List ℕ)) → Written ls → Short max_line ls → AllSound ls → orderly ls ≡ true
unfolding orderly
orderly_all [] w s a = refl
orderly_all (l ∷ ls) w s a = rw (s.0, w.0, a.0) (orderly_all ls w.1 s.1 a.1)

-- the parts of a text that is orderly
record Parts (ls : List (List ℕ)) : Type 0 where
  texts : Written ls
  short : Short max_line ls
  lines : AllSound ls

orderly-parts : (ls : List (List ℕ)) → orderly ls ≡ true → Parts ls
unfolding orderly
orderly-parts [] e = record { texts = tt; short = tt; lines = tt }
orderly-parts (l ∷ ls) e =
    let p = and_parts _ (orderly ls) e in
    let q = and_parts _ (sound l) p.0 in
    let r = and_parts _ (is_utf8 l) q.0 in
    let i = orderly-parts ls p.1 in
    record { texts = (r.1, i.texts); short = (not-true _ r.0, i.short); lines = (q.1, i.lines) }

ok_some : {A E : Type 0} (x : Result A E) → is_ok x ≡ true → (a : A) × (x ≡ Ok a)
ok_some {A} {E} (Ok a) e = (a, refl)
ok_some {A} {E} (Err f) e = absurd (let z : false ≡ true = e in cc)

some_ok : {A E : Type 0} (x : Result A E) (a : A) → x ≡ Ok a → is_ok x ≡ true
some_ok {A} {E} x a e = ap is_ok e

-- entries never become fewer
noted_grows : (es : List Entry) (s : Result Saying Fault) → length es ≤ length (noted es s)
noted_grows es (Err f) = omega arith
noted_grows es (Ok Nothing) = omega arith
noted_grows es (Ok (Flags bits)) = omega arith
noted_grows es (Ok (Value v)) = go (entry_number v.key es)
  where
    go : (o : Option ℕ) → length es ≤ length (case_of o (es ++ (v ∷ [])) (λ i. slice_set es i v))
    go None = omega (arith, length-append es (v ∷ []))
    go (Some i) = omega (arith, length-set es i v)

grows : (es : List Entry) (ls : List (List ℕ)) → length es ≤ length (entries_after es ls)
grows es [] = omega arith
grows es (l ∷ ls) = let n = noted_grows es (saying_of l) in let i = grows (noted es (saying_of l)) ls in omega (arith, n, i)

module _ (rows : List Row) (entries : List Entry) where
  -- the tables, where the last row is open
  abbrev open_at : List Row → Row → ℕ → List Entry → List Entry → ℕ → Tables
  open_at done r flags front cur b = tables_of rows entries (done ++ (with_rest flags (length front) (length cur) r ∷ [])) (front ++ cur) b

  module _ (done : List Row) (r : Row) (flags : ℕ) (front cur : List Entry) (b : ℕ) where
    -- a new entry, where it is taken
    entry_fits : (v : Entry) (t : Tables) (p : Result (Cells Entry) Fault) → pushed v (full (front ++ cur) entries) ≡ p →
        and_then p (λ es. Ok (renewed (record (row rows entries done r flags front cur b v t) { count = es.count - length front }) (record (was rows entries done r flags front cur b v t) { entries = es }))) ≡ Ok t →
        length front + length (cur ++ (v ∷ [])) ≤ length entries
    entry_fits v t (Err f) p e = absurd (let z = e in cc)
    entry_fits v t (Ok es) p e = let k = pushed_fits (front ++ cur) entries v es p in omega (arith, k, length-append front cur, length-append cur (v ∷ []))

    value_fits : (v : Entry) (t : Tables) (o : Option ℕ) → length front + length cur ≤ length entries →
        found rows entries done r flags front cur b v t (option_map (λ i. length front + i) o) ≡ Ok t →
        length front + length (case_of o (cur ++ (v ∷ [])) (λ i. slice_set cur i v)) ≤ length entries
    value_fits v t None h e = entry_fits v t (pushed v (full (front ++ cur) entries)) refl e
    value_fits v t (Some i) h e = omega (arith, h, length-set cur i v)

    value_fine : (v : Entry) (t : Tables) (o : Option ℕ) → length front + length (case_of o (cur ++ (v ∷ [])) (λ i. slice_set cur i v)) ≤ length entries →
        is_ok (found rows entries done r flags front cur b v t (option_map (λ i. length front + i) o)) ≡ true
    value_fine v t None h =
        let p = pushed_fine (front ++ cur) entries v (omega (arith, h, length-append front cur, length-append cur (v ∷ []))) in
        ap (λ (p : Result (Cells Entry) Fault). is_ok (and_then p (λ es. Ok (renewed (record (row rows entries done r flags front cur b v t) { count = es.count - length front }) (record (was rows entries done r flags front cur b v t) { entries = es }))))) p.1
    value_fine v t (Some i) h = refl

    told_fits : (s : Saying) (t : Tables) → length front + length cur ≤ length entries →
        after_saying s (with_rest flags (length front) (length cur) r) (open_at done r flags front cur b) ≡ Ok t → length front + length (noted cur (Ok s)) ≤ length entries
    told_fits Nothing t h e = h
    told_fits (Flags bits) t h e = h
    told_fits (Value v) t h e = value_fits v t (entry_number v.key cur) h (sym (ap (found rows entries done r flags front cur b v t) (spot_is v.key front cur entries)) ∙ e)

    told_fine : (s : Saying) → length front + length (noted cur (Ok s)) ≤ length entries → is_ok (after_saying s (with_rest flags (length front) (length cur) r) (open_at done r flags front cur b)) ≡ true
    told_fine Nothing h = refl
    told_fine (Flags bits) h = refl
    told_fine (Value v) h =
        let t = open_at done r flags front cur b in
        ap (λ (o : Option ℕ). is_ok (found rows entries done r flags front cur b v t o)) (spot_is v.key front cur entries) ∙ value_fine v t (entry_number v.key cur) h

  -- an attribute line, where a row is open
  attribute_fits : (done : List Row) (r : Row) (flags : ℕ) (front cur : List Entry) (b : ℕ) (l : List ℕ) (t : Tables) → capital l ≡ true → length front + length cur ≤ length entries →
      after_line l (open_at done r flags front cur b) ≡ Ok t → (is_ok (saying_of l) ≡ true) × (length front + length (noted cur (saying_of l)) ≤ length entries)
  unfolding row_line_of
  attribute_fits done r flags front cur b l t k h e =
      go (saying_of l) (rw (k, used_full (done ++ (with_rest flags (length front) (length cur) r ∷ [])) rows, last_one done (with_rest flags (length front) (length cur) r)) at e)
    where
      go : (s : Result Saying Fault) → and_then s (λ s. after_saying s (with_rest flags (length front) (length cur) r) (open_at done r flags front cur (further b (length l)))) ≡ Ok t →
          (is_ok s ≡ true) × (length front + length (noted cur s) ≤ length entries)
      go (Err f) e = absurd (let z = e in cc)
      go (Ok s) e = (refl, told_fits done r flags front cur (further b (length l)) s t h e)

  attribute_fine : (done : List Row) (r : Row) (flags : ℕ) (front cur : List Entry) (b : ℕ) (l : List ℕ) → capital l ≡ true → is_ok (saying_of l) ≡ true →
      length front + length (noted cur (saying_of l)) ≤ length entries → is_ok (after_line l (open_at done r flags front cur b)) ≡ true
  unfolding row_line_of
  attribute_fine done r flags front cur b l k w h =
      rw (k, used_full (done ++ (with_rest flags (length front) (length cur) r ∷ [])) rows, last_one done (with_rest flags (length front) (length cur) r)) (go (saying_of l) w h)
    where
      go : (s : Result Saying Fault) → is_ok s ≡ true → length front + length (noted cur s) ≤ length entries →
          is_ok (and_then s (λ s. after_saying s (with_rest flags (length front) (length cur) r) (open_at done r flags front cur (further b (length l))))) ≡ true
      go (Err f) w h = absurd (let z : false ≡ true = w in cc)
      go (Ok s) w h = told_fine done r flags front cur (further b (length l)) s h

  -- a mapping line
  opened_fits : (rs : List Row) (es : List Entry) (b : ℕ) (own : Row) (t : Tables) → opened own (tables_of rows entries rs es b) ≡ Ok t → length rs < length rows
  opened_fits rs es b own t e = go (pushed (record own { first = length es }) (full rs rows)) refl e
    where
      go : (p : Result (Cells Row) Fault) → pushed (record own { first = length es }) (full rs rows) ≡ p → and_then p (λ r. Ok (record { rows = r; entries = full es entries; bytes = b })) ≡ Ok t → length rs < length rows
      go (Err f) q e = absurd (let z = e in cc)
      go (Ok r) q e = pushed_fits rs rows (record own { first = length es }) r q

  abbrev with_rows : List Entry → ℕ → Result (Cells Row) Fault → Result Tables Fault
  with_rows es b p = and_then p (λ r. Ok (record { rows = r; entries = full es entries; bytes = b }))

  opened_fine : (rs : List Row) (es : List Entry) (b : ℕ) (own : Row) → length rs < length rows → is_ok (opened own (tables_of rows entries rs es b)) ≡ true
  opened_fine rs es b own h =
      let p = pushed_fine rs rows (record own { first = length es }) h in
      ap (λ (p : Result (Cells Row) Fault). is_ok (with_rows es b p)) p.1

  mapping_fits : (rs : List Row) (es : List Entry) (b : ℕ) (l : List ℕ) (t : Tables) → capital l ≡ false → after_line l (tables_of rows entries rs es b) ≡ Ok t →
      (is_ok (mapping_of l) ≡ true) × (length rs < length rows)
  unfolding row_line_of row_of
  mapping_fits rs es b l t k e = go (mapping_of l) (rw k at e)
    where
      go : (m : Result Mapped Fault) → and_then (and_then m (λ m. Ok (row_at (further b (name_at l)) m))) (λ row. opened row (tables_of rows entries rs es (further b (length l)))) ≡ Ok t →
          (is_ok m ≡ true) × (length rs < length rows)
      go (Err f) e = absurd (let z = e in cc)
      go (Ok m) e = (refl, opened_fits rs es (further b (length l)) (row_at (further b (name_at l)) m) t e)

  mapping_fine : (rs : List Row) (es : List Entry) (b : ℕ) (l : List ℕ) → capital l ≡ false → is_ok (mapping_of l) ≡ true → length rs < length rows → is_ok (after_line l (tables_of rows entries rs es b)) ≡ true
  unfolding row_line_of row_of
  mapping_fine rs es b l k w h = rw k (go (mapping_of l) w)
    where
      go : (m : Result Mapped Fault) → is_ok m ≡ true →
          is_ok (and_then (and_then m (λ m. Ok (row_at (further b (name_at l)) m))) (λ row. opened row (tables_of rows entries rs es (further b (length l))))) ≡ true
      go (Err f) w = absurd (let z : false ≡ true = w in cc)
      go (Ok m) w = opened_fine rs es (further b (length l)) (row_at (further b (name_at l)) m) h

  -- lines behind n rows and f entries, of which the last row has these: they are good, and find room
  record Fits (n f : ℕ) (cur : List Entry) (b : ℕ) (ls : List (List ℕ)) : Type 0 where
    lines : AllSound ls
    rows_fit : n + length (blocks_of b ls) ≤ length rows
    entries_fit : f + (length (entries_after cur (body ls)) + length (entries_in (blocks_of b ls))) ≤ length entries

  -- the tables after an attribute line, and after a mapping line
  after_attribute : (done : List Row) (r : Row) (flags : ℕ) (front cur : List Entry) (b : ℕ) (l : List ℕ) (ls : List (List ℕ)) (u : Tables) → b + length (text_of (l ∷ ls)) ≤ 268435456 → capital l ≡ true →
      after_line l (open_at done r flags front cur b) ≡ Ok u → after_line l (open_at done r flags front cur b) ≡ Ok (open_at done r (flagged flags (saying_of l)) front (noted cur (saying_of l)) (b + length l))
  after_attribute done r flags front cur b l ls u h c e =
      let f = further_is rows entries b 0 l ls h in
      e ∙ ap Ok (attribute_line rows entries done r flags front cur b l u c e)
      ∙ ap (λ (b : ℕ). Ok (open_at done r (flagged flags (saying_of l)) front (noted cur (saying_of l)) b)) f.0

  after_mapping : (rs : List Row) (es : List Entry) (b : ℕ) (l : List ℕ) (ls : List (List ℕ)) (u : Tables) → b + length (text_of (l ∷ ls)) ≤ 268435456 → capital l ≡ false →
      after_line l (tables_of rows entries rs es b) ≡ Ok u → after_line l (tables_of rows entries rs es b) ≡ Ok (open_at rs (row_or_blank (row_of b l)) 0 es [] (b + length l))
  after_mapping rs es b l ls u h c e =
      let f = further_is rows entries b 0 l ls h in
      let r = row_or_blank (row_of b l) in
      e ∙ ap Ok (mapping_line rows entries rs es b l u c e)
      ∙ ap (λ (b : ℕ). Ok (tables_of rows entries (rs ++ (with_rest 0 (length es) 0 r ∷ [])) es b)) f.0
      ∙ ap (λ (es' : List Entry). Ok (tables_of rows entries (rs ++ (with_rest 0 (length es) 0 r ∷ [])) es' (b + length l))) (sym (append-nil es))

  goes_on : (m : Filled) (u t : Tables) (ls : List (List ℕ)) → m ≡ Ok u → folded row_rules m ls ≡ Ok t → folded row_rules (Ok u) ls ≡ Ok t
  goes_on m u t ls e f = sym (ap (λ (m : Filled). folded row_rules m ls) e) ∙ f

  fits : (done : List Row) (r : Row) (flags : ℕ) (front cur : List Entry) (b : ℕ) (ls : List (List ℕ)) (t : Tables) → b + length (text_of ls) ≤ 268435456 →
      length done < length rows → length front + length cur ≤ length entries → folded row_rules (Ok (open_at done r flags front cur b)) ls ≡ Ok t → Fits (length done + 1) (length front) cur b ls
  unfolding folded body blocks_of entries_in
  fits done r flags front cur b [] t h p q e = record { lines = tt; rows_fit = omega arith; entries_fit = omega arith }
  fits done r flags front cur b (l ∷ ls) t h p q e =
      let f = further_is rows entries b 0 l ls h in
      let first = first_line rows entries (after_line l (open_at done r flags front cur b)) ls t e in
      elim (cases_Bool (capital l)) [
        | inl c ↦
            let a = attribute_fits done r flags front cur b l first.0 c q first.1 in
            let m = after_attribute done r flags front cur b l ls first.0 h c first.1 in
            let ih = fits done r (flagged flags (saying_of l)) front (noted cur (saying_of l)) (b + length l) ls t f.1 p a.1 (goes_on _ _ t ls m e) in
            record { lines = (rw c a.0, ih.lines); rows_fit = rw c ih.rows_fit; entries_fit = rw c ih.entries_fit }
        | inr c ↦
            let rs = done ++ (with_rest flags (length front) (length cur) r ∷ []) in
            let a = mapping_fits rs (front ++ cur) b l first.0 c first.1 in
            let m = after_mapping rs (front ++ cur) b l ls first.0 h c first.1 in
            let n = length-append front cur in
            let ih = fits rs (row_or_blank (row_of b l)) 0 (front ++ cur) [] (b + length l) ls t f.1 a.1 (omega (arith, q, n)) (goes_on _ _ t ls m e) in
            let i = ih.rows_fit in
            let j = ih.entries_fit in
            record {
              lines = (rw c a.0, ih.lines);
              rows_fit = rw c (omega (arith, i, length-append done (with_rest flags (length front) (length cur) r ∷ [])));
              entries_fit = rw c (omega (arith, j, n, length-append (entries_after [] (body ls)) (entries_in (blocks_of (b + length l) ls))));
            }
      ]

  fine : (done : List Row) (r : Row) (flags : ℕ) (front cur : List Entry) (b : ℕ) (ls : List (List ℕ)) → b + length (text_of ls) ≤ 268435456 →
      Fits (length done + 1) (length front) cur b ls → (t : Tables) × (folded row_rules (Ok (open_at done r flags front cur b)) ls ≡ Ok t)
  unfolding folded body blocks_of entries_in
  fine done r flags front cur b [] h g = (open_at done r flags front cur b, refl)
  fine done r flags front cur b (l ∷ ls) h g =
      let f = further_is rows entries b 0 l ls h in
      elim (cases_Bool (capital l)) [
        | inl c ↦
            let i = rw c at g.rows_fit in
            let j = rw c at g.entries_fit in
            let s = rw c at g.lines.0 in
            let k = grows (noted cur (saying_of l)) (body ls) in
            let u = ok_some _ (attribute_fine done r flags front cur b l c s (omega (arith, j, k))) in
            let m = after_attribute done r flags front cur b l ls u.0 h c u.1 in
            let ih = fine done r (flagged flags (saying_of l)) front (noted cur (saying_of l)) (b + length l) ls f.1 (record { lines = g.lines.1; rows_fit = i; entries_fit = j }) in
            (ih.0, ap (λ (m : Filled). folded row_rules m ls) m ∙ ih.1)
        | inr c ↦
            let rs = done ++ (with_rest flags (length front) (length cur) r ∷ []) in
            let i = rw c at g.rows_fit in
            let j = rw c at g.entries_fit in
            let s = rw c at g.lines.0 in
            let n = length-append front cur in
            let o = length-append done (with_rest flags (length front) (length cur) r ∷ []) in
            let u = ok_some _ (mapping_fine rs (front ++ cur) b l c s (omega (arith, i, o))) in
            let m = after_mapping rs (front ++ cur) b l ls u.0 h c u.1 in
            let ih = fine rs (row_or_blank (row_of b l)) 0 (front ++ cur) [] (b + length l) ls f.1
            (record { lines = g.lines.1; rows_fit = omega (arith, i, o); entries_fit = omega (arith, j, n, length-append (entries_after [] (body ls)) (entries_in (blocks_of (b + length l) ls))) }) in
            (ih.0, ap (λ (m : Filled). folded row_rules m ls) m ∙ ih.1)
      ]

  -- of all lines
  pub all_fit : (ls : List (List ℕ)) (t : Tables) → length (text_of ls) ≤ 268435456 → Written ls → Short max_line ls → folded row_rules (fresh rows entries) ls ≡ Ok t → Readable (length rows) (length entries) ls
  unfolding folded body blocks_of entries_in
  all_fit [] t h w s e = record { begins = refl; good = orderly_all [] w s tt; fits = h; rows_fit = omega arith; entries_fit = omega arith }
  all_fit (l ∷ ls) t h w s e =
      let first = first_line rows entries (after_line l (tables_of rows entries [] [] 0)) ls t e in
      let z : 0 + length (text_of (l ∷ ls)) ≤ 268435456 = omega (arith, h) in
      let f = further_is rows entries 0 0 l ls z in
      elim (cases_Bool (capital l)) [
        | inl c ↦ absurd (orphan rows entries [] 0 l first.0 c first.1)
        | inr c ↦
            let a = mapping_fits [] [] 0 l first.0 c first.1 in
            let m = after_mapping [] [] 0 l ls first.0 z c first.1 in
            let ih = fits [] (row_or_blank (row_of 0 l)) 0 [] [] (0 + length l) ls t f.1 a.1 (omega arith) (goes_on _ _ t ls m e) in
            let i = ih.rows_fit in
            let j = ih.entries_fit in
            record {
              begins = ap not c;
              good = orderly_all (l ∷ ls) w s (rw c a.0, ih.lines);
              fits = h;
              rows_fit = rw c (omega (arith, i));
              entries_fit = rw c (omega (arith, j, length-append (entries_after [] (body ls)) (entries_in (blocks_of (0 + length l) ls))));
            }
      ]

  all_fine : (ls : List (List ℕ)) → AllSound ls → Readable (length rows) (length entries) ls → (t : Tables) × (folded row_rules (fresh rows entries) ls ≡ Ok t)
  unfolding folded body blocks_of entries_in
  all_fine [] a g = (tables_of rows entries [] [] 0, refl)
  all_fine (l ∷ ls) a g =
      let z : 0 + length (text_of (l ∷ ls)) ≤ 268435456 = let h = g.fits in omega (arith, h) in
      let f = further_is rows entries 0 0 l ls z in
      let c = not-true _ g.begins in
      let i = rw c at g.rows_fit in
      let j = rw c at g.entries_fit in
      let s = rw c at a.0 in
      let u = ok_some _ (mapping_fine [] [] 0 l c s (omega (arith, i))) in
      let m = after_mapping [] [] 0 l ls u.0 z c u.1 in
      let ih = fine [] (row_or_blank (row_of 0 l)) 0 [] [] (0 + length l) ls f.1
      (record { lines = a.1; rows_fit = omega (arith, i); entries_fit = omega (arith, j, length-append (entries_after [] (body ls)) (entries_in (blocks_of (0 + length l) ls))) }) in
      (ih.0, ap (λ (m : Filled). folded row_rules m ls) m ∙ ih.1)

  shut_fine : (k : ℕ) (m : Filled) (t : Tables) → m ≡ Ok t → is_ok (ends row_rules (Ok k, m, [])) ≡ true
  shut_fine k m t e = rw e

  -- a course over lines that are taken one by one
  goes : (k s : ℕ) (m : Filled) (ls : List (List ℕ)) (t : Tables) → s + length (text_of ls) ≤ max_text → Written ls → Short max_line ls → folded row_rules m ls ≡ Ok t →
      is_ok (ends row_rules (walk max_line max_text row_rules false k s m ls)) ≡ true
  unfolding walk folded
  goes k s m [] t h w r e = shut_fine k m t e
  goes k s m (l ∷ ls) t h w r e =
      let n = text_cons l ls in
      let u = first_line rows entries (row_rules.next m l) ls t e in
      let ih = goes (k + 1) (s + length l) (row_rules.next m l) ls t (omega (arith, h, n)) w.1 r.1 e in
      rw (judged-on max_line max_text row_rules false k s m l (text_of ls) _ (record { short = r.0; fits = omega (arith, h, n); stands = refl; text = w.0; fine = rw u.1 })) ih

  pub accepted : (ls : List (List ℕ)) → Readable (length rows) (length entries) ls → is_ok (ends row_rules (walk max_line max_text row_rules false 0 0 (fresh rows entries) ls)) ≡ true
  accepted ls g =
      let p = orderly-parts ls g.good in
      let t = all_fine ls p.lines g in
      let h = g.fits in
      goes 0 0 (fresh rows entries) ls t.0 (omega (arith, h)) p.texts p.short t.1

-- What the cells hold at the end of a reading.
use Rattle.std.proofs.Common.{◌≡◌, ℕ, true, false, List, replicate, Ok, Err, Result, is_err, sym, ap, ◌∙◌}
use Rattle.sources.specs.declared.fault.Fault.{Fault}
use Rattle.sources.specs.declared.fault.Refusal.{Refusal}
use Rattle.sources.specs.Lines.{closes}
use Rattle.sources.specs.Texts.{Text}
use Rattle.kinds.specs.declared.rows.entry.Entry.{Entry}
use Rattle.kinds.specs.declared.rows.read.Counts.{Counts}
use Rattle.kinds.specs.Rows.Cells.{Cells}
use Rattle.kinds.specs.declared.rows.row.Row.{Row}
use Rattle.kinds.specs.Rows.Entries.{blank_entry}
use Rattle.kinds.specs.Rows.Rows.{blank_row}
use Rattle.kinds.specs.Rows.Tables.{Tables, Filled, tables, filled, row_rules, blanked_unless_read}

abbrev Read : Type 0
Read = Result Counts Refusal × Text

abbrev Left : Type 0
Left = Result Counts Refusal × List Row × List Entry × Text

-- a refusal, over blanked cells
pub blanked : (n e : ℕ) (x y : Result Counts Refusal) (left left' : Text) (m : Filled) (rs : List Row) (es : List Entry) →
    ◌≡◌ {A = Read} (x, left) (y, left') → is_err x ≡ true → rs ≡ replicate n blank_row → es ≡ replicate e blank_entry → ◌≡◌ {A = Left} (x, rs, es, left) (blanked_unless_read n e (y, left') m)
blanked n e (Ok c) y left left' m rs es q b r s = absurd (let z : false ≡ true = b in cc)
blanked n e (Err f) (Ok c) left left' m rs es q b r s = absurd (let z = ap (λ (p : Read). is_err p.0) q in let w : true ≡ false = z in cc)
blanked n e (Err f) (Err g) left left' m rs es q b r s =
    let p = ap (λ (p : Read). p.0) q in
    let l = ap (λ (p : Read). p.1) q in
    rw (r, s, p, l)

-- an acceptance, over the cells as lines left them
pub kept : (n e : ℕ) (o : Result ℕ Refusal × Filled × Text) (x : Result Counts Refusal) (left : Text) (rs : Cells Row) (es : Cells Entry) (rows : List Row) (entries : List Entry) (state : Result ℕ Fault) →
    ◌≡◌ {A = Read} (x, left) (closes row_rules o) → is_err x ≡ false → filled rs es state ≡ o.1 → rows ≡ rs.held → entries ≡ es.held → ◌≡◌ {A = Left} (x, rows, entries, left) (blanked_unless_read n e (closes row_rules o) o.1)
kept n e (Err f, m, l) x left rs es rows entries state q b h r s = absurd (let z = ap (λ (p : Read). is_err p.0) q in let w : false ≡ true = sym b ∙ z in cc)
kept n e (Ok k, Err f, l) x left rs es rows entries state q b h r s = absurd (let z = ap (λ (p : Read). is_err p.0) q in let w : false ≡ true = sym b ∙ z in cc)
kept n e (Ok k, Ok t, l) x left rs es rows entries (Err f) q b h r s = absurd (let z : Err f ≡ Ok t = h in cc)
kept n e (Ok k, Ok t, l) x left rs es rows entries (Ok m) q b h r s =
    let z : tables rs es m ≡ t = let w : Ok (tables rs es m) ≡ Ok t = h in cc in
    let held_rows = r ∙ ap (λ (t : Tables). t.rows.held) z in
    let held_entries = s ∙ ap (λ (t : Tables). t.entries.held) z in
    let p = ap (λ (p : Read). p.0) q in
    let l = ap (λ (p : Read). p.1) q in
    rw (held_rows, held_entries, p, l)

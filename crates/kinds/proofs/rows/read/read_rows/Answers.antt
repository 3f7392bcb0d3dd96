use Rattle.std.proofs.Common.{length, rules}
use Rattle.sources.specs.Lines.{reading, course}
use Rattle.kinds.specs.Rows.Tables.{rows_of, row_rules, fresh}
use Rattle.kinds.proofs.RowLemmas.CellsAtEnd.{blanked, kept}
use Rattle.kinds.proofs.RowLemmas.TextByMappings.{shown}
use Rattle.kinds.proofs.rows.read.read_rows.Goals as goal

pub returns-then-is_err : goal.returns-then-is_err
unfolding rows_of
returns-then-is_err g c =
    let rows = c.new-row_table.ensures in
    let entries = c.new-entry_table.ensures in
    let read = rw (rows.cells, rows.unused, entries.cells, entries.unused) at c.fill-read.ensures.reading in
    shown (g.S.Source.text c.args.source.now) c.args.rows.now _ c.args.entries.now _ c.fill-read.result (g.S.Source.text c.fill-read.new.source)
    (blanked (length c.args.rows.now) (length c.args.entries.now) c.fill-read.result _ _ _ _ _ _ read (search rules) (search rules) (search rules))

pub returns-else-is_err : goal.returns-else-is_err
unfolding rows_of reading
returns-else-is_err g c =
    let t = g.S.Source.text c.args.source.now in
    let o = course row_rules (fresh c.args.rows.now c.args.entries.now) t in
    let rows = c.new-row_table.ensures in
    let entries = c.new-entry_table.ensures in
    let read = rw (rows.cells, rows.unused, entries.cells, entries.unused) at c.fill-read.ensures.reading in
    let means = rw (rows.cells, rows.unused, entries.cells, entries.unused) at c.fill-read.ensures.means in
    shown t c.args.rows.now _ c.args.entries.now _ c.fill-read.result (g.S.Source.text c.fill-read.new.source)
    (kept (length c.args.rows.now) (length c.args.entries.now) o c.fill-read.result (g.S.Source.text c.fill-read.new.source) _ _ _ _ c.fill-read.new.kind.state read (search rules) means (search rules) (search rules))

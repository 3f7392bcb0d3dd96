use Rattle.std.proofs.Common.{ℕ, List}
use Rattle.std.specs.Iterator.{AlwaysYields}
use Rattle.sources.specs.Pieces.{bytes_of}
use Rattle.fields.proofs.Fills.{Had}
use Rattle.fields.proofs.list.fill_list.Given as goal

-- What is left is answered as the whole was to be.
abbrev pub invariant-loop-piece : goal.invariant-loop-piece
invariant-loop-piece g l =
    (goal.iterator-loop-piece g).can_next l.piece-iterator × (goal.iterator-loop-piece g).is_finite l.piece-iterator
    × ((texts : List (List ℕ)) → AlwaysYields g.P.Iterator.next_gives bytes_of l.fn.pieces texts → Had g.P.Iterator.next_gives g.I.Value.Default.is_default g.I.Item.reading g.row.N texts l.piece-iterator l.list)

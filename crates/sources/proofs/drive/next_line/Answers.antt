use Rattle.std.proofs.Common.{◌∙◌, arith, length-drop}
use Rattle.std.proofs.lemmas.List.{length-take}
use Rattle.sources.proofs.Steps.{seen}
use Rattle.sources.proofs.Next.{came_line, came_lost, came_rest}
use Rattle.sources.proofs.drive.next_line.Goals as goal

pub returns-then-buf-n-eq10 : goal.returns-then-buf-n-eq10
returns-then-buf-n-eq10 g c = (came_line c.requires c.in-Bytes.ensures c.if-buf-n-eq10.true (omega arith), c.piece.ensures.keeps)

pub returns-in-Broken-piece : goal.returns-in-Broken-piece
returns-in-Broken-piece g c = (came_lost _ c.requires c.in-Bytes.ensures c.if-buf-n-eq10.false (omega arith) (omega arith) (omega arith) c.in-Broken-piece.ensures, c.piece-in-Bytes.ensures.keeps ∙ c.piece.ensures.keeps)

pub returns-in_default : goal.returns-in_default
returns-in_default g c = (came_rest _ c.requires c.in-Bytes.ensures c.if-buf-n-eq10.false (omega arith) (omega arith) (omega arith) (simp (length-take, length-drop) (omega (arith, (seen _ _ _ _ _ _ _ c.requires c.in-Bytes.ensures).is))) c.piece-in-Bytes.ensures c.in_default.not-Broken, c.piece-in-Bytes.ensures.keeps ∙ c.piece.ensures.keeps)

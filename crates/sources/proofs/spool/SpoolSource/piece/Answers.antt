use Rattle.std.proofs.Common.{sym, refl, ◌∙◌, inl, inr}
use Rattle.sources.proofs.Parts.{more-moved, moved-end, moved_on, moved_length}
use Rattle.sources.proofs.spool.SpoolSource.piece.Goals.{then-n-buf-via-then-n-buf, then-n-buf-via-else-n-buf+then-buf-n-eq10}
use Rattle.sources.proofs.spool.SpoolSource.piece.Goals as goal

pub returns-then-n-buf : goal.returns-then-n-buf
returns-then-n-buf c =
    let m = more-moved c.loop-k.invariant.0 refl c.in-Some.ensures.part in
    let k = c.part.ensures.keeps ∙ c.loop-k.invariant.1 in
    elim c.then-n-buf.branch [
      | then-n-buf-via-then-n-buf w ↦ moved-end m k (inl (w.if-n-buf.true ∙ moved_length m))
      | then-n-buf-via-else-n-buf+then-buf-n-eq10 w ↦ moved-end m k (inr w.if-buf-n-eq10.true)
    ]

pub loop-k-preserved : goal.loop-k-preserved
loop-k-preserved c =
    let m = more-moved c.loop-k.invariant.0 refl c.in-Some.ensures.part in (
      moved_on m (λ e. c.if-n-buf.false (e ∙ sym (moved_length m))) c.if-buf-n-eq10.false,
      c.part.ensures.keeps ∙ c.loop-k.invariant.1,
    )

use Rattle.std.proofs.Common.{◌≡◌, ◌-◌, false, length, sym, ◌∙◌, inl, inr, arith}
use borrow.Rule.Slice.PartMut.{put_mid}
use Rattle.sources.proofs.join.JoinSource.piece.Given as given
use Rattle.sources.proofs.join.JoinSource.piece.Goals.{In-Ended-piece, then-k-buf-via-then-k-buf, then-k-buf-via-else-k-buf+then-buf-k-eq10}
use Rattle.sources.proofs.Joins.{Spent, join_first, join_more, join-none, join-broken, spent}
use Rattle.sources.proofs.Steps.{none_left}
use Rattle.sources.proofs.join.JoinSource.piece.Goals as goal

pub returns-then-k-buf-clause-given : goal.returns-then-k-buf-clause-given
returns-then-k-buf-clause-given g c =
    join_first _ _ _ _ _ _ _ _ _ (omega arith) c.in-Bytes.ensures
    (elim c.then-k-buf.branch [ then-k-buf-via-then-k-buf w ↦ inl (omega (arith, w.if-k-buf.true)) | then-k-buf-via-else-k-buf+then-buf-k-eq10 w ↦ inr w.if-buf-k-eq10.true ])

-- the first gave all that it had, was called again, and has ended
gave : (g : given.Over) (c : In-Ended-piece g) →
    Spent c.args.buf.now (g.A.Source.text c.args.self.now.first).bytes c.in-Bytes.k c.piece.new.buf (put_mid c.in-Bytes.k (length c.piece.new.buf - c.in-Bytes.k) c.piece.new.buf c.piece-in-Bytes.new.buf)
    (g.A.Source.text c.piece-in-Bytes.new.self).bytes
    × ((g.A.Source.text c.args.self.now.first).broken ≡ false) × ((g.A.Source.text c.piece-in-Bytes.new.self).broken ≡ false)
gave g c =
    let e = none_left _ _ _ _ _ _ c.in-Ended-piece.ensures in (
      spent _ _ _ _ _ _ _ _ _ _ _ (omega arith) (omega arith) c.in-Bytes.ensures c.if-buf-k-eq10.false (omega arith) c.piece-in-Bytes.ensures,
      sym c.piece.ensures.keeps ∙ e.1,
      c.piece-in-Bytes.ensures.keeps ∙ e.1,
    )

pub returns-in-Bytes-piece-clause-given : goal.returns-in-Bytes-piece-clause-given
returns-in-Bytes-piece-clause-given g c =
    let s = gave g (goal.at.returns-in-Bytes-piece-clause-given g c).In-Ended-piece in
    join_more _ _ _ _ _ _ _ _ _ _ _ _ _ _ s.0 s.1 s.2 c.in-Bytes-piece.ensures

pub returns-in_default-piece-clause-given : goal.returns-in_default-piece-clause-given
returns-in_default-piece-clause-given g c =
    let s = gave g (goal.at.returns-in_default-piece-clause-given g c).In-Ended-piece in
    join-none _ _ _ _ _ _ _ _ _ _ _ _ _ _ s.0 s.1 s.2 c.piece-in-Ended-piece.ensures c.in_default-piece.not-Bytes

pub returns-in_default-clause-given : goal.returns-in_default-clause-given
returns-in_default-clause-given g c = join-broken _ _ _ _ _ _ _ _ _ _ _ _ _ (omega arith) (omega arith) c.in-Bytes.ensures c.if-buf-k-eq10.false (omega arith) c.piece-in-Bytes.ensures c.in_default.not-Ended

use Rattle.std.proofs.Common.{◌-◌, length, subst, sym, arith}
use Rattle.memchr.specs.Find.{IsFirstByte, is_byte}
use Rattle.sources.proofs.Marks.{none_on, first_on}
use Rattle.sources.proofs.find.find.Goals as goal

pub returns-in-Some : goal.returns-in-Some
returns-in-Some c = first_on (is_byte c.args.byte) c.args.bytes.now c.loop-at.at 16 (omega arith) c.loop-at.invariant.searched c.in-Some.i c.in-Some.ensures

pub loop-at-preserved : goal.loop-at-preserved
loop-at-preserved c = record {
  within = omega arith;
  searched = none_on (is_byte c.args.byte) c.args.bytes.now c.loop-at.at 16 (omega arith) c.loop-at.invariant.searched c.in_default.ensures;
}

pub returns-in_err-i : goal.returns-in_err-i
returns-in_err-i c =
    let bs = c.args.bytes.now in
    let all = none_on (is_byte c.args.byte) bs c.loop-at.at (length bs - c.loop-at.at) (omega arith) c.loop-at.invariant.searched c.in_err-i.ensures in
    subst (IsFirstByte (is_byte c.args.byte) bs) (sym c.from_residual.ensures) (λ k z l. all k z (omega arith))

pub returns : goal.returns
returns c =
    let bs = c.args.bytes.now in
    first_on (is_byte c.args.byte) bs c.loop-at.at (length bs - c.loop-at.at) (omega arith) c.loop-at.invariant.searched c.in_ok-i.i c.in_ok-i.ensures

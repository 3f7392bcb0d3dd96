use Rattle.std.proofs.Common.{ℕ, arith, Err, sym, ap, ◌∙◌, Result}
use Rattle.sources.specs.declared.fault.Fault.{Fault}
use Rattle.sources.specs.Split.{pieces_left}
use Rattle.support.proofs.Registers.{turn_good, turn_bad}
use Rattle.std.proofs.lemmas.Result.{err_from_is_err_and}
use Rattle.std.proofs.lemmas.List.{length-set}
use Rattle.support.proofs.syscall.registers.Goals as goal

pub returns-in_err-place : goal.returns-in_err-place
returns-in_err-place c =
    let p = err_from_is_err_and c.from_residual.result c.from_residual.ensures.1 in
    p.1 ∙ ap Err p.2 ∙ sym (turn_bad _ c.loop-place.place-items c.loop-place.place-index c.in_err-place.field-0.0 _ (pieces_left c.register.new.pieces) (omega arith) c.loop-place.invariant.1
    (ap (λ (r : Result ℕ Fault). (r, pieces_left c.register.new.pieces)) (sym c.in_err-place.was) ∙ c.register.ensures))

pub loop-place-preserved : goal.loop-place-preserved
loop-place-preserved c = (
  length-set c.loop-place.place-items c.loop-place.place-index _ ∙ c.loop-place.invariant.0,
  turn_good _ c.loop-place.place-items c.loop-place.place-index c.in_ok-place.field-0 _ (pieces_left c.register.new.pieces) c.loop-place.invariant.0 (omega arith) c.loop-place.invariant.1
      (ap (λ (r : Result ℕ Fault). (r, pieces_left c.register.new.pieces)) (sym c.in_ok-place.was) ∙ c.register.ensures),
)

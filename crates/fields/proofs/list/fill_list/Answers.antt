use Rattle.std.proofs.Common.{◌≡◌, Err, sym, ◌∙◌, rules, arith}
use Rattle.std.proofs.lemmas.Grind.{common_steps}
use Rattle.fields.specs.Counted.{with_item}
use Rattle.fields.specs.Lists.{bad_for}
use Rattle.fields.specs.declared.list.ListFault.TheVariants.{Full}
use Rattle.fields.proofs.Fills.{none_had, all_had, bad, full, more}
use Rattle.fields.proofs.list.fill_list.Goals as goal

pub loop-piece-init : goal.loop-piece-init
loop-piece-init g c = rw c.into_iter-piece-iterator.ensures.into_iter_gives (c.requires.can, c.requires.ends, λ texts y. none_had c.requires.empty y)

pub returns-in_err-read : goal.returns-in_err-read
returns-in_err-read g c = λ texts y.
    let e : c.from_residual.result ≡ Err (bad_for c.in_err-read.field-0.0) = search rules in
    rw e (bad (c.loop-piece.invariant.2 texts y) c.in-Some.ensures.steps (sym c.read.ensures ∙ c.in_err-read.was))

pub returns-in_err-push : goal.returns-in_err-push
returns-in_err-push g c = λ texts y.
    let e : c.from_residual-in_err-push.result ≡ Err Full = grind (arith, common_steps) in
    rw e (full (c.loop-piece.invariant.2 texts y) c.in-Some.ensures.steps (sym c.read.ensures ∙ c.in_ok-read.was) (grind (arith, common_steps)))

pub loop-piece-preserved : goal.loop-piece-preserved
loop-piece-preserved g c =
    let l : c.push.new.self ≡ with_item c.in_ok-read.field-0 c.loop-piece.list = grind (arith, common_steps) in
    (search rules, search rules, λ texts y. rw l (more (c.loop-piece.invariant.2 texts y) c.in-Some.ensures.steps (sym c.read.ensures ∙ c.in_ok-read.was) (grind (arith, common_steps))))

pub returns : goal.returns
returns g c = λ texts y. all_had (c.loop-piece.invariant.2 texts y) c.in-None.ensures.steps

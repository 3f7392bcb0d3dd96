use Rattle.std.proofs.Common.{inl, inr}
use Rattle.sources.proofs.Utf8.{wanted_inside, wanted_outside, wanted_none}
use Rattle.sources.proofs.chars.past.Goals.{in_default-via-in-Some+then-least-first+else-first-most, in_default-via-in-Some+else-least-first, in_default-via-in_default}
use Rattle.sources.proofs.chars.past.Goals as goal

pub returns-in-Some-clause-wanted : goal.returns-in-Some-clause-wanted
returns-in-Some-clause-wanted c rs = wanted_inside (c.args.least, c.args.most) rs c.args.text.now c.in-Some.first.now c.in-Some.rest.now c.in-Some.ensures.cases.0 c.if-least-first.true c.if-first-most.true

pub returns-in_default-clause-wanted : goal.returns-in_default-clause-wanted
returns-in_default-clause-wanted c rs = elim c.in_default.branch [
  | in_default-via-in-Some+then-least-first+else-first-most w ↦ wanted_outside (c.args.least, c.args.most) rs c.args.text.now w.in-Some.first.now w.in-Some.rest.now w.in-Some.ensures.cases.0 (inr w.if-first-most.false)
  | in_default-via-in-Some+else-least-first w ↦ wanted_outside (c.args.least, c.args.most) rs c.args.text.now w.in-Some.first.now w.in-Some.rest.now w.in-Some.ensures.cases.0 (inl w.if-least-first.false)
  | in_default-via-in_default w ↦ wanted_none (c.args.least, c.args.most) rs c.args.text.now w.in_default.ensures.cases
]

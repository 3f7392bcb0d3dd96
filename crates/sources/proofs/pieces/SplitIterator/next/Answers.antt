use Rattle.std.proofs.Common.{rules, ◌≡◌, ap, ◌∙◌, arith, length}
use Rattle.sources.specs.Pieces.{split}
use Rattle.sources.specs.Split.{pieces_left}
use Rattle.sources.proofs.Splits.{split-split_once}
use Rattle.sources.proofs.pieces.SplitIterator.next.Goals as goal

pub returns-in-Some-clause-steps : goal.returns-in-Some-clause-steps
returns-in-Some-clause-steps c =
    let w : pieces_left c.args.self.now ≡ split c.args.self.now.at c.in_ok-rest.rest.now = search rules in
    w ∙ split-split_once c.args.self.now.at c.in_ok-rest.rest.now c.in-Some.ensures

pub returns-in-Some-clause-goes : goal.returns-in-Some-clause-goes
returns-in-Some-clause-goes c = let w = ap length (returns-in-Some-clause-steps c) in record { on = λ f. (tt, tt, omega (arith, w)); keeps = tt; rests = λ f. tt }

pub returns-in-None-clause-steps : goal.returns-in-None-clause-steps
returns-in-None-clause-steps c =
    let w : pieces_left c.args.self.now ≡ split c.args.self.now.at c.in_ok-rest.rest.now = search rules in
    w ∙ split-split_once c.args.self.now.at c.in_ok-rest.rest.now c.in-None.ensures

pub returns-in-None-clause-goes : goal.returns-in-None-clause-goes
returns-in-None-clause-goes c = let w = ap length (returns-in-None-clause-steps c) in record { on = λ f. (tt, tt, omega (arith, w)); keeps = tt; rests = λ f. tt }

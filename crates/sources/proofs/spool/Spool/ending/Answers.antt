use Rattle.std.proofs.Common.{get_or, sym, ap, ◌∙◌, eq-eqb, ne_eqb}
use Rattle.sources.specs.Given.{ending}
use Rattle.sources.specs.Records.{ending_of}
use Rattle.sources.proofs.Made.{ending-end}
use Rattle.sources.proofs.spool.Spool.ending.Goals as goal

pub returns-in-Some : goal.returns-in-Some
returns-in-Some c = sym (ap ending (ap ending_of c.in-Some.ensures.cases.0 ∙ ending-end c.in-Some.field-0-1.now c.in-Some.end.now ∙ eq-eqb (get_or c.in-Some.end.now 1 0) 2 c.if-end-eq2.true))

pub returns-in_default : goal.returns-in_default
returns-in_default c = sym (ap ending (ap ending_of c.in-Some.ensures.cases.0 ∙ ending-end c.in-Some.field-0-1.now c.in-Some.end.now ∙ ne_eqb (get_or c.in-Some.end.now 1 0) 2 c.if-end-eq2.false))

use Rattle.std.proofs.Common.{rules, ◌∙◌, ap, sym, subst, map, []}
use Rattle.std.proofs.lemmas.List.{nil_from_length}
use Rattle.std.specs.Vec.Iter.{into_iter_items}
use Rattle.packing.specs.Calls.{new_list}
use Rattle.runs.specs.Run.{textual}
use Rattle.runs.specs.Ledger.{SumsHold}
use Rattle.runs.specs.Newer.{unnumbered}
use Rattle.runs.specs.Joins.{JoinsAdd}
use Rattle.runs.proofs.Turns.{turn, done}
use Rattle.runs.proofs.Lawful.{sums_hold}
use Rattle.runs.proofs.Twins.{twins}
use Rattle.runs.proofs.Joining.{joins}
use Rattle.runs.proofs.run.run.Goals as goal

pub loop-call-preserved : goal.loop-call-preserved
loop-call-preserved g c =
    (turn (textual g.S.Source.text) _ _ _ _ c.serve.result c.in-Some.call (into_iter_items c.loop-call.call-iterator) (into_iter_items c.next.new.self) _ (search rules) c.push_reserved.ensures.items c.serve.ensures.served c.loop-call.invariant.0, search rules, search rules)

pub returns-clause-defined : goal.returns-clause-defined
returns-clause-defined g c = done (textual g.S.Source.text) _ _ (into_iter_items c.loop-call.call-iterator) _ (nil_from_length (into_iter_items c.loop-call.call-iterator) (search rules)) c.loop-call.invariant.0

pub returns-clause-sums : goal.returns-clause-sums
returns-clause-sums g c = let cs = map (textual g.S.Source.text) c.args.calls.items in subst (SumsHold c.args.limit cs) (sym (returns-clause-defined g c)) (sums_hold c.args.limit cs)

pub returns-clause-editions : goal.returns-clause-editions
returns-clause-editions g c = λ ds n. ap (map unnumbered) (returns-clause-defined g c) ∙ twins (new_list c.args.limit, []) (map (textual g.S.Source.text) c.args.calls.items) ds n

pub returns-clause-joins : goal.returns-clause-joins
returns-clause-joins g c = let cs = map (textual g.S.Source.text) c.args.calls.items in subst (JoinsAdd cs) (sym (returns-clause-defined g c)) (joins (new_list c.args.limit, []) cs)

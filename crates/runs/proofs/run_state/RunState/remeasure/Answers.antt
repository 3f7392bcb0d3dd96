use Rattle.std.proofs.Common.{rules, refl, ◌≡◌, sym, ap, ◌∙◌, to_z, of_z, w32}
use Rattle.packing.specs.Calls.{remeasure_of, remeasure_refusal, placing}
use Rattle.packing.specs.Places.{measured_anew, changed}
use Rattle.runs.proofs.Charges.{charged, then_grown}
use Rattle.runs.proofs.run_state.RunState.remeasure.Goals as goal

pub returns-in-Some : goal.returns-in-Some
returns-in-Some c =
    let l = c.args.self.now.list in
    let pid = c.args.pid in
    let m = c.in-Some.closed in
    let same_pid : to_z w32 (of_z w32 pid) ≡ pid = search rules in
    let answered = c.remeasure-r.ensures ∙ ap (λ z. remeasure_of z m c.take.new.self.list) same_pid ∙ ap (remeasure_of pid m) c.take.ensures.list in
    record {
      served = charged (l, c.args.self.now.measures.items) c.args.k m (λ m. remeasure_of pid m l) (remeasure_refusal pid m l) (placing (changed pid (measured_anew m) l.places) l) _ _ _ _ (sym c.in-Some.is ∙ c.take.ensures.answer) c.take.ensures.measures refl answered c.hand_back.ensures.served;
      room = then_grown c.take.ensures.room c.hand_back.ensures.room;
    }

use Rattle.std.proofs.Common.{rules, refl, ◌≡◌, sym, ap, ◌∙◌, to_z, of_z, w32}
use Rattle.packing.specs.Calls.{admit_of, admit_refusal, placing, newcomer}
use Rattle.packing.specs.Places.{with_place}
use Rattle.runs.proofs.Charges.{charged, then_grown}
use Rattle.runs.proofs.run_state.RunState.admit.Goals as goal

pub returns-in-Some : goal.returns-in-Some
returns-in-Some c =
    let l = c.args.self.now.list in
    let pid = c.args.pid in
    let h = c.args.headroom in
    let m = c.in-Some.closed in
    let same_pid : to_z w32 (of_z w32 pid) ≡ pid = search rules in
    let answered = c.admit-r.ensures ∙ ap (λ z. admit_of z h m c.take.new.self.list) same_pid ∙ ap (admit_of pid h m) c.take.ensures.list in
    record {
      served = charged (l, c.args.self.now.measures.items) c.args.k m (λ m. admit_of pid h m l) (admit_refusal pid h m l) (placing (with_place (newcomer pid h m) l.places) l) _ _ _ _ (sym c.in-Some.is ∙ c.take.ensures.answer) c.take.ensures.measures refl answered c.hand_back.ensures.served;
      room = then_grown c.take.ensures.room c.hand_back.ensures.room;
    }

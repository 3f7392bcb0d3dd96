-- A measure that is charged, or handed back.
use Rattle.std.proofs.Common.{◌≡◌, ◌∙◌, ap, sym, refl, ℕ, Option, Some, None, Result, get_or, slice_set, arith}
use Rattle.std.proofs.lemmas.List.{set-set, set-get_or}
use Rattle.sources.specs.declared.fault.Refusal.{Refusal}
use Rattle.kinds.specs.declared.measure.Closed.{Closed}
use Rattle.packing.specs.Packed.{Packing}
use Rattle.packing.specs.Calls.{handing}
use Rattle.runs.specs.declared.call.Answer.{Answer}
use Rattle.runs.specs.declared.call.Answer.TheVariants.{Missing, Handed}
use Rattle.std.specs.Global.{Vec}
use Rattle.runs.specs.Room.{Grown}
use Rattle.runs.specs.Run.{MeasureList, RunState, after_charge, handed_back, charge_measure}

-- A measure that is taken and put back leaves the measures as they were.
put_back : (b : MeasureList) (k : ℕ) (o : Option Closed) → o ≡ get_or b k None → slice_set b k o ≡ b
put_back b k o e = ap (λ x. slice_set b k x) e ∙ set-get_or b k None

by_verdict : (d : RunState) (k : ℕ) (v : Option Refusal) (m : Closed) (new : Packing) → Some m ≡ get_or d.1 k None →
    handed_back k (handing v m new d.0).0 ((handing v m new d.0).1, slice_set d.1 k None) ≡ after_charge d k (handing v m new d.0)
by_verdict d k None m new e = refl
by_verdict d k (Some f) m new e = ap (λ b. (Handed f m.mappings m.totals, (d.0, b))) (set-set d.1 k None (Some m) ∙ put_back d.1 k (Some m) e)

pub charged : (d : RunState) (k : ℕ) (m : Closed) (call : Closed → Result (Unit {0}) (Refusal × Closed) × Packing) (v : Option Refusal) (new : Packing) (b : MeasureList) (r : Result (Unit {0}) (Refusal × Closed)) (l : Packing) (a : Answer × RunState) →
    Some m ≡ get_or d.1 k None → b ≡ slice_set d.1 k None → call m ≡ handing v m new d.0 → (r, l) ≡ call m → a ≡ handed_back k r (l, b) → a ≡ charge_measure d k (get_or d.1 k None) call
charged d k m call v new b r l a g t h e s =
    let q : (r, l) ≡ handing v m new d.0 = e ∙ h in
    s
    ∙ ap (λ x. handed_back k r (l, x)) t
    ∙ ap (λ (x : Result (Unit {0}) (Refusal × Closed) × Packing). handed_back k x.0 (x.1, slice_set d.1 k None)) q
    ∙ by_verdict d k v m new g
    ∙ ap (after_charge d k) (sym h)
    ∙ ap (λ o. charge_measure d k o call) g

pub missed : (d : RunState) (k : ℕ) (call : Closed → Result (Unit {0}) (Refusal × Closed) × Packing) (b : MeasureList) (l : Packing) →
    None ≡ get_or d.1 k None → b ≡ slice_set d.1 k None → l ≡ d.0 → (Missing, (l, b)) ≡ charge_measure d k (get_or d.1 k None) call
missed d k call b l g t e =
    ap (λ x. (Missing, (x, b))) e
    ∙ ap (λ x. (Missing, (d.0, x))) (t ∙ put_back d.1 k None g)
    ∙ ap (λ o. charge_measure d k o call) g

-- Nothing more, twice.
pub then_grown : {X : Type 0} {u v w : Vec X} → Grown 0 u v → Grown 0 v w → Grown 0 u w
then_grown {X} {u} {v} {w} g h = record { capacity = h.capacity ∙ g.capacity; len = let a = g.len in let b = h.len in omega (arith, a, b) }

-- Each line is answered once, and what is used is told after each.
use Rattle.std.proofs.Common.{◌≡◌, ap, refl, suc, List, [], ◌∷◌, length, arith}
use Rattle.sources.specs.Texts.{Text}
use Rattle.packing.specs.Places.{used}
use Rattle.runs.specs.declared.call.Call.{Call}
use Rattle.runs.specs.declared.call.Answer.TheVariants.{Total}
use Rattle.runs.specs.Run.{RunState, served, answers}
use Rattle.packlist.specs.Files.{calls_of, calls_with}
use Rattle.packlist.specs.Outcomes.{in_turn, outcome, outcomes, paired}

module _ {L B : Type 0} (call : L → B → Call Text) where
  pub paired-answers : (ls : List L) (bs : List B) (d : RunState) → paired (answers d (calls_of call ls bs)) ≡ outcomes d (calls_with call ls bs)
  unfolding answers calls_of calls_with outcomes
  paired-answers [] bs d = refl
  paired-answers (l ∷ ls) [] d = refl
  paired-answers (l ∷ ls) (b ∷ bs) d = ap (λ os. outcome (served d (call l b)).0 (used (served d (call l b)).1.0.places) ∷ os) (paired-answers ls bs (served d (call l b)).1)

  pub in_turn-outcomes : (ls : List L) (bs : List B) (d : RunState) → in_turn (outcomes d (calls_with call ls bs)) ≡ answers d (calls_of call ls bs)
  unfolding answers calls_of calls_with outcomes
  in_turn-outcomes [] bs d = refl
  in_turn-outcomes (l ∷ ls) [] d = refl
  in_turn-outcomes (l ∷ ls) (b ∷ bs) d = ap (λ os. (served d (call l b)).0 ∷ Total (used (served d (call l b)).1.0.places) ∷ os) (in_turn-outcomes ls bs (served d (call l b)).1)

  pub length-outcomes : (ls : List L) (bs : List B) (d : RunState) → length bs ≡ length ls → length (outcomes d (calls_with call ls bs)) ≡ length ls
  unfolding calls_with outcomes
  length-outcomes [] bs d h = refl
  length-outcomes (l ∷ ls) [] d h = omega (arith, h)
  length-outcomes (l ∷ ls) (b ∷ bs) d h =
      let same : length bs ≡ length ls = omega (arith, h) in
      ap suc (length-outcomes ls bs (served d (call l b)).1 same)

use Rattle.std.proofs.Common.{◌≡◌, ℕ, ◌+◌, ◌-◌, Bool, ◌&&◌, eqb, drop, get_or, sym, ap, ◌∙◌, arith, rules, tests, le-leb, length-drop}
use Rattle.std.proofs.lemmas.List.{take_all}
use Rattle.std.proofs.lemmas.Iterator.{YieldsList-from_slice}
use Rattle.std.proofs.lemmas.Iterator.Search.{all_from_yields_List}
use Rattle.sources.specs.Records.{zeros}
use Rattle.sources.proofs.recording.formed.Goals as goal

pub returns-then-n-le62 : goal.returns-then-n-le62
returns-then-n-le62 c =
    let all : c.all.result ≡ zeros (drop (2 + c.from-n.result) c.args.one.now) = all_from_yields_List (λ b. eqb b 0) _ _ c.all.result c.all.ensures.ran (YieldsList-from_slice (drop (2 + c.from-n.result) c.args.one.now) (c.iter.ensures.rest ∙ take_all (64 - (2 + c.from-n.result)) (drop (2 + c.from-n.result) c.args.one.now) (simp length-drop (omega arith)))) (λ x b q k. search (rules, tests)) in
    all ∙ ap (λ (n : ℕ). zeros (drop (2 + n) c.args.one.now)) c.from-n.ensures ∙ sym (ap (λ (t : Bool). t && zeros (drop (2 + get_or c.args.one.now 0 0) c.args.one.now)) (le-leb (get_or c.args.one.now 0 0) 62 (omega arith)))

use Rattle.std.proofs.Common.{rules, ◌≡◌, ℕ, length, Err, Result, IsUtf8, sym, refl, ap, ◌∙◌, subst, arith}
use Rattle.std.proofs.lemmas.Result.{err_from_is_err_and}
use Rattle.sources.specs.Lines.{course, leaves, walk, lines_of}
use Rattle.sources.specs.Texts.{text}
use Rattle.sources.specs.declared.fault.Refusal.{Refusal}
use Rattle.sources.proofs.Steps.{text_true, text_false}
use Rattle.sources.proofs.Turns.{turn_ended, turn_broken, turn_long, turn_past, turn_lost, turn_text, turn_stopped, turn_went}
use Rattle.sources.proofs.drive.lines.Given as given
use Rattle.sources.proofs.drive.lines.Goals.{After-next_line, In-Line}
use Rattle.sources.proofs.drive.lines.Goals as goal

pub loop-n-init : goal.loop-n-init
unfolding course
loop-n-init g c = (refl, omega arith, omega arith, refl, g.met.K.Kind.framed c.args.kind.now, refl)

-- Where what is left to read comes to v and m, the whole is answered so.
comes_to : (g : given.Over) (c : After-next_line g) (v : Result ℕ Refusal) (m : g.K.Kind.Meaning) → (g.S.Source.text c.next_line.new.source).broken ≡ (g.S.Source.text c.loop-n.source).broken →
    walk (length c.loop-n.buf) 268435456 g.K.Kind.rules (g.S.Source.text c.loop-n.source).broken c.loop-n.taken c.loop-n.size (g.K.Kind.means c.loop-n.kind) (lines_of (g.S.Source.text c.loop-n.source).bytes)
    ≡ (v, m, (g.S.Source.text c.next_line.new.source).bytes) →
    (v, m, g.S.Source.text c.next_line.new.source) ≡ course g.K.Kind.rules (g.K.Kind.means c.args.kind.now) (g.S.Source.text c.args.source.now)
unfolding leaves
comes_to g c v m k w =
    let i = c.loop-n.invariant in
    let had = g.S.Source.text c.loop-n.source in
    ap (λ t. (v, m, text (g.S.Source.text c.next_line.new.source).bytes t)) (k ∙ i.5)
    ∙ ap (leaves (g.S.Source.text c.args.source.now).broken)
    (sym w ∙ ap (λ room. walk room 268435456 g.K.Kind.rules had.broken c.loop-n.taken c.loop-n.size (g.K.Kind.means c.loop-n.kind) (lines_of had.bytes)) i.3)
    ∙ i.0

pub returns-in-Ended-clause-course : goal.returns-in-Ended-clause-course
returns-in-Ended-clause-course g c = comes_to g (goal.at.returns-in-Ended-clause-course g c).After-next_line _ _ c.in-Ended.ensures.1 (turn_ended _ _ _ _ _ _ c.in-Ended.ensures.0)

pub returns-in-Broken-clause-course : goal.returns-in-Broken-clause-course
returns-in-Broken-clause-course g c = rw c.broke.ensures (comes_to g (goal.at.returns-in-Broken-clause-course g c).After-next_line _ _ c.in-Broken.ensures.1 (turn_broken _ _ _ _ _ _ c.in-Broken.ensures.0))

pub returns-in-Long-clause-course : goal.returns-in-Long-clause-course
returns-in-Long-clause-course g c =
    let w = comes_to g (goal.at.returns-in-Long-clause-course g c).After-next_line _ _ c.in-Long.ensures.1 (turn_long _ _ _ _ _ _ _ _ c.next_line.new.buf _ c.in-Long.ensures.0) in
    search rules

pub returns-then-past_cap-clause-course : goal.returns-then-past_cap-clause-course
returns-then-past_cap-clause-course g c =
    rw c.new-then-past_cap.ensures
    (comes_to g (goal.at.returns-then-past_cap-clause-course g c).After-next_line _ _ c.in-Lost.ensures.1 (turn_past _ _ _ _ _ _ c.in-Lost.ensures.0.0 (omega (arith, c.if-past_cap.ensures))))

pub returns-in-Lost-clause-course : goal.returns-in-Lost-clause-course
returns-in-Lost-clause-course g c =
    rw c.broke-in-Lost.ensures (comes_to g (goal.at.returns-in-Lost-clause-course g c).After-next_line _ _ c.in-Lost.ensures.1 (turn_lost _ _ _ _ _ _ c.in-Lost.ensures.0 (omega (arith, c.if-past_cap.ensures))))

pub returns-then-past_cap-2-clause-course : goal.returns-then-past_cap-2-clause-course
returns-then-past_cap-2-clause-course g c =
    rw c.new-then-past_cap-2.ensures
    (comes_to g (goal.at.returns-then-past_cap-2-clause-course g c).After-next_line _ _ c.in-Line.ensures.1 (turn_past _ _ _ _ _ _ c.in-Line.ensures.0.0 (omega (arith, c.if-past_cap-2.ensures))))

pub returns-in-None-clause-course : goal.returns-in-None-clause-course
returns-in-None-clause-course g c =
    let q = c.in-Line.ensures.0.0.front in
    rw c.broke-in-None.ensures
    (comes_to g (goal.at.returns-in-None-clause-course g c).After-next_line _ _ c.in-Line.ensures.1 (turn_text _ _ _ _ _ _ c.in-Line.ensures.0 (omega (arith, c.if-past_cap-2.ensures)) (text_false _ (λ u. c.in-None.ensures (subst IsUtf8 (sym q) u)))))

pub returns-in_err-at_line-in-Some-clause-course : goal.returns-in_err-at_line-in-Some-clause-course
returns-in_err-at_line-in-Some-clause-course g c =
    let q = c.in-Line.ensures.0.0.front in
    let p = err_from_is_err_and c.from_residual.result c.from_residual.ensures.1 in
    let e : c.from_residual.result ≡ Err c.in_err-at_line-in-Some.field-0.0 = let a = p.1 in let b = p.2 in cc in
    rw e
    (comes_to g (goal.at.returns-in_err-at_line-in-Some-clause-course g c).After-next_line _ _ c.in-Line.ensures.1
    (turn_stopped _ _ _ _ _ _ c.in-Line.ensures.0 (omega (arith, c.if-past_cap-2.ensures)) (text_true _ (subst IsUtf8 q c.in-Some.ensures.1))
    _ c.in-Some.line.now _ _ (c.in-Some.ensures.0 ∙ q) c.take.ensures.next c.take.ensures.verdict c.at_line.ensures _ c.in_err-at_line-in-Some.was))

pub loop-n-preserved : goal.loop-n-preserved
loop-n-preserved g c =
    let q = c.in-Line.ensures.0.0.front in
    let t = turn_went 268435456 g.K.Kind.rules _ c.loop-n.taken c.loop-n.size (g.K.Kind.means c.loop-n.kind) c.in-Line.ensures.0 (omega (arith, c.if-past_cap-2.ensures)) (text_true _ (subst IsUtf8 q c.in-Some.ensures.1))
    (g.K.Kind.means c.take.new.self) c.in-Some.line.now c.take.result c.at_line.result (c.in-Some.ensures.0 ∙ q) c.take.ensures.next c.take.ensures.verdict c.at_line.ensures c.in_ok-at_line-in-Some.field-0 c.in_ok-at_line-in-Some.was in
    let l = c.in-Line.ensures.0.0 in
    let i = c.loop-n.invariant.0 in
    let r = c.loop-n.invariant.3 in
    let k = c.in-Line.ensures.1 in
    (cc, omega (arith, l.some), omega (arith, c.if-past_cap-2.ensures), omega arith, g.met.K.Kind.still c.args.kind.now c.loop-n.kind c.take.new.self c.loop-n.invariant.4 c.take.ensures.frame, c.in-Line.ensures.1 ∙ c.loop-n.invariant.5)

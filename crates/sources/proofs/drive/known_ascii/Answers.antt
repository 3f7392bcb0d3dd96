use Rattle.std.proofs.Common.{◌-◌, length, sym, ◌∙◌, arith}
use Rattle.sources.proofs.Ascii.{all_small, covers_last, covers_more, covers_all}
use Rattle.sources.proofs.drive.known_ascii.Goals as goal

pub returns-then-text-lt16 : goal.returns-then-text-lt16
returns-then-text-lt16 c t = all_small c.args.text.now (sym c.short_ascii.ensures ∙ t)

pub loop-at-init : goal.loop-at-init
loop-at-init c = covers_last c.args.text.now (omega arith)

pub loop-at-preserved : goal.loop-at-preserved
loop-at-preserved c = covers_more c.loop-at.seen c.args.text.now c.loop-at.at (length c.args.text.now - 16) c.loop-at.auto.seen.0 (omega arith) c.loop-at.invariant

pub returns : goal.returns
returns c t = covers_all c.loop-at.seen c.args.text.now c.loop-at.at (length c.args.text.now - 16) (omega arith) c.loop-at.invariant (c.is_ascii.ensures t)

use Rattle.std.proofs.Common.{arith, sym, ◌∙◌, eqb, w8}
use Rattle.std.proofs.lemmas.Simd.{bitmask_splat}
use Rattle.memchr.specs.Find.{is_byte}
use Rattle.sources.proofs.Marks.{first_marked, none_marked}
use Rattle.sources.proofs.find.place_in.Goals as goal

pub returns-then-mask-eq0 : goal.returns-then-mask-eq0
returns-then-mask-eq0 c = none_marked (is_byte c.args.byte) c.args.block (sym (bitmask_splat w8 eqb c.args.block 16 c.args.byte c.fits-block.0 (omega arith)) ∙ c.if-mask-eq0.true)

pub returns : goal.returns
returns c = first_marked (is_byte c.args.byte) c.args.block _ (omega (arith, c.fits-block.0)) (bitmask_splat w8 eqb c.args.block 16 c.args.byte c.fits-block.0 (omega arith)) (omega (arith, c.if-mask-eq0.false))

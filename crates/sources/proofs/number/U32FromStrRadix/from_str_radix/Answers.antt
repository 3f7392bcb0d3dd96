use Rattle.std.proofs.Common.{ℕ, subst}
use Rattle.std.specs.Str.Parse.{ParsesUnsigned}
use Rattle.sources.proofs.Reading.{reads_unsigned}
use Rattle.sources.proofs.number.U32FromStrRadix.from_str_radix.Goals as goal

pub returns : goal.returns
returns c =
    reads_unsigned 32 c.args.radix c.args.t.now c.from_str_radix.result c.map_err.result c.map_err.ensures.cases
    (subst (λ (b : ℕ). ParsesUnsigned 32 b c.args.t.now c.from_str_radix.result) c.base.ensures c.from_str_radix.ensures.value)

use Rattle.std.proofs.Common.{ℕ, subst, w32}
use Rattle.std.specs.Str.Parse.{ParsesSigned}
use Rattle.sources.proofs.Reading.{reads_signed}
use Rattle.sources.proofs.number.I32FromStrRadix.from_str_radix.Goals as goal

pub returns : goal.returns
returns c =
    reads_signed w32 c.args.radix c.args.t.now c.from_str_radix.result c.map_err.result c.map_err.ensures.cases
    (subst (λ (b : ℕ). ParsesSigned w32 b c.args.t.now c.from_str_radix.result) c.base.ensures c.from_str_radix.ensures.value)

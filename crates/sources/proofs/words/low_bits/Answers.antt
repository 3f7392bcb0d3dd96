use Rattle.std.proofs.Common.{arith, w8, nat_le}
use Rattle.std.proofs.lemmas.Simd.{bitmask_splat}
use Rattle.sources.proofs.words.low_bits.Goals as goal

pub returns : goal.returns
returns c = bitmask_splat w8 nat_le c.args.bytes 16 32 c.fits-bytes.0 (omega arith)

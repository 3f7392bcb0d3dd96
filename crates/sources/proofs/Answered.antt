-- The three ways in which a source answers a call of `piece`.
use Rattle.std.proofs.Common.{◌≡◌, ℕ, ◌<◌, Bool, List, [], ◌∷◌, ◌++◌, length, take, drop, refl, ap, arith}
use Rattle.sources.specs.Bytes.{moved}
use Rattle.sources.specs.Texts.{text}
use Rattle.sources.specs.Given.{Given}
use Rattle.sources.specs.declared.source.Piece.TheVariants.{Bytes}

-- bytes are left
pub given_bytes : (buf xs : List ℕ) (broken : Bool) (n : ℕ) (buf' xs' : List ℕ) → 0 < length xs → n ≡ moved (length buf) xs → buf' ≡ take n xs ++ drop n buf → xs' ≡ drop n xs → Given buf (text xs broken) (Bytes n) buf' (text xs' broken)
given_bytes buf [] broken n buf' xs' h e f m = absurd (omega arith)
given_bytes buf (x ∷ xs) broken n buf' xs' h e f m = record { answers = ap Bytes e; moves = rw e at m; fills = rw e at f; keeps = refl }

-- What one call of `piece` does: what it answers, what it moves, and what it leaves.
use Rattle.std.specs.Prelude.{◌≡◌, ℕ, Bool, true, false, cond, List, [], ◌∷◌, ◌++◌, length, take, drop, ◌==◌}
use Rattle.sources.specs.Bytes.{moved}
use Rattle.sources.specs.Texts.{Text}
use Rattle.sources.specs.declared.source.Piece.{Piece}
use Rattle.sources.specs.declared.source.Piece.TheVariants.{Bytes, Ended, Broken}

abbrev pub ending : Bool → Piece
ending true = Broken
ending false = Ended

-- What a call of `piece` answers.
abbrev pub answer : ℕ → List ℕ → Bool → Piece
answer room [] broken = cond (room == 0) (Bytes 0) (ending broken)
answer room (b ∷ bs) broken = Bytes (moved room (b ∷ bs))

-- One call of `piece`: `buf` and `t` are the buffer and the text to come before it, `buf'` and `t'` after it.
pub record Given (buf : List ℕ) (t : Text) (r : Piece) (buf' : List ℕ) (t' : Text) : Type 0 where
  pub answers : r ≡ answer (length buf) t.bytes t.broken
  pub moves : t'.bytes ≡ drop (moved (length buf) t.bytes) t.bytes
  pub fills : buf' ≡ take (moved (length buf) t.bytes) t.bytes ++ drop (moved (length buf) t.bytes) buf
  pub keeps : t'.broken ≡ t.broken

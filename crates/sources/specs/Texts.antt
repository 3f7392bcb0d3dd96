-- What a source means, and what two sources mean as one.
use Rattle.std.specs.Prelude.{ℕ, Bool, cond, List, ◌++◌}

-- The bytes still to come, and whether their ending is a broken one.
pub record Text : Type 0 where
  pub bytes : List ℕ
  pub broken : Bool

abbrev pub text : List ℕ → Bool → Text
text bytes broken = record { bytes = bytes; broken = broken }

-- A join: a first that is broken ends it.
abbrev pub joined : Text → Text → Text
joined t u = cond t.broken t (text (t.bytes ++ u.bytes) u.broken)

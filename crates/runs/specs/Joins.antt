-- Measures of two texts and of their join, wherever they stand in a run.
use Rattle.std.specs.Prelude.{◌≡◌, ℕ, true, false, List, ◌++◌, slice_index_or}
use Rattle.sources.specs.Texts.{Text, text}
use Rattle.kinds.specs.declared.measure.Closed.{Closed}
use Rattle.kinds.specs.Sums.{Keeps, both, whole}
use Rattle.runs.specs.declared.call.Call.{Call}
use Rattle.runs.specs.declared.call.Call.TheVariants.{Measure, Used}
use Rattle.runs.specs.declared.call.Answer.{Answer}
use Rattle.runs.specs.declared.call.Answer.TheVariants.{Missing}
use Rattle.runs.specs.Run.{made}

-- The call at a place measures a text that ends clean.
abbrev pub MeasuresAt : List (Call Text) → ℕ → List ℕ → Type 0
MeasuresAt cs i bytes = slice_index_or cs i Used ≡ Measure (text bytes false)

-- It does so, and makes c.
pub record MadeAt (cs : List (Call Text)) (rs : List Answer) (i : ℕ) (bytes : List ℕ) (c : Closed) : Type 0 where
  pub measures : MeasuresAt cs i bytes
  pub makes : slice_index_or rs i Missing ≡ made c

-- Three calls, in any order, measure two texts, of which the first is empty or ends in byte 10, and their join; of the two, c and d are made.
pub record Joined (cs : List (Call Text)) (rs : List Answer) (i j k : ℕ) (t u : List ℕ) (c d : Closed) : Type 0 where
  pub first : MadeAt cs rs i t c
  pub second : MadeAt cs rs j u d
  pub join : MeasuresAt cs k (t ++ u)
  pub ends : whole t ≡ true

-- Then the join is measured exactly where it keeps the caps, and all figures add.
abbrev pub JoinsAdd : List (Call Text) → List Answer → Type 0
JoinsAdd cs rs =
    (i j k : ℕ) (t u : List ℕ) (c d : Closed) → Joined cs rs i j k t u c d →
    ((e : Closed) → slice_index_or rs k Missing ≡ made e → Keeps t u c d × (e ≡ both c d)) × (Keeps t u c d → slice_index_or rs k Missing ≡ made (both c d))

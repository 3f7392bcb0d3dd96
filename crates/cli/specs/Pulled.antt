-- How a text ends.
use Rattle.std.specs.Prelude.{ℕ, if◌then◌else◌, ◌==◌, length, slice_index, List, [], ◌∷◌}
use Rattle.sources.specs.Texts.{Text}
use Rattle.cli.specs.declared.pulled.Ending.{Ending}
use Rattle.cli.specs.declared.pulled.Ending.TheVariants.{Empty, Whole, MidLine}

-- By its last byte, if it has one.
abbrev pub ends_by : List ℕ → Ending
ends_by [] = Empty
ends_by (b ∷ bs) = if slice_index (b ∷ bs) (length bs) == 10 then Whole else MidLine

abbrev pub ending_of : Text → Ending
ending_of t = if t.broken then MidLine else ends_by t.bytes

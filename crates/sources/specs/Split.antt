-- The pieces of a text that are still to come.
use Rattle.std.specs.Prelude.{ℕ, List, []}
use Rattle.std.specs.Option.{option_map_or}
use Rattle.sources.specs.declared.pieces.Split.{Split}
use Rattle.sources.specs.Pieces.{split}

-- Nothing is left behind the last piece.
abbrev pub pieces_left : Split → List (List ℕ)
pieces_left s = option_map_or (λ rest. split s.at rest.now) s.rest []

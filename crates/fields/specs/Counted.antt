-- A list in a table of a fixed number of cells.
use Rattle.std.specs.Prelude.{ℕ, ◌+◌, ◌-◌, List, ◌++◌, length, take, replicate, slice_set}
use Rattle.fields.specs.declared.counted.Counted.{Counted}

-- The items in the first cells, and blank ones behind them.
abbrev pub counted : {X : Type 0} → (n : ℕ) → X → List X → Counted X n
counted {X} n blank xs = record { cells = xs ++ replicate (n - length xs) blank; len = length xs }

-- A list with one more item, in the first cell that does not count.
abbrev pub with_item : {X : Type 0} {n : ℕ} → X → Counted X n → Counted X n
with_item {X} {n} x list = record { cells = slice_set list.cells list.len x; len = list.len + 1 }

-- The first 4096 bytes of a text.
unfoldable pub kept_text : List ℕ → Counted ℕ 4096
kept_text bs = counted 4096 0 (take 4096 bs)

-- The entries of a row, told by keys: each key that the mapping's lines give an amount, in the order in which they first come, with its last amount.
use Rattle.std.specs.Prelude.{◌≡◌, ℕ, cond, not, codes, List, [], ◌∷◌, map, filter, filter_map, take, drop, bytes_eq, None, Ok, Option, Result}
use Rattle.std.specs.List.{IsDistinct}
use Rattle.std.specs.Result.{result_unwrap_or}
use Rattle.sources.specs.declared.fault.Refusal.{Refusal}
use Rattle.sources.specs.Lines.{lines_of}
use Rattle.sources.specs.Pieces.{case_of, strip_prefix}
use Rattle.sources.specs.Texts.{Text}
use Rattle.kinds.specs.Attribute.{Entry as Attribute, entry_of}
use Rattle.kinds.specs.declared.rows.entry.Entry.{Entry}
use Rattle.kinds.specs.declared.rows.read.Counts.{Counts}
use Rattle.kinds.specs.declared.rows.row.Row.{Row}
use Rattle.kinds.specs.Rows.Blocks.{Block, blocks_of}
use Rattle.kinds.specs.Rows.Entries.{bytes_of_key}

-- What a line gives: the key and the amount of an attribute, where the line has both and is none of flags.
abbrev pub given : List ℕ → Option Attribute
given line = case_of (strip_prefix (codes "VmFlags") line) (result_unwrap_or (entry_of line) None) (λ _. None)

-- The last amount that a key is given, or `amount` where it is given none.
unfoldable pub last_amount : List ℕ → ℕ → List Attribute → ℕ
last_amount key amount [] = amount
last_amount key amount (a ∷ rest) = last_amount key (cond (bytes_eq a.key key) a.amount amount) rest

-- Each key once, in the order in which they first come, with its last amount: the first key, and behind it the others', without that key.
unfoldable pub latest : List Attribute → List Attribute
latest [] = []
latest (a ∷ rest) = record { key = a.key; amount = last_amount a.key a.amount rest } ∷ filter (λ b. not (bytes_eq a.key b.key)) (latest rest)

-- An entry holds an attribute: its key's bytes, and its value as the amount.
abbrev pub held_in : Entry → Attribute
held_in e = record { key = bytes_of_key e.key; amount = e.value }

-- Entries that hold the latest of what lines give; no key stands twice.
pub record LatestOnce (lines : List (List ℕ)) (es : List Entry) : Type 0 where
  pub each_last : map held_in es ≡ latest (filter_map given lines)
  pub each_once : IsDistinct bytes_eq (map (λ e. bytes_of_key e.key) es)

-- The entries of a row.
abbrev pub entries_of : Row → List Entry → List Entry
entries_of row entries = take row.count (drop row.first entries)

-- Each mapping has its row, whose entries are the latest of the mapping's lines.
unfoldable pub LatestStand : List Block → List Row → List Entry → Type 0
LatestStand [] rows entries = Unit {0}
LatestStand (b ∷ bs) [] entries = ⊥
LatestStand (b ∷ bs) (row ∷ rows) entries = LatestOnce b.lines (entries_of row entries) × LatestStand bs rows entries

-- So it is in an accepted text.
abbrev pub LatestOfMappings : Text → Result Counts Refusal → List Row → List Entry → Type 0
LatestOfMappings t r rows' entries' = (n : Counts) → r ≡ Ok n → LatestStand (blocks_of 0 (lines_of t.bytes)) rows' entries'

-- The sort of a line of smaps text, for a measure.
use Rattle.std.specs.Prelude.{ℕ, Bool, false, cond, List, [], ◌∷◌, Some, None, Ok, codes, Option, Result, nat_lt}
use Rattle.std.specs.Option.{option_map}
use Rattle.std.specs.Result.{result_map_both}
use Rattle.std.specs.Str.{bytes_eq}
use Rattle.sources.specs.declared.fault.Fault.{Fault}
use Rattle.sources.specs.Pieces.{case_of, strip_prefix}
use Rattle.kinds.specs.declared.sort.Key.{Key}
use Rattle.kinds.specs.declared.sort.Key.TheVariants.{Rss, Pss, SwapPss}
use Rattle.kinds.specs.declared.sort.Setting.{Setting}
use Rattle.kinds.specs.declared.sort.Sort.{Sort}
use Rattle.kinds.specs.declared.sort.Sort.TheVariants as sort
use Rattle.kinds.specs.Attribute.{entry_of, Entry}
use Rattle.kinds.specs.Mapping.{mapping_of}

-- The measured key of a name.
abbrev pub measured_key : List ℕ → Option Key
measured_key k = cond (bytes_eq k (codes "Rss")) (Some Rss) (cond (bytes_eq k (codes "Pss")) (Some Pss) (cond (bytes_eq k (codes "SwapPss")) (Some SwapPss) None))

-- What an attribute sets: a measured key, or none.
abbrev pub set_by : Option Entry → Option Setting
set_by None = None
set_by (Some e) = option_map (λ k. record { key = k; amount = e.amount }) (measured_key e.key)

-- What an attribute line sets, where it is good; "VmFlags" sets no key.
abbrev pub setting_of : List ℕ → Result (Option Setting) Fault
setting_of line = case_of (strip_prefix (codes "VmFlags") line) (result_map_both set_by (λ f. f) (entry_of line)) (λ _. Ok None)

-- Whether the first byte is one of A to Z.
abbrev pub capital : List ℕ → Bool
capital [] = false
capital (b ∷ bs) = cond (nat_lt b 65) false (nat_lt b 91)

-- A line that starts with A to Z is an attribute's, and any other a mapping's; each is good or refused.
abbrev pub sort_of : List ℕ → Sort
sort_of line = cond (capital line) (sort.Attribute (setting_of line)) (sort.Mapping (result_map_both (λ m. tt) (λ f. f) (mapping_of line)))

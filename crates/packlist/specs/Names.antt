-- The names of measures.
use Rattle.std.specs.Prelude.{◌≡◌, ℕ, ◌+◌, if◌then◌else◌, List, [], ◌∷◌, Option, Some, None}
use Rattle.std.specs.Borrow.{Bor}
use Rattle.std.specs.Str.{bytes_eq}
use Rattle.std.specs.HashMap.{HashMap, get_by}
use Rattle.std.specs.declared.hash.FoldHasher.{FoldHasher}
use Rattle.std.specs.declared.hash.BuildHasherDefault.{BuildHasherDefault}

abbrev pub Word : Type 0
Word = Bor (List ℕ)

-- The number of the latest of the names that is this one.
abbrev pub latest_from : ℕ → Option ℕ → List Word → List ℕ → Option ℕ
latest_from i best [] name = best
latest_from i best (n ∷ ns) name = latest_from (i + 1) (if bytes_eq n.now name then Some i else best) ns name

abbrev pub latest_of : List Word → List ℕ → Option ℕ
latest_of names name = latest_from 0 None names name

-- A map has, by each name, the number of the latest of these.
abbrev pub IsIndexOf : HashMap Word ℕ (BuildHasherDefault FoldHasher) → List Word → Type 0
IsIndexOf map names = (q : List ℕ) → get_by (λ k. bytes_eq q k.now) map ≡ latest_of names q

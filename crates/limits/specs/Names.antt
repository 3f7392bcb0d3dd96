-- The names of the limits, and the field that words name.
use Rattle.std.specs.Prelude.{ℕ, List, [], ◌∷◌, codes, Option, position}
use Rattle.sources.specs.White.{white_words}
use Rattle.limits.specs.Words.{same_words}

-- In the order of the fields.
abbrev pub names : List (List ℕ)
names =
    codes "Max cpu time"
    ∷ codes "Max file size"
    ∷ codes "Max data size"
    ∷ codes "Max stack size"
    ∷ codes "Max core file size"
    ∷ codes "Max resident set"
    ∷ codes "Max processes"
    ∷ codes "Max open files"
    ∷ codes "Max locked memory"
    ∷ codes "Max address space"
    ∷ codes "Max file locks"
    ∷ codes "Max pending signals"
    ∷ codes "Max msgqueue size"
    ∷ codes "Max nice priority"
    ∷ codes "Max realtime priority"
    ∷ codes "Max realtime timeout"
    ∷ []

-- The place, from 0 on, of the name that words are, if they are one.
unfoldable pub place_of : List (List ℕ) → Option ℕ
place_of ws = position (λ name. same_words ws (white_words name)) names

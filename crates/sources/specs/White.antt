-- White space, Unicode's `White_Space`: taken off a text, and the words between it. `chars` and `encodes` pass between a text's bytes and its characters.
use Rattle.std.specs.Prelude.{ℕ, zero, suc, cond, List, [], ◌∷◌, map, Some, None, Option}
use Rattle.std.proofs.Math.Utf8.{encodes}
use Rattle.std.specs.Char.{is_whitespace}
use Rattle.std.specs.Str.{chars}
use Rattle.sources.specs.Words.{words_between}

abbrev pub trim_front : List ℕ → List ℕ
trim_front [] = []
trim_front (c ∷ cs) = cond (is_whitespace c) (trim_front cs) (c ∷ cs)

-- c and what is left behind it; a white c with nothing left behind it goes too
abbrev pub keep : ℕ → List ℕ → List ℕ
keep c [] = cond (is_whitespace c) [] (c ∷ [])
keep c (d ∷ ds) = c ∷ d ∷ ds

abbrev pub trim_back : List ℕ → List ℕ
trim_back [] = []
trim_back (c ∷ cs) = keep c (trim_back cs)

-- A text's bytes without white space around them.
abbrev pub trim : List ℕ → List ℕ
trim bs = encodes (trim_back (trim_front (chars bs)))

-- The same in front alone.
abbrev pub trim_start : List ℕ → List ℕ
trim_start bs = encodes (trim_front (chars bs))

-- The words between white characters.
abbrev pub white_words : List ℕ → List (List ℕ)
white_words bs = map encodes (words_between is_whitespace (chars bs))

-- the element at a place
abbrev pub nth : {X : Type 0} → ℕ → List X → Option X
nth n [] = None
nth zero (x ∷ xs) = Some x
nth (suc n) (x ∷ xs) = nth n xs

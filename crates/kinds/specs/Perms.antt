-- Permissions: a bit for each of the letters r, w, x, s and p.
use Rattle.std.specs.Prelude.{ℕ, cond, List, ◌==◌, bit_or, fold}

abbrev pub bit_of : ℕ → ℕ
bit_of c = cond (c == 114) 1 (cond (c == 119) 2 (cond (c == 120) 4 (cond (c == 115) 8 (cond (c == 112) 16 0))))

-- The union of the bits of the letters.
abbrev pub perms_of : List ℕ → ℕ
perms_of cs = fold (λ n c. bit_or n (bit_of c)) 0 cs

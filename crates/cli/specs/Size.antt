-- How a number of bytes is printed.
use Rattle.std.specs.Prelude.{ℕ, ◌*◌, ◌/◌, ◌%◌, ◌^◌, if◌then◌else◌, nat_le, List, [], ◌++◌, codes, decimal}

-- Bytes in a unit of this size and name, with one decimal, rounded down.
abbrev pub in_unit : ℕ → List ℕ → ℕ → List ℕ
in_unit unit name bytes = codes " (" ++ (decimal (bytes / unit) ++ (codes "." ++ (decimal (bytes % unit * 10 / unit) ++ (codes " " ++ (name ++ codes ")")))))

-- Bytes in the largest unit that they have one of; nothing where they are fewer than 1,024.
abbrev pub readable : ℕ → List ℕ
readable bytes =
    if nat_le (2 ^ 60) bytes then in_unit (2 ^ 60) (codes "EiB") bytes
    else (if nat_le (2 ^ 50) bytes then in_unit (2 ^ 50) (codes "PiB") bytes
    else (if nat_le (2 ^ 40) bytes then in_unit (2 ^ 40) (codes "TiB") bytes
    else (if nat_le (2 ^ 30) bytes then in_unit (2 ^ 30) (codes "GiB") bytes
    else (if nat_le (2 ^ 20) bytes then in_unit (2 ^ 20) (codes "MiB") bytes
    else (if nat_le (2 ^ 10) bytes then in_unit (2 ^ 10) (codes "KiB") bytes
    else [])))))

-- Bytes, exactly and then for people.
abbrev pub size_text : ℕ → List ℕ
size_text bytes = decimal bytes ++ readable bytes

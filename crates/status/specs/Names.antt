-- The names of the lines, and the field that each sets.
use Rattle.std.specs.Prelude.{ℕ, Bool, false, List, [], ◌∷◌, codes, filter, find, Option, ◌==◌}
use Rattle.std.specs.Borrow.{Bor}
use Rattle.std.specs.Option.{option_map}
use Rattle.std.specs.Str.{bytes_eq}

-- The names, each with the number of the first field that its line sets: "Uid" and "Gid" set four.
abbrev pub names : List (ℕ × List ℕ)
names =
    (1, codes "Name")
    ∷ (2, codes "Umask")
    ∷ (3, codes "State")
    ∷ (4, codes "Tgid")
    ∷ (5, codes "Ngid")
    ∷ (6, codes "Pid")
    ∷ (7, codes "PPid")
    ∷ (8, codes "TracerPid")
    ∷ (9, codes "Uid")
    ∷ (13, codes "Gid")
    ∷ (17, codes "FDSize")
    ∷ (18, codes "Groups")
    ∷ (19, codes "NStgid")
    ∷ (20, codes "NSpid")
    ∷ (21, codes "NSpgid")
    ∷ (22, codes "NSsid")
    ∷ (23, codes "VmPeak")
    ∷ (24, codes "VmSize")
    ∷ (25, codes "VmLck")
    ∷ (26, codes "VmPin")
    ∷ (27, codes "VmHWM")
    ∷ (28, codes "VmRSS")
    ∷ (29, codes "RssAnon")
    ∷ (30, codes "RssFile")
    ∷ (31, codes "RssShmem")
    ∷ (32, codes "VmData")
    ∷ (33, codes "VmStk")
    ∷ (34, codes "VmExe")
    ∷ (35, codes "VmLib")
    ∷ (36, codes "VmPTE")
    ∷ (37, codes "VmSwap")
    ∷ (38, codes "HugetlbPages")
    ∷ (39, codes "Threads")
    ∷ (40, codes "SigQ")
    ∷ (41, codes "SigPnd")
    ∷ (42, codes "ShdPnd")
    ∷ (43, codes "SigBlk")
    ∷ (44, codes "SigIgn")
    ∷ (45, codes "SigCgt")
    ∷ (46, codes "CapInh")
    ∷ (47, codes "CapPrm")
    ∷ (48, codes "CapEff")
    ∷ (49, codes "CapBnd")
    ∷ (50, codes "CapAmb")
    ∷ (51, codes "NoNewPrivs")
    ∷ (52, codes "Seccomp")
    ∷ (53, codes "Speculation_Store_Bypass")
    ∷ (54, codes "Cpus_allowed")
    ∷ (55, codes "Cpus_allowed_list")
    ∷ (56, codes "Mems_allowed")
    ∷ (57, codes "Mems_allowed_list")
    ∷ (58, codes "voluntary_ctxt_switches")
    ∷ (59, codes "nonvoluntary_ctxt_switches")
    ∷ (60, codes "CoreDumping")
    ∷ (61, codes "THP_enabled")
    ∷ []

-- The number of the first field that a line of this name sets, where the name is one of these.
unfoldable pub field_of : List ℕ → Option ℕ
field_of name = option_map (λ own. own.0) (find (λ own. bytes_eq own.1 name) names)

-- Whether a name begins with a byte, and the names that do.
abbrev pub begins : ℕ → ℕ × List ℕ → Bool
begins first (number, []) = false
begins first (number, b ∷ bs) = first == b

unfoldable pub names_with : ℕ → List (ℕ × List ℕ)
names_with first = filter (begins first) names

-- A number and a borrowed name, by its bytes.
abbrev pub named : ℕ × Bor (List ℕ) → ℕ × List ℕ
named own = (own.0, own.1.now)

-- Texts and words, and what the definitions make of them.
use Rattle.std.specs.Prelude.{◌≡◌, true, false, [], ◌∷◌, ◌++◌, pos, negsuc, Ok, Err, codes}
use Rattle.sources.specs.declared.reason.Reason.TheVariants.{Bracket, Broken, Figure, Short}
use Rattle.sources.specs.Faults.{fault, refused}
use Rattle.support.specs.declared.page.PageInfo.TheVariants.{MemoryPage, SwapPage}
use Rattle.support.specs.declared.syscall.Syscall.TheVariants.{Running, Blocked}
use Rattle.support.specs.Calls.{call_in}
use Rattle.support.specs.Page.{page_of, page_frame_number, swap_type, swap_offset, soft_dirty, exclusively_mapped, write_protected, file_or_shared_anon, swapped, present}
use Rattle.support.specs.Target.{target_in, target_of, path, socket, net, pipe, anon_inode, memfd, other, unknown}

-- Of the names of links, the first two are of proc(5).
abbrev pub Targets : Type 0
Targets =
    (target_of (codes "socket:[2248868]") ≡ Ok (socket 2248868))
    × (target_of (codes "anon_inode:[eventpoll]") ≡ Ok (anon_inode (codes "[eventpoll]")))
    × (target_of (codes "net:[4026531833]") ≡ Ok (net 4026531833))
    × (target_of (codes "pipe:[+012]") ≡ Ok (pipe 12))
    × (target_of (codes "socket:a12b") ≡ Err (fault Bracket))
    × (target_of (codes "socket:[]") ≡ Err (fault Bracket))
    × (target_of (codes "socket:") ≡ Err (fault Bracket))
    × (target_of (codes "socket:[12") ≡ Err (fault Bracket))
    × (target_of (codes "socket:[-1]") ≡ Err (fault Figure))
    × (target_of (codes "pipe:[18446744073709551616]") ≡ Err (fault Figure))
    × (target_of (codes ":[1]") ≡ Err (fault Bracket))
    × (target_of (codes "x:[]") ≡ Ok (unknown (codes "x") (codes "[]")))
    × (target_of (codes "x:[12]") ≡ Ok (other (codes "x") 12))
    × (target_of (codes "x:[1]:[2]") ≡ Ok (unknown (codes "x") (codes "[1]:[2]")))
    × (target_of (codes "/memfd:a:b (deleted)") ≡ Ok (memfd (codes "a:b (deleted)")))
    × (target_of (codes "/tmp/socket:[1]") ≡ Ok (path (codes "/tmp/socket:[1]")))
    × (target_of [] ≡ Ok (path []))
    × (target_in (128 ∷ []) ≡ Err (refused Broken 0))

abbrev pub Calls : Type 0
Calls =
    (call_in (codes "running" ++ (10 ∷ [])) ≡ Ok Running)
    × (call_in (codes "-1 0x1 0x2 0x3 0x4 0x5 0x6 0x7ffe 0x7f00" ++ (10 ∷ [])) ≡ Ok (Blocked (negsuc 0) (1 ∷ 2 ∷ 3 ∷ 4 ∷ 5 ∷ 6 ∷ []) 32766 32512))
    × (call_in (codes " 7 1 0X2 +3 0x+4 a B 0 ffffffffffffffff x") ≡ Ok (Blocked (pos 7) (1 ∷ 2 ∷ 3 ∷ 4 ∷ 10 ∷ 11 ∷ []) 0 18446744073709551615))
    × (call_in (codes "7 1 2 3 4 5 6 7") ≡ Err (refused Short 0))
    × (call_in (codes "7 1 2 3 4 5 6 7 0x") ≡ Err (refused Figure 0))
    × (call_in (codes "7 1 x") ≡ Err (refused Figure 0))
    × (call_in (codes "7  1 2 3 4 5 6 7 8") ≡ Err (refused Figure 0))
    × (call_in (codes "7 0x0x1") ≡ Err (refused Figure 0))
    × (call_in [] ≡ Err (refused Figure 0))
    × (call_in (codes "running" ++ (255 ∷ [])) ≡ Err (refused Broken 0))

-- A word with all bits of a row set, one without them, and one with a field of its own.
abbrev pub Pages : Type 0
Pages =
    (page_of 0x8000000000012345 ≡ MemoryPage (record { bits = 0x8000000000012345 }))
    × (page_of 0x4000000000000062 ≡ SwapPage (record { bits = 0x4000000000000062 }))
    × (page_frame_number 0x807FFFFFFFFFFFFF ≡ 0x7FFFFFFFFFFFFF)
    × (page_frame_number 0xFF80000000000000 ≡ 0)
    × (swap_type 0x4000000000000062 ≡ 2)
    × (swap_offset 0x4000000000000062 ≡ 3)
    × (swap_offset 0xFFFFFFFFFFFFFFFF ≡ 0x3FFFFFFFFFFFF)
    × (soft_dirty 0x0080000000000000 ≡ true)
    × (exclusively_mapped 0x0100000000000000 ≡ true)
    × (write_protected 0x0200000000000000 ≡ true)
    × (file_or_shared_anon 0x2000000000000000 ≡ true)
    × (swapped 0x4000000000000000 ≡ true)
    × (present 0x8000000000000000 ≡ true)
    × (present 0x7FFFFFFFFFFFFFFF ≡ false)

abbrev pub Samples : Type 0
Samples = Targets × (Calls × Pages)

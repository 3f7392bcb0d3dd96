-- A word of a process's page table, by its 64 bits as pagemap.rst gives them.
use Rattle.std.specs.Prelude.{ℕ, ◌+◌, ◌*◌, ◌/◌, ◌%◌, ◌^◌, Bool, cond, ◌==◌}
use Rattle.support.specs.declared.page.PageInfo.{PageInfo}
use Rattle.support.specs.declared.page.PageInfo.TheVariants.{MemoryPage, SwapPage}

-- Bits are numbered from 0, the lowest.
abbrev pub bit : ℕ → ℕ → ℕ
bit n word = word / 2 ^ n % 2

-- The number that the bits from `low` on are, so many of them.
abbrev pub bits_from : ℕ → ℕ → ℕ → ℕ
bits_from low many word = word / 2 ^ low % 2 ^ many

abbrev pub is_set : ℕ → ℕ → Bool
is_set n word = bit n word == 1

-- Of a page in memory, bits 0 to 54 are the number of its frame.
abbrev pub page_frame_number : ℕ → ℕ
page_frame_number = bits_from 0 55

-- Of a swapped page, bits 0 to 4 tell the swap area, and bits 5 to 54 where it is there.
abbrev pub swap_type : ℕ → ℕ
swap_type = bits_from 0 5

abbrev pub swap_offset : ℕ → ℕ
swap_offset = bits_from 5 50

-- Bit 55: it was written since the bit was cleared.
abbrev pub soft_dirty : ℕ → Bool
soft_dirty = is_set 55

-- Bit 56: no other process maps it.
abbrev pub exclusively_mapped : ℕ → Bool
exclusively_mapped = is_set 56

-- Bit 57: userfaultfd protects it from being written.
abbrev pub write_protected : ℕ → Bool
write_protected = is_set 57

-- Bits 58 to 60 have no name here; proc(5) has zeros there since Linux 3.11.
abbrev pub spare : ℕ → ℕ
spare = bits_from 58 3

-- Bit 61: it is of a file, or of shared anonymous memory.
abbrev pub file_or_shared_anon : ℕ → Bool
file_or_shared_anon = is_set 61

-- Bit 62: it is swapped out.
abbrev pub swapped : ℕ → Bool
swapped = is_set 62

-- Bit 63: it is in memory.
abbrev pub present : ℕ → Bool
present = is_set 63

-- A word with bit 62 is a SwapPage; any other, of a page in memory or of none, is a MemoryPage. Either keeps the whole word.
abbrev pub page_of : ℕ → PageInfo
page_of word = cond (swapped word) (SwapPage (record { bits = word })) (MemoryPage (record { bits = word }))

-- 1 for a bit that is set.
abbrev pub one_if : Bool → ℕ
one_if b = cond b 1 0

-- The bits from 55 on, put together from what they say.
abbrev pub upper_bits : ℕ → ℕ
upper_bits word =
    2 ^ 55 * one_if (soft_dirty word)
    + 2 ^ 56 * one_if (exclusively_mapped word)
    + 2 ^ 57 * one_if (write_protected word)
    + 2 ^ 58 * spare word
    + 2 ^ 61 * one_if (file_or_shared_anon word)
    + 2 ^ 62 * one_if (swapped word)
    + 2 ^ 63 * one_if (present word)

-- The word of a page in memory, put together from its parts.
abbrev pub memory_word : ℕ → ℕ
memory_word word = page_frame_number word + upper_bits word

-- The word of a swapped page, put together from its parts.
abbrev pub swap_word : ℕ → ℕ
swap_word word = swap_type word + 2 ^ 5 * swap_offset word + upper_bits word

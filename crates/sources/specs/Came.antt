-- What the driver finds as the next line of a text.
use Rattle.std.specs.Prelude.{◌≡◌, ℕ, ◌<◌, ◌≤◌, Bool, true, false, List, [], length, take, drop}
use Rattle.sources.specs.Bytes.{through}
use Rattle.sources.specs.Lines.{long, ended, lost}
use Rattle.sources.specs.Texts.{Text}
use Rattle.sources.specs.declared.drive.Next.{Next}
use Rattle.sources.specs.declared.drive.Next.TheVariants.{Line, Lost, Long, Ended, Broken}

-- a line of n bytes was read to the front of the buffer
pub record Lined (room : ℕ) (bytes : List ℕ) (n : ℕ) (buf' bytes' : List ℕ) : Type 0 where
  pub some : 0 < n
  pub is : n ≡ through bytes
  pub short : long room (take n bytes) ≡ false
  pub within : n ≤ length buf'
  pub fits : length (take n bytes) ≡ n
  pub front : take n buf' ≡ take n bytes
  pub left : bytes' ≡ drop n bytes

-- What each answer of `next_line` says of the bytes: `buf'` and `bytes'` are the buffer and the bytes to come after it.
abbrev pub Comes : ℕ → List ℕ → Bool → Next → List ℕ → List ℕ → Type 0
Comes room bytes broken (Line n) buf' bytes' = Lined room bytes n buf' bytes' × (lost broken (take n bytes) ≡ false)
Comes room bytes broken (Lost n) buf' bytes' = Lined room bytes n buf' bytes' × (broken ≡ true) × (ended (take n bytes) ≡ false)
Comes room bytes broken Long buf' bytes' = (0 < length bytes) × (long room (take (through bytes) bytes) ≡ true) × (bytes' ≡ drop room bytes)
Comes room bytes broken Ended buf' bytes' = (bytes ≡ []) × (broken ≡ false) × (bytes' ≡ [])
Comes room bytes broken Broken buf' bytes' = (bytes ≡ []) × (broken ≡ true) × (bytes' ≡ [])

-- The ending stays.
abbrev pub Came : ℕ → Text → Next → List ℕ → Text → Type 0
Came room t r buf' t' = Comes room t.bytes t.broken r buf' t'.bytes × (t'.broken ≡ t.broken)

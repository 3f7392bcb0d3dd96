-- What a target is written as, for two laws: an accepted text is its target written out, and a plain target written out is read as that target.
use Rattle.std.specs.Prelude.{◌≡◌, ℕ, Bool, true, false, List, ◌++◌, Ok, codes}
use Rattle.sources.specs.declared.number.Radix.TheVariants.{Decimal}
use Rattle.sources.specs.Number.{unsigned}
use Rattle.support.specs.Target.{Target, path, socket, net, pipe, anon_inode, memfd, other, unknown}

-- `kind:[inode]`, with digits that are the inode.
pub record HasInode (kind : List ℕ) (n : ℕ) (text : List ℕ) : Type 0 where
  pub digits : List ℕ
  pub written : text ≡ kind ++ (codes ":[" ++ (digits ++ codes "]"))
  pub read : unsigned 64 Decimal digits ≡ Ok n

abbrev pub IsWritten : Target → List ℕ → Type 0
IsWritten (path name) text = text ≡ name
IsWritten (socket n) text = HasInode (codes "socket") n text
IsWritten (net n) text = HasInode (codes "net") n text
IsWritten (pipe n) text = HasInode (codes "pipe") n text
IsWritten (anon_inode rest) text = text ≡ codes "anon_inode:" ++ rest
IsWritten (memfd name) text = text ≡ codes "/memfd:" ++ name
IsWritten (other kind n) text = HasInode kind n text
IsWritten (unknown kind rest) text = text ≡ kind ++ (codes ":" ++ rest)

-- A target that its text tells by itself, whatever stands in it: no path, and none of a type of its own.
abbrev pub is_plain : Target → Bool
is_plain (path name) = false
is_plain (socket n) = true
is_plain (net n) = true
is_plain (pipe n) = true
is_plain (anon_inode rest) = true
is_plain (memfd name) = true
is_plain (other kind n) = false
is_plain (unknown kind rest) = false

-- The file that words name.
use Rattle.std.specs.Prelude.{ℕ, if◌then◌else◌, List, [], ◌∷◌, Option, Some, None, codes}
use Rattle.std.specs.Borrow.{Bor}
use Rattle.std.specs.Str.{bytes_eq}
use Rattle.sources.specs.declared.input.Form.TheVariants.{Plain, Recording}
use Rattle.cli.specs.declared.text_file.TextFile.{TextFile}

-- Its path, behind the word `recording` or alone.
abbrev pub file_of : List (Bor (List ℕ)) → Option TextFile
file_of [] = None
file_of (path ∷ []) = Some (record { form = Plain; path = path })
file_of (first ∷ path ∷ []) = if bytes_eq first.now (codes "recording") then Some (record { form = Recording; path = path }) else None
file_of (first ∷ path ∷ other ∷ more) = None

-- The text that bytes are.
use Rattle.std.specs.Prelude.{ℕ, cond, List, Ok, Err, Result}
use Rattle.std.specs.Borrow.{Bor}
use Rattle.std.specs.Result.{result_map_both}
use Rattle.sources.specs.declared.fault.Fault.{Fault}
use Rattle.sources.specs.declared.reason.Reason.TheVariants.{Broken}
use Rattle.sources.specs.Faults.{fault}
use Rattle.sources.specs.Pieces.{bytes_of}
use Rattle.sources.specs.Utf8.{is_utf8}

-- Bytes that are UTF-8 are a text; others are none.
abbrev pub as_text : List ℕ → Result (List ℕ) Fault
as_text bs = cond (is_utf8 bs) (Ok bs) (Err (fault Broken))

-- A borrowed text, by its bytes.
abbrev pub seen_text : Result (Bor (List ℕ)) Fault → Result (List ℕ) Fault
seen_text r = result_map_both bytes_of (λ f. f) r

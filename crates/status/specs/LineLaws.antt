-- A foreign line says nothing. (The proof stands here since an implementation of a trait can cite specs/ alone.)
use Rattle.std.specs.Prelude.{◌≡◌, true, List, ℕ, Some, None, Ok, Err, Option, Result, refl}
use Rattle.sources.specs.declared.fault.Fault.{Fault}
use Rattle.fields.specs.Slots.{Entry}
use Rattle.status.specs.Line.{entry_of, aside, is_foreign}

aside_empty : (r : Result (Option Entry) Fault) → aside r ≡ true → r ≡ Ok None
aside_empty (Ok None) h = refl
aside_empty (Ok (Some e)) h = cc
aside_empty (Err f) h = cc

pub foreign_empty : (line : List ℕ) → is_foreign line ≡ true → entry_of line ≡ Ok None
unfolding is_foreign
foreign_empty line h = aside_empty (entry_of line) h

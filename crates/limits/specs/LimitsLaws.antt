-- What lines do to the slots, as laws. (The proofs stand here since an implementation of a trait can cite specs/ alone.)
use Rattle.std.specs.Prelude.{◌≡◌, ℕ, ◌+◌, Bool, true, false, cond, ◌&&◌, ◌||◌, List, [], ◌∷◌, length, is_none, Some, None, Ok, Err, Option, nat_le, nat_lt, refl}
use Rattle.std.specs.Option.{option_map}
use Rattle.std.proofs.Common.{arith}
use Rattle.std.proofs.lemmas.Bool.Decides.{nat_tests}
use Rattle.sources.specs.declared.reason.Reason.TheVariants.{Short}
use Rattle.sources.specs.Faults.{fault}
use Rattle.sources.specs.White.{trim, white_words}
use Rattle.limits.specs.Entries.{Entry, entry_of, is_foreign, is_heading, name_length, place_in}
use Rattle.limits.specs.Words.{word_at}
use Rattle.limits.specs.Record.{fresh_slots, fill_limits}

-- a heading, or n words with a name of no field
no_entry : (heading : Bool) (n : ℕ) (place : Option ℕ) (entry : ℕ → Entry) → (heading || (nat_le 3 n && is_none place)) ≡ true
    → cond heading (Ok None) (cond (nat_lt n 3) (Err (fault Short)) (Ok (option_map entry place))) ≡ Ok None
no_entry true n place entry e = refl
no_entry false n None entry e = let long : nat_lt n 3 ≡ false = grind (arith, nat_tests) in rw long
no_entry false n (Some k) entry e = absurd (grind (arith, nat_tests))

-- A foreign line has no entry.
pub foreign_empty : (line : List ℕ) → is_foreign line ≡ true → entry_of line ≡ Ok None
foreign_empty line f =
    let t = trim line in
    no_entry (is_heading t) (length (white_words t)) (place_in t) (λ place. (place + 1, (word_at (name_length t) (white_words t), word_at (name_length t + 1) (white_words t)))) f

-- No entry leaves the slots as they were before any line, and one more entry is put before the others.
pub no_entries : fill_limits [] fresh_slots ≡ fresh_slots
no_entries = refl

pub one_entry_more : (e : Entry) (es : List Entry) → fill_limits (e ∷ []) (fill_limits es fresh_slots) ≡ fill_limits (e ∷ es) fresh_slots
one_entry_more e es = refl

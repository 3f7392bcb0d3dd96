-- An attribute line of an accepted text is at no fault, and says what it gives.
use Rattle.std.proofs.Common.{◌≡◌, ℕ, ◌+◌, true, List, [], ◌∷◌, length, nat_lt, Ok, Err, Some, None, Option, Result, inl, inr, refl, sym, ap, ◌∙◌}
use Rattle.std.specs.Prelude.{codes}
use Rattle.std.specs.Option.{ok_or}
use Rattle.std.specs.Result.{result_unwrap_or}
use Rattle.std.proofs.lemmas.Bool.{cases_Bool}
use Rattle.std.proofs.lemmas.List.{take_at}
use Rattle.fields.specs.Counted.{counted}
use Rattle.sources.specs.declared.fault.Fault.{Fault}
use Rattle.sources.specs.Faults.{and_then}
use Rattle.sources.specs.Pieces.{case_of, strip_prefix}
use Rattle.kinds.specs.Attribute.{Entry as Attribute, entry_of}
use Rattle.kinds.specs.Sorts.{capital}
use Rattle.kinds.specs.declared.rows.row.Row.{Row}
use Rattle.kinds.specs.declared.rows.line.Saying.{Saying}
use Rattle.kinds.specs.declared.rows.line.Saying.TheVariants.{Nothing, Flags, Value}
use Rattle.kinds.specs.Rows.Blocks.{Block, body, blocks_of}
use Rattle.kinds.specs.Rows.Entries.{kept_key}
use Rattle.kinds.specs.Rows.Flags.{flags_of}
use Rattle.kinds.specs.Rows.Latest.{given, held_in}
use Rattle.kinds.specs.Rows.Lines.{said_by, saying_of, row_line_of}
use Rattle.kinds.specs.Rows.Tables.{Tables, Filled, after_line, after_saying, row_rules}
use Rattle.kinds.proofs.RowLemmas.Blocked.{first_line}
use Rattle.kinds.proofs.RowLemmas.Walked.{folded}

abbrev pub attribute : List ℕ → ℕ → Attribute
attribute key amount = record { key = key; amount = amount }

-- the attribute in what is said
abbrev pub within : Saying → Option Attribute
within Nothing = None
within (Flags bits) = None
within (Value e) = Some (held_in e)

pub said_gives : (line : List ℕ) (s : Saying) → saying_of line ≡ Ok s → given line ≡ within s
unfolding saying_of kept_key
said_gives line s e = go (strip_prefix (codes "VmFlags") line) (entry_of line) e
  where
    go : (o : Option (List ℕ)) (r : Result (Option Attribute) Fault) → case_of o (and_then r said_by) (λ _. Ok (Flags (flags_of line))) ≡ Ok s → case_of o (result_unwrap_or r None) (λ _. None) ≡ within s
    go (Some x) r e = let z : Flags (flags_of line) ≡ s = cc in ap within z
    go None (Err f) e = absurd (let z = e in cc)
    go None (Ok None) e = let z : Nothing ≡ s = let y = e in cc in ap within z
    go None (Ok (Some a)) e = elim (cases_Bool (nat_lt 32 (length a.key))) [
      | inl c ↦ absurd (let z = rw c at e in cc)
      | inr c ↦
          let y = rw c at e in
          let z : Value (record { key = counted 32 0 a.key; value = a.amount }) ≡ s = cc in
          ap (λ (k : List ℕ). Some (attribute k a.amount)) (sym (take_at a.key _ (length a.key) refl)) ∙ ap within z
    ]

-- lines that each say something
abbrev pub AllSaid : List (List ℕ) → Type 0
AllSaid [] = Unit {0}
AllSaid (l ∷ ls) = ((s : Saying) × (saying_of l ≡ Ok s)) × AllSaid ls

abbrev pub BlocksSaid : List Block → Type 0
BlocksSaid [] = Unit {0}
BlocksSaid (b ∷ bs) = AllSaid b.lines × BlocksSaid bs

-- the same of those among them that are attribute lines
abbrev CapitalsSaid : List (List ℕ) → Type 0
CapitalsSaid [] = Unit {0}
CapitalsSaid (l ∷ ls) = (capital l ≡ true → (s : Saying) × (saying_of l ≡ Ok s)) × CapitalsSaid ls

line_said : (l : List ℕ) (u t : Tables) → capital l ≡ true → after_line l u ≡ Ok t → (s : Saying) × (saying_of l ≡ Ok s)
unfolding row_line_of
line_said l u t c e = go _ _ (saying_of l) _ (rw c at e)
  where
    go : (o : Option Row) (f : Fault) (r : Result Saying Fault) (u : Tables) → and_then (ok_or o f) (λ row. and_then r (λ s. after_saying s row u)) ≡ Ok t → (s : Saying) × (r ≡ Ok s)
    go None f r u e = absurd (let z = e in cc)
    go (Some row) f (Err g) u e = absurd (let z = e in cc)
    go (Some row) f (Ok s) u e = (s, refl)

capitals_said : (u : Tables) (ls : List (List ℕ)) (t : Tables) → folded row_rules (Ok u) ls ≡ Ok t → CapitalsSaid ls
unfolding folded
capitals_said u [] t e = tt
capitals_said u (l ∷ ls) t e =
    let f = first_line [] [] (after_line l u) ls t e in
    (λ c. line_said l u f.0 c f.1, capitals_said f.0 ls t (sym (ap (λ (m : Filled). folded row_rules m ls) f.1) ∙ e))

body_said : (ls : List (List ℕ)) → CapitalsSaid ls → AllSaid (body ls)
unfolding body
body_said [] h = tt
body_said (l ∷ ls) h = elim (cases_Bool (capital l)) [
  | inl c ↦ rw c (h.0 c, body_said ls h.1)
  | inr c ↦ rw c tt
]

capital_blocks : (before : ℕ) (ls : List (List ℕ)) → CapitalsSaid ls → BlocksSaid (blocks_of before ls)
unfolding blocks_of
capital_blocks before [] h = tt
capital_blocks before (l ∷ ls) h = elim (cases_Bool (capital l)) [
  | inl c ↦ rw c (capital_blocks (before + length l) ls h.1)
  | inr c ↦ rw c (body_said ls h.1, capital_blocks (before + length l) ls h.1)
]

pub blocks_said : (u : Tables) (ls : List (List ℕ)) (t : Tables) → folded row_rules (Ok u) ls ≡ Ok t → BlocksSaid (blocks_of 0 ls)
blocks_said u ls t e = capital_blocks 0 ls (capitals_said u ls t e)

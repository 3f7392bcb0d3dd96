-- Calls that read a text.
use Rattle.std.proofs.Common.{◌≡◌, ℕ, false, List, [], ◌∷◌, length, Some, Ok, Option, Result, ap, sym, ◌∙◌, arith}
use Rattle.std.proofs.lemmas.List.{append-nil}
use Rattle.sources.specs.declared.fault.Refusal.{Refusal}
use Rattle.sources.specs.Texts.{Text, text}
use Rattle.packing.specs.Packed.{Packing}
use Rattle.capi.specs.declared.answer.Answer.{Answer}
use Rattle.capi.specs.declared.cell.Cell.{Cell}
use Rattle.capi.specs.Exports.{left_by, on_list, without_text, figures_or_zeros, measure_in}
use Rattle.capi.specs.Parts.{join_of}
use Rattle.kinds.specs.Measured.{measured}

pub called_on_list : (call : Packing → Result (Unit {0}) Refusal × Packing × Text) (o : Option Packing) (l : Packing) (cells : List Cell) {r : Result (Unit {0}) Refusal} {l' : Packing} {left : Text} {a : Answer × List Cell} →
    o ≡ Some l → (r, l', left) ≡ call l → a ≡ left_by (r, l') cells → a ≡ on_list (λ k. without_text (call k)) o cells
called_on_list call o l cells e f g = g ∙ ap (λ x. left_by (without_text x) cells) f ∙ ap (λ x. on_list (λ k. without_text (call k)) x cells) (sym e)

-- A text as it stands, joined with nothing.
with_nothing : (first second : List ℕ) → length second ≡ 0 → join_of 1 first 1 second ≡ Ok (text first false)
with_nothing first [] e = ap (λ (bytes : List ℕ). Ok (text bytes false)) (append-nil first)
with_nothing first (b ∷ bs) e = absurd (omega (arith, e))

pub alone : (first second : List ℕ) → length second ≡ 0 → measure_in (join_of 1 first 1 second) ≡ figures_or_zeros (measured (text first false))
alone first second e = ap measure_in (with_nothing first second e)

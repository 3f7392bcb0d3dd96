-- What the definitions say of the first record, of those behind it, and of the last.
use Rattle.std.proofs.Common.{◌≡◌, ℕ, ◌+◌, ◌-◌, ◌≤◌, min, Bool, ◌&&◌, eqb, List, [], ◌∷◌, ◌++◌, length, get_or, take, drop, sym, refl, ap, ◌∙◌, inl, inr, arith, length-drop}
use Rattle.std.proofs.lemmas.List.{take_all, drop-take, drop-drop}
use Rattle.std.proofs.lemmas.Bool.{cases_lt}
use Rattle.std.proofs.Math.Bool.{and-true, and_assoc}
use Rattle.std.specs.List.{list_all}
use Rattle.sources.specs.Records.{text_of_record, text_of_records, to_come, well_made, going, last, ending_of}

take_min : (a b : ℕ) (l : List ℕ) → length l ≤ b → take a l ≡ take (min a b) l
take_min a b l k = elim (cases_lt a b) [
  | inl h ↦ let z : min a b ≡ a = omega arith in ap (λ (i : ℕ). take i l) (sym z)
  | inr h ↦ take_all a l (omega arith) ∙ sym (take_all (min a b) l (omega arith))
]

-- the text of a record, from `used` on
pub text_from : (r : List ℕ) (u m : ℕ) → length r ≡ 64 → u ≤ m → m ≡ min (get_or r 0 0) 62 → drop u (text_of_record r) ≡ take (m - u) (drop (2 + u) r)
text_from r u m l h e =
    let k : u + (m - u) ≡ m = omega arith in
    ap (drop u) (take_min (get_or r 0 0) 62 (drop 2 r) (simp length-drop (omega arith)) ∙ ap (λ (i : ℕ). take i (drop 2 r)) (sym e ∙ sym k))
    ∙ drop-take u (m - u) (drop 2 r)
    ∙ ap (take (m - u)) (drop-drop u 2 r)

-- Records of which all but the last are followed by others.
pub well_made_end : (rs : List (List ℕ)) (r : List ℕ) → well_made (rs ++ (r ∷ [])) ≡ list_all going rs && last r
well_made_end [] r = refl
well_made_end (s ∷ []) r = ap (λ (b : Bool). b && last r) (sym (and-true (going s)))
well_made_end (s ∷ t ∷ rs) r = ap (λ (b : Bool). going s && b) (well_made_end (t ∷ rs) r) ∙ sym (and_assoc (going s) (list_all going (t ∷ rs)) (last r))

-- The ending is told by the last record.
pub ending-end : (rs : List (List ℕ)) (r : List ℕ) → ending_of (rs ++ (r ∷ [])) ≡ eqb (get_or r 1 0) 2
ending-end [] r = refl
ending-end (s ∷ []) r = refl
ending-end (s ∷ t ∷ rs) r = ending-end (t ∷ rs) r

-- the text to come, where the first record has some: that, from `used` on and up to its end m, and then the other records'
pub to_come-here : {rs : List (List ℕ)} {r : List ℕ} {others : List (List ℕ)} (u m : ℕ) → rs ≡ r ∷ others → length r ≡ 64 → u ≤ m → m ≡ min (get_or r 0 0) 62 → to_come rs u ≡ take (m - u) (drop (2 + u) r) ++ text_of_records others
to_come-here {rs} {r} {others} u m e l h q = ap (λ (l : List (List ℕ)). to_come l u) e ∙ ap (λ (t : List ℕ). t ++ text_of_records others) (text_from r u m l h q)

-- The bytes at the place of a row are the name of its path.
use Rattle.std.proofs.Common.{◌≡◌, ℕ, ◌+◌, ◌≤◌, List, [], ◌∷◌, ◌++◌, length, take, drop, Ok, Some, IsUtf8, inl, inr, refl, sym, ap, ◌∙◌, arith, append_assoc, length-append}
use Rattle.std.proofs.lemmas.Bool.{cases_Bool}
use Rattle.sources.specs.Lines.{text_of}
use Rattle.sources.specs.White.{trim, trim_start}
use Rattle.sources.proofs.Utf8.{formed-text}
use Rattle.kinds.specs.Mapping.{Mapping, mapping_of}
use Rattle.kinds.specs.Sorts.{capital}
use Rattle.kinds.specs.declared.rows.row.Row.{Row}
use Rattle.kinds.specs.Rows.Paths.{name_at, further, path_cell, path_piece}
use Rattle.kinds.specs.Rows.Rows.{row_of}
use Rattle.kinds.specs.Rows.Blocks.{blocks_of, rows_in, entries_after, body}
use Rattle.kinds.specs.Rows.Placed.{name_in, bytes_at, NamesStand}
use Rattle.kinds.proofs.RowLemmas.Walked.{Written}
use Rattle.sources.proofs.Ends.{bracketed-sound}
use Rattle.kinds.proofs.RowLemmas.Spelled.{named_at, path_spelled, map_path, up_to_first, trimmed_first}

-- what stands between what is before it and behind it
between : (a n z : List ℕ) (k : ℕ) → k ≡ length a → take (length n) (drop k (a ++ (n ++ z))) ≡ n
between a n z k e = rw e (front a)
  where
    these : (n : List ℕ) → take (length n) (n ++ z) ≡ n
    these [] = refl
    these (x ∷ n) = ap (λ (l : List ℕ). x ∷ l) (these n)

    front : (a : List ℕ) → take (length n) (drop (length a) (a ++ (n ++ z))) ≡ n
    front [] = these n
    front (x ∷ a) = front a

-- of one mapping line
placed : (pre line post : List ℕ) (m : Mapping) (name : List ℕ) → IsUtf8 line → length pre + length line ≤ 268435456 → mapping_of line ≡ Ok m → name_in m.pathname ≡ Some name →
    bytes_at (path_cell (further (length pre) (name_at line)) m.pathname).place (pre ++ (line ++ post)) ≡ name
placed pre line post m name u h e k =
    let f = named_at line u in
    let w : name_at line ≤ length line = let n = ap length f.1 in let q = f.2 in omega (arith, n, q, length-append f.0 (trim_start (path_piece line))) in
    let g : further (length pre) (name_at line) ≡ length (pre ++ f.0) = let q = f.2 in omega (arith, w, q, length-append pre f.0) in
    let laid : pre ++ (line ++ post) ≡ (pre ++ f.0) ++ (trim_start (path_piece line) ++ post) =
    ap (λ (l : List ℕ). pre ++ (l ++ post)) f.1 ∙ ap (λ (l : List ℕ). pre ++ l) (append_assoc f.0 (trim_start (path_piece line)) post) ∙ sym (append_assoc pre f.0 _) in
    elim (path_spelled (path_piece line) m.pathname name (map_path line m e) k) [
      | inl s ↦
          let t = up_to_first 10 (trim_start (path_piece line)) in
          let v : trim_start (path_piece line) ++ post ≡ name ++ (t.0 ++ post) =
          ap (λ (l : List ℕ). l ++ post) (t.1 ∙ ap (λ (l : List ℕ). l ++ t.0) (sym s.1)) ∙ append_assoc name t.0 post in
          rw (s.0, laid, v) (between (pre ++ f.0) name (t.0 ++ post) _ g)
      | inr s ↦
          let t = trimmed_first (path_piece line) in
          let v : trim_start (path_piece line) ++ post ≡ 91 ∷ (name ++ ((93 ∷ t.0) ++ post)) =
          ap (λ (l : List ℕ). l ++ post) (t.1 ∙ ap (λ (l : List ℕ). l ++ t.0) (bracketed-sound (trim (path_piece line)) name s.1))
          ∙ ap (λ (l : List ℕ). 91 ∷ (l ++ post)) (append_assoc name (93 ∷ []) t.0) ∙ ap (λ (l : List ℕ). 91 ∷ l) (append_assoc name (93 ∷ t.0) post) in
          let x : (pre ++ f.0) ++ (91 ∷ (name ++ ((93 ∷ t.0) ++ post))) ≡ ((pre ++ f.0) ++ (91 ∷ [])) ++ (name ++ ((93 ∷ t.0) ++ post)) = sym (append_assoc (pre ++ f.0) (91 ∷ []) _) in
          let y : further (further (length pre) (name_at line)) 1 ≡ length ((pre ++ f.0) ++ (91 ∷ [])) = omega (arith, g, w, length-append (pre ++ f.0) (91 ∷ [])) in
          rw (s.0, laid, v, x) (between ((pre ++ f.0) ++ (91 ∷ [])) name ((93 ∷ t.0) ++ post) _ y)
    ]

pub stand : (pre : List ℕ) (ls : List (List ℕ)) (first : ℕ) (rest : List Row) → Written ls → length pre + length (text_of ls) ≤ 268435456 →
    NamesStand (pre ++ text_of ls) (blocks_of (length pre) ls) (rows_in first (blocks_of (length pre) ls) ++ rest)
unfolding NamesStand blocks_of rows_in text_of row_of
stand pre [] first rest w h = tt
stand pre (l ∷ ls) first rest (u, w) h =
    let n = length-append pre l in
    let f : length pre + length l ≤ 268435456 = omega (arith, h, length-append l (text_of ls)) in
    let g : length (pre ++ l) + length (text_of ls) ≤ 268435456 = omega (arith, n, length-append l (text_of ls)) in
    elim (cases_Bool (capital l)) [
      | inl c ↦ let ih = stand (pre ++ l) ls first rest w g in rw c (rw (n, append_assoc pre l (text_of ls)) at ih)
      | inr c ↦
          let ih = stand (pre ++ l) ls (first + length (entries_after [] (body ls))) rest w g in
          rw c (λ m name e k. rw e (placed pre l (text_of ls) m name (formed-text l u) f e k), rw (n, append_assoc pre l (text_of ls)) at ih)
    ]

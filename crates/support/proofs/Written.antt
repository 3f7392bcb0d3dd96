-- An accepted text is its target written out.
use Rattle.std.proofs.Common.{◌≡◌, ℕ, Bool, true, false, cond, List, [], ◌∷◌, ◌++◌, Some, None, Ok, Err, Option, Result, refl, sym, ap, ◌∙◌, codes}
use Rattle.std.specs.Str.{bytes_eq}
use Rattle.std.specs.Prelude.{is_some, IfOk}
use Rattle.support.specs.declared.target.FDTarget.{FDTarget}
use Rattle.std.proofs.lemmas.Slice.Eq.{bytes_eq-Decides}
use Rattle.sources.specs.declared.fault.Fault.{Fault}
use Rattle.sources.specs.declared.number.Radix.TheVariants.{Decimal}
use Rattle.sources.specs.declared.fault.NumberFault.{NumberFault}
use Rattle.sources.specs.Faults.{and_then, as_fault, fault}
use Rattle.sources.specs.Number.{unsigned}
use Rattle.sources.proofs.Cuts.{split_at_byte-sound}
use Rattle.sources.proofs.Ends.{bracketed-sound, strip_prefix-sound, strip_suffix-some}
use Rattle.sources.specs.Pieces.{bracketed, case_of, split_at_byte, strip_prefix}
use Rattle.sources.specs.declared.reason.Reason.TheVariants.{Bracket}
use Rattle.support.specs.Target.{Target, path, socket, net, pipe, anon_inode, memfd, other, unknown, seen, told, held_inode, inode_of, other_of, typed_of, bare_of, target_of}
use Rattle.support.specs.Written.{HasInode, IsWritten, is_plain}

-- An inode stands in brackets, with digits that are its number.
pub record Held (n : ℕ) (rest : List ℕ) : Type 0 where
  pub digits : List ℕ
  pub written : rest ≡ codes "[" ++ (digits ++ codes "]")
  pub read : unsigned 64 Decimal digits ≡ Ok n

figure_sound : (o : Result ℕ NumberFault) (n : ℕ) → as_fault o ≡ Ok n → o ≡ Ok n
figure_sound (Ok m) n e = let i : m ≡ n = cc in ap Ok i
figure_sound (Err f) n e = cc

held_sound : (digits : List ℕ) (n : ℕ) → held_inode digits ≡ Ok n → unsigned 64 Decimal digits ≡ Ok n
held_sound digits n e = at (bytes_eq digits []) e
  where
    at : (q : Bool) → cond q (Err (fault Bracket)) (as_fault (unsigned 64 Decimal digits)) ≡ Ok n → unsigned 64 Decimal digits ≡ Ok n
    at true e = cc
    at false e = figure_sound (unsigned 64 Decimal digits) n e

inode_sound : (rest : List ℕ) (n : ℕ) → inode_of rest ≡ Ok n → Held n rest
inode_sound rest n e = at (bracketed rest) refl e
  where
    at : (o : Option (List ℕ)) → bracketed rest ≡ o → case_of o (Err (fault Bracket)) held_inode ≡ Ok n → Held n rest
    at None f e = cc
    at (Some digits) f e = record { digits = digits; written = bracketed-sound rest digits f; read = held_sound digits n e }

inode_written : (kind rest : List ℕ) (n : ℕ) → Held n rest → HasInode kind n (kind ++ (58 ∷ rest))
inode_written kind rest n h = record { digits = h.digits; written = ap (λ xs. kind ++ (58 ∷ xs)) h.written; read = h.read }

-- One test of a type.
pick : (kind word : List ℕ) (same behind : Result Target Fault) (t : Target) (P : Type 0) → (kind ≡ word → same ≡ Ok t → P) → (behind ≡ Ok t → P) → cond (bytes_eq kind word) same behind ≡ Ok t → P
pick kind word same behind t P f g e = at (bytes_eq kind word) refl e
  where
    at : (q : Bool) → bytes_eq kind word ≡ q → cond q same behind ≡ Ok t → P
    at true h e = f ((bytes_eq-Decides kind word).0 h) e
    at false h e = g e

module _ (kind rest : List ℕ) where
  numbered : (make : ℕ → Target) (t : Target) (P : Type 0) → ((n : ℕ) → Held n rest → make n ≡ t → P) → and_then (inode_of rest) (λ n. Ok (make n)) ≡ Ok t → P
  numbered make t P f e = at (inode_of rest) refl e
    where
      at : (o : Result ℕ Fault) → inode_of rest ≡ o → and_then o (λ n. Ok (make n)) ≡ Ok t → P
      at (Ok n) h e = let i : make n ≡ t = cc in f n (inode_sound rest n h) i
      at (Err g) h e = cc

  foreign_written : (o : Result ℕ Fault) → inode_of rest ≡ o → IsWritten (other_of kind rest o) (kind ++ (58 ∷ rest))
  foreign_written (Ok n) h = inode_written kind rest n (inode_sound rest n h)
  foreign_written (Err f) h = refl

  named : (word : List ℕ) (make : ℕ → Target) → ((n : ℕ) (text : List ℕ) → HasInode word n text → IsWritten (make n) text) → (t : Target) → kind ≡ word → and_then (inode_of rest) (λ n. Ok (make n)) ≡ Ok t → IsWritten t (kind ++ (58 ∷ rest))
  named word make f t k e =
      numbered make t (IsWritten t (kind ++ (58 ∷ rest))) (λ n h i. rw (← i, k) (f n (word ++ (58 ∷ rest)) (inode_written word rest n h))) e

  typed_written : (t : Target) → typed_of kind rest ≡ Ok t → IsWritten t (kind ++ (58 ∷ rest))
  typed_written t e =
      let P : Type 0 = IsWritten t (kind ++ (58 ∷ rest)) in
      pick kind [] _ _ t P (λ k f. cc) (λ e1.
      pick kind (codes "socket") _ _ t P (λ k f. named (codes "socket") socket (λ n text h. h) t k f) (λ e2.
      pick kind (codes "net") _ _ t P (λ k f. named (codes "net") net (λ n text h. h) t k f) (λ e3.
      pick kind (codes "pipe") _ _ t P (λ k f. named (codes "pipe") pipe (λ n text h. h) t k f) (λ e4.
      pick kind (codes "anon_inode") _ _ t P (λ k f. let i : anon_inode rest ≡ t = cc in rw (← i, k) refl) (λ e5.
      let i : other_of kind rest (inode_of rest) ≡ t = cc in rw (← i) (foreign_written (inode_of rest) refl)) e4) e3) e2) e1) e

bare_written : (bs : List ℕ) (t : Target) → bare_of bs ≡ Ok t → IsWritten t bs
bare_written bs t e = at (split_at_byte 58 bs) refl e
  where
    at : (o : Option (List ℕ × List ℕ)) → split_at_byte 58 bs ≡ o → case_of o (Ok (path bs)) (λ p. typed_of p.0 p.1) ≡ Ok t → IsWritten t bs
    at None h e = let i : path bs ≡ t = cc in rw (← i) refl
    at (Some p) h e = let k : bs ≡ p.0 ++ (58 ∷ p.1) = split_at_byte-sound 58 bs p.0 p.1 h in rw k (typed_written p.0 p.1 t e)

pub target_written : (bs : List ℕ) (t : Target) → target_of bs ≡ Ok t → IsWritten t bs
target_written bs t e = at (strip_prefix (codes "/memfd:") bs) refl e
  where
    rooted : (q : Bool) → cond q (Ok (path bs)) (bare_of bs) ≡ Ok t → IsWritten t bs
    rooted true e = let i : path bs ≡ t = cc in rw (← i) refl
    rooted false e = bare_written bs t e

    at : (o : Option (List ℕ)) → strip_prefix (codes "/memfd:") bs ≡ o → case_of o (cond (is_some (strip_prefix (codes "/") bs)) (Ok (path bs)) (bare_of bs)) (λ name. Ok (memfd name)) ≡ Ok t → IsWritten t bs
    at None h e = rooted (is_some (strip_prefix (codes "/") bs)) e
    at (Some name) h e = let i : memfd name ≡ t = cc in rw (← i) (strip_prefix-sound (codes "/memfd:") bs name h)

pub seen_written : (bs : List ℕ) (r : Result FDTarget Fault) → seen r ≡ target_of bs → IfOk r (λ t. IsWritten (told t) bs)
seen_written bs (Ok t) e = target_written bs (told t) (sym e)
seen_written bs (Err f) e = tt

-- A plain target that is written out is read as that target.
inode_back : (digits : List ℕ) (n : ℕ) → unsigned 64 Decimal digits ≡ Ok n → inode_of (codes "[" ++ (digits ++ codes "]")) ≡ Ok n
inode_back [] n e = cc
inode_back (d ∷ ds) n e = rw (strip_suffix-some (codes "]") (d ∷ ds)) (ap as_fault e)

pub written_back : (t : Target) (bs : List ℕ) → is_plain t ≡ true → IsWritten t bs → target_of bs ≡ Ok t
written_back (path name) bs p h = cc
written_back (socket n) bs p h = ap target_of h.written ∙ ap (λ (o : Result ℕ Fault). and_then o (λ n. Ok (socket n))) (inode_back h.digits n h.read)
written_back (net n) bs p h = ap target_of h.written ∙ ap (λ (o : Result ℕ Fault). and_then o (λ n. Ok (net n))) (inode_back h.digits n h.read)
written_back (pipe n) bs p h = ap target_of h.written ∙ ap (λ (o : Result ℕ Fault). and_then o (λ n. Ok (pipe n))) (inode_back h.digits n h.read)
written_back (anon_inode rest) bs p h = ap target_of h
written_back (memfd name) bs p h = ap target_of h
written_back (other kind n) bs p h = cc
written_back (unknown kind rest) bs p h = cc

pub seen_back : (bs : List ℕ) (r : Result FDTarget Fault) → seen r ≡ target_of bs → (t : Target) → is_plain t ≡ true → IsWritten t bs → seen r ≡ Ok t
seen_back bs r e t p h = e ∙ written_back t bs p h

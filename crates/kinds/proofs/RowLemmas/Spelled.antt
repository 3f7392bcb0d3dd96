-- Where a mapping line has its name.
use Rattle.std.proofs.Common.{◌≡◌, ℕ, suc, ◌+◌, ◌<◌, Bool, true, false, cond, ◌⊎◌, inl, inr, List, [], ◌∷◌, ◌++◌, length, drop, get_or, codes, Ok, Err, Some, None, IsUtf8, Option, Result, ℤ, refl, sym, ap, ◌∙◌, subst, arith, add-one, append_assoc, append-nil, length-append}
use lib.Utf8.{encodes}
use Rattle.std.specs.Char.{is_whitespace}
use Rattle.std.specs.Str.{chars, bytes_eq}
use Rattle.std.specs.Option.{ok_or}
use Rattle.std.proofs.lemmas.Str.{IsUtf8-nil, IsUtf8-drop, IsCharBoundary-after_ascii, encodes-chars, encodes-append}
use Rattle.sources.specs.declared.fault.Fault.{Fault}
use Rattle.sources.specs.declared.reason.Reason.TheVariants.{Short}
use Rattle.sources.specs.declared.number.Radix.TheVariants.{Decimal, Hexadecimal}
use Rattle.sources.specs.Number.{unsigned, signed, two_of}
use Rattle.sources.specs.Faults.{and_then, as_fault, fault}
use Rattle.sources.specs.Pieces.{bracketed, case_of, split_at_byte, strip_prefix, strip_suffix}
use Rattle.sources.proofs.Cuts.{split_at_byte-sound}
use Rattle.sources.specs.White.{trim, trim_start, trim_front, trim_back, keep}
use Rattle.kinds.specs.Path.{Named, path, tstack, vsys, other, path_of, named_of, thread_of, segment_key, file_of, heap, stack, vdso, vvar, vsyscall, rollup, anonymous}
use Rattle.kinds.specs.Mapping.{Mapping, mapping_of, piece}
use Rattle.kinds.specs.Rows.Paths.{after_space, path_piece, name_at}
use Rattle.kinds.specs.Rows.Placed.{name_in}

-- bytes end in others
pub record Ends (s l : List ℕ) : Type 0 where
  pub front : List ℕ
  pub is : l ≡ front ++ s

ends_on : (s m l : List ℕ) → Ends s m → Ends m l → Ends s l
ends_on s m l p q = record { front = q.front ++ p.front; is = q.is ∙ ap (λ (x : List ℕ). q.front ++ x) p.is ∙ sym (append_assoc q.front p.front s) }

-- what stands behind a space
behind : (xs ys : List ℕ) (c : ℕ) → drop (suc (length xs)) (xs ++ (c ∷ ys)) ≡ ys
behind [] ys c = refl
behind (x ∷ xs) ys c = behind xs ys c

at_space : (xs ys : List ℕ) (c : ℕ) → get_or (xs ++ (c ∷ ys)) (length xs) 0 ≡ c
at_space [] ys c = refl
at_space (x ∷ xs) ys c = at_space xs ys c

utf8_behind : (xs ys : List ℕ) → IsUtf8 (xs ++ (32 ∷ ys)) → IsUtf8 ys
utf8_behind xs ys u =
    let n : length xs < length (xs ++ (32 ∷ ys)) = omega (arith, length-append xs (32 ∷ ys)) in
    let c = at_space xs ys 32 in
    let k = IsUtf8-drop (xs ++ (32 ∷ ys)) (length xs + 1) u (IsCharBoundary-after_ascii (xs ++ (32 ∷ ys)) (length xs) u n (omega (arith, c))) in
    subst IsUtf8 (rw (add-one (length xs)) (behind xs ys 32)) k

pub record Left (s l : List ℕ) : Type 0 where
  pub text : IsUtf8 s
  pub ends : Ends s l

left_behind : (bs : List ℕ) → IsUtf8 bs → Left (after_space bs) bs
left_behind bs u = at (split_at_byte 32 bs) refl
  where
    at : (o : Option (List ℕ × List ℕ)) → split_at_byte 32 bs ≡ o → Left (case_of o [] (λ p. p.1)) bs
    at None e = record { text = IsUtf8-nil; ends = record { front = bs; is = sym (append-nil bs) } }
    at (Some p) e =
        let k = split_at_byte-sound 32 bs p.0 p.1 e in
        record { text = utf8_behind p.0 p.1 (subst IsUtf8 k u); ends = record { front = p.0 ++ (32 ∷ []); is = k ∙ sym (append_assoc p.0 (32 ∷ []) p.1) } }

left_on : (s l : List ℕ) → Left s l → Left (after_space s) l
left_on s l p = let q = left_behind s p.text in record { text = q.text; ends = ends_on (after_space s) s l q.ends p.ends }

piece_left : (line : List ℕ) → IsUtf8 line → Left (path_piece line) line
piece_left line u = left_on _ line (left_on _ line (left_on _ line (left_on _ line (left_behind line u))))

front_off : (cs : List ℕ) → Ends (trim_front cs) cs
front_off [] = record { front = []; is = refl }
front_off (c ∷ cs) = at (is_whitespace c) (front_off cs)
  where
    at : (b : Bool) → Ends (trim_front cs) cs → Ends (cond b (trim_front cs) (c ∷ cs)) (c ∷ cs)
    at true h = record { front = c ∷ h.front; is = ap (λ (l : List ℕ). c ∷ l) h.is }
    at false h = record { front = []; is = refl }

start_off : (bs : List ℕ) → IsUtf8 bs → Ends (trim_start bs) bs
start_off bs u =
    let h = front_off (chars bs) in
    record { front = encodes h.front; is = sym (encodes-chars bs u) ∙ ap encodes h.is ∙ encodes-append h.front (trim_front (chars bs)) }

-- a line is what stands before its name, and what runs from there on
pub named_at : (line : List ℕ) → IsUtf8 line → (front : List ℕ) × (line ≡ front ++ trim_start (path_piece line)) × (length front ≡ name_at line)
unfolding name_at
named_at line u =
    let p = piece_left line u in
    let e = ends_on (trim_start (path_piece line)) (path_piece line) line (start_off (path_piece line) p.text) p.ends in
    (e.front, e.is, let n = ap length e.is in omega (arith, n, length-append e.front (trim_start (path_piece line))))

-- white space at the end stands behind what is left
back_off : (cs : List ℕ) → (vs : List ℕ) × (cs ≡ trim_back cs ++ vs)
back_off [] = ([], refl)
back_off (c ∷ cs) = at (trim_back cs) (back_off cs)
  where
    at : (t : List ℕ) → (vs : List ℕ) × (cs ≡ t ++ vs) → (vs : List ℕ) × (c ∷ cs ≡ keep c t ++ vs)
    at [] h = white (is_whitespace c)
      where
        white : (b : Bool) → (vs : List ℕ) × (c ∷ cs ≡ cond b [] (c ∷ []) ++ vs)
        white true = (c ∷ cs, refl)
        white false = (cs, refl)
    at (d ∷ ds) h = (h.0, ap (λ (l : List ℕ). c ∷ l) h.1)

pub trimmed_first : (bs : List ℕ) → (z : List ℕ) × (trim_start bs ≡ trim bs ++ z)
trimmed_first bs =
    let h = back_off (trim_front (chars bs)) in
    (encodes h.0, ap encodes h.1 ∙ encodes-append (trim_back (trim_front (chars bs))) h.0)

pub up_to_first : (c : ℕ) (bs : List ℕ) → (z : List ℕ) × (bs ≡ case_of (split_at_byte c bs) bs (λ p. p.0) ++ z)
up_to_first c bs = at (split_at_byte c bs) refl
  where
    at : (o : Option (List ℕ × List ℕ)) → split_at_byte c bs ≡ o → (z : List ℕ) × (bs ≡ case_of o bs (λ p. p.0) ++ z)
    at None e = ([], sym (append-nil bs))
    at (Some p) e = (c ∷ p.1, split_at_byte-sound c bs p.0 p.1 e)

-- a path with a name is a file's or stands between brackets
abbrev pub Spelled : List ℕ → Named → List ℕ → Type 0
Spelled bs q n = ((q ≡ path n) × (n ≡ file_of bs)) ⊎ ((q ≡ other n) × (bracketed (trim bs) ≡ Some n))

-- one of the plain names has none
plain : (b : Bool) (p q : Named) (n : List ℕ) (r : Result Named Fault) → name_in p ≡ None → cond b (Ok p) r ≡ Ok q → name_in q ≡ Some n → r ≡ Ok q
plain true p q n r h e k = absurd (let z : p ≡ q = let y = e in cc in let w : None ≡ Some n = sym h ∙ ap name_in z ∙ k in cc)
plain false p q n r h e k = e

no_thread : (rest : List ℕ) (q : Named) (n : List ℕ) → thread_of rest ≡ Ok q → name_in q ≡ Some n → ⊥
no_thread rest q n e k = at (ok_or (strip_suffix (codes "]") rest) _) _ e
  where
    last : (r : Result ℕ Fault) → and_then r (λ n. Ok (tstack n)) ≡ Ok q → ⊥
    last (Err f) e = let z = e in cc
    last (Ok v) e = let z : tstack v ≡ q = let y = e in cc in let w : None ≡ Some n = ap name_in z ∙ k in cc

    at : (r : Result (List ℕ) Fault) (f : List ℕ → Result ℕ Fault) → and_then r (λ inner. and_then (f inner) (λ n. Ok (tstack n))) ≡ Ok q → ⊥
    at (Err g) f e = let z = e in cc
    at (Ok inner) f e = last (f inner) e

named_spelled : (bs : List ℕ) (q : Named) (n : List ℕ) → named_of (trim bs) bs ≡ Ok q → name_in q ≡ Some n → Spelled bs q n
named_spelled bs q n e k = at (strip_prefix (codes "[stack:") (trim bs)) e
  where
    third : (o : Option ℤ) → case_of {Y = Result Named Fault} o (Ok (path (file_of bs))) (λ z. Ok (vsys z)) ≡ Ok q → Spelled bs q n
    third None e =
        let z : path (file_of bs) ≡ q = let y = e in cc in
        let w : file_of bs ≡ n = let y : Some (file_of bs) ≡ Some n = ap name_in z ∙ k in cc in
        inl (sym z ∙ ap path w, sym w)
    third (Some v) e = absurd (let z : vsys v ≡ q = let y = e in cc in let w : None ≡ Some n = ap name_in z ∙ k in cc)

    second : (o : Option (List ℕ)) → bracketed (trim bs) ≡ o → case_of {Y = Result Named Fault} o (case_of (segment_key (trim bs)) (Ok (path (file_of bs))) (λ z. Ok (vsys z))) (λ n. Ok (other n)) ≡ Ok q → Spelled bs q n
    second None b e = third (segment_key (trim bs)) e
    second (Some v) b e =
        let z : other v ≡ q = let y = e in cc in
        let w : v ≡ n = let y : Some v ≡ Some n = ap name_in z ∙ k in cc in
        inr (sym z ∙ ap other w, b ∙ ap Some w)

    at : (o : Option (List ℕ)) → case_of {Y = Result Named Fault} o (case_of (bracketed (trim bs)) (case_of (segment_key (trim bs)) (Ok (path (file_of bs))) (λ z. Ok (vsys z))) (λ n. Ok (other n))) thread_of ≡ Ok q → Spelled bs q n
    at None e = second (bracketed (trim bs)) refl e
    at (Some rest) e = absurd (no_thread rest q n e k)

pub path_spelled : (bs : List ℕ) (q : Named) (n : List ℕ) → path_of bs ≡ Ok q → name_in q ≡ Some n → Spelled bs q n
path_spelled bs q n e k =
    let e = plain (bytes_eq (trim bs) []) anonymous q n _ refl e k in
    let e = plain (bytes_eq (trim bs) (codes "[heap]")) heap q n _ refl e k in
    let e = plain (bytes_eq (trim bs) (codes "[stack]")) stack q n _ refl e k in
    let e = plain (bytes_eq (trim bs) (codes "[vdso]")) vdso q n _ refl e k in
    let e = plain (bytes_eq (trim bs) (codes "[vvar]")) vvar q n _ refl e k in
    let e = plain (bytes_eq (trim bs) (codes "[vsyscall]")) vsyscall q n _ refl e k in
    let e = plain (bytes_eq (trim bs) (codes "[rollup]")) rollup q n _ refl e k in
    named_spelled bs q n e k

-- a step that came out
went : {X Y : Type 0} (r : Result X Fault) (f : X → Result Y Fault) (y : Y) → and_then r f ≡ Ok y → (x : X) × (r ≡ Ok x) × (f x ≡ Ok y)
went {X} {Y} (Ok x) f y e = (x, refl, e)
went {X} {Y} (Err g) f y e = absurd (let z = e in cc)

spaced : (bs : List ℕ) (p : List ℕ × List ℕ) → piece bs ≡ Ok p → after_space bs ≡ p.1
spaced bs p e = at (split_at_byte 32 bs) e
  where
    at : (o : Option (List ℕ × List ℕ)) → ok_or o (fault Short) ≡ Ok p → case_of o [] (λ p. p.1) ≡ p.1
    at None e = absurd (let z = e in cc)
    at (Some q) e = let z : q ≡ p = let y = e in cc in ap (λ (p : List ℕ × List ℕ). p.1) z

ok_is : (x y : Mapping) → ◌≡◌ {A = Result Mapping Fault} (Ok x) (Ok y) → x ≡ y
ok_is x y e = cc

-- a mapping's path is read from the sixth piece of its line
pub map_path : (line : List ℕ) (m : Mapping) → mapping_of line ≡ Ok m → path_of (path_piece line) ≡ Ok m.pathname
map_path line m e =
    let a = went (piece line) _ m e in
    let p = went (piece a.0.1) _ m a.2 in
    let o = went (piece p.0.1) _ m p.2 in
    let d = went (piece o.0.1) _ m o.2 in
    let i = went (piece d.0.1) _ m d.2 in
    let address = went (two_of (unsigned 64 Hexadecimal) 45 a.0.0) _ m i.2 in
    let offset = went (as_fault (unsigned 64 Hexadecimal o.0.0)) _ m address.2 in
    let dev = went (two_of (signed 31 Hexadecimal) 58 d.0.0) _ m offset.2 in
    let inode = went (as_fault (unsigned 64 Decimal i.0.0)) _ m dev.2 in
    let pathname = went (path_of i.0.1) _ m inode.2 in
    let k : path_piece line ≡ i.0.1 =
    ap (λ (x : List ℕ). after_space (after_space (after_space (after_space x)))) (spaced line a.0 a.1)
    ∙ ap (λ (x : List ℕ). after_space (after_space (after_space x))) (spaced a.0.1 p.0 p.1)
    ∙ ap (λ (x : List ℕ). after_space (after_space x)) (spaced p.0.1 o.0 o.1)
    ∙ ap after_space (spaced o.0.1 d.0 d.1)
    ∙ spaced d.0.1 i.0 i.1 in
    let z = ap (λ (m : Mapping). m.pathname) (ok_is _ m pathname.2) in
    ap path_of k ∙ pathname.1 ∙ ap Ok z

-- The entries of a row are each key with its last value.
use Rattle.std.proofs.Common.{◌≡◌, ℕ, suc, ◌+◌, Bool, true, false, cond, not, List, [], ◌∷◌, ◌++◌, map, length, take, drop, slice_set, Ok, Some, None, Option, Result, inl, inr, refl, sym, ap, ◌∙◌, arith, ltb, lt-ltb, le-ltb, append_assoc, append-nil, length-append}
use Rattle.std.specs.List.{filter, filter_map, cons_option, AllByRecursion, IsDistinct}
use Rattle.std.specs.Option.{option_map}
use Rattle.std.specs.Str.{bytes_eq}
use Rattle.std.proofs.lemmas.Bool.{cases_Bool, cases_lt}
use Rattle.std.proofs.lemmas.Bool.Decides.{same_from_decides}
use Rattle.std.proofs.lemmas.List.{take_at, drop_at}
use Rattle.std.proofs.lemmas.Slice.Eq.{bytes_eq-Decides}
use Rattle.fields.specs.declared.counted.Counted.{Counted}
use Rattle.sources.specs.declared.fault.Fault.{Fault}
use Rattle.sources.specs.Pieces.{case_of}
use Rattle.kinds.specs.Attribute.{Entry as Attribute}
use Rattle.kinds.specs.declared.rows.entry.Entry.{Entry}
use Rattle.kinds.specs.declared.rows.row.Row.{Row}
use Rattle.kinds.specs.declared.rows.line.Saying.{Saying}
use Rattle.kinds.specs.declared.rows.line.Saying.TheVariants.{Nothing, Flags, Value}
use Rattle.kinds.specs.Rows.Blocks.{Block, noted, entries_after, rows_in, entries_in}
use Rattle.kinds.specs.Rows.Entries.{bytes_of_key, same, entry_number}
use Rattle.kinds.specs.Rows.Latest.{given, held_in, last_amount, latest, LatestStand}
use Rattle.kinds.specs.Rows.Lines.{saying_of}
use Rattle.kinds.proofs.RowLemmas.AttributesGiven.{attribute, within, said_gives, AllSaid, BlocksSaid}

-- keys compared the other way round
turned : (a b : List ℕ) → bytes_eq a b ≡ bytes_eq b a
turned a b = same_from_decides (bytes_eq a b) (bytes_eq b a) (bytes_eq-Decides a b) (λ e. sym ((bytes_eq-Decides b a).0 e), λ e. (bytes_eq-Decides b a).1 (sym e))

-- an attribute takes the place of the one with its key, or comes behind
abbrev put : Attribute → List Attribute → List Attribute
put q [] = q ∷ []
put q (x ∷ xs) = cond (bytes_eq x.key q.key) (q ∷ xs) (x ∷ put q xs)

put_here : (q x : Attribute) (xs : List Attribute) → bytes_eq x.key q.key ≡ true → put q (x ∷ xs) ≡ q ∷ xs
put_here q x xs h = rw h refl

put_behind : (q x : Attribute) (xs : List Attribute) → bytes_eq x.key q.key ≡ false → put q (x ∷ xs) ≡ x ∷ put q xs
put_behind q x xs h = rw h refl

-- the attributes of other keys
abbrev without : List ℕ → List Attribute → List Attribute
without key ps = filter (λ q. not (bytes_eq key q.key)) ps

left_out : (key : List ℕ) (x : Attribute) (xs : List Attribute) → bytes_eq key x.key ≡ true → without key (x ∷ xs) ≡ without key xs
left_out key x xs h = rw h refl

left_in : (key : List ℕ) (x : Attribute) (xs : List Attribute) → bytes_eq key x.key ≡ false → without key (x ∷ xs) ≡ x ∷ without key xs
left_in key x xs h = rw h refl

put_same : (key : List ℕ) (q : Attribute) (ps : List Attribute) → bytes_eq key q.key ≡ true → without key (put q ps) ≡ without key ps
put_same key q [] h = left_out key q [] h
put_same key q (x ∷ xs) h = elim (cases_Bool (bytes_eq x.key q.key)) [
  | inl c ↦
      let e : bytes_eq key x.key ≡ true = ap (λ (k : List ℕ). bytes_eq key k) ((bytes_eq-Decides x.key q.key).0 c) ∙ h in
      ap (without key) (put_here q x xs c) ∙ left_out key q xs h ∙ sym (left_out key x xs e)
  | inr c ↦ ap (without key) (put_behind q x xs c) ∙ elim (cases_Bool (bytes_eq key x.key)) [
    | inl d ↦ left_out key x (put q xs) d ∙ put_same key q xs h ∙ sym (left_out key x xs d)
    | inr d ↦ left_in key x (put q xs) d ∙ ap (λ (l : List Attribute). x ∷ l) (put_same key q xs h) ∙ sym (left_in key x xs d)
  ]
]

put_other : (key : List ℕ) (q : Attribute) (ps : List Attribute) → bytes_eq key q.key ≡ false → without key (put q ps) ≡ put q (without key ps)
put_other key q [] h = left_in key q [] h
put_other key q (x ∷ xs) h = elim (cases_Bool (bytes_eq x.key q.key)) [
  | inl c ↦
      let e : bytes_eq key x.key ≡ false = ap (λ (k : List ℕ). bytes_eq key k) ((bytes_eq-Decides x.key q.key).0 c) ∙ h in
      ap (without key) (put_here q x xs c) ∙ left_in key q xs h ∙ sym (put_here q x (without key xs) c) ∙ sym (ap (put q) (left_in key x xs e))
  | inr c ↦ ap (without key) (put_behind q x xs c) ∙ elim (cases_Bool (bytes_eq key x.key)) [
    | inl d ↦ left_out key x (put q xs) d ∙ put_other key q xs h ∙ sym (ap (put q) (left_out key x xs d))
    | inr d ↦
        left_in key x (put q xs) d ∙ ap (λ (l : List Attribute). x ∷ l) (put_other key q xs h) ∙ sym (put_behind q x (without key xs) c)
        ∙ sym (ap (put q) (left_in key x xs d))
  ]
]

-- one more attribute
last_more : (key : List ℕ) (amount : ℕ) (ps : List Attribute) (q : Attribute) → last_amount key amount (ps ++ (q ∷ [])) ≡ cond (bytes_eq q.key key) q.amount (last_amount key amount ps)
unfolding last_amount
last_more key amount [] q = refl
last_more key amount (p ∷ ps) q = last_more key (cond (bytes_eq p.key key) p.amount amount) ps q

latest_more : (ps : List Attribute) (q : Attribute) → latest (ps ++ (q ∷ [])) ≡ put q (latest ps)
unfolding latest last_amount
latest_more [] q = refl
latest_more (p ∷ ps) q =
    let v = last_more p.key p.amount ps q in
    let first : latest ((p ∷ ps) ++ (q ∷ [])) ≡ attribute p.key (cond (bytes_eq q.key p.key) q.amount (last_amount p.key p.amount ps)) ∷ without p.key (put q (latest ps)) =
    ap (λ (n : ℕ). attribute p.key n ∷ without p.key (latest (ps ++ (q ∷ [])))) v
    ∙ ap (λ (l : List Attribute). attribute p.key (cond (bytes_eq q.key p.key) q.amount (last_amount p.key p.amount ps)) ∷ without p.key l) (latest_more ps q) in
    first ∙ elim (cases_Bool (bytes_eq p.key q.key)) [
      | inl c ↦
          let d : bytes_eq q.key p.key ≡ true = turned q.key p.key ∙ c in
          ap (λ (b : Bool). attribute p.key (cond b q.amount (last_amount p.key p.amount ps)) ∷ without p.key (put q (latest ps))) d
          ∙ ap (λ (k : List ℕ). attribute k q.amount ∷ without p.key (put q (latest ps))) ((bytes_eq-Decides p.key q.key).0 c)
          ∙ ap (λ (l : List Attribute). q ∷ l) (put_same p.key q (latest ps) c)
          ∙ sym (put_here q (attribute p.key (last_amount p.key p.amount ps)) (without p.key (latest ps)) c)
      | inr c ↦
          let d : bytes_eq q.key p.key ≡ false = turned q.key p.key ∙ c in
          ap (λ (b : Bool). attribute p.key (cond b q.amount (last_amount p.key p.amount ps)) ∷ without p.key (put q (latest ps))) d
          ∙ ap (λ (l : List Attribute). attribute p.key (last_amount p.key p.amount ps) ∷ l) (put_other p.key q (latest ps) c)
          ∙ sym (put_behind q (attribute p.key (last_amount p.key p.amount ps)) (without p.key (latest ps)) c)
    ]

-- the place of a key: here, or further on
place_here : (key : Counted ℕ 32) (x : Entry) (es : List Entry) → same x.key key ≡ true → entry_number key (x ∷ es) ≡ Some 0
place_here key x es h = let l : ltb 0 (length (x ∷ es)) ≡ true = lt-ltb 0 (length (x ∷ es)) (omega arith) in rw (h, l) refl

next_place : (m n : ℕ) → cond (ltb (1 + m) (suc n)) (Some (1 + m)) None ≡ option_map (λ i. suc i) (cond (ltb m n) (Some m) None)
next_place m n = elim (cases_lt m n) [
  | inl h ↦
      let a : ltb m n ≡ true = lt-ltb m n h in
      let b : ltb (1 + m) (suc n) ≡ true = lt-ltb (1 + m) (suc n) (omega arith) in
      let s : 1 + m ≡ suc m = omega arith in
      rw (a, b, s) refl
  | inr h ↦
      let a : ltb m n ≡ false = le-ltb m n h in
      let b : ltb (1 + m) (suc n) ≡ false = le-ltb (1 + m) (suc n) (omega arith) in
      rw (a, b) refl
]

place_behind : (key : Counted ℕ 32) (x : Entry) (es : List Entry) → same x.key key ≡ false → entry_number key (x ∷ es) ≡ option_map (λ i. suc i) (entry_number key es)
place_behind key x es h = rw h (next_place _ (length es))

-- an entry takes the place of its key's, or comes behind
abbrev placed : Entry → List Entry → Option ℕ → List Entry
placed e es o = case_of o (es ++ (e ∷ [])) (λ i. slice_set es i e)

placed_behind : (e x : Entry) (es : List Entry) (o : Option ℕ) → placed e (x ∷ es) (option_map (λ i. suc i) o) ≡ x ∷ placed e es o
placed_behind e x es None = refl
placed_behind e x es (Some i) = refl

placed_put : (e : Entry) (es : List Entry) → map held_in (placed e es (entry_number e.key es)) ≡ put (held_in e) (map held_in es)
placed_put e [] = refl
placed_put e (x ∷ es) = elim (cases_Bool (same x.key e.key)) [
  | inl c ↦ ap (λ (o : Option ℕ). map held_in (placed e (x ∷ es) o)) (place_here e.key x es c) ∙ sym (put_here (held_in e) (held_in x) (map held_in es) c)
  | inr c ↦
      ap (λ (o : Option ℕ). map held_in (placed e (x ∷ es) o)) (place_behind e.key x es c) ∙ ap (map held_in) (placed_behind e x es (entry_number e.key es))
      ∙ ap (λ (l : List Attribute). held_in x ∷ l) (placed_put e es)
      ∙ sym (put_behind (held_in e) (held_in x) (map held_in es) c)
]

-- one line, and all lines of a mapping
noted_latest : (s : Saying) (es : List Entry) (ps : List Attribute) → map held_in es ≡ latest ps → map held_in (noted es (Ok s)) ≡ latest (ps ++ cons_option (within s) [])
noted_latest Nothing es ps h = h ∙ ap latest (sym (append-nil ps))
noted_latest (Flags bits) es ps h = h ∙ ap latest (sym (append-nil ps))
noted_latest (Value e) es ps h = placed_put e es ∙ ap (put (held_in e)) h ∙ sym (latest_more ps (held_in e))

one_more : (ps : List Attribute) (o : Option Attribute) (qs : List Attribute) → (ps ++ cons_option o []) ++ qs ≡ ps ++ cons_option o qs
one_more ps None qs = ap (λ (l : List Attribute). l ++ qs) (append-nil ps)
one_more ps (Some q) qs = append_assoc ps (q ∷ []) qs

after_latest : (ls : List (List ℕ)) (es : List Entry) (ps : List Attribute) → AllSaid ls → map held_in es ≡ latest ps → map held_in (entries_after es ls) ≡ latest (ps ++ filter_map given ls)
after_latest [] es ps w h = h ∙ ap latest (sym (append-nil ps))
after_latest (l ∷ ls) es ps w h =
    let s = w.0.0 in
    let said = ap (λ (r : Result Saying Fault). map held_in (noted es r)) w.0.1 in
    let gives = ap (λ (o : Option Attribute). latest (ps ++ cons_option o [])) (sym (said_gives l s w.0.1)) in
    after_latest ls (noted es (saying_of l)) (ps ++ cons_option (given l) []) w.1 (said ∙ noted_latest s es ps h ∙ gives)
    ∙ ap latest (one_more ps (given l) (filter_map given ls))

lines_latest : (ls : List (List ℕ)) → AllSaid ls → map held_in (entries_after [] ls) ≡ latest (filter_map given ls)
unfolding latest
lines_latest ls w = after_latest ls [] [] w refl

-- no key stands twice
abbrev keys : List Attribute → List (List ℕ)
keys ps = map (λ p. p.key) ps

abbrev Other : List ℕ → List (List ℕ) → Type 0
Other key ks = AllByRecursion (λ k. bytes_eq key k ≡ false) ks

others : (key : List ℕ) (ps : List Attribute) → Other key (keys (without key ps))
others key [] = tt
others key (x ∷ xs) = elim (cases_Bool (bytes_eq key x.key)) [
  | inl d ↦ rw (left_out key x xs d) (others key xs)
  | inr d ↦ rw (left_in key x xs d) (d, others key xs)
]

fewer_others : (key k : List ℕ) (ps : List Attribute) → Other k (keys ps) → Other k (keys (without key ps))
fewer_others key k [] h = tt
fewer_others key k (x ∷ xs) h = elim (cases_Bool (bytes_eq key x.key)) [
  | inl d ↦ rw (left_out key x xs d) (fewer_others key k xs h.1)
  | inr d ↦ rw (left_in key x xs d) (h.0, fewer_others key k xs h.1)
]

fewer_once : (key : List ℕ) (ps : List Attribute) → IsDistinct bytes_eq (keys ps) → IsDistinct bytes_eq (keys (without key ps))
unfolding IsDistinct
fewer_once key [] h = tt
fewer_once key (x ∷ xs) h = elim (cases_Bool (bytes_eq key x.key)) [
  | inl d ↦ rw (left_out key x xs d) (fewer_once key xs h.1)
  | inr d ↦ rw (left_in key x xs d) (fewer_others key x.key xs h.0, fewer_once key xs h.1)
]

latest_once : (ps : List Attribute) → IsDistinct bytes_eq (keys (latest ps))
unfolding IsDistinct latest
latest_once [] = tt
latest_once (p ∷ ps) = (others p.key (latest ps), fewer_once p.key (latest ps) (latest_once ps))

keys_held : (es : List Entry) → keys (map held_in es) ≡ map (λ e. bytes_of_key e.key) es
keys_held [] = refl
keys_held (e ∷ es) = ap (λ (l : List (List ℕ)). bytes_of_key e.key ∷ l) (keys_held es)

lines_once : (ls : List (List ℕ)) → AllSaid ls → IsDistinct bytes_eq (map (λ e. bytes_of_key e.key) (entries_after [] ls))
lines_once ls w =
    let k : map (λ e. bytes_of_key e.key) (entries_after [] ls) ≡ keys (latest (filter_map given ls)) = sym (keys_held (entries_after [] ls)) ∙ ap keys (lines_latest ls w) in
    rw k (latest_once (filter_map given ls))

-- each row's entries, behind those of the rows before it
pub latest_stand : (bs : List Block) (front : List Entry) (rows : List Row) (entries : List Entry) → BlocksSaid bs → LatestStand bs (rows_in (length front) bs ++ rows) (front ++ (entries_in bs ++ entries))
unfolding LatestStand rows_in entries_in
latest_stand [] front rows entries w = tt
latest_stand (b ∷ bs) front rows entries w =
    let es = entries_after [] b.lines in
    let ih = latest_stand bs (front ++ es) rows entries w.1 in
    let n = length-append front es in
    let laid : (front ++ es) ++ (entries_in bs ++ entries) ≡ front ++ ((es ++ entries_in bs) ++ entries) =
    append_assoc front es (entries_in bs ++ entries) ∙ ap (λ (l : List Entry). front ++ l) (sym (append_assoc es (entries_in bs) entries)) in
    let own : take (length es) (drop (length front) (front ++ ((es ++ entries_in bs) ++ entries))) ≡ es =
    ap (take (length es)) (drop_at front ((es ++ entries_in bs) ++ entries) (length front) refl ∙ append_assoc es (entries_in bs) entries)
    ∙ take_at es (entries_in bs ++ entries) (length es) refl in
    (rw own (record { each_last = lines_latest b.lines w.0; each_once = lines_once b.lines w.0 }), rw (n, laid) at ih)

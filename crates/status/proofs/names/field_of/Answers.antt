use Rattle.std.proofs.Common.{rules, tests, arith, ◌≡◌, ℕ, Bool, false, List, [], ◌∷◌, map, inl, inr, cond, Some, None, Option, Bor, refl, ap, ◌∙◌, filter}
use Rattle.std.proofs.lemmas.Iterator.{YieldsList-from_slice}
use Rattle.std.proofs.lemmas.Iterator.Search.{find_from_yields_List}
use Rattle.std.proofs.lemmas.Bool.{cases_Bool}
use Rattle.std.proofs.lemmas.Bool.Decides.{nat_tests}
use Rattle.std.specs.List.{find, slice_get}
use Rattle.std.specs.Option.{option_copied, option_map}
use Rattle.std.specs.Slice.Iter.{iter_rest}
use Rattle.std.specs.Str.{bytes_eq}
use Rattle.status.specs.Names.{begins, field_of, named, names, names_with}
use Rattle.status.proofs.names.field_of.Goals as goal

-- a search of a list, and of what f reads in it
find-map : {X Y : Type 0} (f : X → Y) (p : Y → Bool) (xs : List X) → option_map f (find (λ x. p (f x)) xs) ≡ find p (map f xs)
find-map f p [] = refl
find-map f p (x ∷ xs) = grind (arith, find-map f p xs)

-- a search among those of which q holds, where what is searched for is one of them
find-filter : {X : Type 0} (q p : X → Bool) → ((x : X) → q x ≡ false → p x ≡ false) → (xs : List X) → find p (filter q xs) ≡ find p xs
find-filter q p h [] = refl
find-filter q p h (x ∷ xs) = elim (cases_Bool (q x)) [ inl e ↦ rw e (ap (λ o. cond (p x) (Some x) o) (find-filter q p h xs)) | inr e ↦ rw (e, h x e) (find-filter q p h xs) ]

other_first : (b : ℕ) (rest : List ℕ) (own : ℕ × List ℕ) → begins b own ≡ false → bytes_eq own.1 (b ∷ rest) ≡ false
other_first b rest (n, []) h = refl
other_first b rest (n, c ∷ cs) h = grind (arith, nat_tests)

searched : (b : ℕ) (rest : List ℕ) → find (λ own. bytes_eq own.1 (b ∷ rest)) (names_with b) ≡ find (λ own. bytes_eq own.1 (b ∷ rest)) names
unfolding names_with
searched b rest = find-filter (begins b) (λ own. bytes_eq own.1 (b ∷ rest)) (other_first b rest) names

told : (b : ℕ) (rest : List ℕ) → option_map (λ own. own.0) (find (λ own. bytes_eq own.1 (b ∷ rest)) (names_with b)) ≡ field_of (b ∷ rest)
unfolding field_of
told b rest = ap (option_map (λ own. own.0)) (searched b rest)

-- no name is empty
none : None ≡ field_of []
unfolding field_of
none = refl

no_first : (name : List ℕ) (o : Option (Bor ℕ)) → o ≡ None → option_copied o ≡ slice_get name 0 → [] ≡ name
no_first [] o h e = refl
no_first (b ∷ bs) o h e = cc

starting : (b : ℕ) (name : List ℕ) → Some b ≡ slice_get name 0 → option_map (λ own. own.0) (find (λ own. bytes_eq own.1 name) (names_with b)) ≡ field_of name
starting b [] h = cc
starting b (c ∷ rest) h =
    let e : b ≡ c = cc in
    rw e (told c rest)

pub returns-in_err-first : goal.returns-in_err-first
returns-in_err-first c = c.from_residual.ensures ∙ none ∙ ap field_of (no_first c.args.name.now c.first.result c.in_err-first.was (c.first.ensures.value ∙ ap (λ bs. slice_get bs 0) c.as_bytes.ensures.value))

pub returns : goal.returns
returns c =
    let xs = iter_rest c.iter.result in
    let p = λ (own : ℕ × List ℕ). bytes_eq own.1 c.args.name.now in
    let found : option_map (λ x. x.now) c.find.result ≡ find (λ own. p (named own)) xs = find_from_yields_List _ _ _ _ c.find.ensures.ran (YieldsList-from_slice xs cc) (λ x b q k. search (rules, tests)) in
    let mapped : c.map.result ≡ option_map (λ x. x.now.0) c.find.result = search rules in
    let all : c.map.result ≡ option_map (λ own. own.0) (find p (map named xs)) = grind (arith, found, find-map named p xs, mapped) in
    let from : map named xs ≡ names_with c.in_ok-first.field-0.now = ap (map named) c.iter.ensures.rest ∙ c.names_with.ensures in
    all ∙ ap (λ ys. option_map (λ own. own.0) (find p ys)) from ∙ starting c.in_ok-first.field-0.now c.args.name.now (c.in_ok-first.ensures.value ∙ ap (λ bs. slice_get bs 0) c.as_bytes.ensures.value)

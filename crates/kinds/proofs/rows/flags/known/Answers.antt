use Rattle.std.proofs.Common.{rules, tests, arith, ◌≡◌, ℕ, Bool, List, [], ◌∷◌, map, refl, ap, ◌∙◌, Bor}
use Rattle.std.proofs.lemmas.Iterator.{YieldsList-from_slice}
use Rattle.std.proofs.lemmas.Iterator.Search.{find_from_yields_List}
use Rattle.std.specs.List.{find}
use Rattle.std.specs.Option.{option_map}
use Rattle.std.specs.Slice.Iter.{iter_rest}
use Rattle.std.specs.Str.{bytes_eq}
use Rattle.kinds.specs.Rows.Flags.{known}
use Rattle.kinds.proofs.rows.flags.known.Goals as goal

-- a search of a list, and of what f reads in it
find-map : {X Y : Type 0} (f : X → Y) (p : Y → Bool) (xs : List X) → option_map f (find (λ x. p (f x)) xs) ≡ find p (map f xs)
find-map f p [] = refl
find-map f p (x ∷ xs) = grind (arith, find-map f p xs)

-- a number and a borrowed name, by its bytes
abbrev named : ℕ × Bor (List ℕ) → ℕ × List ℕ
named own = (own.0, own.1.now)

pub returns : goal.returns
unfolding known
returns c =
    let xs = iter_rest c.iter.result in
    let p = λ (own : ℕ × List ℕ). bytes_eq own.1 c.args.word.now in
    let searched : option_map (λ x. x.now) c.find.result ≡ find (λ own. p (named own)) xs = find_from_yields_List _ _ _ _ c.find.ensures.ran (YieldsList-from_slice xs cc) (λ x b q k. search (rules, tests)) in
    let mapped : c.map.result ≡ option_map (λ x. x.now.0) c.find.result = search rules in
    let all : c.map.result ≡ option_map (λ own. own.0) (find p (map named xs)) = grind (arith, searched, find-map named p xs, mapped) in
    all ∙ ap (λ ys. option_map (λ own. own.0) (find p (map named ys))) c.iter.ensures.rest

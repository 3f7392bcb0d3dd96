use Rattle.std.proofs.Common.{◌≡◌, ℕ, ◌-◌, List, [], ◌++◌, length, take, drop, ap, ◌∙◌, rules, arith}
use Rattle.std.proofs.lemmas.List.{drop-replicate}
use Rattle.fields.specs.declared.counted.Counted.{Counted}
use Rattle.fields.specs.Counted.{counted, kept_text}
use Rattle.fields.proofs.counted.put_text.Goals as goal

-- an empty list, with its first cells written over
over : {X : Type 0} (n : ℕ) (b : X) (xs : List X) (list : Counted X n) → list ≡ counted n b [] → xs ++ drop (length xs) list.cells ≡ (counted n b xs).cells
over {X} n b xs list e = let z : n - 0 ≡ n = omega arith in rw (e, z, drop-replicate)

pub returns-in-Some-Ok : goal.returns-in-Some-Ok
unfolding kept_text
returns-in-Some-Ok c =
    let k : c.front-kept.result.now ≡ take 4096 c.args.text.now = search rules in
    let e : c.in-Some-Ok.list ≡ c.default.result = search rules in
    let d = c.default.ensures in
    let o = over 4096 0 c.front-kept.result.now c.in-Some-Ok.list (e ∙ d.2 ∙ ap (λ b. counted 4096 b []) d.1) in
    rw (c.copy_from_slice.ensures.after, o, k)

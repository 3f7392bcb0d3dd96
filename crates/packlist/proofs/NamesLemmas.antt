-- One more name.
use Rattle.std.proofs.Common.{◌≡◌, ◌∙◌, ap, ℕ, ◌+◌, cond, List, [], ◌∷◌, ◌++◌, length, Option, Some, None, arith}
use Rattle.std.specs.Str.{bytes_eq}
use Rattle.packlist.specs.Names.{Word, latest_from, latest_of}

latest_from-push : (i : ℕ) (best : Option ℕ) (names : List Word) (n : Word) (q : List ℕ) → latest_from i best (names ++ n ∷ []) q ≡ cond (bytes_eq n.now q) (Some (i + length names)) (latest_from i best names q)
latest_from-push i best [] n q =
    let same : i ≡ i + 0 = omega arith in
    ap (λ k. cond (bytes_eq n.now q) (Some k) best) same
latest_from-push i best (m ∷ names) n q =
    let more : (i + 1) + length names ≡ i + length (m ∷ names) = omega arith in
    latest_from-push (i + 1) (cond (bytes_eq m.now q) (Some i) best) names n q
    ∙ ap (λ k. cond (bytes_eq n.now q) (Some k) (latest_from (i + 1) (cond (bytes_eq m.now q) (Some i) best) names q)) more

pub latest_of-push : (names : List Word) (n : Word) (q : List ℕ) → latest_of (names ++ n ∷ []) q ≡ cond (bytes_eq n.now q) (Some (length names)) (latest_of names q)
latest_of-push names n q =
    let more : 0 + length names ≡ length names = omega arith in
    latest_from-push 0 None names n q ∙ ap (λ k. cond (bytes_eq n.now q) (Some k) (latest_of names q)) more

use Rattle.std.proofs.Common.{◌≡◌, ℕ, ◌+◌, List, length, take, Some, None, Option, ap, ◌∙◌, arith}
use Rattle.sources.specs.Bytes.{through}
use Rattle.sources.specs.Pieces.{case_of}
use Rattle.sources.proofs.Through.{through-found, through-take, through-≤}
use Rattle.sources.proofs.source.reach.Goals.{After-find}
use Rattle.sources.proofs.source.reach.Goals as goal

-- the bytes that are searched
abbrev near : After-find → List ℕ
near c = take c.min.result c.args.bytes.now

found : (c : After-find) (r : Option ℕ) → c.find.result ≡ r → through (near c) ≡ case_of r (length (near c)) (λ i. i + 1)
found c r e = through-found (near c) c.find.result c.find.ensures ∙ ap (λ (o : Option ℕ). case_of o (length (near c)) (λ i. i + 1)) e

pub returns-in-Some : goal.returns-in-Some
returns-in-Some c =
    let k = (goal.at.returns-in-Some c).After-find in
    let t = found k (Some c.in-Some.i) c.in-Some.is in
    omega (arith, t, through-take c.min.result c.args.bytes.now, through-≤ c.args.bytes.now)

pub returns-in-None : goal.returns-in-None
returns-in-None c =
    let k = (goal.at.returns-in-None c).After-find in
    let t = found k None c.in-None.is in
    omega (arith, t, through-take c.min.result c.args.bytes.now, through-≤ c.args.bytes.now)

-- The measure of two texts joined.
use Rattle.std.proofs.Common.{◌≡◌, ℕ, suc, ◌+◌, ◌-◌, true, false, cond, eqb, List, [], ◌∷◌, ◌++◌, length, Ok, sym, refl, ap, ◌∙◌, arith, length-append}
use Rattle.sources.specs.Texts.{text}
use Rattle.sources.specs.Lines.{lines_of, text_of, ahead, ended, reading}
use Rattle.sources.proofs.Split.{text_lines, lines_cons}
use Rattle.kinds.specs.declared.sort.Key.{Key}
use Rattle.kinds.specs.declared.sort.Key.TheVariants.{Rss, Pss, SwapPss}
use Rattle.kinds.specs.declared.measure.Closed.{Closed}
use Rattle.kinds.specs.Sorts.{sort_of}
use Rattle.kinds.specs.Measure.{measure_rules, fresh}
use Rattle.kinds.specs.Sums.{opens, body, mappings_of, sum_over, total, figure, orderly, starts, measure_of_lines, Keeps, both, whole}
use Rattle.kinds.proofs.Measures.{reading-measures, closed_is, good-parts}
use Rattle.kinds.proofs.Steps.{by_key}

ended-tail : (x y : ℕ) (ys : List ℕ) → ended (x ∷ y ∷ ys) ≡ ended (y ∷ ys)
ended-tail x y ys =
    let p : suc (suc (length ys)) - 1 ≡ suc (length ys) = omega arith in
    let q : suc (length ys) - 1 ≡ length ys = omega arith in
    rw (p, q)

-- a text that ends in byte 10, and one after it
pub lines_join : (t u : List ℕ) → whole t ≡ true → lines_of (t ++ u) ≡ lines_of t ++ lines_of u
unfolding lines_of
lines_join [] u e = refl
lines_join (x ∷ []) u e = rw e
lines_join (x ∷ y ∷ ys) u e =
    let ih : lines_of ((y ∷ ys) ++ u) ≡ lines_of (y ∷ ys) ++ lines_of u = lines_join (y ∷ ys) u (sym (ended-tail x y ys) ∙ e) in
    let a : ahead x (lines_of ((y ∷ ys) ++ u)) ≡ ahead x (lines_of (y ∷ ys)) ++ lines_of u = rw (ih, lines_cons y ys) in
    elim (eqb x 10)
    as (λ b. cond b ((x ∷ []) ∷ lines_of ((y ∷ ys) ++ u)) (ahead x (lines_of ((y ∷ ys) ++ u))) ≡ cond b ((x ∷ []) ∷ lines_of (y ∷ ys)) (ahead x (lines_of (y ∷ ys))) ++ lines_of u)
    [ true ↦ rw ih | false ↦ a ]

body-starts : (ms : List (List ℕ)) → starts ms ≡ true → body ms ≡ []
unfolding body
body-starts [] e = refl
body-starts (b ∷ ms) e = rw e

body-join : (ls ms : List (List ℕ)) → starts ms ≡ true → body (ls ++ ms) ≡ body ls
unfolding body
body-join [] ms e = body-starts ms e
body-join (l ∷ ls) ms e = rw (body-join ls ms e)

mappings_join : (ls ms : List (List ℕ)) → starts ms ≡ true → mappings_of (ls ++ ms) ≡ mappings_of ls ++ mappings_of ms
unfolding mappings_of
mappings_join [] ms e = refl
mappings_join (l ∷ ls) ms e =
    rw (mappings_join ls ms e, body-join ls ms e)
    (elim (opens (sort_of l)) as (λ b. cond b (body ls ∷ (mappings_of ls ++ mappings_of ms)) (mappings_of ls ++ mappings_of ms) ≡ cond b (body ls ∷ mappings_of ls) (mappings_of ls) ++ mappings_of ms) [ true ↦ refl | false ↦ refl ])

sum_join : (k : Key) (a b : List (List (List ℕ))) → sum_over k (a ++ b) ≡ sum_over k a + sum_over k b
unfolding sum_over
sum_join k [] b = omega arith
sum_join k (g ∷ a) b = omega (arith, sum_join k a b)

pub total-join : (k : Key) (ls ms : List (List ℕ)) → starts ms ≡ true → total k (ls ++ ms) ≡ total k ls + total k ms
total-join k ls ms e = rw (mappings_join ls ms e) (sum_join k (mappings_of ls) (mappings_of ms))

orderly-join : (ls ms : List (List ℕ)) → orderly ls ≡ true → orderly (ls ++ ms) ≡ orderly ms
unfolding orderly
orderly-join [] ms e = refl
orderly-join (l ∷ ls) ms e = let g = good-parts l ls e in rw (g.short, g.text, g.fine) (orderly-join ls ms g.later)

starts-join : (ls ms : List (List ℕ)) → starts ls ≡ true → starts ms ≡ true → starts (ls ++ ms) ≡ true
starts-join [] ms a b = b
starts-join (l ∷ ls) ms a b = a

closed_join : (ls ms : List (List ℕ)) → starts ms ≡ true → measure_of_lines (ls ++ ms) ≡ both (measure_of_lines ls) (measure_of_lines ms)
closed_join ls ms e =
    closed_is (ap length (mappings_join ls ms e) ∙ length-append (mappings_of ls) (mappings_of ms)) (total-join Rss ls ms e) (total-join Pss ls ms e) (total-join SwapPss ls ms e)

pub figure-closed : (k : Key) (ls : List (List ℕ)) (c : Closed) → c ≡ measure_of_lines ls → figure k c.totals ≡ total k ls
figure-closed k ls c e = rw e (by_key (λ k. figure k (measure_of_lines ls).totals ≡ total k ls) refl refl refl k)

-- Where two texts are measured, the first empty or ending in byte 10, their join is measured exactly when that keeps the caps, and then all figures add.
abbrev pub JoinsAdd : Type 0
JoinsAdd = (t u : List ℕ) (c d : Closed) → whole t ≡ true → (reading measure_rules fresh (text t false)).0 ≡ Ok c → (reading measure_rules fresh (text u false)).0 ≡ Ok d →
    ((e : Closed) → (reading measure_rules fresh (text (t ++ u) false)).0 ≡ Ok e → Keeps t u c d × (e ≡ both c d)) × (Keeps t u c d → (reading measure_rules fresh (text (t ++ u) false)).0 ≡ Ok (both c d))

pub joins_add : JoinsAdd
joins_add t u c d w e f =
    let T = lines_of t in
    let U = lines_of u in
    let g = ((reading-measures (text t false) c).0 e).1 in
    let h = ((reading-measures (text u false) d).0 f).1 in
    let s = h.begins in
    let j = lines_join t u w in
    let z : length (text_of (lines_of (t ++ u))) ≡ length t + length u = ap length (text_lines (t ++ u)) ∙ length-append t u in
    let a : (k : Key) → total k (lines_of (t ++ u)) ≡ figure k c.totals + figure k d.totals =
    λ k. rw j (omega (arith, total-join k T U s, figure-closed k T c g.is, figure-closed k U d h.is)) in
    let b : measure_of_lines (lines_of (t ++ u)) ≡ both c d = rw (j, g.is, h.is) (closed_join T U s) in (
      λ x y. let m = ((reading-measures (text (t ++ u) false) x).0 y).1 in
          (record { fits = omega (arith, m.fits, z); light = λ k. omega (arith, m.light k, a k) }, m.is ∙ b),
      λ y. (reading-measures (text (t ++ u) false) (both c d)).1 (
        refl,
        record { begins = ap starts j ∙ starts-join T U g.begins s; good = ap orderly j ∙ orderly-join T U g.good ∙ h.good; fits = omega (arith, y.fits, z); light = λ k. omega (arith, y.light k, a k); is = sym b },
      ),
    )

-- Which texts are measured, and as what.
use Rattle.std.proofs.Common.{◌≡◌, ℕ, ◌+◌, ◌≤◌, Bool, true, false, List, [], ◌∷◌, length, None, Ok, Err, Result, sym, refl, ap, ◌∙◌, arith}
use Rattle.std.proofs.lemmas.Bool.{and_parts, not-true}
use Rattle.sources.proofs.Newer.{text_cons, text_over}
use Rattle.sources.specs.declared.fault.Fault.{Fault}
use Rattle.sources.specs.declared.kind.Break.TheVariants.{Refuses}
use Rattle.sources.specs.Texts.{Text}
use Rattle.sources.specs.Lines.{lines_of, text_of, long, walk, at_end, course, leaves, reading, max_line, max_text}
use Rattle.sources.specs.Faults.{at_line, and_then}
use Rattle.sources.specs.Utf8.{is_utf8}
use Rattle.kinds.specs.declared.sort.Key.{Key}
use Rattle.kinds.specs.declared.sort.Key.TheVariants.{Rss, Pss, SwapPss}
use Rattle.kinds.specs.declared.sort.Sort.{Sort}
use Rattle.kinds.specs.declared.sort.Sort.TheVariants.{Mapping, Attribute}
use Rattle.kinds.specs.declared.measure.Figures.{Figures}
use Rattle.kinds.specs.declared.measure.Closed.{Closed}
use Rattle.kinds.specs.declared.measure.Tally.{Tally}
use Rattle.kinds.specs.declared.measure.State.{State}
use Rattle.kinds.specs.declared.measure.State.TheVariants.{NoMapping, InMapping}
use Rattle.kinds.specs.Sorts.{sort_of}
use Rattle.kinds.specs.Measure.{no_figures, first, closed_with, next, fault_of, rules_at, max_total, measure_rules, fresh}
use Rattle.kinds.specs.Sums.{opens, sound, mappings_of, sum_over, total, figure, orderly, measure_of_lines, Measured, Measures}
use Rattle.sources.proofs.Walks.{ends, judged-ok, judged-on}
use Rattle.kinds.proofs.Steps.{rest, plus, total-opens, count_opens, rest_over, count_over, figure-none, sum_some, sum_fits, Stepped, step_sound, step_fine, some_byte}

total-over : (k : Key) → total k [] ≡ 0
unfolding mappings_of sum_over
total-over k = refl

closed_over : measure_of_lines [] ≡ record { mappings = 0; totals = no_figures }
unfolding mappings_of sum_over
closed_over = refl

-- the parts of a good line
pub record Good (l : List ℕ) (ls : List (List ℕ)) : Type 0 where
  pub short : long max_line l ≡ false
  pub text : is_utf8 l ≡ true
  pub fine : sound (sort_of l) ≡ true
  pub later : orderly ls ≡ true

pub good-parts : (l : List ℕ) (ls : List (List ℕ)) → orderly (l ∷ ls) ≡ true → Good l ls
unfolding orderly
good-parts l ls e =
    let p = and_parts _ (orderly ls) e in
    let q = and_parts _ (sound (sort_of l)) p.0 in
    let r = and_parts _ (is_utf8 l) q.0 in
    record { short = not-true _ r.0; text = r.1; fine = q.1; later = p.1 }

pub good-all : (l : List ℕ) (ls : List (List ℕ)) → Good l ls → orderly (l ∷ ls) ≡ true
unfolding orderly
good-all l ls g = rw (g.short, g.text, g.fine, g.later)

-- what a measure comes to from the tally of a mapping that is open
abbrev reached : Tally → List (List ℕ) → Closed
reached t ls = record {
  mappings = t.mappings + length (mappings_of ls);
  totals = record { rss = t.totals.rss + rest Rss t.last.rss ls; pss = t.totals.pss + rest Pss t.last.pss ls; swap_pss = t.totals.swap_pss + rest SwapPss t.last.swap_pss ls };
}

pub closed_is : {a r p s a' r' p' s' : ℕ} → a ≡ a' → r ≡ r' → p ≡ p' → s ≡ s' →
    ◌≡◌ {A = Closed} (record { mappings = a; totals = record { rss = r; pss = p; swap_pss = s } }) (record { mappings = a'; totals = record { rss = r'; pss = p'; swap_pss = s' } })
closed_is {a} {r} {p} {s} {a'} {r'} {p'} {s'} e f g h = rw (e, f, g, h)

record Went (cap most s : ℕ) (t : Tally) (ls : List (List ℕ)) (c : Closed) : Type 0 where
  good : orderly ls ≡ true
  fits : s + length (text_of ls) ≤ most
  light : (k : Key) → figure k t.totals + rest k (figure k t.last) ls ≤ cap
  is : c ≡ reached t ls

reached-step : (l : List ℕ) (ls : List (List ℕ)) (t : Tally) (m : State) (s : Stepped l t m) → reached s.to ls ≡ reached t (l ∷ ls)
reached-step l ls t m s = closed_is (s.count ls) (s.sums Rss ls) (s.sums Pss ls) (s.sums SwapPss ls)

reached_over : (t : Tally) → reached t [] ≡ record { mappings = t.mappings; totals = plus t.totals t.last }
reached_over t = closed_is (omega (arith, count_over)) (omega (arith, rest_over Rss t.last.rss)) (omega (arith, rest_over Pss t.last.pss)) (omega (arith, rest_over SwapPss t.last.swap_pss))

shut_ok : (cap most j s : ℕ) (t : Tally) (x : Result Figures Fault) (c : Closed) → closed_with cap t ≡ x → s ≤ most → at_line j (and_then x (λ u. Ok (record { mappings = t.mappings; totals = u }))) ≡ Ok c → Went cap most s t [] c
unfolding orderly
shut_ok cap most j s t (Err g) c q h e = cc
shut_ok cap most j s t (Ok y) c q h e =
    let u = sum_some cap t.totals t.last y q in
    record { good = refl; fits = omega (arith, text_over); light = λ k. omega (arith, u.0 k, rest_over k (figure k t.last)); is = cc (u.1, reached_over t) }

end_ok : (cap most j s : ℕ) (t : Tally) (broken : Bool) (c : Closed) → s ≤ most → ends (rules_at cap) (at_end Refuses broken j, InMapping t, []) ≡ Ok c → (broken ≡ false) × Went cap most s t [] c
end_ok cap most j s t true c h e = cc
end_ok cap most j s t false c h e = (refl, shut_ok cap most j s t (closed_with cap t) c refl h e)

sounds : (cap most j s : ℕ) (t : Tally) (broken : Bool) (ls : List (List ℕ)) (c : Closed) → s ≤ most → t.mappings ≤ s → most ≤ 4294967295 →
    ends (rules_at cap) (walk max_line most (rules_at cap) broken j s (InMapping t) ls) ≡ Ok c → (broken ≡ false) × Went cap most s t ls c
unfolding walk
sounds cap most j s t broken [] c h b w e = end_ok cap most j s t broken c h e
sounds cap most j s t broken (l ∷ ls) c h b w e =
    let q = judged-ok max_line most (rules_at cap) broken j s (InMapping t) l (text_of ls) _ c refl e in
    let p = q.0 in
    let z = step_sound cap l t (sort_of l) refl (omega (arith, p.fits)) p.fine in
    let y = z.0 in
    let i = sounds cap most (j + 1) (s + length l) y.to broken ls c p.fits (omega (arith, y.bound)) w (rw y.goes at q.1) in
    let g = i.1 in (
      i.0,
      record {
        good = good-all l ls (record { short = p.short; text = p.text; fine = z.1; later = g.good });
        fits = omega (arith, g.fits, text_cons l ls);
        light = λ k. omega (arith, g.light k, y.sums k ls);
        is = g.is ∙ reached-step l ls t _ y;
      },
    )

reaches : (cap most j s : ℕ) (t : Tally) (ls : List (List ℕ)) (c : Closed) → t.mappings ≤ s → most ≤ 4294967295 →
    Went cap most s t ls c → ends (rules_at cap) (walk max_line most (rules_at cap) false j s (InMapping t) ls) ≡ Ok c
unfolding walk
reaches cap most j s t [] c b w g =
    rw (sum_fits cap t.totals t.last (λ k. omega (arith, g.light k, rest_over k (figure k t.last)))) (cc (g.is, reached_over t))
reaches cap most j s t (l ∷ ls) c b w g =
    let d = good-parts l ls g.good in
    let u : s + length l ≤ most = omega (arith, g.fits, text_cons l ls) in
    let f = step_fine cap l ls t (sort_of l) refl d.fine g.light in
    let y = (step_sound cap l t (sort_of l) refl (omega arith) f).0 in
    let i = reaches cap most (j + 1) (s + length l) y.to ls c (omega (arith, y.bound)) w
    (record { good = d.later; fits = omega (arith, g.fits, text_cons l ls); light = λ k. omega (arith, g.light k, y.sums k ls); is = g.is ∙ sym (reached-step l ls t _ y) }) in
    rw (judged-on max_line most (rules_at cap) false j s (InMapping t) l (text_of ls) _ (record { short = d.short; fits = u; stands = refl; text = d.text; fine = f }), y.goes) i

-- only a good mapping line is accepted first
first_is : (cap : ℕ) (x : Sort) → fault_of (next cap NoMapping x) ≡ None → x ≡ Mapping (Ok tt)
first_is cap (Mapping (Ok u)) f = refl
first_is cap (Mapping (Err g)) f = cc
first_is cap (Attribute a) f = cc

first_of : (x : Sort) → opens x ≡ true → sound x ≡ true → x ≡ Mapping (Ok tt)
first_of (Mapping (Ok u)) a b = refl
first_of (Mapping (Err g)) a b = cc
first_of (Attribute r) a b = cc

over_ok : (cap most : ℕ) (broken : Bool) (c : Closed) → ends (rules_at cap) (at_end Refuses broken 0, NoMapping, []) ≡ Ok c → (broken ≡ false) × Measured cap most [] c
unfolding orderly
over_ok cap most true c e = cc
over_ok cap most false c e = (refl, record { begins = refl; good = refl; fits = omega (arith, text_over); light = λ k. omega (arith, total-over k); is = cc closed_over })

first_sum : (k : Key) (l : List ℕ) (ls : List (List ℕ)) → opens (sort_of l) ≡ true → figure k no_figures + rest k (figure k no_figures) ls ≡ total k (l ∷ ls)
first_sum k l ls e = rw (figure-none k) (omega (arith, total-opens k l ls e))

first_closed : (l : List ℕ) (ls : List (List ℕ)) → opens (sort_of l) ≡ true → reached first ls ≡ measure_of_lines (l ∷ ls)
first_closed l ls e = closed_is (sym (count_opens l ls e)) (first_sum Rss l ls e) (first_sum Pss l ls e) (first_sum SwapPss l ls e)

pub measured : (cap most : ℕ) (broken : Bool) (ls : List (List ℕ)) (c : Closed) → most ≤ 4294967295 →
    ends (rules_at cap) (walk max_line most (rules_at cap) broken 0 0 NoMapping ls) ≡ Ok c → (broken ≡ false) × Measured cap most ls c
unfolding walk
measured cap most broken [] c w e = over_ok cap most broken c e
measured cap most broken (l ∷ ls) c w e =
    let q = judged-ok max_line most (rules_at cap) broken 0 0 NoMapping l (text_of ls) _ c refl e in
    let p = q.0 in
    let x = first_is cap (sort_of l) p.fine in
    let y : opens (sort_of l) ≡ true = ap opens x in
    let i = sounds cap most 1 (0 + length l) first broken ls c p.fits (omega (arith, some_byte l x)) w (rw x at q.1) in
    let g = i.1 in (
      i.0,
      record {
        begins = y;
        good = good-all l ls (record { short = p.short; text = p.text; fine = ap sound x; later = g.good });
        fits = omega (arith, g.fits, text_cons l ls);
        light = λ k. omega (arith, g.light k, first_sum k l ls y);
        is = g.is ∙ first_closed l ls y;
      },
    )

pub measures : (cap most : ℕ) (ls : List (List ℕ)) (c : Closed) → most ≤ 4294967295 → Measured cap most ls c → ends (rules_at cap) (walk max_line most (rules_at cap) false 0 0 NoMapping ls) ≡ Ok c
unfolding walk
measures cap most [] c w g = cc (g.is, closed_over)
measures cap most (l ∷ ls) c w g =
    let d = good-parts l ls g.good in
    let x = first_of (sort_of l) g.begins d.fine in
    let f : fault_of (next cap NoMapping (sort_of l)) ≡ None = rw x in
    let y = g.begins in
    let i = reaches cap most 1 (0 + length l) first ls c (omega (arith, some_byte l x)) w
    (record { good = d.later; fits = omega (arith, g.fits, text_cons l ls); light = λ k. omega (arith, g.light k, first_sum k l ls y); is = g.is ∙ sym (first_closed l ls y) }) in
    rw (judged-on max_line most (rules_at cap) false 0 0 NoMapping l (text_of ls) _ (record { short = d.short; fits = omega (arith, g.fits, text_cons l ls); stands = refl; text = d.text; fine = f }), x) i

-- a reading is accepted where its text is measured, and nowhere else
pub reading-measures : (t : Text) → Measures t (reading measure_rules fresh t).0
unfolding reading course leaves
reading-measures t c = (
  λ e. measured max_total max_text t.broken (lines_of t.bytes) c (omega arith) e,
  λ g. rw (g.0) (measures max_total max_text (lines_of t.bytes) c (omega arith) g.1),
)

use Rattle.std.proofs.Common.{Some, [], ◌∷◌, inl, inr, arith}
use Rattle.std.proofs.lemmas.Bool.{cases_lt}
use Rattle.sources.specs.Utf8.{is_utf8, trail}
use Rattle.sources.proofs.Utf8.{by_row, by_none, seq_1, row_1, row_2, row_3, row_4, row_5, row_6, row_7, row_8, row_9, no_row_low, no_row_high}
use Rattle.sources.proofs.chars.past_char.Goals.{in_default-via-then-first-lt194, in_default-via-else-first-lt194+else-first-lt224+else-first-lt240+else-first-lt244}
use Rattle.sources.proofs.chars.past_char.Goals as goal

pub returns-in-0-to-127-clause-formed : goal.returns-in-0-to-127-clause-formed
returns-in-0-to-127-clause-formed c = seq_1 c.args.first c.args.rest.now (row_1 c.args.first (omega arith))

pub returns-in-194-to-223-clause-formed : goal.returns-in-194-to-223-clause-formed
returns-in-194-to-223-clause-formed c = by_row c.args.first c.args.rest.now (Some (trail ∷ [])) c.past.result (λ s. is_utf8 s.now) (row_2 c.args.first (omega arith) (omega arith)) (c.past.ensures.wanted [])

pub returns-in-224-clause-formed : goal.returns-in-224-clause-formed
returns-in-224-clause-formed c = by_row c.args.first c.args.rest.now (Some ((0xA0, 0xBF) ∷ trail ∷ [])) c.past_two.result (λ s. is_utf8 s.now) (row_3 c.args.first c.in-224.is) c.past_two.ensures.wanted

pub returns-in-237-clause-formed : goal.returns-in-237-clause-formed
returns-in-237-clause-formed c = by_row c.args.first c.args.rest.now (Some ((0x80, 0x9F) ∷ trail ∷ [])) c.past_two-in-237.result (λ s. is_utf8 s.now) (row_5 c.args.first c.in-237.is) c.past_two-in-237.ensures.wanted

pub returns-in-225-to-236-clause-formed : goal.returns-in-225-to-236-clause-formed
returns-in-225-to-236-clause-formed c = by_row c.args.first c.args.rest.now (Some (trail ∷ trail ∷ [])) c.past_two-in-225-to-236.result (λ s. is_utf8 s.now)
    (elim (cases_lt c.args.first 237) [ inl h ↦ row_4 c.args.first (omega arith) (omega arith) | inr h ↦ row_6 c.args.first (omega arith) (omega arith) ])
    c.past_two-in-225-to-236.ensures.wanted

pub returns-in-240-clause-formed : goal.returns-in-240-clause-formed
returns-in-240-clause-formed c = by_row c.args.first c.args.rest.now (Some ((0x90, 0xBF) ∷ trail ∷ trail ∷ [])) c.past_three.result (λ s. is_utf8 s.now) (row_7 c.args.first c.in-240.is) c.past_three.ensures.wanted

pub returns-in-241-to-243-clause-formed : goal.returns-in-241-to-243-clause-formed
returns-in-241-to-243-clause-formed c = by_row c.args.first c.args.rest.now (Some (trail ∷ trail ∷ trail ∷ [])) c.past_three-in-241-to-243.result (λ s. is_utf8 s.now) (row_8 c.args.first (omega arith) (omega arith)) c.past_three-in-241-to-243.ensures.wanted

pub returns-in-244-clause-formed : goal.returns-in-244-clause-formed
returns-in-244-clause-formed c = by_row c.args.first c.args.rest.now (Some ((0x80, 0x8F) ∷ trail ∷ trail ∷ [])) c.past_three-in-244.result (λ s. is_utf8 s.now) (row_9 c.args.first c.in-244.is) c.past_three-in-244.ensures.wanted

pub returns-in_default-clause-formed : goal.returns-in_default-clause-formed
returns-in_default-clause-formed c = elim c.in_default.branch [
  | in_default-via-then-first-lt194 w ↦ by_none c.args.first c.args.rest.now (no_row_low c.args.first (omega arith) (omega arith))
  | in_default-via-else-first-lt194+else-first-lt224+else-first-lt240+else-first-lt244 w ↦ by_none c.args.first c.args.rest.now (no_row_high c.args.first (omega arith))
]

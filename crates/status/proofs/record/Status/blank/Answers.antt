use Rattle.std.proofs.Common.{rules, ◌≡◌, ℕ, [], ap, ◌∙◌}
use Rattle.fields.specs.declared.counted.Counted.{Counted}
use Rattle.fields.specs.Counted.{counted, kept_text}
use Rattle.status.proofs.Every.{sets_every_field}
use Rattle.status.proofs.record.Status.blank.Goals as goal

-- the default of a list of numbers
empty : {n : ℕ} (l : Counted ℕ n) → (blank : ℕ) × (blank ≡ 0) × (l ≡ counted n blank []) → l ≡ counted n 0 []
empty {n} l h = h.2 ∙ ap (λ b. counted n b []) h.1

-- that of a text, by a lemma, so that the proof below need not look at its 4096 cells
empty-text : (l : Counted ℕ 4096) → (blank : ℕ) × (blank ≡ 0) × (l ≡ counted 4096 blank []) → l ≡ kept_text []
unfolding kept_text
empty-text l h = empty l h

pub returns-clause-blank : goal.returns-clause-blank
returns-clause-blank c =
    let r = c.default.result in
    let name = empty-text r.name (search rules) in
    let state = empty-text r.state (search rules) in
    let groups = empty r.groups (search rules) in
    search (rules, name, state, groups)

pub returns-clause-start : goal.returns-clause-start
returns-clause-start c = sets_every_field

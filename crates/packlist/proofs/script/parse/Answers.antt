use Rattle.std.proofs.Common.{rules, tests, ◌≡◌, ◌∙◌, ap, refl, map, ◌<◌, ◌==◌, ◌⊎◌, inl, inr, false, length, take, get_or, Some, None}
use Rattle.std.specs.List.{slice_split}
use Rattle.std.proofs.lemmas.Iterator.Consumers.{YieldsList-so_far, YieldsList-turn, YieldsList-end}
use Rattle.std.proofs.lemmas.Iterator.Splits.{YieldsList-from_slice_split}
use Rattle.sources.specs.Pieces.{bytes_of}
use Rattle.packlist.specs.Script.{lines_in, limit_by, next, read_by, with_line, words_of}
use Rattle.packlist.proofs.Reading.{faulted, refused, turn, wrong}
use Rattle.sources.specs.Utf8.{is_utf8}
use Rattle.packlist.specs.declared.mistake.Mistake.TheVariants as mistake
use Rattle.packlist.proofs.script.parse.Goals as goal

pub loop-line-preserved : goal.loop-line-preserved
loop-line-preserved c =
    let counted : c.saturating_add-number.result ≡ next c.loop-line.number = search rules in
    let words : map bytes_of c.in_ok-words.words.items ≡ words_of c.in-Some.line.now = search rules in
    let added : with_line c.saturating_add-number.result c.in_ok-words.words.items (read_by c.loop-line.draft) ≡ Some (read_by c.put.new.self) = search rules in
    turn c.loop-line.yielded _ c.in-Some.line c.loop-line.draft c.put.new.self c.loop-line.number _ c.in_ok-words.words.items refl counted c.loop-line.invariant words added

pub returns-in-Some-limit : goal.returns-in-Some-limit
returns-in-Some-limit c =
    let read = c.loop-line.invariant in
    let lines : map bytes_of c.loop-line.yielded ≡ slice_split (λ b. b == 10) c.args.text.now =
    (YieldsList-end (YieldsList-from_slice_split _ (λ b. b == 10) c.args.text.now (search rules) (search rules) (search rules) (λ x b q k. search (rules, tests))) c.loop-line.yielded c.loop-line.line-iterator c.loop-line.yielded_by c.next.result c.next.new.self c.in-None.is c.next.ensures.steps).0
    in
    (read.0, read_by c.loop-line.draft, read.1 ∙ ap (map words_of) lines, read.2, ap limit_by c.in-Some-limit.is, refl)

pub returns-in_err-words : goal.returns-in_err-words
returns-in_err-words c =
    let counted : c.saturating_add-number.result ≡ next c.loop-line.number = search rules in
    let before : map bytes_of c.loop-line.yielded ≡ take (length c.loop-line.yielded) (lines_in c.args.text.now) = YieldsList-so_far (YieldsList-from_slice_split _ (λ b. b == 10) c.args.text.now (search rules) (search rules) (search rules) (λ x b q k. search (rules, tests))) c.loop-line.yielded c.loop-line.line-iterator c.loop-line.yielded_by in
    let place : (length c.loop-line.yielded < length (lines_in c.args.text.now)) × (c.in-Some.line.now ≡ get_or (lines_in c.args.text.now) (length c.loop-line.yielded) c.in-Some.line.now) =
    YieldsList-turn (YieldsList-from_slice_split _ (λ b. b == 10) c.args.text.now (search rules) (search rules) (search rules) (λ x b q k. search (rules, tests))) c.loop-line.yielded c.loop-line.line-iterator c.loop-line.yielded_by c.next.result c.next.new.self c.in-Some.line c.in-Some.is c.next.ensures.steps
    in
    let f = c.in_err-words.field-0.0 in
    let bad : (f.mistake ≡ mistake.Memory) ⊎ ((f.mistake ≡ mistake.Utf8) × (is_utf8 c.in-Some.line.now ≡ false)) = search rules in
    refused c.args.text.now c.from_residual.result f (search rules)
    (faulted c.args.text.now f c.saturating_add-number.result ((f.mistake ≡ mistake.Utf8) × (is_utf8 c.in-Some.line.now ≡ false)) (search rules) bad
    (λ b. wrong c.args.text.now c.loop-line.yielded c.in-Some.line c.loop-line.draft c.loop-line.number c.saturating_add-number.result before place.0 place.1 counted c.loop-line.invariant (inl b.1)))

pub returns-in_err-at_line : goal.returns-in_err-at_line
returns-in_err-at_line c =
    let counted : c.saturating_add-number.result ≡ next c.loop-line.number = search rules in
    let before : map bytes_of c.loop-line.yielded ≡ take (length c.loop-line.yielded) (lines_in c.args.text.now) = YieldsList-so_far (YieldsList-from_slice_split _ (λ b. b == 10) c.args.text.now (search rules) (search rules) (search rules) (λ x b q k. search (rules, tests))) c.loop-line.yielded c.loop-line.line-iterator c.loop-line.yielded_by in
    let place : (length c.loop-line.yielded < length (lines_in c.args.text.now)) × (c.in-Some.line.now ≡ get_or (lines_in c.args.text.now) (length c.loop-line.yielded) c.in-Some.line.now) =
    YieldsList-turn (YieldsList-from_slice_split _ (λ b. b == 10) c.args.text.now (search rules) (search rules) (search rules) (λ x b q k. search (rules, tests))) c.loop-line.yielded c.loop-line.line-iterator c.loop-line.yielded_by c.next.result c.next.new.self c.in-Some.line c.in-Some.is c.next.ensures.steps
    in
    let f = c.in_err-at_line.field-0.0 in
    let bad : (f.mistake ≡ mistake.Memory) ⊎ (with_line c.saturating_add-number.result c.in_ok-words.words.items (read_by c.loop-line.draft) ≡ None) = search rules in
    refused c.args.text.now c.from_residual-in_err-at_line.result f (search rules)
    (faulted c.args.text.now f c.saturating_add-number.result (with_line c.saturating_add-number.result c.in_ok-words.words.items (read_by c.loop-line.draft) ≡ None) (search rules) bad
    (λ b. wrong c.args.text.now c.loop-line.yielded c.in-Some.line c.loop-line.draft c.loop-line.number c.saturating_add-number.result before place.0 place.1 counted c.loop-line.invariant (inr (c.in_ok-words.words.items, search rules, b))))

pub returns : goal.returns
returns c =
    let read = c.loop-line.invariant in
    let lines : map bytes_of c.loop-line.yielded ≡ lines_in c.args.text.now =
    (YieldsList-end (YieldsList-from_slice_split _ (λ b. b == 10) c.args.text.now (search rules) (search rules) (search rules) (λ x b q k. search (rules, tests))) c.loop-line.yielded c.loop-line.line-iterator c.loop-line.yielded_by c.next.result c.next.new.self c.in-None.is c.next.ensures.steps).0
    in
    inr (inr (refl, refl, (read.0, read_by c.loop-line.draft, read.1 ∙ ap (map words_of) lines, read.2, ap limit_by c.in-None-limit.is)))

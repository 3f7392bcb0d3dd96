use Rattle.std.proofs.Common.{rules, ◌≡◌, ℕ, ◌+◌, List, None, take, drop, sym, ap, subst, ◌∙◌, arith}
use Rattle.std.specs.Option.{option_map}
use Rattle.std.proofs.lemmas.Str.{IsCharBoundary-after_ascii}
use Rattle.memchr.specs.Find.{IsFirstByte, is_byte}
use Rattle.sources.specs.Pieces.{bytes_of_2}
use Rattle.sources.proofs.Cuts.{cut_found, cut_ascii, found_byte}
use Rattle.sources.proofs.pieces.split_once.Goals.{After-find}
use Rattle.sources.proofs.pieces.split_once.Goals as goal

searched : (c : After-find) → IsFirstByte (is_byte c.args.at) c.args.text.now c.find.result
searched c = subst (λ (bs : List ℕ). IsFirstByte (is_byte c.args.at) bs c.find.result) c.as_bytes.ensures.value c.find.ensures

pub returns-in_err-i : goal.returns-in_err-i
returns-in_err-i c =
    let k = (goal.at.returns-in_err-i c).After-find in
    let nothing : c.from_residual.result ≡ None = search rules in
    let missed : c.find.result ≡ None = search rules in
    ap (option_map bytes_of_2) nothing
    ∙ sym (cut_ascii c.args.at c.args.text.now (omega arith) ∙ cut_found c.args.at c.args.text.now c.find.result (searched k) ∙ ap (option_map (λ (i : ℕ). (take i c.args.text.now, drop (i + 1) c.args.text.now))) missed)

pub range_from-requires : goal.range_from-requires
range_from-requires c h =
    let k = (goal.at.range_from-requires c).After-find in
    let byte = found_byte c.args.at c.args.text.now c.find.result c.in_ok-i.i (searched k) c.in_ok-i.was (omega arith) in
    IsCharBoundary-after_ascii c.args.text.now c.in_ok-i.i c.utf8.text byte.0 byte.1

pub returns : goal.returns
returns c =
    let k = (goal.at.returns c).After-find in
    let front : c.range.result.now ≡ take c.in_ok-i.i c.args.text.now = c.range.ensures.value ∙ ap (λ (n : ℕ). take n c.args.text.now) (omega arith) in
    rw (front, c.range_from.ensures.value)
    (sym (cut_ascii c.args.at c.args.text.now (omega arith) ∙ cut_found c.args.at c.args.text.now c.find.result (searched k) ∙ ap (option_map (λ (i : ℕ). (take i c.args.text.now, drop (i + 1) c.args.text.now))) c.in_ok-i.was))

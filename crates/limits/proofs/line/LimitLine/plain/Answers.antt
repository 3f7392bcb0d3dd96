use Rattle.std.proofs.Common.{◌≡◌, ◌+◌, ◌<◌, ◌++◌, [], ◌∷◌, IsUtf8, slice_index_or, refl, Some, drop, length, sym, ap, ◌∙◌, subst, rules}
use Rattle.std.specs.Str.Iter.{split_whitespace_rest}
use Rattle.std.proofs.lemmas.Iterator.Consumers.{count_from_yields_List}
use Rattle.std.specs.Option.{option_map}
use Rattle.sources.specs.Pieces.{bytes_of}
use Rattle.sources.specs.White.{nth, white_words}
use Rattle.sources.proofs.Spaced.{words_next, yields_words}
use Rattle.limits.specs.Entries.{words_behind}
use Rattle.limits.specs.Names.{names}
use Rattle.limits.proofs.Plain.{plain_entry, rest_utf8}
use Rattle.limits.proofs.line.LimitLine.plain.Goals as goal

pub returns : goal.returns
returns c =
    let r = c.split_whitespace-words.ensures.rest in
    let lp : c.in_ok-place.place < 16 = search rules in
    let et : c.args.text.now ≡ slice_index_or names c.in_ok-place.place [] ++ (32 ∷ c.in_ok-place.rest.now) = search rules in
    let u = rest_utf8 c.args.text.now c.in_ok-place.rest.now c.in_ok-place.place c.utf8.text lp et in
    let w1 = words_next _ _ _ (subst IsUtf8 (sym r) u) c.next.ensures.steps in
    let w2 = words_next _ _ _ w1.text c.next-2.ensures.steps in
    let ws = white_words c.in_ok-place.rest.now in
    let a1 : white_words (split_whitespace_rest c.next.new.self) ≡ drop 1 ws = w1.after ∙ ap (λ bs. drop 1 (white_words bs)) r in
    let a2 : white_words (split_whitespace_rest c.next-2.new.self) ≡ drop 1 (drop 1 ws) = w2.after ∙ ap (drop 1) a1 in
    let n : c.count.result ≡ length (drop 1 (drop 1 ws)) = count_from_yields_List _ _ c.count.ensures.ran (yields_words _ _ w2.text refl) ∙ ap length a2 in
    let s : Some c.in_ok-soft.soft.now ≡ nth 0 ws = ap (option_map bytes_of) (sym c.in_ok-soft.was) ∙ w1.value ∙ ap (λ bs. nth 0 (white_words bs)) r in
    let h : Some c.in_ok-hard.hard.now ≡ nth 0 (drop 1 ws) = ap (option_map bytes_of) (sym c.in_ok-hard.was) ∙ w2.value ∙ ap (nth 0) a1 in
    let k : length (drop 1 (drop 1 ws)) + 2 ≡ words_behind c.args.text.now = ap (λ m. m + 2) (sym n) ∙ c.if-count-words_behind.false ∙ c.words_behind.ensures in
    plain_entry c.args.text.now c.in_ok-place.rest.now c.in_ok-place.place _ _ c.utf8.text u lp et s h k

use Rattle.std.proofs.Common.{IsUtf8, sym, subst}
use Rattle.sources.proofs.Spaced.{words_next}
use Rattle.sources.proofs.Worded.{nth_drop}
use Rattle.fields.proofs.value.read_four.Goals as goal

pub returns : goal.returns
returns c =
    let r = c.split_whitespace-words.ensures.rest in
    let w1 = words_next _ _ _ (subst IsUtf8 (sym r) c.utf8.text) c.next.ensures.steps in
    let w2 = words_next _ _ _ w1.text c.next-2.ensures.steps in
    let w3 = words_next _ _ _ w2.text c.next-3.ensures.steps in
    let w4 = words_next _ _ _ w3.text c.next-4.ensures.steps in
    let d1 = w1.after in let d2 = w2.after in let d3 = w3.after in
    let v1 = w1.value in let v2 = w2.value in let v3 = w3.value in let v4 = w4.value in
    rw (c.read_word-real.ensures, c.read_word-effective.ensures, c.read_word-saved.ensures, c.read_word-filesystem.ensures, v1, v2, v3, v4, d3, d2, d1, r) (simp nth_drop)

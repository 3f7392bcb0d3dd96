use Rattle.std.proofs.Common.{◌≡◌, fold}
use Rattle.std.specs.Prelude.{bit_or}
use Rattle.std.specs.Str.Iter.{split_ascii_whitespace_text}
use Rattle.sources.specs.Words.{ascii_words}
use Rattle.kinds.specs.Rows.Flags.{flag_bit, flags_of}
use Rattle.kinds.proofs.rows.flags.flags_of.Given as goal

-- The words that are left bring the union to what it is to be.
abbrev pub invariant-loop-word : goal.invariant-loop-word
invariant-loop-word l = fold (λ bits word. bit_or bits (flag_bit word)) l.bits (ascii_words (split_ascii_whitespace_text l.word-iterator)) ≡ flags_of l.line

use Rattle.std.proofs.Common.{◌≡◌, ◌++◌, length}
use Rattle.cli.proofs.pulled.Pulled.new.Given as goal

-- The bytes that came, and those still to come, are the text's.
abbrev pub invariant-loop-n : goal.invariant-loop-n
invariant-loop-n g l =
    (l.bytes.items ++ (g.S.Source.text l.source).bytes ≡ (g.S.Source.text l.initial.source).bytes)
    × ((g.S.Source.text l.source).broken ≡ (g.S.Source.text l.initial.source).broken)
    × (length l.buf ≡ 4096)

abbrev pub decreases-loop-n : goal.decreases-loop-n
decreases-loop-n g l = length (g.S.Source.text l.source).bytes

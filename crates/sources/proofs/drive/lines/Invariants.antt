use Rattle.std.proofs.Common.{◌≡◌, ◌≤◌, length}
use Rattle.sources.specs.Lines.{walk, lines_of, leaves, course}
use Rattle.sources.proofs.drive.lines.Given as goal

-- What is left to read is answered as the whole was to be.
abbrev pub invariant-loop-n : goal.invariant-loop-n
invariant-loop-n g l =
    (leaves (g.S.Source.text l.initial.source).broken (walk 4096 268435456 g.K.Kind.rules (g.S.Source.text l.source).broken l.taken l.size (g.K.Kind.means l.kind) (lines_of (g.S.Source.text l.source).bytes))
    ≡ course g.K.Kind.rules (g.K.Kind.means l.initial.kind) (g.S.Source.text l.initial.source))
    × (l.taken ≤ l.size) × (l.size ≤ 268435456) × (length l.buf ≡ 4096)
    × g.K.Kind.frame l.initial.kind l.kind × ((g.S.Source.text l.source).broken ≡ (g.S.Source.text l.initial.source).broken)

abbrev pub decreases-loop-n : goal.decreases-loop-n
decreases-loop-n g l = length (g.S.Source.text l.source).bytes

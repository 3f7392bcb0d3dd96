use Rattle.std.proofs.Common.{Err, ap, ◌∙◌}
use Rattle.std.proofs.lemmas.Result.{err_from_is_err_and}
use Rattle.sources.specs.Lines.{reading}
use Rattle.sources.proofs.Closes.{closed_ok, closed_err}
use Rattle.sources.proofs.Folds.{folds}
use Rattle.sources.proofs.drive.fill.Goals as goal

pub returns-in_err-taken-clause-reading : goal.returns-in_err-taken-clause-reading
unfolding reading
returns-in_err-taken-clause-reading g c =
    let p = err_from_is_err_and c.from_residual.result c.from_residual.ensures.1 in
    closed_err g.K.Kind.rules c.lines.ensures.course c.in_err-taken.was (p.1 ∙ ap Err p.2)

pub returns-in_err-taken-clause-folds : goal.returns-in_err-taken-clause-folds
returns-in_err-taken-clause-folds g c = folds _ _ _ _ _ (returns-in_err-taken-clause-reading g c)

pub returns-clause-reading : goal.returns-clause-reading
unfolding reading
returns-clause-reading g c = closed_ok g.K.Kind.rules c.lines.ensures.course c.in_ok-taken.was c.finish.ensures.closed c.at_line.ensures

pub returns-clause-folds : goal.returns-clause-folds
returns-clause-folds g c = folds _ _ _ _ _ (returns-clause-reading g c)

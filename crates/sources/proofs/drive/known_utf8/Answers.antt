use Rattle.std.proofs.Common.{sym, ◌∙◌}
use Rattle.std.proofs.lemmas.Str.{IsUtf8-from_ascii}
use Rattle.sources.proofs.Utf8.{formed-text}
use Rattle.sources.proofs.drive.known_utf8.Goals as goal

pub returns-then-known_ascii : goal.returns-then-known_ascii
returns-then-known_ascii c t = IsUtf8-from_ascii c.args.text.now (c.known_ascii.ensures t)

pub returns-then-text-lt16 : goal.returns-then-text-lt16
returns-then-text-lt16 c t = formed-text c.args.text.now (sym c.is_utf8.ensures ∙ t)

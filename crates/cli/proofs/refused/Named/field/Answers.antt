use Rattle.std.proofs.Common.{◌≡◌, ◌∙◌, ap, sym, refl, ℕ, zero, suc, List, map, Bor}
use Rattle.std.specs.Option.{option_map}
use Rattle.std.proofs.lemmas.Option.{slice_get-map}
use Rattle.sources.specs.Pieces.{bytes_of}
use Rattle.cli.specs.Refused.{field_at, name_of}
use Rattle.cli.proofs.refused.Named.field.Goals as goal

same_name : (names : List (Bor (List ℕ))) (n : ℕ) → option_map bytes_of (field_at names n) ≡ name_of (map bytes_of names) n
same_name names zero = refl
same_name names (suc k) = sym (slice_get-map bytes_of names k)

pub returns : goal.returns
returns c = ap (option_map bytes_of) c.field_at.ensures ∙ same_name c.args.self.now.fields.now c.args.self.now.refusal.field

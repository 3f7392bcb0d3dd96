use Rattle.std.proofs.Common.{ℕ, length, rules}
use Rattle.std.proofs.lemmas.List.{drop-replicate}
use Rattle.kinds.specs.Rows.Entries.{kept_key}
use Rattle.kinds.proofs.rows.entry.key_of.Goals as goal

pub returns : goal.returns
unfolding kept_key
returns c =
    let e = drop-replicate {X = ℕ} (length c.args.word.now) 32 0 in
    rw (c.copy_from_slice.ensures.after, c.as_bytes.ensures.value, e) (search rules)

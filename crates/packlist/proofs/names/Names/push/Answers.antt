use Rattle.std.proofs.Common.{rules, ◌≡◌, ◌∙◌, ap, sym, cond, [], ◌∷◌, ◌++◌, length, Some}
use Rattle.std.specs.Str.{bytes_eq}
use Rattle.std.proofs.lemmas.Map.Text.{hash_map_updates_str}
use Rattle.packlist.specs.Names.{latest_of}
use Rattle.packlist.proofs.NamesLemmas.{latest_of-push}
use Rattle.packlist.proofs.names.Names.push.Goals as goal

pub invariant_of-self-2 : goal.invariant_of-self-2
invariant_of-self-2 c = λ q.
    let name = c.args.name in
    let before = c.self.inside.all.items in
    let number : c.len-number.result ≡ length c.self.inside.all.items = search rules in
    let after : c.push_reserved.new.self.items ≡ c.self.inside.all.items ++ c.args.name ∷ [] = search rules in
    hash_map_updates_str name.now c.self.inside.latest c.insert.new.self (Some c.len-number.result) c.in_ok-insert.ensures.updates q
    ∙ ap (λ o. cond (bytes_eq name.now q) (Some c.len-number.result) o) (c.self.invariant q)
    ∙ ap (λ k. cond (bytes_eq name.now q) (Some k) (latest_of before q)) number
    ∙ sym (latest_of-push before name q)
    ∙ ap (λ ns. latest_of ns q) (sym after)

use Rattle.std.proofs.Common.{◌≡◌, ℕ, List, Some, Result, ap, ◌∙◌}
use Rattle.std.proofs.lemmas.Iterator.Consumers.{YieldsList-from_first}
use Rattle.sources.specs.Pieces.{bytes_of}
use Rattle.fields.specs.declared.counted.Counted.{Counted}
use Rattle.fields.specs.declared.list.ListFault.{ListFault}
use Rattle.sources.specs.Split.{pieces_left}
use Rattle.fields.specs.Items.{range_of}
use Rattle.fields.specs.Lists.{filled, IsFilled}
use Rattle.fields.specs.Values.{comma_parts, or_missing, ranges_of}
use Rattle.fields.proofs.value.put_ranges.Goals as goal

-- a filled list of ranges is the one with zeros behind its items
of_zeros : (bs : List ℕ) {r : Result (Counted (ℕ × ℕ) 128) ListFault} → IsFilled (λ x. (x.0 ≡ 0) × (x.1 ≡ 0)) range_of 128 (comma_parts bs) r → or_missing r ≡ ranges_of bs
of_zeros bs h = let e : h.0 ≡ (0, 0) = rw (h.1.0, h.1.1) in ap or_missing (h.2 ∙ ap (λ (b : ℕ × ℕ). filled range_of b 128 (comma_parts bs)) e)

pub returns-in-Ok : goal.returns-in-Ok
returns-in-Ok c =
    ap Some (of_zeros c.args.text.now (c.in-Ok.ensures _ (YieldsList-from_first bytes_of pieces_left _ c.new.ensures).runs))

pub returns-in-Err-Bad : goal.returns-in-Err-Bad
returns-in-Err-Bad c =
    let h = rw c.in-Err-Bad.field-0-is at c.in-Err-Bad.ensures in
    ap Some (of_zeros c.args.text.now (h _ (YieldsList-from_first bytes_of pieces_left _ c.new.ensures).runs))

pub returns-in-Err-Full : goal.returns-in-Err-Full
returns-in-Err-Full c =
    let h = rw c.in-Err-Full.field-0-is at c.in-Err-Full.ensures in
    rw c.new-in-Err-Full.ensures (ap Some (of_zeros c.args.text.now (h _ (YieldsList-from_first bytes_of pieces_left _ c.new.ensures).runs)))

use Rattle.std.proofs.Common.{◌≡◌, ℕ, ◌+◌, ◌-◌, ◌≤◌, List, ◌++◌, length, take, drop, sym, ap, ◌∙◌, arith, length-drop}
use Rattle.std.proofs.lemmas.List.{length-take}
use Rattle.sources.specs.Bytes.{moved}
use Rattle.sources.specs.Records.{text_of_records}
use Rattle.sources.proofs.Through.{through-≤}
use Rattle.sources.proofs.Made.{to_come-here}
use Rattle.sources.proofs.Parts.{part_made, further}
use Rattle.sources.proofs.spool.Spool.part.Goals as goal

pub slice_bounds-copy_from_slice-end-2 : goal.slice_bounds-copy_from_slice-end-2
slice_bounds-copy_from_slice-end-2 c =
    let a = through-≤ (take ((2 + c.size.result) - (2 + c.advance.new.self.used)) (drop (2 + c.advance.new.self.used) c.in_ok-one.one.now)) in
    let b = length-take ((2 + c.size.result) - (2 + c.advance.new.self.used)) (drop (2 + c.advance.new.self.used) c.in_ok-one.one.now) in
    let d = length-drop (2 + c.advance.new.self.used) c.in_ok-one.one.now in
    omega arith

pub returns-clause-part : goal.returns-clause-part
returns-clause-part c =
    let m = c.in_ok-one.ensures.more in
    let y : c.reach-k.result - 0 ≡ c.reach-k.result = omega arith in
    let x : (2 + c.size.result) - (2 + c.advance.new.self.used) ≡ c.size.result - c.advance.new.self.used = omega arith in
    let a = c.copy_from_slice.ensures.after in
    let i : c.reach-k.result ≡ moved (length c.args.buf.now) (take (c.size.result - c.advance.new.self.used) (drop (2 + c.advance.new.self.used) c.in_ok-one.one.now)) = c.reach-k.ensures ∙ ap (λ (j : ℕ). moved (length c.args.buf.now) (take j (drop (2 + c.advance.new.self.used) c.in_ok-one.one.now))) x in
    let t = through-≤ (take (c.size.result - c.advance.new.self.used) (drop (2 + c.advance.new.self.used) c.in_ok-one.one.now)) in
    let b = length-take (c.size.result - c.advance.new.self.used) (drop (2 + c.advance.new.self.used) c.in_ok-one.one.now) in
    let q : c.advance.new.self.used + c.reach-k.result ≤ c.size.result = omega arith in
    part_made c.args.buf.now (take (c.size.result - c.advance.new.self.used) (drop (2 + c.advance.new.self.used) c.in_ok-one.one.now)) (text_of_records m.1.0) c.reach-k.result _
    (sym c.advance.ensures.same ∙ to_come-here c.advance.new.self.used c.size.result m.1.1 (omega arith) (omega arith) c.size.ensures.size)
    (to_come-here (c.advance.new.self.used + c.reach-k.result) c.size.result m.1.1 (omega arith) q c.size.ensures.size ∙ ap (λ (t : List ℕ). t ++ text_of_records m.1.0) (sym (further c.in_ok-one.one.now c.advance.new.self.used c.size.result c.reach-k.result q)))
    (simp (length-take, length-drop) (omega arith))
    (omega arith)
    i
    (simp (a, y, x))

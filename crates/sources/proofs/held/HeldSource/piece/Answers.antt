use Rattle.std.proofs.Common.{◌≡◌, length, drop, ap, ◌∙◌, arith, length-drop}
use Rattle.std.proofs.lemmas.List.{take_rest}
use Rattle.sources.specs.Bytes.{moved}
use Rattle.sources.proofs.Through.{through-≤}
use Rattle.sources.proofs.held.HeldSource.piece.Goals as goal

pub slice_bounds-copy_from_slice-end-2 : goal.slice_bounds-copy_from_slice-end-2
slice_bounds-copy_from_slice-end-2 c =
    let e : c.reach-n.result ≡ moved (length c.args.buf.now) (drop c.args.self.now.place c.args.self.now.bytes.now) = c.reach-n.ensures ∙ ap (moved (length c.args.buf.now)) (take_rest c.args.self.now.bytes.now c.args.self.now.place) in
    omega (arith, through-≤ (drop c.args.self.now.place c.args.self.now.bytes.now), length-drop c.args.self.now.place c.args.self.now.bytes.now)

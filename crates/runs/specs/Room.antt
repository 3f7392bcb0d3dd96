-- Memory for a run.
use Rattle.std.specs.Prelude.{◌≡◌, ℕ, ◌+◌, ◌≤◌, List, codes, vec_len}
use Rattle.std.specs.Global.{Vec}
use Rattle.std.specs.Vec.{vec_capacity}

-- n items more at most, and the same capacity.
pub record Grown {X : Type 0} (n : ℕ) (v w : Vec X) : Type 0 where
  pub capacity : vec_capacity w ≡ vec_capacity v
  pub len : vec_len w ≤ vec_len v + n

-- What is said where there is too little of it.
abbrev pub no_room_text : List ℕ
no_room_text = codes "more calls than the memory is for"

-- Values that are never wrong.
use Rattle.std.specs.Prelude.{ℕ, Bool, List, Ok, Result}
use Rattle.sources.specs.declared.fault.Fault.{Fault}
use Rattle.fields.specs.declared.counted.Counted.{Counted}
use Rattle.fields.specs.Counted.{kept_text}
use Rattle.fields.specs.declared.value.Four.{Four}
use Rattle.fields.specs.Values.{flag_of, four_of}

-- A text is kept as it is.
abbrev pub whole_text : List ℕ → Result (Counted ℕ 4096) Fault
whole_text bs = Ok (kept_text bs)

-- A flag is on or off.
abbrev pub whole_flag : List ℕ → Result Bool Fault
whole_flag bs = Ok (flag_of bs)

-- Each of the four numbers of an owner may be wrong by itself.
abbrev pub whole_four : List ℕ → Result Four Fault
whole_four bs = Ok (four_of bs)

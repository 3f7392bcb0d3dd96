-- The text of two parts, each of a form: 1 for bytes as they stand, 2 for a recording.
use Rattle.std.specs.Prelude.{ℕ, ◌==◌, ◌&&◌, if◌then◌else◌, List, Some, None, Ok, Err, Option, Result}
use Rattle.sources.specs.declared.input.Form.{Form}
use Rattle.sources.specs.declared.input.Form.TheVariants.{Plain, Recording}
use Rattle.sources.specs.declared.reason.Reason.TheVariants.{Spool}
use Rattle.sources.specs.Faults.{refused}
use Rattle.sources.specs.Inputs.{holds_text, text_in}
use Rattle.sources.specs.Texts.{Text, joined}
use Rattle.capi.specs.declared.answer.Answer.{Answer}
use Rattle.capi.specs.Answers.{wrong_use, answer_of}

abbrev pub form_of : ℕ → Option Form
form_of n = if n == 1 then Some Plain else if n == 2 then Some Recording else None

-- Their join; a form that is neither is wrong use, and a part that holds no text is refused 22.
abbrev pub join_as : Option Form → List ℕ → Option Form → List ℕ → Result Text Answer
join_as None first g second = Err wrong_use
join_as (Some f) first None second = Err wrong_use
join_as (Some f) first (Some g) second =
    if holds_text f first && holds_text g second then Ok (joined (text_in f first) (text_in g second)) else Err (answer_of (refused Spool 0))

abbrev pub join_of : ℕ → List ℕ → ℕ → List ℕ → Result Text Answer
join_of first_form first second_form second = join_as (form_of first_form) first (form_of second_form) second

-- What a call answers: 0, a refusal's number with its line and field, or 255.
use Rattle.sources.specs.declared.fault.Refusal.{Refusal}
use Rattle.sources.specs.Reasons.{number_of}
use Rattle.capi.specs.declared.answer.Answer.{Answer}

abbrev pub accepted : Answer
accepted = record { number = 0; line = 0; field = 0 }

abbrev pub wrong_use : Answer
wrong_use = record { number = 255; line = 0; field = 0 }

abbrev pub answer_of : Refusal → Answer
answer_of f = record { number = number_of f.reason; line = f.line; field = f.field }

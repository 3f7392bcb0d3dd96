-- How faults and refusals are written.
use Rattle.std.specs.Prelude.{ℕ, List, [], ◌++◌, if◌then◌else◌, nat_lt, codes, decimal}
use Rattle.sources.specs.declared.fault.NumberFault.{NumberFault}
use Rattle.sources.specs.declared.fault.NumberFault.TheVariants.{Unreadable}
use Rattle.sources.specs.declared.fault.Fault.{Fault}
use Rattle.sources.specs.declared.fault.Refusal.{Refusal}
use Rattle.sources.specs.Faults.{located}
use Rattle.sources.specs.Reasons.{number_of, word_of}

-- A figure behind its word, where it is not 0.
abbrev pub figure_if_any : List ℕ → ℕ → List ℕ
figure_if_any word n = if nat_lt 0 n then word ++ decimal n else []

-- `refused 11 absent line 51 field 39`: the number and the word of the reason, and the line and the field that the refusal is of.
abbrev pub refusal_text : Refusal → List ℕ
refusal_text r = codes "refused " ++ (decimal (number_of r.reason) ++ (codes " " ++ (word_of r.reason ++ (figure_if_any (codes " line ") r.line ++ figure_if_any (codes " field ") r.field))))

-- The same of a fault, which is of no line yet.
abbrev pub fault_text : Fault → List ℕ
fault_text f = refusal_text (located 0 f)

abbrev pub number_fault_text : NumberFault → List ℕ
number_fault_text Unreadable = codes "not a number, or out of range"

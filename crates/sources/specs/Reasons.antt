-- The numbers and the words of the refusals, as docs/REFUSALS.md gives them.
use Rattle.std.specs.Prelude.{ℕ, List, codes}
use Rattle.sources.specs.declared.reason.Reason.{Reason}
use Rattle.sources.specs.declared.reason.Reason.TheVariants.{Broken, LongLine, LongText, Orphan, Short, Figure, Value, Torn, Scale, Heavy, Absent, Full, State, Pid, Present, Unknown, Packed, Over, Sum, Bracket, Key, Spool}

abbrev pub number_of : Reason → ℕ
number_of Broken = 1
number_of LongLine = 2
number_of LongText = 3
number_of Orphan = 4
number_of Short = 5
number_of Figure = 6
number_of Value = 7
number_of Torn = 8
number_of Scale = 9
number_of Heavy = 10
number_of Absent = 11
number_of Full = 12
number_of State = 13
number_of Pid = 14
number_of Present = 15
number_of Unknown = 16
number_of Packed = 17
number_of Over = 18
number_of Sum = 19
number_of Bracket = 20
number_of Key = 21
number_of Spool = 22

abbrev pub word_of : Reason → List ℕ
word_of Broken = codes "broken"
word_of LongLine = codes "long"
word_of LongText = codes "long"
word_of Orphan = codes "orphan"
word_of Short = codes "short"
word_of Figure = codes "figure"
word_of Value = codes "value"
word_of Torn = codes "torn"
word_of Scale = codes "scale"
word_of Heavy = codes "heavy"
word_of Absent = codes "absent"
word_of Full = codes "full"
word_of State = codes "state"
word_of Pid = codes "pid"
word_of Present = codes "present"
word_of Unknown = codes "unknown"
word_of Packed = codes "packed"
word_of Over = codes "over"
word_of Sum = codes "sum"
word_of Bracket = codes "bracket"
word_of Key = codes "key"
word_of Spool = codes "spool"

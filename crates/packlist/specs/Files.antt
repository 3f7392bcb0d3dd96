-- The calls that a script asks for with the bytes of its files.
use Rattle.std.specs.Prelude.{ℕ, List, [], ◌∷◌}
use Rattle.sources.specs.Texts.{Text}
use Rattle.sources.specs.Inputs.{text_in}
use Rattle.runs.specs.declared.call.Call.{Call}
use Rattle.runs.specs.declared.call.Call.TheVariants.{Used}
use Rattle.runs.specs.Run.{textual}
use Rattle.cli.specs.declared.text_file.TextFile.{TextFile}

-- A call whose file holds these bytes.
abbrev pub call_with : List ℕ → Call TextFile → Call Text
call_with bytes call = textual (λ (f : TextFile). text_in f.form bytes) call

-- Of each line the call that it makes with its bytes, and after it one that asks what is used.
unfoldable pub calls_of : {L B : Type 0} → (L → B → Call Text) → List L → List B → List (Call Text)
calls_of call [] bs = []
calls_of call (l ∷ ls) [] = []
calls_of call (l ∷ ls) (b ∷ bs) = call l b ∷ Used ∷ calls_of call ls bs

-- Of each line the call that it makes with its bytes.
unfoldable pub calls_with : {L B : Type 0} → (L → B → Call Text) → List L → List B → List (Call Text)
calls_with call [] bs = []
calls_with call (l ∷ ls) [] = []
calls_with call (l ∷ ls) (b ∷ bs) = call l b ∷ calls_with call ls bs

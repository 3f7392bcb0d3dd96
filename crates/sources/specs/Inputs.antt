-- What bytes mean that are a text as they stand, or a recording of it.
use Rattle.std.specs.Prelude.{ℕ, Bool, true, false, List}
use Rattle.sources.specs.Texts.{Text, text}
use Rattle.sources.specs.Records.{recorded, records_of, text_of_records, ending_of}
use Rattle.sources.specs.declared.input.Form.{Form}
use Rattle.sources.specs.declared.input.Form.TheVariants.{Plain, Recording}

-- Any bytes are a text; not all are a recording.
abbrev pub holds_text : Form → List ℕ → Bool
holds_text Plain bytes = true
holds_text Recording bytes = recorded bytes

-- The text itself, whole; or the one that was recorded, with its ending.
abbrev pub text_in : Form → List ℕ → Text
text_in Plain bytes = text bytes false
text_in Recording bytes = text (text_of_records (records_of bytes)) (ending_of (records_of bytes))

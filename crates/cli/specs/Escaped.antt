-- How names, paths and texts are printed, so that none of them steers a terminal.
use Rattle.std.specs.Prelude.{◌≡◌, ℕ, Bool, false, if◌then◌else◌, nat_lt, nat_le, ◌==◌, ◌&&◌, ◌||◌, List, [], ◌∷◌, ◌++◌, codes, encode_utf8, encode_utf8_all}
use Rattle.std.specs.List.{flat_map, list_any}
use Rattle.std.specs.Str.{chars}
use Rattle.std.specs.Fmt.{digits}
use Rattle.sources.specs.Utf8.{is_utf8}

-- The characters above 126 that are not shown: the controls of C1, the format characters of Unicode, and its line and paragraph separators.
abbrev pub hidden : List (ℕ × ℕ)
hidden =
    (0x7F, 0x9F) ∷ (0xAD, 0xAD) ∷ (0x600, 0x605) ∷ (0x61C, 0x61C) ∷ (0x6DD, 0x6DD) ∷ (0x70F, 0x70F) ∷ (0x890, 0x891) ∷ (0x8E2, 0x8E2) ∷ (0x180E, 0x180E)
    ∷ (0x200B, 0x200F) ∷ (0x2028, 0x202E) ∷ (0x2060, 0x206F) ∷ (0xFEFF, 0xFEFF) ∷ (0xFFF9, 0xFFFB)
    ∷ (0x110BD, 0x110BD) ∷ (0x110CD, 0x110CD) ∷ (0x13430, 0x1343F) ∷ (0x1BCA0, 0x1BCA3) ∷ (0x1D173, 0x1D17A) ∷ (0xE0001, 0xE0001) ∷ (0xE0020, 0xE007F) ∷ []

abbrev pub is_within : ℕ → List (ℕ × ℕ) → Bool
is_within n ranges = list_any (λ r. nat_le r.0 n && nat_le n r.1) ranges

-- Whether a character would steer a terminal: a control, or one that is not shown.
unfoldable pub steers : ℕ → Bool
steers c = if nat_lt c 127 then nat_lt c 32 else is_within c hidden

-- A byte by two digits of base 16.
abbrev pub byte_escape : ℕ → List ℕ
byte_escape b = codes "\\x" ++ ((if nat_lt b 16 then codes "0" else []) ++ digits 16 false b)

-- A character: as it is, or by its number. A backslash is doubled, so that an escape is one wherever it stands.
abbrev pub shown : ℕ → List ℕ
shown c =
    if c == 92 then codes "\\\\"
    else (if steers c then (if nat_lt c 128 then byte_escape c else codes "\\u{" ++ (digits 16 false c ++ codes "}"))
    else encode_utf8 c)

-- A text.
abbrev pub escaped : List ℕ → List ℕ
escaped bytes = flat_map shown (chars bytes)

-- A byte of what is no text: an ASCII character as it is in a text, another by its number.
abbrev pub byte_shown : ℕ → List ℕ
byte_shown b = if nat_lt b 128 then shown b else byte_escape b

-- Bytes that may be no text.
abbrev pub escaped_bytes : List ℕ → List ℕ
escaped_bytes bytes = if is_utf8 bytes then escaped bytes else flat_map byte_shown bytes

-- A text of characters none of which would steer a terminal.
abbrev pub IsCalm : List ℕ → Type 0
IsCalm bytes = (cs : List ℕ) × (encode_utf8_all cs ≡ bytes) × (list_any steers cs ≡ false)

-- A control character of ASCII.
abbrev pub is_control : ℕ → Bool
is_control b = nat_lt b 32 || (b == 127)

-- What is printed steers no terminal: neither by a byte, nor by a character.
abbrev pub SteersNone : List ℕ → Type 0
SteersNone bytes = IsCalm bytes × (list_any is_control bytes ≡ false)

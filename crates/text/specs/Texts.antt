-- A text of the string section (document 01, "Texts"; watto's StringTable::read). Assumes nothing.
use Rattle.std.specs.Prelude.{Option, Some, None, ℕ, ◌+◌, ◌-◌, List, [], cond, ◌&&◌, leb, length, take, drop}
use Rattle.text.specs.Leb128.{decoded}
use Rattle.text.specs.Utf8.{utf8}
use Rattle.text.specs.declared.leb128.Leb.{Leb}
use Rattle.text.specs.declared.strings.Text.{Text}

-- the part of a section that a text takes
abbrev pub part : ℕ → ℕ → Option Text
part start len = Some (record { start = start; len = len })

-- after the length prefix come as many bytes as it says; absent where the prefix is, where the text is cut, and where it is not UTF-8
unfoldable pub text_after : List ℕ → ℕ → Option Leb → Option Text
text_after s offset None = None
text_after s offset (Some p) =
    cond (leb p.value (length s - (offset + p.len)) && utf8 (take p.value (drop (offset + p.len) s))) (part (offset + p.len) p.value) None

-- the text whose prefix begins at the offset
unfoldable pub read_text : List ℕ → ℕ → Option Text
read_text s offset = text_after s offset (decoded s offset)

-- the bytes of a text that was read; none where it is absent
unfoldable pub bytes_of : List ℕ → Option Text → List ℕ
bytes_of s None = []
bytes_of s (Some t) = take t.len (drop t.start s)

unfoldable pub text_part : List ℕ → ℕ → List ℕ
text_part s offset = bytes_of s (read_text s offset)

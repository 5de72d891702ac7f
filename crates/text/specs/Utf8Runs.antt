-- Eight times UTF8-1 (Utf8), which private contracts take at once.
use Rattle.std.specs.Prelude.{Option, Some, ℕ, cond, List, [], ◌∷◌}
use Rattle.text.specs.Utf8.{Range, ◌to◌, Utf8Char, fits, char_len}

unfoldable pub eights : List Range
eights = 0x00 to 0x7F ∷ 0x00 to 0x7F ∷ 0x00 to 0x7F ∷ 0x00 to 0x7F ∷ 0x00 to 0x7F ∷ 0x00 to 0x7F ∷ 0x00 to 0x7F ∷ 0x00 to 0x7F ∷ []

-- the length of the chars that the list begins with: eight of them, or one
unfoldable pub run_len : List ℕ → Option ℕ
run_len s = cond (fits eights s) (Some 8) (char_len Utf8Char s)

-- Document 01's marked values M11 and M12, computed. Assumes nothing.
use mathlib.Core.Path.{◌≡◌, refl}
use mathlib.Core.List.{[], ◌∷◌}
use mathlib.Core.Bool.{true, false}
use Rattle.text.specs.Leb128.{encoded, encoded_in}
use Rattle.text.specs.Utf8.{utf8, chars, char_len, fits, within, Utf8Char}

-- M11: 127 is 7F, 128 is 80 01
pub M11 : (encoded 127 ≡ 0x7F ∷ []) × (encoded 128 ≡ 0x80 ∷ 0x01 ∷ [])
unfolding encoded encoded_in
M11 = (refl, refl)

-- M12: ED A0 80 refused, F4 8F BF BF accepted
pub M12 : (utf8 (0xED ∷ 0xA0 ∷ 0x80 ∷ []) ≡ false) × (utf8 (0xF4 ∷ 0x8F ∷ 0xBF ∷ 0xBF ∷ []) ≡ true)
unfolding utf8 chars char_len fits within Utf8Char
M12 = (refl, refl)

-- Document 01's lister example, computed: the three lines printed; a bad line, and a refused file.
use mathlib.Core.Path.{◌≡◌, refl}
use mathlib.Core.List.{[], ◌∷◌}
use Rattle.printed_lines.specs.Printed.{hex_digit, hex_field, spaced, frame_line_lem, no_frame_line, bad_line, refused_line}

-- '0000000000001003 00000000 00000002 00000001 00000032 00000001 0A'
example-inner : frame_line_lem 4099 0 2 1 50 1 ≡ 48 ∷ 48 ∷ 48 ∷ 48 ∷ 48 ∷ 48 ∷ 48 ∷ 48 ∷ 48 ∷ 48 ∷ 48 ∷ 48 ∷ 49 ∷ 48 ∷ 48 ∷ 51 ∷ 32 ∷ 48 ∷ 48 ∷ 48 ∷ 48 ∷ 48 ∷ 48 ∷ 48 ∷ 48 ∷ 32 ∷ 48 ∷ 48 ∷ 48 ∷ 48 ∷ 48 ∷ 48 ∷ 48 ∷ 50 ∷ 32 ∷ 48 ∷ 48 ∷ 48 ∷ 48 ∷ 48 ∷ 48 ∷ 48 ∷ 49 ∷ 32 ∷ 48 ∷ 48 ∷ 48 ∷ 48 ∷ 48 ∷ 48 ∷ 51 ∷ 50 ∷ 32 ∷ 48 ∷ 48 ∷ 48 ∷ 48 ∷ 48 ∷ 48 ∷ 48 ∷ 49 ∷ 10 ∷ []
unfolding hex_digit hex_field spaced frame_line_lem no_frame_line bad_line refused_line
example-inner = refl

-- '0000000000001003 00000001 00000000 00000000 0000000A 00000000 0A'
example-outer : frame_line_lem 4099 1 0 0 10 0 ≡ 48 ∷ 48 ∷ 48 ∷ 48 ∷ 48 ∷ 48 ∷ 48 ∷ 48 ∷ 48 ∷ 48 ∷ 48 ∷ 48 ∷ 49 ∷ 48 ∷ 48 ∷ 51 ∷ 32 ∷ 48 ∷ 48 ∷ 48 ∷ 48 ∷ 48 ∷ 48 ∷ 48 ∷ 49 ∷ 32 ∷ 48 ∷ 48 ∷ 48 ∷ 48 ∷ 48 ∷ 48 ∷ 48 ∷ 48 ∷ 32 ∷ 48 ∷ 48 ∷ 48 ∷ 48 ∷ 48 ∷ 48 ∷ 48 ∷ 48 ∷ 32 ∷ 48 ∷ 48 ∷ 48 ∷ 48 ∷ 48 ∷ 48 ∷ 48 ∷ 65 ∷ 32 ∷ 48 ∷ 48 ∷ 48 ∷ 48 ∷ 48 ∷ 48 ∷ 48 ∷ 48 ∷ 10 ∷ []
unfolding hex_digit hex_field spaced frame_line_lem no_frame_line bad_line refused_line
example-outer = refl

-- '0000000000001010 FFFFFFFF 0A'
example-none : no_frame_line 4112 ≡ 48 ∷ 48 ∷ 48 ∷ 48 ∷ 48 ∷ 48 ∷ 48 ∷ 48 ∷ 48 ∷ 48 ∷ 48 ∷ 48 ∷ 49 ∷ 48 ∷ 49 ∷ 48 ∷ 32 ∷ 70 ∷ 70 ∷ 70 ∷ 70 ∷ 70 ∷ 70 ∷ 70 ∷ 70 ∷ 10 ∷ []
unfolding hex_digit hex_field spaced frame_line_lem no_frame_line bad_line refused_line
example-none = refl

-- '? 0000001F 0A'
example-bad : bad_line 31 ≡ 63 ∷ 32 ∷ 48 ∷ 48 ∷ 48 ∷ 48 ∷ 48 ∷ 48 ∷ 49 ∷ 70 ∷ 10 ∷ []
unfolding hex_digit hex_field spaced frame_line_lem no_frame_line bad_line refused_line
example-bad = refl

-- 'REFUSED 03 0A'
example-refused : refused_line 3 ≡ 82 ∷ 69 ∷ 70 ∷ 85 ∷ 83 ∷ 69 ∷ 68 ∷ 32 ∷ 48 ∷ 51 ∷ 10 ∷ []
unfolding hex_digit hex_field spaced frame_line_lem no_frame_line bad_line refused_line
example-refused = refl

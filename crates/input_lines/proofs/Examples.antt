-- Lines of document 01's lister example, computed.
use Rattle.std.proofs.Common.{◌≡◌, Some, None, [], ◌∷◌, refl}
use Rattle.input_lines.specs.Line.{digit_of, all_digits, number_from, meaning, lines_after}

-- "1003"
example-line : meaning (49 ∷ 48 ∷ 48 ∷ 51 ∷ []) ≡ Some 4099
unfolding meaning all_digits number_from digit_of
example-line = refl

-- an empty line
example-empty : meaning [] ≡ None
unfolding meaning all_digits
example-empty = refl

-- "1003", 0A, "1010" without 0A
example-input : lines_after [] (49 ∷ 48 ∷ 48 ∷ 51 ∷ 10 ∷ 49 ∷ 48 ∷ 49 ∷ 48 ∷ []) ≡ (49 ∷ 48 ∷ 48 ∷ 51 ∷ []) ∷ (49 ∷ 48 ∷ 49 ∷ 48 ∷ []) ∷ []
unfolding lines_after
example-input = refl

-- The marked names of document 01, M6 to M10, and its two unmarked ones, computed.
use Rattle.std.specs.Prelude.{ℕ, ◌≡◌, refl, List, [], ◌∷◌, ◌++◌}
use Rattle.names.specs.Names.{starts_with, special, contains, rfind, digit, digits, value, number, parses, sized, cut, prefixed, undecorated}

-- `foo`
abbrev foo : List ℕ
foo = 102 ∷ 111 ∷ 111 ∷ []

-- `4294967296`, which is 2^32
abbrev too_great : List ℕ
too_great = 52 ∷ 50 ∷ 57 ∷ 52 ∷ 57 ∷ 54 ∷ 55 ∷ 50 ∷ 57 ∷ 54 ∷ []

-- M6: `_foo@4` is `foo`.
pub m6 : undecorated (95 ∷ foo ++ (64 ∷ 52 ∷ [])) ≡ foo
unfolding starts_with special contains rfind digit digits value number parses sized cut prefixed undecorated
m6 = refl

-- M7: `foo@@+8` is `foo`.
pub m7 : undecorated (foo ++ (64 ∷ 64 ∷ 43 ∷ 56 ∷ [])) ≡ foo
unfolding starts_with special contains rfind digit digits value number parses sized cut prefixed undecorated
m7 = refl

-- M8: `_foo@4294967296` is `foo@4294967296`.
pub m8 : undecorated (95 ∷ foo ++ (64 ∷ too_great)) ≡ foo ++ (64 ∷ too_great)
unfolding starts_with special contains rfind digit digits value number parses sized cut prefixed undecorated
m8 = refl

-- M9: `a@@@8` is `a@`.
pub m9 : undecorated (97 ∷ 64 ∷ 64 ∷ 64 ∷ 56 ∷ []) ≡ 97 ∷ 64 ∷ []
unfolding starts_with special contains rfind digit digits value number parses sized cut prefixed undecorated
m9 = refl

-- M10: `@foo` is unchanged.
pub m10 : undecorated (64 ∷ foo) ≡ 64 ∷ foo
unfolding starts_with special contains rfind digit digits value number parses sized cut prefixed undecorated
m10 = refl

-- `_a(b` is unchanged.
pub parenthesis : undecorated (95 ∷ 97 ∷ 40 ∷ 98 ∷ []) ≡ 95 ∷ 97 ∷ 40 ∷ 98 ∷ []
unfolding starts_with special contains rfind digit digits value number parses sized cut prefixed undecorated
parenthesis = refl

-- `@@8` is empty.
pub nothing_left : undecorated (64 ∷ 64 ∷ 56 ∷ []) ≡ []
unfolding starts_with special contains rfind digit digits value number parses sized cut prefixed undecorated
nothing_left = refl

-- What `undecorate_win_symbol` of writer.rs gives, branch by branch, as a function of the name's bytes (document 01, "Names").
-- A character that the Rust tests for is written as its ASCII byte.
use Rattle.std.specs.Prelude.{
  Option,
  None,
  Some,
  unwrap_or,
  ℕ,
  zero,
  suc,
  ◌+◌,
  ◌*◌,
  ◌-◌,
  List,
  [],
  ◌∷◌,
  Bool,
  true,
  false,
  cond,
  ◌&&◌,
  ◌||◌,
  length,
  take,
  drop,
  ltb,
  leb,
  eqb,
}
use Rattle.std.specs.Option.{option_map}

-- `starts_with(p)`: the first bytes of a name are p.
unfoldable pub starts_with : List ℕ → List ℕ → Bool
starts_with [] s = true
starts_with (b ∷ p) [] = false
starts_with (b ∷ p) (a ∷ s) = eqb a b && starts_with p s

-- `:`, `(` or `<`.
unfoldable pub special : ℕ → Bool
special b = eqb b 58 || (eqb b 40 || eqb b 60)

-- `contains([':', '(', '<'])`.
unfoldable pub contains : List ℕ → Bool
contains [] = false
contains (b ∷ s) = special b || contains s

-- `rfind(p)`: the last place at which p stands in s, of those below n.
unfoldable pub rfind : List ℕ → List ℕ → ℕ → Option ℕ
rfind p s zero = None
rfind p s (suc n) = cond (starts_with p (drop n s)) (Some n) (rfind p s n)

-- `0` to `9`.
unfoldable pub digit : ℕ → Bool
digit b = leb 48 b && leb b 57

unfoldable pub digits : List ℕ → Bool
digits [] = true
digits (b ∷ s) = digit b && digits s

-- The number that digits s make when they follow the number n.
unfoldable pub value : ℕ → List ℕ → ℕ
value n [] = n
value n (b ∷ s) = value (n * 10 + (b - 48)) s

-- One or more digits, whose number fits 32 bits.
unfoldable pub number : List ℕ → Bool
number s = ltb 0 (length s) && (digits s && leb (value 0 s) 4294967295)

-- `parse::<u32>().is_ok()`: a plus may stand before the number.
unfoldable pub parses : List ℕ → Bool
parses s = cond (starts_with (43 ∷ []) s) (number (drop 1 s)) (number s)

-- `parse::<u32>().is_ok()` of what follows p, which stands at a place n: the place is kept or dropped.
unfoldable pub sized : List ℕ → List ℕ → Option ℕ → Option ℕ
sized p s None = None
sized p s (Some n) = cond (parses (drop (n + length p) s)) (Some n) None

-- `rsplit_once(p)`, then the parse: how many bytes stand before p.
unfoldable pub cut : List ℕ → List ℕ → Option ℕ
cut p s = sized p s (rfind p s (length s))

-- The bytes before p, where cut finds it.
abbrev pub text_before : List ℕ → List ℕ → Option (List ℕ)
text_before p s = option_map (λ n. take n s) (cut p s)

-- `strip_prefix(['@', '_'])` finds one of the two.
unfoldable pub prefixed : List ℕ → Bool
prefixed s = starts_with (64 ∷ []) s || starts_with (95 ∷ []) s

-- `undecorate_win_symbol`: a name that starts with `?` or holds a special byte stays; else __vectorcall, cut at `@@`; else
-- __stdcall and __fastcall, cut at `@` with the first byte off; else __cdecl, the underscore off.
unfoldable pub undecorated : List ℕ → List ℕ
undecorated s =
    cond (starts_with (63 ∷ []) s || contains s) s
    (unwrap_or (text_before (64 ∷ 64 ∷ []) s)
    (cond (prefixed s)
    (unwrap_or (text_before (64 ∷ []) (drop 1 s)) (cond (starts_with (95 ∷ []) s) (drop 1 s) s))
    s))

-- UTF-8 as RFC 3629 has it: which lists of octets are UTF-8 (section 4), and how a number is encoded (section 3).
use Rattle.std.specs.Prelude.{Option, Some, None, ℕ, zero, suc, ◌+◌, ◌/◌, ◌%◌, Bool, true, false, cond, ◌&&◌, ◌||◌, List, [], ◌∷◌, ◌++◌, leb, length, drop}

-- Section 4. A range of octets, as %xC2-DF.
pub record Range : Type 0 where
  pub lo : ℕ
  pub hi : ℕ

abbrev pub ◌to◌ : ℕ → ℕ → Range
a to b = record { lo = a; hi = b }

infix 68 ◌to◌
-- UTF8-tail = %x80-BF
abbrev pub Utf8Tail : Range
Utf8Tail = 0x80 to 0xBF

-- UTF8-char = UTF8-1 / UTF8-2 / UTF8-3 / UTF8-4, with each of the nine alternatives in the RFC's order;
-- an octet alone, as %xE0, is a range of one.
unfoldable pub Utf8Char : List (List Range)
Utf8Char =
    -- UTF8-1
    (0x00 to 0x7F ∷ []) ∷
    -- UTF8-2
    (0xC2 to 0xDF ∷ Utf8Tail ∷ []) ∷
    -- UTF8-3
    (0xE0 to 0xE0 ∷ 0xA0 to 0xBF ∷ Utf8Tail ∷ []) ∷
    (0xE1 to 0xEC ∷ Utf8Tail ∷ Utf8Tail ∷ []) ∷
    (0xED to 0xED ∷ 0x80 to 0x9F ∷ Utf8Tail ∷ []) ∷
    (0xEE to 0xEF ∷ Utf8Tail ∷ Utf8Tail ∷ []) ∷
    -- UTF8-4
    (0xF0 to 0xF0 ∷ 0x90 to 0xBF ∷ Utf8Tail ∷ Utf8Tail ∷ []) ∷
    (0xF1 to 0xF3 ∷ Utf8Tail ∷ Utf8Tail ∷ Utf8Tail ∷ []) ∷
    (0xF4 to 0xF4 ∷ 0x80 to 0x8F ∷ Utf8Tail ∷ Utf8Tail ∷ []) ∷
    []

unfoldable pub within : Range → ℕ → Bool
within r b = leb r.lo b && leb b r.hi

-- the list begins with an octet in each of the ranges, in order
unfoldable pub fits : List Range → List ℕ → Bool
fits [] s = true
fits (r ∷ rs) [] = false
fits (r ∷ rs) (b ∷ s) = within r b && fits rs s

-- the length of the first alternative that fits the list; none where none does
unfoldable pub char_len : List (List Range) → List ℕ → Option ℕ
char_len [] s = None
char_len (r ∷ rs) s = cond (fits r s) (Some (length r)) (char_len rs s)

-- UTF8-octets = *( UTF8-char ), of n chars at most
unfoldable pub chars : ℕ → List ℕ → Bool
chars zero [] = true
chars zero (b ∷ s) = false
chars (suc n) [] = true
chars (suc n) (b ∷ s) = elim (char_len Utf8Char (b ∷ s)) [ None ↦ false | Some k ↦ chars n (drop k (b ∷ s)) ]

-- the list is UTF-8; it has no more chars than octets
unfoldable pub utf8 : List ℕ → Bool
utf8 s = chars (length s) s

-- Section 3. A character number: U+0000 to U+10FFFF, but for the surrogates U+D800 to U+DFFF.
unfoldable pub scalar : ℕ → Bool
scalar c = leb c 0xD7FF || leb 0xE000 c && leb c 0x10FFFF

-- The table: 0xxxxxxx up to 7F, 110xxxxx 10xxxxxx up to 7FF, 1110xxxx 10xxxxxx 10xxxxxx up to FFFF, 11110xxx and three more above.
unfoldable pub encode : ℕ → List ℕ
encode c =
    cond (leb c 0x7F) (c ∷ [])
    (cond (leb c 0x7FF) ((0xC0 + c / 64) ∷ (0x80 + c % 64) ∷ [])
    (cond (leb c 0xFFFF) ((0xE0 + c / 4096) ∷ (0x80 + c / 64 % 64) ∷ (0x80 + c % 64) ∷ [])
    ((0xF0 + c / 262144) ∷ (0x80 + c / 4096 % 64) ∷ (0x80 + c / 64 % 64) ∷ (0x80 + c % 64) ∷ [])))

-- the encodings of a list of numbers, one after another
unfoldable pub encode_all : List ℕ → List ℕ
encode_all [] = []
encode_all (c ∷ cs) = encode c ++ encode_all cs

unfoldable pub all_scalar : List ℕ → Bool
all_scalar [] = true
all_scalar (c ∷ cs) = scalar c && all_scalar cs

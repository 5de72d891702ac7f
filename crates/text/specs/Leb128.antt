-- Unsigned LEB128 numbers, after DWARF 5, section 7.6. A byte is a natural number; its high bit is set where it is 128 or more. Assumes nothing.
use Rattle.std.specs.Prelude.{
  Option,
  Some,
  None,
  ℕ,
  zero,
  suc,
  ◌+◌,
  ◌*◌,
  ◌/◌,
  ◌%◌,
  ◌^◌,
  ◌≤◌,
  ◌<◌,
  ◌≡◌,
  List,
  [],
  ◌∷◌,
  ◌++◌,
  Bool,
  true,
  false,
  cond,
  ◌&&◌,
  length,
  drop,
  ltb,
  leb,
}
use Rattle.std.proofs.lemmas.List.Edits.{sets}
use Rattle.text.specs.declared.leb128.Leb.{Leb}

-- DWARF 5, section 7.6, in our words: the number is cut into groups of seven bits, which are the low bits of one byte each, the least significant group first
unfoldable pub leb_value : List ℕ → ℕ
leb_value [] = 0
leb_value (b ∷ s) = b % 128 + 128 * leb_value s

-- DWARF 5, section 7.6, in our words: the high bit of a byte is set where another byte follows, and clear in the last one
unfoldable pub well_formed : List ℕ → Bool
well_formed [] = false
well_formed (b ∷ []) = ltb b 128
well_formed (b ∷ (c ∷ s)) = leb 128 b && well_formed (c ∷ s)

-- DWARF 5, appendix C, the algorithm that encodes an unsigned number, in our words: emit the low seven bits, with the high bit set as long as more come;
-- here at most n + 1 bytes
unfoldable pub encoded_in : ℕ → ℕ → List ℕ
encoded_in zero v = v ∷ []
encoded_in (suc n) v = cond (ltb v 128) (v ∷ []) ((v % 128 + 128) ∷ encoded_in n (v / 128))

-- the shortest form of v. The bound v is never met: each byte but the last makes the rest smaller (`encoded-step`)
unfoldable pub encoded : ℕ → List ℕ
encoded v = encoded_in v v

-- what a number that begins a sequence of bytes takes of it: all up to the first byte with the high bit clear, and that one
unfoldable pub leb_prefix : List ℕ → List ℕ
leb_prefix [] = []
leb_prefix (b ∷ s) = cond (ltb b 128) (b ∷ []) (b ∷ leb_prefix s)

-- v, of n bytes
abbrev pub number : ℕ → ℕ → Option Leb
number v n = Some (record { value = v; len = n })

-- the number that these bytes are, unless they are cut, more than ten, or above 64 bits (document 01, "Texts")
unfoldable pub leb_number : List ℕ → Option Leb
leb_number p = cond (well_formed p && (leb (length p) 10 && ltb (leb_value p) (2 ^ 64))) (number (leb_value p) (length p)) None

-- the number at an offset
unfoldable pub decoded : List ℕ → ℕ → Option Leb
decoded s at = leb_number (leb_prefix (drop at s))

-- what the standard and document 01 accept: n bytes at the offset are a number v, of at most ten bytes and 64 bits; longer forms than the shortest too
pub record Accepted (s : List ℕ) (at v n : ℕ) : Type 0 where
  pub form : List ℕ
  pub rest : List ℕ
  pub stands : drop at s ≡ form ++ rest
  pub formed : well_formed form ≡ true
  pub value : leb_value form ≡ v
  pub size : length form ≡ n
  pub short : n ≤ 10
  pub small : v < 2 ^ 64

-- what writing leaves: its answer, and the lent bytes
pub record Written : Type 0 where
  pub answer : Option ℕ
  pub bytes : List ℕ

abbrev pub written : Option ℕ → List ℕ → Written
written n s = record { answer = n; bytes = s }

-- the shortest form of v from at on, with its number of bytes; none, and nothing changed, where it does not fit
unfoldable pub wrote_leb : List ℕ → ℕ → ℕ → Written
wrote_leb s at v = cond (leb (at + length (encoded v)) (length s)) (written (Some (length (encoded v))) (sets s at (encoded v))) (written None s)

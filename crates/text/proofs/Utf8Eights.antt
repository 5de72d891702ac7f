-- Eight times UTF8-1 at once: the test by their `|` (`eight_low`), and that the rest of the list decides then too (`run_within`, `utf8_no_run`, `utf8-run`).
use Prim.Native.Nat.{ℕ, zero, suc, ◌<◌, ◌≤◌}
use mathlib.Core.Path.{◌≡◌, refl, sym, ◌∙◌, ap}
use mathlib.Core.Bool.{Bool, true, false, cond, ◌&&◌, false≢true, and-true, and-false, and_assoc}
use mathlib.Core.List.{List, [], ◌∷◌}
use mathlib.Core.Logic.{⊎_elim}
use native.Mathlib.Omega.{arith}
use lib.Bits.{bit_or}
use lib.Dec.{ltb, leb}
use lib.ListN.{length, take, drop}
use lib.Seq.{drop-drop}
use borrow.Author.Tests.{lt-ltb, le-ltb, lt-leb, le-leb}
use Rattle.text.specs.Utf8.{Range, ◌to◌, Utf8Char, within, fits, char_len, utf8}
use Rattle.text.specs.Utf8Runs.{eights, run_len}
use Rattle.std.specs.List.{fold, list_all}
use Rattle.std.proofs.lemmas.Nat.{or_lt, le_or_l, le_or_r}
use Rattle.slices.proofs.Cases.{lt-or_ge, and_left, and_right}
use Rattle.std.specs.Prelude.{Some, None}
use Rattle.std.proofs.lemmas.Option.{same_Some, none-some}
use Rattle.text.proofs.Utf8Steps.{fits_le, char_within, utf8-none, utf8_char}

-- The `|` of octets is below 128 where each of them is.
low : ℕ → Bool
low b = ltb b 128

or_low : (a b : ℕ) → low (bit_or a b) ≡ (low a && low b)
unfolding low
or_low a b = ⊎_elim (λ h. ⊎_elim (λ k. rw (lt-ltb (bit_or a b) 128 (or_lt 7 a b h k), lt-ltb a 128 h, lt-ltb b 128 k)) (λ k. rw (le-ltb (bit_or a b) 128 (omega (arith, le_or_r a b)), lt-ltb a 128 h, le-ltb b 128 k)) (lt-or_ge b 128)) (λ h. rw (le-ltb (bit_or a b) 128 (omega (arith, le_or_l a b)), le-ltb a 128 h)) (lt-or_ge a 128)

or_all : (a : ℕ) (s : List ℕ) → low (fold bit_or a s) ≡ (low a && list_all low s)
or_all a [] = sym (and-true (low a))
or_all a (b ∷ s) = or_all (bit_or a b) s ∙ rw (or_low a b) (and_assoc (low a) (low b) (list_all low s))

-- and so does the test of the ranges
ascii_first : ℕ → List Range
ascii_first zero = []
ascii_first (suc n) = 0x00 to 0x7F ∷ ascii_first n

low_is : (b : ℕ) → low b ≡ within (0x00 to 0x7F) b
unfolding low within
low_is b = ⊎_elim (λ h. rw (lt-ltb b 128 h, le-leb 0 b (omega arith), le-leb b 0x7F (omega arith))) (λ h. rw (le-ltb b 128 h, lt-leb b 0x7F (omega arith), and-false (leb 0 b))) (lt-or_ge b 128)

low_first : (n : ℕ) (s : List ℕ) → n ≤ length s → list_all low (take n s) ≡ fits (ascii_first n) s
unfolding fits ascii_first
low_first zero s h = refl
low_first (suc n) [] h = absurd (omega arith)
low_first (suc n) (b ∷ s) h = rw (low_is b) (ap (λ t. within (0x00 to 0x7F) b && t) (low_first n s (omega arith)))

pub eight_low : (s : List ℕ) → 8 ≤ length s → ltb (fold bit_or 0 (take 8 s)) 128 ≡ fits eights s
unfolding eights low ascii_first
eight_low s h = or_all 0 (take 8 s) ∙ low_first 8 s h

pub too_short : (s : List ℕ) → length s < 8 → false ≡ fits eights s
unfolding eights
too_short s h = go (fits eights s) refl
  where
    go : (t : Bool) → fits eights s ≡ t → false ≡ t
    go true e = absurd (omega (arith, h, fits_le eights s e))
    go false e = refl

-- Eight chars more, each UTF8-1.
ascii : (rs : List Range) (b : ℕ) (s : List ℕ) → fits (0x00 to 0x7F ∷ rs) (b ∷ s) ≡ true → char_len Utf8Char (b ∷ s) ≡ Some 1
unfolding fits char_len Utf8Char
ascii rs b s f = rw (and_left (within (0x00 to 0x7F) b) (fits rs s) f)

step : (rs : List Range) (s : List ℕ) → fits (0x00 to 0x7F ∷ rs) s ≡ true → (utf8 s ≡ utf8 (drop 1 s)) × (fits rs (drop 1 s) ≡ true)
unfolding fits
step rs [] f = absurd (false≢true f)
step rs (b ∷ s) f = (utf8_char (b ∷ s) 1 (ascii rs b s f), and_right (within (0x00 to 0x7F) b) (fits rs s) f)

eight-more : (s : List ℕ) → fits eights s ≡ true → utf8 s ≡ utf8 (drop 8 s)
unfolding eights
eight-more s f =
    let a = step _ s f in
    let b = step _ (drop 1 s) a.1 in
    let c = step _ (drop 1 (drop 1 s)) b.1 in
    let d = step _ (drop 1 (drop 1 (drop 1 s))) c.1 in
    let e = step _ (drop 1 (drop 1 (drop 1 (drop 1 s)))) d.1 in
    let g = step _ (drop 1 (drop 1 (drop 1 (drop 1 (drop 1 s))))) e.1 in
    let h = step _ (drop 1 (drop 1 (drop 1 (drop 1 (drop 1 (drop 1 s)))))) g.1 in
    let i = step _ (drop 1 (drop 1 (drop 1 (drop 1 (drop 1 (drop 1 (drop 1 s))))))) h.1 in
    a.0 ∙ b.0 ∙ c.0 ∙ d.0 ∙ e.0 ∙ g.0 ∙ h.0 ∙ i.0 ∙ ap utf8 (ones s)
  where
    ones : (s : List ℕ) → drop 1 (drop 1 (drop 1 (drop 1 (drop 1 (drop 1 (drop 1 (drop 1 s))))))) ≡ drop 8 s
    ones s = simp (drop-drop)

pub run_within : (s : List ℕ) (k : ℕ) → run_len s ≡ Some k → (0 < k) × (k ≤ length s)
unfolding run_len eights
run_within s k e = go (fits eights s) refl e
  where
    go : (t : Bool) → fits eights s ≡ t → cond t (Some 8) (char_len Utf8Char s) ≡ Some k → (0 < k) × (k ≤ length s)
    go true f z = let n = same_Some _ _ z in let l = fits_le eights s f in (omega arith, omega arith)
    go false f z = char_within s k z

pub utf8_no_run : (s : List ℕ) → 0 < length s → run_len s ≡ None → utf8 s ≡ false
unfolding run_len
utf8_no_run s h e = go (fits eights s) refl e
  where
    go : (t : Bool) → fits eights s ≡ t → cond t (Some 8) (char_len Utf8Char s) ≡ None → utf8 s ≡ false
    go true f z = absurd (none-some 8 (sym z))
    go false f z = utf8-none s h z

pub utf8-run : (s : List ℕ) (k : ℕ) → run_len s ≡ Some k → utf8 s ≡ utf8 (drop k s)
unfolding run_len
utf8-run s k e = go (fits eights s) refl e
  where
    go : (t : Bool) → fits eights s ≡ t → cond t (Some 8) (char_len Utf8Char s) ≡ Some k → utf8 s ≡ utf8 (drop k s)
    go true f z = rw (← same_Some _ _ z) (eight-more s f)
    go false f z = utf8_char s k z

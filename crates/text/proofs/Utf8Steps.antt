-- How the definitions of specs/Utf8.antt go on: one char more.
use Prim.Native.Nat.{ℕ, zero, suc, ◌<◌, ◌≤◌}
use mathlib.Core.Path.{◌≡◌, refl, sym, ◌∙◌}
use mathlib.Core.Bool.{Bool, true, false, cond, false≢true}
use mathlib.Core.List.{List, [], ◌∷◌}
use native.Mathlib.Omega.{arith}
use lib.ListN.{length, drop, length-drop}
use Rattle.slices.proofs.Cases.{and_right}
use Rattle.std.specs.Prelude.{Option, Some, None}
use Rattle.std.proofs.lemmas.Option.{same_Some, none-some}
use Rattle.text.specs.Utf8.{Range, Utf8Char, within, fits, char_len, chars, utf8}

-- An alternative that fits is no longer than the list.
pub fits_le : (rs : List Range) (s : List ℕ) → fits rs s ≡ true → length rs ≤ length s
unfolding fits
fits_le [] s e = omega arith
fits_le (r ∷ rs) [] e = absurd (false≢true e)
fits_le (r ∷ rs) (b ∷ s) e = let h : length rs ≤ length s = fits_le rs s (and_right (within r b) (fits rs s) e) in omega arith

-- A char has at least one octet, and no more than the list.
no_empty : List (List Range) → Bool
no_empty [] = true
no_empty ([] ∷ rs) = false
no_empty ((r ∷ q) ∷ rs) = no_empty rs

char_in : (rs : List (List Range)) (s : List ℕ) (k : ℕ) → no_empty rs ≡ true → char_len rs s ≡ Some k → (0 < k) × (k ≤ length s)
unfolding no_empty char_len
char_in [] s k h e = absurd (none-some k e)
char_in ([] ∷ rs) s k h e = absurd (false≢true h)
char_in ((r ∷ q) ∷ rs) s k h e = go (char_in rs s k h) (fits (r ∷ q) s) refl e
  where
    go : (char_len rs s ≡ Some k → (0 < k) × (k ≤ length s)) → (t : Bool) → fits (r ∷ q) s ≡ t → cond t (Some (suc (length q))) (char_len rs s) ≡ Some k → (0 < k) × (k ≤ length s)
    go f true t c = let n = same_Some _ _ c in let l : suc (length q) ≤ length s = fits_le (r ∷ q) s t in (omega arith, omega arith)
    go f false t c = f c

pub char_within : (s : List ℕ) (k : ℕ) → char_len Utf8Char s ≡ Some k → (0 < k) × (k ≤ length s)
unfolding no_empty Utf8Char
char_within s k e = char_in Utf8Char s k refl e

-- The chars of a list that is not empty, where no alternative fits, and where one of k octets does.
chars-none : (n b : ℕ) (s : List ℕ) → char_len Utf8Char (b ∷ s) ≡ None → chars (suc n) (b ∷ s) ≡ false
unfolding chars
chars-none n b s e = rw (e, chars)

chars_char : (n b : ℕ) (s : List ℕ) (k : ℕ) → char_len Utf8Char (b ∷ s) ≡ Some k → chars (suc n) (b ∷ s) ≡ chars n (drop k (b ∷ s))
unfolding chars
chars_char n b s k e = rw (e, chars)

-- Any two bounds that are no less than the length give the same.
chars-same : (n m : ℕ) (s : List ℕ) → length s ≤ n → length s ≤ m → chars n s ≡ chars m s
unfolding chars
chars-same zero zero s p q = refl
chars-same zero (suc m) [] p q = refl
chars-same (suc n) zero [] p q = refl
chars-same (suc n) (suc m) [] p q = refl
chars-same zero (suc m) (b ∷ s) p q = absurd (omega arith)
chars-same (suc n) zero (b ∷ s) p q = absurd (omega arith)
chars-same (suc n) (suc m) (b ∷ s) p q = go (λ k h. chars-same n m (drop k (b ∷ s)) (omega (arith, length-drop k (b ∷ s))) (omega (arith, length-drop k (b ∷ s)))) (char_len Utf8Char (b ∷ s)) refl
  where
    go : ((k : ℕ) → 0 < k → chars n (drop k (b ∷ s)) ≡ chars m (drop k (b ∷ s))) → (o : Option ℕ) → char_len Utf8Char (b ∷ s) ≡ o → chars (suc n) (b ∷ s) ≡ chars (suc m) (b ∷ s)
    go f None e = chars-none n b s e ∙ sym (chars-none m b s e)
    go f (Some k) e = chars_char n b s k e ∙ f k (char_within (b ∷ s) k e).0 ∙ sym (chars_char m b s k e)

-- UTF8-octets = *( UTF8-char ): the empty list; none where no alternative fits; and the char, then the rest.
pub utf8_nil : utf8 [] ≡ true
unfolding utf8 chars
utf8_nil = refl

pub utf8-none : (s : List ℕ) → 0 < length s → char_len Utf8Char s ≡ None → utf8 s ≡ false
unfolding utf8
utf8-none [] h e = absurd (omega arith)
utf8-none (b ∷ s) h e = chars-none (length s) b s e

pub utf8_char : (s : List ℕ) (k : ℕ) → char_len Utf8Char s ≡ Some k → utf8 s ≡ utf8 (drop k s)
unfolding utf8
utf8_char [] k e = let w = char_within [] k e in absurd (omega arith)
utf8_char (b ∷ s) k e =
    let w = char_within (b ∷ s) k e in
    chars_char (length s) b s k e ∙ chars-same (length s) (length (drop k (b ∷ s))) (drop k (b ∷ s)) (omega (arith, length-drop k (b ∷ s))) (omega arith)

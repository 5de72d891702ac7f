-- One step of each search of specs/Names, at a place in a list: what the loops' proofs cite.
use Prim.Native.Nat.{ℕ, zero, suc, ◌+◌, ◌*◌, ◌-◌, ◌≤◌, ◌<◌}
use mathlib.Core.Path.{◌≡◌, refl, sym, ◌∙◌, ap}
use mathlib.Core.List.{List, [], ◌∷◌}
use mathlib.Core.Bool.{Bool, true, false, cond, ◌&&◌, ◌||◌, and-false, false≢true}
use Rattle.std.proofs.Common.{None, Some, not}
use Rattle.std.proofs.lemmas.Option.{none-some}
use Rattle.std.specs.Char.{is_ascii_digit}
use Rattle.std.specs.List.{list_any}
use Rattle.std.specs.Cmp.Lexicographic.{pointwise}
use native.Mathlib.Omega.{arith}
use native.Mathlib.Numerals.{add-one}
use lib.ListN.{length, get_or, take, drop, length-drop, drop_of_length-le}
use lib.Seq.{take_all, drop-cons}
use lib.Dec.{eqb, leb}
use borrow.Author.Tests.{eq-eqb, ne_eqb, lt-ltb, lt-leb, le-leb, eqb-true, eqb-false}
use Rattle.names.specs.Names.{starts_with, special, contains, rfind, digit, digits, value, number, prefixed}

-- The part `&s[k..]` is the name without its first k bytes.
pub rest : (k : ℕ) (s : List ℕ) → take (length s - k) (drop k s) ≡ drop k s
rest k s = take_all (length s - k) (drop k s) (omega (arith, length-drop k s))

eqb-flip : (a b : ℕ) → eqb b a ≡ eqb a b
eqb-flip a b = go (eqb a b) refl
  where
    go : (t : Bool) → eqb a b ≡ t → eqb b a ≡ t
    go true e = eq-eqb b a (sym (eqb-true a b e))
    go false e = ne_eqb b a (λ k. eqb-false a b e (sym k))

-- The library's `starts_with` is ours.
pub stands : (p s : List ℕ) → pointwise eqb p (take (length p) s) ≡ starts_with p s
unfolding starts_with
stands [] s = refl
stands (b ∷ p) [] = refl
stands (b ∷ p) (a ∷ s) = rw (eqb-flip a b, stands p s)

-- the answer b of the library's
pub stood : (p s : List ℕ) {r b : Bool} → r ≡ pointwise eqb p (take (length p) s) → r ≡ b → starts_with p s ≡ b
stood p s e f = sym (stands p s) ∙ (sym e ∙ f)

-- `contains`: what `any` answers.
pub contains-any : (s : List ℕ) → list_any special s ≡ contains s
unfolding contains
contains-any [] = refl
contains-any (b ∷ s) = ap (λ (t : Bool). special b || t) (contains-any s)

-- `rfind`, from the end down.
module _ (p s : List ℕ) where
  pub rfind-none : (i : ℕ) → i ≤ 0 → rfind p s i ≡ None
  unfolding rfind
  rfind-none zero h = refl
  rfind-none (suc n) h = absurd (omega arith)

  pub rfind-here : (i : ℕ) → 0 < i → starts_with p (drop (i - 1) s) ≡ true → rfind p s i ≡ Some (i - 1)
  unfolding rfind
  rfind-here zero h e = absurd (omega arith)
  rfind-here (suc n) h e = let q : suc n - 1 ≡ n = omega arith in rw (q, rw q at e)

  pub rfind_lower : (i : ℕ) → 0 < i → starts_with p (drop (i - 1) s) ≡ false → rfind p s i ≡ rfind p s (i - 1)
  unfolding rfind
  rfind_lower zero h e = absurd (omega arith)
  rfind_lower (suc n) h e = let q : suc n - 1 ≡ n = omega arith in rw (q, rw q at e)

-- `number`: the bytes s are digits and, following the number n, make one that fits 32 bits.
unfoldable pub fits : ℕ → List ℕ → Bool
fits n s = digits s && leb (value n s) 4294967295

-- More digits never make a number smaller.
pub value_grows : (n : ℕ) (s : List ℕ) → n ≤ value n s
unfolding value
value_grows n [] = omega arith
value_grows n (b ∷ s) = omega (arith, value_grows (n * 10 + (b - 48)) s)

module _ (s : List ℕ) (i : ℕ) where
  pub fits-done : {n : ℕ} → length s ≤ i → n ≤ 4294967295 → fits n (drop i s) ≡ true
  unfolding fits digits value
  fits-done {n} h f = rw (drop_of_length-le s h, le-leb n 4294967295 f)

  pub fits-other : (n : ℕ) → i < length s → digit (get_or s i 0) ≡ false → fits n (drop i s) ≡ false
  unfolding fits digits
  fits-other n h e = rw (drop-cons s i 0 h, e)

  pub fits_more : (n : ℕ) → i < length s → digit (get_or s i 0) ≡ true → fits n (drop i s) ≡ fits (n * 10 + (get_or s i 0 - 48)) (drop (i + 1) s)
  unfolding fits digits value
  fits_more n h e = rw (drop-cons s i 0 h, e, add-one i)

-- A number that is too great already stays so.
pub fits-over : (n : ℕ) (s : List ℕ) → 4294967295 < n → fits n s ≡ false
unfolding fits
fits-over n s h = rw (lt-leb (value n s) 4294967295 (omega (arith, value_grows n s)), and-false)

pub digit-is : (b : ℕ) → is_ascii_digit b ≡ digit b
unfolding digit
digit-is b = refl

pub number_other : (s : List ℕ) → fits 0 s ≡ false → false ≡ number s
unfolding number fits
number_other s h = rw (h, and-false)

pub number-done : (s : List ℕ) (r : Bool) → r ≡ eqb (length s) 0 → fits 0 s ≡ true → not r ≡ number s
unfolding number fits
number-done [] r e h = rw e
number-done (b ∷ s) r e h = rw (e, h, lt-ltb 0 (suc (length s)) (omega arith), ne_eqb (suc (length s)) 0 (λ k. omega arith))

-- A pattern that stands in a name lies in it.
pub starts-within : (p s : List ℕ) → starts_with p s ≡ true → length p ≤ length s
unfolding starts_with
starts-within [] s h = omega arith
starts-within (b ∷ p) [] h = absurd (false≢true h)
starts-within (b ∷ p) (a ∷ s) h = go (eqb a b) h (starts-within p s)
  where
    go : (t : Bool) → (t && starts_with p s) ≡ true → (starts_with p s ≡ true → length p ≤ length s) → suc (length p) ≤ suc (length s)
    go true e r = let l : length p ≤ length s = r e in omega arith
    go false e r = absurd (false≢true e)

-- A place that `rfind` finds is one at which the pattern stands.
pub rfind-found : (p s : List ℕ) (n k : ℕ) → rfind p s n ≡ Some k → (k < n) × (starts_with p (drop k s) ≡ true)
unfolding rfind
rfind-found p s zero k h = absurd (none-some k h)
rfind-found p s (suc n) k h = go (starts_with p (drop n s)) refl h (rfind-found p s n k)
  where
    go : (t : Bool) → starts_with p (drop n s) ≡ t → cond t (Some n) (rfind p s n) ≡ Some k
        → (rfind p s n ≡ Some k → (k < n) × (starts_with p (drop k s) ≡ true)) → (k < suc n) × (starts_with p (drop k s) ≡ true)
    go true e f r = let q : n ≡ k = (let z : Some n ≡ Some k = f in cc) in (omega arith, rw q at e)
    go false e f r = let q : k < n = (r f).0 in (omega arith, (r f).1)

-- A name with a prefix has a byte.
pub prefixed-within : (s : List ℕ) → prefixed s ≡ true → 1 ≤ length s
unfolding prefixed starts_with
prefixed-within [] h = absurd (false≢true h)
prefixed-within (b ∷ s) h = omega arith

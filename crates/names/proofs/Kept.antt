-- A name that is UTF-8 stays so: every cut is at an ASCII byte.
use Prim.Native.Nat.{ℕ, ◌+◌, ◌<◌}
use mathlib.Core.Path.{◌≡◌, refl, sym, ◌∙◌}
use mathlib.Core.List.{List, [], ◌∷◌}
use mathlib.Core.Bool.{Bool, true, false, ◌&&◌, ◌||◌, false≢true}
use Rattle.std.proofs.Common.{Some}
use native.Mathlib.Omega.{arith}
use lib.ListN.{length, get_or, drop}
use lib.Seq.{get_or-drop}
use lib.Dec.{eqb}
use borrow.Author.Tests.{eqb-true}
use Rattle.text.specs.Utf8.{utf8}
use Rattle.text.proofs.Utf8Laws.{utf8-take-ascii, utf8-after-ascii}
use Rattle.names.specs.Names.{starts_with, cut, prefixed, undecorated}
use Rattle.names.proofs.Laws.{rfind-found}
use Rattle.names.proofs.Sizes.{cut-found}
use Rattle.names.proofs.Parts.{by_outcome}

-- Where a pattern stands, its first byte does.
starts_first : (b : ℕ) (p s : List ℕ) → starts_with (b ∷ p) s ≡ true → get_or s 0 0 ≡ b
unfolding starts_with
starts_first b p [] h = absurd (false≢true h)
starts_first b p (a ∷ s) h = go (eqb a b) refl h
  where
    go : (t : Bool) → eqb a b ≡ t → (t && starts_with p s) ≡ true → a ≡ b
    go true e f = eqb-true a b e
    go false e f = absurd (false≢true f)

cut-first : (b : ℕ) (p s : List ℕ) (n : ℕ) → cut (b ∷ p) s ≡ Some n → get_or s n 0 ≡ b
cut-first b p s n h =
    let z : n + 0 ≡ n = omega arith in
    rw z at (sym (get_or-drop n s 0 0) ∙ starts_first b p (drop n s) (rfind-found (b ∷ p) s (length s) n (cut-found (b ∷ p) s n h)).1)

prefixed-first : (s : List ℕ) → prefixed s ≡ true → get_or s 0 0 < 128
unfolding prefixed
prefixed-first s h = go (starts_with (64 ∷ []) s) refl h
  where
    go : (t : Bool) → starts_with (64 ∷ []) s ≡ t → (t || starts_with (95 ∷ []) s) ≡ true → get_or s 0 0 < 128
    go true e f = omega (arith, starts_first 64 [] s e)
    go false e f = omega (arith, starts_first 95 [] s f)

pub utf8-kept : (s : List ℕ) → utf8 s ≡ true → utf8 (undecorated s) ≡ true
utf8-kept s valid =
    by_outcome (λ r. utf8 r ≡ true) s
    valid
    (λ n e. utf8-take-ascii s n (omega (arith, cut-first 64 (64 ∷ []) s n e)) valid)
    (λ f n e. utf8-take-ascii (drop 1 s) n (omega (arith, cut-first 64 [] (drop 1 s) n e)) (tail f))
    tail
  where
    tail : prefixed s ≡ true → utf8 (drop 1 s) ≡ true
    tail f = utf8-after-ascii s 0 (prefixed-first s f) valid

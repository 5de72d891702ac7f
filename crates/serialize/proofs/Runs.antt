-- Runs of stores (`sets`): what they leave alone, in which order they may be made, and what a later run covers.
use Prim.Native.Nat.{ℕ, zero, suc, ◌+◌, ◌≤◌}
use mathlib.Core.Path.{◌≡◌, refl, ap, sym, ◌∙◌}
use mathlib.Core.List.{List, [], ◌∷◌}
use mathlib.Core.Logic.{inl}
use native.Mathlib.Omega.{arith}
use lib.ListN.{length, set, take, drop}
use lib.Seq.{sets, sets-eq, length-sets, take-set-le, drop-set-lt}
use Rattle.slices.specs.Bytes.{le_at}
use Rattle.slices.proofs.Runs.{sets-low, sets-high, set_apart}

-- ── What is not stored to ──

pub take-before : (xs s : List ℕ) (a n : ℕ) → n ≤ a → take n (sets s a xs) ≡ take n s
take-before [] s a n h = refl
take-before (x ∷ xs) s a n h = take-before xs (set s a x) (suc a) n (omega arith) ∙ take-set-le n s a x h

pub drop-after : (xs s : List ℕ) (a n : ℕ) → a + length xs ≤ n → drop n (sets s a xs) ≡ drop n s
drop-after [] s a n h = refl
drop-after (x ∷ xs) s a n h = drop-after xs (set s a x) (suc a) n (omega arith) ∙ drop-set-lt n s a x (omega arith)

-- a number below a run, and one above it
pub le_at-below : (w : ℕ) (xs s : List ℕ) (a k : ℕ) → k + w ≤ a → le_at w (sets s a xs) k ≡ le_at w s k
unfolding le_at
le_at-below zero xs s a k h = refl
le_at-below (suc w) xs s a k h = rw (sets-low xs s a k (omega arith), le_at-below w xs s a (suc k) (omega arith))

pub le_at-above : (w : ℕ) (xs s : List ℕ) (a k : ℕ) → a + length xs ≤ k → le_at w (sets s a xs) k ≡ le_at w s k
unfolding le_at
le_at-above zero xs s a k h = refl
le_at-above (suc w) xs s a k h = rw (sets-high xs s a k h, le_at-above w xs s a (suc k) (omega arith))

-- ── Two runs ──

-- apart from each other, in either order
pub sets_comm : (xs ys s : List ℕ) (a b : ℕ) → a + length xs ≤ b → sets (sets s a xs) b ys ≡ sets (sets s b ys) a xs
sets_comm [] ys s a b h = refl
sets_comm (x ∷ xs) ys s a b h = sets_comm xs ys (set s a x) (suc a) b (omega arith) ∙ ap (λ (l : List ℕ). sets l (suc a) xs) (set_apart ys s b a x (inl (omega arith)))

-- the first within the second
pub sets_cover : (xs ys s : List ℕ) (a b : ℕ) → b ≤ a → a + length xs ≤ b + length ys → b + length ys ≤ length s → sets (sets s a xs) b ys ≡ sets s b ys
sets_cover xs ys s a b h k l =
    sets-eq ys (sets s a xs) b (rw (length-sets s a xs) l)
    ∙ rw (take-before xs s a b h, drop-after xs s a (b + length ys) k) (sym (sets-eq ys s b l))

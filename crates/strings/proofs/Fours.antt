-- The hash of a text by folds: over its whole fours, and then over the bytes that are left.
use Prim.Native.Nat.{ℕ, zero, suc, ◌*◌, ◌/◌}
use mathlib.Core.Path.{◌≡◌, refl}
use mathlib.Core.List.{List, [], ◌∷◌}
use native.Mathlib.Omega.{arith}
use lib.ListN.{length, drop}
use mir.Syntax.{w32}
use Rattle.std.specs.Int.{from_le_bytes}
use Rattle.std.specs.List.{fold}
use Rattle.std.specs.Simd.{first_chunks}
use Rattle.strings.specs.Strings.{mixed, four, hash_from}

-- x carried on by four bytes
abbrev pub mixed_four : ℕ → List ℕ → ℕ
mixed_four x t = mixed x (from_le_bytes w32 t)

four-is : (a b c d : ℕ) → from_le_bytes w32 (a ∷ (b ∷ (c ∷ (d ∷ [])))) ≡ four a b c d
four-is a b c d = omega arith

pub folded : (t : List ℕ) (x k : ℕ) → length t / 4 ≡ k → hash_from x t ≡ fold mixed (fold mixed_four x (first_chunks 4 k t)) (drop (k * 4) t)
unfolding hash_from
folded [] x zero e = refl
folded [] x (suc k) e = absurd (omega arith)
folded (a ∷ []) x zero e = refl
folded (a ∷ []) x (suc k) e = absurd (omega arith)
folded (a ∷ (b ∷ [])) x zero e = refl
folded (a ∷ (b ∷ [])) x (suc k) e = absurd (omega arith)
folded (a ∷ (b ∷ (c ∷ []))) x zero e = refl
folded (a ∷ (b ∷ (c ∷ []))) x (suc k) e = absurd (omega arith)
folded (a ∷ (b ∷ (c ∷ (d ∷ t)))) x zero e = absurd (omega arith)
folded (a ∷ (b ∷ (c ∷ (d ∷ t)))) x (suc k) e =
    let m : suc k * 4 ≡ suc (suc (suc (suc (k * 4)))) = omega arith in
    rw (m, four-is a b c d) (folded t (mixed x (four a b c d)) k (omega arith))

-- Runs of stores (`sets`): what is read below a run, past it and in it, and a store that is not in it.
use Prim.Native.Nat.{ℕ, zero, suc, ◌+◌, ◌<◌, ◌≤◌}
use mathlib.Core.Path.{◌≡◌, refl, ◌∙◌}
use mathlib.Core.List.{List, [], ◌∷◌}
use mathlib.Core.Logic.{◌⊎◌, inl, inr, ⊎_elim}
use native.Mathlib.Omega.{arith}
use lib.ListN.{length, get_or, set, length-set}
use lib.Seq.{sets, set_comm, get_or-set_same, get_or-set_other}

pub sets-low : (vs s : List ℕ) (at j : ℕ) → j < at → get_or (sets s at vs) j 0 ≡ get_or s j 0
sets-low [] s at j h = refl
sets-low (v ∷ vs) s at j h = sets-low vs (set s at v) (suc at) j (omega arith) ∙ get_or-set_other s at j v 0 (omega arith)

pub sets-high : (vs s : List ℕ) (at j : ℕ) → at + length vs ≤ j → get_or (sets s at vs) j 0 ≡ get_or s j 0
sets-high [] s at j h = refl
sets-high (v ∷ vs) s at j h = sets-high vs (set s at v) (suc at) j (omega arith) ∙ get_or-set_other s at j v 0 (omega arith)

pub sets_in : (vs s : List ℕ) (at i j : ℕ) → j ≡ at + i → i < length vs → at + length vs ≤ length s → get_or (sets s at vs) j 0 ≡ get_or vs i 0
sets_in [] s at i j e h fits = absurd (omega arith)
sets_in (v ∷ vs) s at zero j e h fits =
    let e' : j ≡ at = omega arith in
    rw e' (sets-low vs (set s at v) (suc at) at (omega arith) ∙ get_or-set_same s at v 0 (omega arith))
sets_in (v ∷ vs) s at (suc i) j e h fits = sets_in vs (set s at v) (suc at) i j (omega arith) (omega arith) (rw (length-set s at v) (omega arith))

-- a store below a run or past it may come before or after it
pub set_apart : (vs s : List ℕ) (at j x : ℕ) → (j < at) ⊎ (at + length vs ≤ j) → sets (set s j x) at vs ≡ set (sets s at vs) j x
set_apart [] s at j x h = refl
set_apart (v ∷ vs) s at j x h =
    rw (set_comm s j at x v (λ e. ⊎_elim (λ l. omega arith) (λ l. omega arith) h))
    (set_apart vs (set s at v) (suc at) j x (⊎_elim (λ l. inl (omega arith)) (λ l. inr (omega arith)) h))

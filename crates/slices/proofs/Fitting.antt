-- What a copy to the part of a slice that has room leaves.
use Prim.Native.Nat.{ℕ, ◌-◌, min}
use mathlib.Core.Path.{◌≡◌}
use mathlib.Core.List.{List}
use mathlib.Core.Logic.{⊎_elim}
use native.Mathlib.Omega.{arith}
use lib.ListN.{length, take}
use lib.Seq.{sets, take_all}
use Rattle.slices.proofs.Cases.{lt-or_ge}
use Rattle.slices.proofs.Bytes.{sets-fitting}

-- n bytes of t have room in s from `at` on, and no more: as many as are stored there are all that can be
pub copied-part : (s t : List ℕ) (at n : ℕ) → n ≡ min (length t) (length s - at) → sets s at (take n t) ≡ sets s at t
copied-part s t at n e =
    ⊎_elim (λ short. sets-fitting t s at n (omega arith) (omega arith)) (λ all. rw (take_all n t all)) (lt-or_ge n (length t))

-- What `cut` finds: a place at which its pattern stands, with a number behind it.
use Prim.Native.Nat.{ℕ, ◌+◌, ◌≤◌, ◌<◌}
use mathlib.Core.Path.{◌≡◌}
use mathlib.Core.List.{List}
use mathlib.Core.Bool.{Bool, true, false, cond}
use Rattle.std.proofs.Common.{Option, None, Some}
use Rattle.std.proofs.lemmas.Option.{none-some}
use native.Mathlib.Omega.{arith}
use lib.ListN.{length, drop, length-drop}
use Rattle.names.specs.Names.{rfind, parses, sized, cut}
use Rattle.names.proofs.Laws.{starts-within, rfind-found}

module _ (p s : List ℕ) where
  -- A pattern that `rfind` finds lies in the name.
  pub rfind-within : (k : ℕ) → rfind p s (length s) ≡ Some k → k + length p ≤ length s
  rfind-within k h =
      let f = rfind-found p s (length s) k h in
      let l : k < length s = f.0 in
      omega (arith, starts-within p (drop k s) f.1, length-drop k s)

  pub cut-none : rfind p s (length s) ≡ None → cut p s ≡ None
  unfolding cut sized
  cut-none h = rw h

  pub cut-some : (k : ℕ) → rfind p s (length s) ≡ Some k → parses (drop (k + length p) s) ≡ true → cut p s ≡ Some k
  unfolding cut sized
  cut-some k h e = rw (h, e)

  pub cut-other : (k : ℕ) → rfind p s (length s) ≡ Some k → parses (drop (k + length p) s) ≡ false → cut p s ≡ None
  unfolding cut sized
  cut-other k h e = rw (h, e)

  -- Where `cut` finds a place, `rfind` found it.
  pub cut-found : (k : ℕ) → cut p s ≡ Some k → rfind p s (length s) ≡ Some k
  unfolding cut sized
  cut-found k h = go (rfind p s (length s)) h
    where
      keep : (t : Bool) (n : ℕ) → cond t (Some n) None ≡ Some k → Some n ≡ Some k
      keep true n e = e
      keep false n e = absurd (none-some k e)

      go : (o : Option ℕ) → sized p s o ≡ Some k → o ≡ Some k
      go None e = e
      go (Some n) e = keep (parses (drop (n + length p) s)) n e

  pub cut-within : (k : ℕ) → cut p s ≡ Some k → k ≤ length s
  cut-within k h = let w : k + length p ≤ length s = rfind-within k (cut-found k h) in omega arith

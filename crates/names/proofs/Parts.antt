-- The answer is a part of the name that was lent.
use Prim.Native.Nat.{ℕ, ◌+◌, ◌-◌, ◌≤◌}
use mathlib.Core.Path.{◌≡◌, refl, sym}
use mathlib.Core.List.{List, [], ◌∷◌}
use mathlib.Core.Bool.{Bool, true, false, cond, ◌||◌}
use Rattle.std.proofs.Common.{Option, None, Some, unwrap_or}
use Rattle.std.specs.Option.{option_map}
use native.Mathlib.Omega.{arith}
use lib.ListN.{length, take, drop, length-drop}
use lib.Seq.{take-length}
use Rattle.names.specs.Names.{starts_with, contains, cut, text_before, prefixed, undecorated}
use Rattle.names.proofs.Laws.{rest, prefixed-within}
use Rattle.names.proofs.Sizes.{cut-within}

-- The four outcomes: what holds of each of them holds of the answer.
module _ (P : List ℕ → Type 0) (s : List ℕ) where
  module _ (kept : P s) (vectorcall : (n : ℕ) → cut (64 ∷ 64 ∷ []) s ≡ Some n → P (take n s)) (stdcall : prefixed s ≡ true → (n : ℕ) → cut (64 ∷ []) (drop 1 s) ≡ Some n → P (take n (drop 1 s))) (cdecl : prefixed s ≡ true → P (drop 1 s)) where
    pub by_outcome : P (undecorated s)
    unfolding undecorated
    by_outcome = alone (starts_with (63 ∷ []) s || contains s)
      where
        underscored : (t : Bool) → prefixed s ≡ true → P (cond t (drop 1 s) s)
        underscored true f = cdecl f
        underscored false f = kept

        single : (o : Option ℕ) → cut (64 ∷ []) (drop 1 s) ≡ o → prefixed s ≡ true
            → P (unwrap_or (option_map (λ n. take n (drop 1 s)) o) (cond (starts_with (95 ∷ []) s) (drop 1 s) s))
        single None e f = underscored (starts_with (95 ∷ []) s) f
        single (Some n) e f = stdcall f n e

        first : (t : Bool) → prefixed s ≡ t
            → P (cond t (unwrap_or (text_before (64 ∷ []) (drop 1 s)) (cond (starts_with (95 ∷ []) s) (drop 1 s) s)) s)
        first true f = single (cut (64 ∷ []) (drop 1 s)) refl f
        first false f = kept

        double : (o : Option ℕ) → cut (64 ∷ 64 ∷ []) s ≡ o
            → P (unwrap_or (option_map (λ n. take n s) o)
            (cond (prefixed s) (unwrap_or (text_before (64 ∷ []) (drop 1 s)) (cond (starts_with (95 ∷ []) s) (drop 1 s) s)) s))
        double None e = first (prefixed s) refl
        double (Some n) e = vectorcall n e

        alone : (t : Bool) → P (cond t s
            (unwrap_or (text_before (64 ∷ 64 ∷ []) s)
            (cond (prefixed s) (unwrap_or (text_before (64 ∷ []) (drop 1 s)) (cond (starts_with (95 ∷ []) s) (drop 1 s) s)) s)))
        alone true = kept
        alone false = double (cut (64 ∷ 64 ∷ []) s) refl

-- r is the part of s that begins at k and is n long.
pub record Part (s r : List ℕ) : Type 0 where
  pub k : ℕ
  pub n : ℕ
  pub within : k + n ≤ length s
  pub is : r ≡ take n (drop k s)

pub part : (s : List ℕ) → Part s (undecorated s)
part s =
    by_outcome (Part s) s
    (record { k = 0; n = length s; within = omega arith; is = sym (take-length s) })
    (λ n e. record { k = 0; n = n; within = let w : n ≤ length s = cut-within (64 ∷ 64 ∷ []) s n e in omega arith; is = refl })
    (λ f n e. record { k = 1; n = n; within = omega (arith, prefixed-within s f, cut-within (64 ∷ []) (drop 1 s) n e, length-drop 1 s); is = refl })
    (λ f. record { k = 1; n = length s - 1; within = omega (arith, prefixed-within s f); is = sym (rest 1 s) })

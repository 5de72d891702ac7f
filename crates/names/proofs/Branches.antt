-- The branches of `parses` and of `undecorated`, one equation each, in the order of the code.
use Prim.Native.Nat.{ℕ}
use mathlib.Core.Path.{◌≡◌}
use mathlib.Core.List.{List, [], ◌∷◌}
use mathlib.Core.Bool.{true, false}
use Rattle.std.proofs.Common.{None, Some}
use lib.ListN.{take, drop}
use Rattle.names.specs.Names.{starts_with, contains, number, parses, cut, prefixed, undecorated}

module _ (s : List ℕ) where
  pub plus : starts_with (43 ∷ []) s ≡ true → parses s ≡ number (drop 1 s)
  unfolding parses
  plus h = rw h

  pub no_plus : starts_with (43 ∷ []) s ≡ false → parses s ≡ number s
  unfolding parses
  no_plus h = rw h

module _ (s : List ℕ) where
  pub mangled : starts_with (63 ∷ []) s ≡ true → undecorated s ≡ s
  unfolding undecorated
  mangled a = rw a

  module _ (a : starts_with (63 ∷ []) s ≡ false) where
    pub qualified : contains s ≡ true → undecorated s ≡ s
    unfolding undecorated
    qualified b = rw (a, b)

    module _ (b : contains s ≡ false) where
      pub vectorcall : (n : ℕ) → cut (64 ∷ 64 ∷ []) s ≡ Some n → undecorated s ≡ take n s
      unfolding undecorated
      vectorcall n e = rw (a, b, e)

      module _ (v : cut (64 ∷ 64 ∷ []) s ≡ None) where
        pub plain : prefixed s ≡ false → undecorated s ≡ s
        unfolding undecorated
        plain f = rw (a, b, v, f)

        module _ (f : prefixed s ≡ true) where
          pub stdcall : (n : ℕ) → cut (64 ∷ []) (drop 1 s) ≡ Some n → undecorated s ≡ take n (drop 1 s)
          unfolding undecorated
          stdcall n e = rw (a, b, v, f, e)

          pub cdecl : cut (64 ∷ []) (drop 1 s) ≡ None → starts_with (95 ∷ []) s ≡ true → undecorated s ≡ drop 1 s
          unfolding undecorated
          cdecl e u = rw (a, b, v, f, e, u)

          pub fastcall_kept : cut (64 ∷ []) (drop 1 s) ≡ None → starts_with (95 ∷ []) s ≡ false → undecorated s ≡ s
          unfolding undecorated
          fastcall_kept e u = rw (a, b, v, f, e, u)

-- Runs of stores: a number's digits from the last to the first (`hex_turn`), and a line that is filled from its start (`next`).
use Prim.Native.Nat.{ℕ, zero, suc, ◌+◌, ◌-◌, ◌/◌, ◌%◌, ◌<◌, ◌≤◌}
use mathlib.Core.Path.{◌≡◌, refl, sym, ◌∙◌, ap}
use mathlib.Core.List.{List, [], ◌∷◌, ◌++◌}
use mathlib.Core.Logic.{inr}
use native.Mathlib.Omega.{arith}
use lib.ListN.{length, set, replicate, length-append, length-replicate}
use lib.Seq.{sets, sets-eq}
use lib.Seq.{take-append_seam, drop-append-add}
use Rattle.std.proofs.lemmas.List.{drop-replicate}
use Rattle.slices.proofs.Runs.{set_apart}
use Rattle.printed_lines.specs.Printed.{hex_digit, hex_field, spaced}

-- the last element of a run
sets_last : (vs s : List ℕ) (at j x : ℕ) → j ≡ at + length vs → sets s at (vs ++ (x ∷ [])) ≡ set (sets s at vs) j x
sets_last [] s at j x e = let e' : j ≡ at = omega arith in rw e'
sets_last (v ∷ vs) s at j x e = sets_last vs (set s at v) (suc at) j x (omega arith)

pub hex_length : (width v : ℕ) → length (hex_field width v) ≡ width
unfolding hex_field
hex_length zero v = refl
hex_length (suc width) v =
    let l = length-append (hex_field width (v / 16)) (hex_digit (v % 16) ∷ []) in
    let i = hex_length width (v / 16) in
    omega (arith, l, i)

-- one turn of `put_hex`: the last digit is stored, the others are still to come
pub hex_turn : (s : List ℕ) (at left v : ℕ) → 0 < left
    → sets (set s (at + (left - 1)) (hex_digit (v % 16))) at (hex_field (left - 1) (v / 16)) ≡ sets s at (hex_field left v)
unfolding hex_field
hex_turn s at zero v h = absurd (omega arith)
hex_turn s at (suc w) v h =
    let e : suc w - 1 ≡ w = omega arith in
    let l = hex_length w (v / 16) in
    rw e
    (set_apart (hex_field w (v / 16)) s at (at + w) (hex_digit (v % 16)) (inr (omega (arith, l)))
    ∙ sym (sets_last (hex_field w (v / 16)) s at (at + w) (hex_digit (v % 16)) (omega (arith, l))))

-- no digit is left
pub hex_done : (s : List ℕ) (at left v : ℕ) → left ≤ 0 → sets s at (hex_field left v) ≡ s
unfolding hex_field
hex_done s at zero v h = refl
hex_done s at (suc w) v h = absurd (omega arith)

pub spaced-length : (v : ℕ) → length (spaced v) ≡ 9
unfolding spaced
spaced-length v = ap suc (hex_length 8 v)

-- a line of line feeds whose first bytes are `vs`, and n are left
pub record Filled (vs s : List ℕ) (n : ℕ) : Type 0 where
  pub stands : s ≡ vs ++ replicate n 10

pub blank : (n : ℕ) → Filled [] (replicate n 10) n
blank n = record { stands = refl }

-- `ws` stored after them
pub next : {vs s s' : List ℕ} {n : ℕ} (ws : List ℕ) (at m : ℕ) → Filled vs s n → at ≡ length vs → n ≡ length ws + m → s' ≡ sets s at ws → Filled (vs ++ ws) s' m
next {vs} {s} {s'} {n} ws at m f e h g = record {
  stands = go f.stands;
} where
  long : length (vs ++ replicate n 10) ≡ length vs + n
  long = length-append vs (replicate n 10) ∙ ap (λ (k : ℕ). length vs + k) (length-replicate n 10)

  left : n - length ws ≡ m
  left = omega arith

  go : s ≡ vs ++ replicate n 10 → s' ≡ vs ++ ws ++ replicate m 10
  go k = rw (g, k, e, sets-eq ws (vs ++ replicate n 10) (length vs) (omega (arith, long)), take-append_seam, drop-append-add, drop-replicate, left)

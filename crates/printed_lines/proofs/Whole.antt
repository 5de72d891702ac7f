-- How long each printed line is, that nothing changes where it has no room, and that its bytes are what is stored in a line of line feeds, field by field.
use Prim.Native.Nat.{ℕ, ◌+◌}
use mathlib.Core.Path.{◌≡◌, refl}
use mathlib.Core.List.{List, [], ◌∷◌, ◌++◌}
use native.Mathlib.Omega.{arith}
use lib.ListN.{length, length-append, replicate}
use lib.Seq.{sets}
use Rattle.std.specs.Prelude.{false, leb}
use Rattle.printed_lines.specs.Printed.{hex_field, spaced, frame_line_lem, no_frame_line, bad_line, wrote_line, put_line}
use Rattle.printed_lines.proofs.Runs.{Filled, blank, next, hex_length, spaced-length}

-- ---- lengths
pub frame-length : (a n l f i k : ℕ) → length (frame_line_lem a n l f i k) ≡ 62
unfolding frame_line_lem
frame-length a n l f i k = simp (length-append, hex_length, spaced-length)

pub no_frame-length : (a : ℕ) → length (no_frame_line a) ≡ 26
unfolding no_frame_line
no_frame-length a = simp (length-append, hex_length, spaced-length)

pub bad-length : (n : ℕ) → length (bad_line n) ≡ 11
unfolding bad_line
bad-length n = simp (length-append, spaced-length)

-- ---- room
pub no-room : (s line : List ℕ) (at n : ℕ) → length line ≡ n → leb (at + n) (length s) ≡ false → wrote_line at s ≡ put_line s at line
unfolding put_line
no-room s line at n e h = rw (e, h)

-- ---- bytes
field : {vs s s' : List ℕ} {n : ℕ} (v at m : ℕ) → Filled vs s n → at ≡ length vs → n ≡ 9 + m → s' ≡ sets s at (spaced v) → Filled (vs ++ spaced v) s' m
field v at m f e h g = next (spaced v) at m f e (omega (arith, spaced-length v)) g

pub frame-bytes : (a n l f i k : ℕ) {s₁ s₂ s₃ s₄ s₅ s₆ : List ℕ} → s₁ ≡ sets (replicate 62 10) 0 (hex_field 16 a)
    → s₂ ≡ sets s₁ 16 (spaced n) → s₃ ≡ sets s₂ 25 (spaced l) → s₄ ≡ sets s₃ 34 (spaced f) → s₅ ≡ sets s₄ 43 (spaced i) → s₆ ≡ sets s₅ 52 (spaced k)
    → s₆ ≡ frame_line_lem a n l f i k
unfolding frame_line_lem
frame-bytes a n l f i k e₁ e₂ e₃ e₄ e₅ e₆ =
    let r₁ = next (hex_field 16 a) 0 46 (blank 62) refl (omega (arith, hex_length 16 a)) e₁ in
    let r₂ = field n 16 37 r₁ (simp (length-append, hex_length)) refl e₂ in
    let r₃ = field l 25 28 r₂ (simp (length-append, hex_length, spaced-length)) refl e₃ in
    let r₄ = field f 34 19 r₃ (simp (length-append, hex_length, spaced-length)) refl e₄ in
    let r₅ = field i 43 10 r₄ (simp (length-append, hex_length, spaced-length)) refl e₅ in
    (field k 52 1 r₅ (simp (length-append, hex_length, spaced-length)) refl e₆).stands

pub no_frame-bytes : (a : ℕ) {s₁ s₂ : List ℕ} → s₁ ≡ sets (replicate 26 10) 0 (hex_field 16 a) → s₂ ≡ sets s₁ 16 (spaced 4294967295) → s₂ ≡ no_frame_line a
unfolding no_frame_line
no_frame-bytes a e₁ e₂ =
    let r₁ = next (hex_field 16 a) 0 10 (blank 26) refl (omega (arith, hex_length 16 a)) e₁ in
    (field 4294967295 16 1 r₁ (simp (length-append, hex_length)) refl e₂).stands

pub bad-bytes : (n : ℕ) {s₁ s₂ : List ℕ} → s₁ ≡ sets (replicate 11 10) 0 (63 ∷ []) → s₂ ≡ sets s₁ 1 (spaced n) → s₂ ≡ bad_line n
unfolding bad_line
bad-bytes n e₁ e₂ = (field n 1 1 (next (63 ∷ []) 0 10 (blank 11) refl refl e₁) refl refl e₂).stands

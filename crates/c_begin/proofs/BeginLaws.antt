-- A new converter, of what the functions below give.
use Prim.Native.Nat.{ℕ, ◌<◌, ◌≤◌}
use mathlib.Core.Bool.{Bool}
use mathlib.Core.Path.{◌≡◌, ap, ◌∙◌}
use mathlib.Core.List.{List, []}
use lib.ListN.{length}
use borrow.Author.Tests.{lt-ltb, le-ltb}
use Rattle.slices.specs.Bytes.{bytes_at}
use Rattle.slices.specs.Slices.{yes}
use Rattle.raw.specs.Rows.{header_at}
use Rattle.raw.specs.declared.Header.{Header}
use Rattle.memory.specs.Memory.{Memory}
use Rattle.memory.specs.Record.{begin_of}
use Rattle.memory.specs.declared.Converter.{Converter}
use Rattle.c_reading.specs.Stored.{stored}
use Rattle.c_words.specs.Record.{words_of}
use Rattle.c_words.specs.Writing.{call_left, begin_call}

pub id-bytes : (s : List ℕ) (h : Header) → h ≡ header_at s 0 → h.debug_id ≡ bytes_at 32 s 0
unfolding header_at
id-bytes s h e = ap (λ (x : Header). x.debug_id) e

-- a record of fewer than twenty words
pub begin-closed : (r id : List ℕ) (arch f s : ℕ) (m : Memory) → length r < 20 → call_left 19 r m [] ≡ begin_call r id arch f s m
unfolding begin_call
begin-closed r id arch f s m h = rw (lt-ltb (length r) 20 h)

pub begin_law : (r id : List ℕ) (arch f s : ℕ) (m : Memory) {i : List ℕ} {a b : Bool} {c : Converter} {m₁ : Memory} {r₁ : List ℕ} → 20 ≤ length r
    → i ≡ bytes_at 32 id 0 → a ≡ yes f → b ≡ yes s → (c, m₁) ≡ begin_of i arch a b m → r₁ ≡ stored (words_of c) r → call_left 0 r₁ m₁ [] ≡ begin_call r id arch f s m
unfolding begin_call
begin_law r id arch f s m {i = i} {a = a} {b = b} h ei ea eb e er =
    rw (le-ltb (length r) 20 h)
    (rw er (ap (λ (p : Converter × Memory). call_left 0 (stored (words_of p.0) r) p.1 []) (e ∙ rw (ei, ea, eb))))

-- by the length of the record
pub ruleset begin_cases = (begin-closed)

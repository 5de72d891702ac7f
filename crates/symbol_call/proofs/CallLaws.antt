-- What a symbol call does after its tests, and how every call ends, in the words of their definitions.
use mathlib.Core.Path.{◌≡◌, ◌∙◌, ap}
use mathlib.Core.Bool.{Bool, true, false}
use mathlib.Core.List.{List, []}
use Prim.Native.Nat.{ℕ}
use Rattle.model.specs.Machine.{convert_symbol_m}
use Rattle.model.specs.Converter.{input}
use Rattle.rows.specs.declared.OptionalPart.{OptionalPart}
use Rattle.refusals.specs.Refusals.{optional?}
use Rattle.memory.specs.declared.State.{State}
use Rattle.memory.specs.declared.Converter.{Converter}
use Rattle.memory.specs.declared.Lengths.{Lengths}
use Rattle.memory.specs.Memory.{Memory, Words, zeroed, lent}
use Rattle.memory.specs.Record.{fits_in_lem, usable_in, fits?, with_state, words_of_lem, usable?, unused}
use Rattle.slices.specs.Slices.{zeros}
use Rattle.steps.specs.Steps.{over_words}
use Rattle.steps.specs.Symbols.{symbol_row_lem}
use Rattle.symbol_call.specs.Calls.{Called, called, setup, finished, symbol_of}

-- ── The end of a call ──────────────────────────────────────────────────────────────────────────────────────────────────

module _ (c : Converter) (w : Words) {l : Lengths} (g : l ≡ lent w.mm) {b : Bool} (d : b ≡ fits_in_lem w.st l) where
  fitting : b ≡ fits? w
  fitting = rw g at d

  pub accepted : b ≡ true → {k : Converter} → k ≡ with_state c true w.st → (s : List ℕ) → called 0 k w.mm (zeros s) ≡ finished c s w
  unfolding finished
  accepted h f s = rw (← fitting, h, f)

  pub overfull : b ≡ false → {k : Converter} {u : State} {m : Memory} → u ≡ unused → k ≡ with_state c false u → m ≡ zeroed w.mm
      → (s : List ℕ) → called 17 k m (zeros s) ≡ finished c s w
  unfolding finished
  overfull h i f k s = rw (← fitting, h, f, i, k)

-- ── A symbol ───────────────────────────────────────────────────────────────────────────────────────────────────────────

module _ (c : Converter) (m : Memory) (t : List ℕ) (address size : ℕ) (o : OptionalPart) {n : Lengths} (el : n ≡ lent m) {b : Bool} (eu : b ≡ usable_in c n) where
  usable-s : b ≡ usable? c m
  usable-s = rw el at eu

  pub symbol-taken : b ≡ true → {r : Bool} → r ≡ optional? t o → r ≡ true → {w : Words} {l : Called} → w ≡ convert_symbol_m input (over_words (setup c)) (symbol_row_lem t address size o) (words_of_lem c m)
      → l ≡ finished c [] w → l ≡ symbol_of c m t address size o
  unfolding symbol_of
  symbol-taken h f g d k = rw (← usable-s, h, ← f, g) (k ∙ ap (λ (v : Words). finished c [] v) d)

  pub symbol_unreadable : b ≡ true → {r : Bool} → r ≡ optional? t o → r ≡ false → called 14 c m [] ≡ symbol_of c m t address size o
  unfolding symbol_of
  symbol_unreadable h f g = rw (← usable-s, h, ← f, g)

  pub symbol-closed : b ≡ false → called 19 c m [] ≡ symbol_of c m t address size o
  unfolding symbol_of
  symbol-closed h = rw (← usable-s, h)

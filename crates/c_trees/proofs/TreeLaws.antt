-- A tree call and a symbol call, of what the functions below give.
use Prim.Native.Nat.{ℕ}
use mathlib.Core.Path.{◌≡◌, ap, ◌∙◌}
use mathlib.Core.List.{List, []}
use Rattle.rows.specs.Columns.{Columns}
use Rattle.memory.specs.Memory.{Memory}
use Rattle.memory.specs.declared.Converter.{Converter}
use Rattle.rows.specs.declared.OptionalPart.{OptionalPart}
use Rattle.symbol_call.specs.Calls.{called, symbol_of}
use Rattle.writer.specs.Calls.{tree_of}
use Rattle.c_words.specs.Record.{converter_of, kept}
use Rattle.c_words.specs.Writing.{call_left, leaves, tree_call, symbol_call}

pub tree_law : (r : List ℕ) (m : Memory) (s : List ℕ) (k : Columns) (n : ℕ) (c : Converter) (m₁ : Memory) (s₁ : List ℕ) {w : Converter} {r₁ : List ℕ}
    → w ≡ converter_of r → called n c m₁ s₁ ≡ tree_of w m s k → r₁ ≡ kept n c r → call_left n r₁ m₁ s₁ ≡ tree_call r m s k
unfolding tree_call
tree_law r m s k n c m₁ s₁ ew e er = rw er (ap (leaves r) (e ∙ ap (λ (x : Converter). tree_of x m s k) ew))

pub symbol_law : (r : List ℕ) (m : Memory) (t : List ℕ) (address size : ℕ) (name : OptionalPart) (n : ℕ) (c : Converter) (m₁ : Memory) {w : Converter} {r₁ : List ℕ}
    → w ≡ converter_of r → called n c m₁ [] ≡ symbol_of w m t address size name → r₁ ≡ kept n c r → call_left n r₁ m₁ [] ≡ symbol_call r m t address size name
unfolding symbol_call
symbol_law r m t address size name n c m₁ ew e er = rw er (ap (leaves r) (e ∙ ap (λ (x : Converter). symbol_of x m t address size name) ew))

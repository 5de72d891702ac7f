-- ONE ACCEPTED CALL, over words and plain: from words that hold tables, the words after a tree or a symbol hold the plain tables after it if these fit, and are full exactly if they don't;
-- the lent lengths stay. The terms are those that the contracts cite. And a beginning's zeroed tables hold nothing, whatever their lengths.
use mathlib.Core.Path.{◌≡◌, refl, sym, ap, ◌∙◌}
use mathlib.Core.Bool.{true, not}
use mathlib.Core.Logic.{inr, ⊎_elim}
use mathlib.Core.List.{List, [], ◌∷◌, ◌++◌, map}
use Prim.Native.Nat.{ℕ}
use lib.ListN.{length, replicate, length-replicate}
use borrow.Author.Tests.{not-true, not-false}
use Rattle.slices.proofs.Cases.{false-true}
use Rattle.model.specs.Rows.{FunctionRow, SymbolRow, Given, tree_rows, symbol_row}
use Rattle.model.specs.Machine.{convert_m, start_m, convert_symbol_m, convert_op_m, run_m}
use Rattle.model.specs.Converter.{Setup, Tables, nothing, input, deep, op, plain, converted}
use Rattle.model.specs.Counts.{plain_fits?}
use Rattle.model.proofs.Grown.{room}
use Rattle.model.proofs.Encoded.{AllowedGiven, encoded-call}
use Rattle.table_laws.proofs.Sets as sets
use Rattle.table_laws.proofs.TextTables as text-tables
use Rattle.memory.specs.Memory.{Memory, Words}
use Rattle.memory.specs.Record.{fits?}
use Rattle.steps.specs.Steps.{over_words}
use Rattle.steps.proofs.Lengths.{Lens, lens, lens-kept}
use Rattle.steps.proofs.Loops.{op_keeps}
use Rattle.memory.specs.Record.{unused}
use Rattle.demand3.proofs.Encoding.{capacities, Enc, encoding, any, has_room, enc-room, enc-fits}
use Rattle.demand3.proofs.OverWords.{words-encode}

-- ── What a call leaves ──

-- t and u are where a call leaves the plain tables and the words: u has room exactly where t fits, and then holds it
pub record Left (n : Lens) (t : Tables) (u : Words) : Type 0 where
  pub same : fits? u ≡ plain_fits? (capacities n) t
  pub enc : plain_fits? (capacities n) t ≡ true → Enc n t u
  pub lent : lens u ≡ n

any-given : (n : Lens) (X : Setup) (g : Given) → AllowedGiven (capacities n) (encoding n) X (over_words X) any (words-encode n X) g
any-given n X (tree_rows q rs) = (tt, λ r i. tt)
any-given n X (symbol_row y) = tt

module _ (n : Lens) (X : Setup) (g : Given) (s : Tables) (w : Words) (h : Enc n s w) where
  abbrev plain-after : Tables
  plain-after = convert_op_m input (plain X) (op g) s

  abbrev words-after : Words
  words-after = convert_op_m input (over_words X) (op g) w

  pub call-left : Left n plain-after words-after
  call-left =
      let lent : lens words-after ≡ n = op_keeps input (over_words X) lens (lens-kept X) (op g) w ∙ h.lent in
      ⊎_elim
      (λ (a, b). record { same = not-true (fits? words-after) a ∙ sym b; enc = λ e. false-true (sym b ∙ e); lent = lent })
      (λ k. record { same = not-false (fits? words-after) k.room ∙ sym k.fits; enc = λ e. k.enc; lent = lent })
      (encoded-call (capacities n) (encoding n) X (over_words X) any (words-encode n X) g s w (any-given n X g)
      (inr (record { room = ap not (has_room w (enc-room n s w h)); fits = room (capacities n) s (enc-fits n s w h); enc = h })))

-- ── The contracts' terms ──

-- a tree whose root has depth 0
pub tree_is : (X : Setup) (q : FunctionRow) (rs : List FunctionRow) (w : Words) → q.depth ≡ 0
    → convert_m input (over_words X) (map deep (q ∷ rs)) (start_m input (over_words X)) w ≡ convert_op_m input (over_words X) (op (tree_rows q rs)) w
unfolding convert_op_m
tree_is X q rs w e = ap (λ (d : ℕ). convert_m input (over_words X) (record { depth = d; item = q } ∷ map deep rs) (start_m input (over_words X)) w) e

pub symbol-is : (X : Setup) (y : SymbolRow) (w : Words) → convert_symbol_m input (over_words X) y w ≡ convert_op_m input (over_words X) (op (symbol_row y)) w
unfolding convert_op_m
symbol-is X y w = refl

-- one more call
pub converted-more : (X : Setup) (gs : List Given) (g : Given) → converted X (gs ++ (g ∷ [])) ≡ convert_op_m input (plain X) (op g) (converted X gs)
unfolding run_m
converted-more X gs g = go gs nothing
  where
    go : (hs : List Given) (s : Tables) → run_m input (plain X) (map op (hs ++ (g ∷ []))) s ≡ convert_op_m input (plain X) (op g) (run_m input (plain X) (map op hs) s)
    go [] s = refl
    go (x ∷ xs) s = go xs (convert_op_m input (plain X) (op x) s)

-- ── A beginning ──

-- the lengths of lent tables, and tables of these lengths with zeros
abbrev pub lengths_of : Memory → Lens
lengths_of m = lens (record { st = unused; mm = m })

abbrev pub zero-memory : Lens → Memory
zero-memory n = record {
  text = replicate n.text 0;
  strings = replicate n.strings 0;
  files = replicate n.files 0;
  functions = replicate n.functions 0;
  calls = replicate n.calls 0;
  ranges = replicate n.ranges 0;
}

pub zero-lengths : (n : Lens) → lengths_of (zero-memory n) ≡ n
zero-lengths n =
    let long : (k : ℕ) → length (replicate {A = ℕ} k 0) ≡ k = λ k. length-replicate {A = ℕ} k 0 in
    λ i. record { text = long n.text i; strings = long n.strings i; files = long n.files i; functions = long n.functions i; calls = long n.calls i; ranges = long n.ranges i }

pub begun-holds : (n : Lens) → Enc n nothing (record { st = unused; mm = zero-memory n })
begun-holds n = record {
  lent = zero-lengths n;
  texts = text-tables.begun (replicate n.text 0) n.strings;
  files = sets.begun 6 n.files;
  functions = sets.begun 6 n.functions;
  calls = sets.begun 6 n.calls;
  ranges = sets.begun 1 n.ranges;
  inside = record { files = λ i x h. absurd h; functions = λ i f h. absurd h; calls = λ i l h. absurd h; ranges = λ i e h. absurd h };
}

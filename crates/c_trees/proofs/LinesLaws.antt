-- A tree whose line rows are one list, call by call: `process_unpacked` by its tests; and all of it together, the texts, the number, the rows unpacked,
-- and what was made of them, is what the exported call leaves.
use Prim.Native.Nat.{ℕ, ◌*◌, ◌/◌, ◌≤◌, ◌<◌}
use mathlib.Core.Path.{◌≡◌, refl, ◌∙◌}
use mathlib.Core.Bool.{Bool, true, false, cond}
use mathlib.Core.List.{List}
use native.Mathlib.Omega.{arith}
use lib.Dec.{eqb}
use lib.ListN.{length, take}
use borrow.Author.Tests.{eq-eqb, ne_eqb, le-leb, lt-leb, eqb-false}
use Rattle.slices.specs.Slices.{zeros}
use Rattle.rows.specs.Columns.{Columns, columns}
use Rattle.refusals.specs.Refusals.{shaped?, shallow?, texts?, ends?, room?, tree_refusal}
use Rattle.rows.specs.declared.LineRow.{LineRow}
use Rattle.memory.specs.Memory.{Memory}
use Rattle.memory.specs.Record.{usable?}
use Rattle.memory.specs.declared.Converter.{Converter}
use Rattle.writer.specs.Calls.{tree_of}
use Rattle.line_rows.specs.Lines.{words64, words32, line_columns, lines_texts?, put_lines, unpacked_to}
use Rattle.line_rows.specs.Numbers.{usable_by, number_of}
use Rattle.line_rows.specs.Numbers.{unpack_room?}
use Rattle.line_calls.specs.Calls.{lines_of}
use Rattle.line_rows.proofs.Packed.{unpacked64-is, unpacked32-is, put-long}
use Rattle.line_rows.proofs.Entry.{number, number_is, room-there}
use Rattle.c_words.specs.Record.{converter_of, kept}
use Rattle.c_words.specs.Writing.{CallLeft, call_left, tree_call, LinesCallLeft, lines_left_lem, lines_call}
use Rattle.c_trees.specs.Unpacked.{unpacked_call}

-- ── `process_unpacked` ──

module _ (refused n : ℕ) (r : List ℕ) (m : Memory) (s u v f64 f32 t : List ℕ) where
  pub unpacked_refused : (refused ≡ 0 → ⊥) → lines_left_lem (call_left refused r m s) u v ≡ unpacked_call refused n r m s u v f64 f32 t
  unfolding unpacked_call
  unpacked_refused e = rw (ne_eqb refused 0 e)

  module _ (e : refused ≡ 0) where
    pub unpacked_16_64 : length u / 3 < n → lines_left_lem (call_left 16 r m s) u v ≡ unpacked_call refused n r m s u v f64 f32 t
    unfolding unpacked_call
    unpacked_16_64 h = rw (eq-eqb refused 0 e, lt-leb n (length u / 3) h)

    pub unpacked_16_32 : n ≤ length u / 3 → length v / 14 < n → lines_left_lem (call_left 16 r m s) u v ≡ unpacked_call refused n r m s u v f64 f32 t
    unfolding unpacked_call
    unpacked_16_32 g h = rw (eq-eqb refused 0 e, le-leb n (length u / 3) g, lt-leb n (length v / 14) h)

    pub unpacked_taken : n ≤ length u / 3 → n ≤ length v / 14 → {o : CallLeft} → o ≡ tree_call r m s (columns f64 f32 (take (n * 3) u) (take (n * 14) v) t) → {u₁ v₁ : List ℕ} → u₁ ≡ zeros u → v₁ ≡ zeros v
        → lines_left_lem o u₁ v₁ ≡ unpacked_call refused n r m s u v f64 f32 t
    unfolding unpacked_call
    unpacked_taken g h d x y = rw (eq-eqb refused 0 e, le-leb n (length u / 3) g, le-leb n (length v / 14) h, d, x, y)

-- ── A refusal leaves the record ──

rows-kept : (k : Columns) (s : ℕ) (c : Converter) (r : List ℕ) → eqb (tree_refusal k s) 0 ≡ false → kept (tree_refusal k s) c r ≡ r
unfolding tree_refusal kept
rows-kept k s c r = go (shaped? k) (shallow? k) (texts? k) (ends? k) (room? k s)
  where
    go : (a x b d e : Bool) → eqb (cond a (cond x (cond b (cond d (cond e 0 16) 15) 14) 25) 13) 0 ≡ false
        → kept (cond a (cond x (cond b (cond d (cond e 0 16) 15) 14) 25) 13) c r ≡ r
    go false x b d e h = refl
    go true false b d e h = refl
    go true true false d e h = refl
    go true true true false e h = refl
    go true true true true false h = refl
    go true true true true true h = absurd (eqb-false 0 0 h refl)

kept_16 : (c : Converter) (r : List ℕ) → kept 16 c r ≡ r
unfolding kept
kept_16 c r = refl

kept_19 : (c : Converter) (r : List ℕ) → kept 19 c r ≡ r
unfolding kept
kept_19 c r = refl

-- ── All together ──

module _ (r : List ℕ) (m : Memory) (s u v f64 f32 : List ℕ) (ls : List LineRow) (t : List ℕ) where
  abbrev c : Converter
  c = converter_of r

  abbrev k : Columns
  k = line_columns f64 f32 ls t

  abbrev n : ℕ
  n = number c m s u v f64 f32 ls t

  abbrev made : LinesCallLeft
  made = unpacked_call n (length ls) r m s (unpacked_to n 3 words64 ls u) (unpacked_to n 14 words32 ls v) f64 f32 t

  is-refused : (x : ℕ) → n ≡ x → (x ≡ 0 → ⊥) → made ≡ lines_left_lem (call_left x r m s) u v
  unfolding unpacked_call unpacked_to
  is-refused x e h = rw (e, ne_eqb x 0 h)

  is-taken : n ≡ 0 → made ≡ lines_left_lem (tree_call r m s k) (zeros u) (zeros v)
  unfolding unpacked_call unpacked_to
  is-taken e =
      let h = room-there c m s u v f64 f32 ls t e in
      let a : length (put_lines 3 words64 ls 0 u) ≡ length u = put-long 3 words64 ls 0 u in
      let b : length (put_lines 14 words32 ls 0 v) ≡ length v = put-long 14 words32 ls 0 v in
      rw (e, unpacked64-is ls u h.0, unpacked32-is ls v h.1, a, b, le-leb (length ls) (length u / 3) (omega (arith, h.0)), le-leb (length ls) (length v / 14) (omega (arith, h.1)))

  made-is : made ≡ lines_call r m s u v k
  unfolding lines_call lines_of tree_of tree_call
  made-is = go (usable? c m) (eqb (tree_refusal k (length s)) 0) (unpack_room? k u v) refl refl refl
    where
      go : (a b x : Bool) → usable? c m ≡ a → eqb (tree_refusal k (length s)) 0 ≡ b → unpack_room? k u v ≡ x → made ≡ lines_call r m s u v k
      go true true true p q f = is-taken (number_is c m s u v f64 f32 ls t ∙ rw (p, q, f)) ∙ rw (p, q, f)
      go true true false p q f = is-refused 16 (number_is c m s u v f64 f32 ls t ∙ rw (p, q, f)) (λ z. omega arith) ∙ rw (p, q, f, kept_16 c r)
      go true false x p q f = is-refused (tree_refusal k (length s)) (number_is c m s u v f64 f32 ls t ∙ rw (p, q)) (eqb-false (tree_refusal k (length s)) 0 q) ∙ rw (p, q, rows-kept k (length s) c r q)
      go false b x p q f = is-refused 19 (number_is c m s u v f64 f32 ls t ∙ rw p) (λ z. omega arith) ∙ rw (p, kept_19 c r)

  -- with a name for what each call of the exported function gives
  pub lines-made : {texts : Bool} {refused : ℕ} {u₁ v₁ r₁ : List ℕ} {o : LinesCallLeft} → texts ≡ lines_texts? t ls
      → refused ≡ number_of (usable_by c (length m.text) (length m.strings) (length m.files) (length m.functions) (length m.calls) (length m.ranges)) (length s) (length u) (length v) f64 f32 (length ls) texts t
      → r₁ ≡ r → u₁ ≡ unpacked_to refused 3 words64 ls u → v₁ ≡ unpacked_to refused 14 words32 ls v → o ≡ unpacked_call refused (length ls) r₁ m s u₁ v₁ f64 f32 t → o ≡ lines_call r m s u v k
  lines-made {texts} {refused} a b d x y e =
      let is : refused ≡ n = b ∙ (λ i. number_of (usable_by c (length m.text) (length m.strings) (length m.files) (length m.functions) (length m.calls) (length m.ranges)) (length s) (length u) (length v) f64 f32 (length ls) (a i) t) in
      e
      ∙ (λ i. unpacked_call refused (length ls) (d i) m s (x i) (y i) f64 f32 t)
      ∙ (λ i. unpacked_call (is i) (length ls) r m s (unpacked_to (is i) 3 words64 ls u) (unpacked_to (is i) 14 words32 ls v) f64 f32 t)
      ∙ made-is

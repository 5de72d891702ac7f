-- What `serialize` answers: 19, 18, or the file.
use Prim.Native.Nat.{ℕ, ◌<◌, ◌≤◌}
use mathlib.Core.Bool.{Bool, true, false, cond, not, ◌&&◌}
use mathlib.Core.Path.{◌≡◌, refl, ap, sym, ◌∙◌}
use mathlib.Core.List.{List}
use native.Mathlib.Nat.{zero-add, le_trans}
use native.Mathlib.Omega.{arith}
use lib.Dec.{leb}
use lib.ListN.{length}
use lib.Seq.{sets, sets-eq}
use borrow.Author.Tests.{not-true, not-false, leb-true, le-leb, lt-leb}
use Rattle.slices.proofs.Cases.{both_true}
use Rattle.tables.specs.Table.{capacity_of}
use Rattle.strings.specs.Strings.{text_capacity_of}
use Rattle.tables.proofs.Room.{cap_most}
use Rattle.strings.proofs.TextRoom.{text-room}
use Rattle.memory.specs.Memory.{Memory, lent}
use Rattle.memory.specs.Record.{fits_in_lem, usable_in, usable?}
use Rattle.memory.specs.declared.Lengths.{Lengths}
use Rattle.memory.specs.declared.Converter.{Converter}
use Rattle.serialize.specs.File.{written_file, layout_of, Ready, Wrote, wrote, write_answer, serialize_of}
use Rattle.serialize.specs.declared.Layout.{Layout}
use Rattle.serialize.proofs.Whole.{length-ranges, laid, written-length}

-- what 19's condition leaves
pub record Counts (c : Converter) (m : Memory) : Type 0 where
  pub texts : c.state.string_bytes ≤ length m.text
  pub calls : c.state.call_locations ≤ 16777216
  pub ranges : c.state.ranges ≤ 16777216

-- the test on lengths is the one on the tables
usable-is : (c : Converter) (m : Memory) {l : Lengths} → l ≡ lent m → (b : Bool) → b ≡ usable_in c l → not b ≡ false → usable? c m ≡ true
usable-is c m g b e h = sym (e ∙ ap (λ (l : Lengths). usable_in c l) g) ∙ not-false b h

pub counts : (c : Converter) (m : Memory) {l : Lengths} → l ≡ lent m → (b : Bool) → b ≡ usable_in c l → not b ≡ false → Counts c m
unfolding usable_in fits_in_lem
counts c m g b e h =
    let st = c.state in
    let x = leb st.string_bytes (text_capacity_of (length m.text)) in
    let i = leb st.strings (capacity_of (length m.strings)) in
    let f = leb st.files (capacity_of (length m.files)) in
    let n = leb st.functions (capacity_of (length m.functions)) in
    let k = leb st.call_locations (capacity_of (length m.calls)) in
    let r = leb st.ranges (capacity_of (length m.ranges)) in
    let p₀ = both_true c.open (x && (i && (f && (n && (k && r))))) (usable-is c m g b e h) in
    let p₁ : (x ≡ true) × ((i && (f && (n && (k && r)))) ≡ true) = both_true x (i && (f && (n && (k && r)))) p₀.1 in
    let p₂ : (i ≡ true) × ((f && (n && (k && r))) ≡ true) = both_true i (f && (n && (k && r))) p₁.1 in
    let p₃ : (f ≡ true) × ((n && (k && r)) ≡ true) = both_true f (n && (k && r)) p₂.1 in
    let p₄ : (n ≡ true) × ((k && r) ≡ true) = both_true n (k && r) p₃.1 in
    let p₅ : (k ≡ true) × (r ≡ true) = both_true k r p₄.1 in
    record {
      texts = le_trans (leb-true st.string_bytes (text_capacity_of (length m.text)) p₁.0) (text-room (length m.text)).fits;
      calls = le_trans (leb-true st.call_locations (capacity_of (length m.calls)) p₅.0) (cap_most (length m.calls));
      ranges = le_trans (leb-true st.ranges (capacity_of (length m.ranges)) p₅.1) (cap_most (length m.ranges));
    }

-- the definition, over the test and the file
abbrev answer : Bool → List ℕ → List ℕ → Wrote
answer usable file s = cond usable (write_answer file s) (wrote 19 0 s)

module _ (b : Bool) (file s : List ℕ) where
  closed-answer : b ≡ false → wrote 19 0 s ≡ answer b file s
  closed-answer h = rw h

  short-answer : b ≡ true → length s < length file → wrote 18 0 s ≡ answer b file s
  short-answer h k = rw (h, lt-leb (length file) (length s) k)

  done-answer : b ≡ true → length file ≤ length s → (r : List ℕ) → r ≡ sets s 0 file → wrote 0 (length file) r ≡ answer b file s
  done-answer h k r e = rw (h, le-leb (length file) (length s) k, e, sets-eq file s 0 (omega arith), zero-add)

module _ (c : Converter) (m : Memory) (s : List ℕ) {l : Lengths} (g : l ≡ lent m) (b : Bool) (e-usable : b ≡ usable_in c l) where
  is-answer : serialize_of c m s ≡ answer (usable? c m) (written_file c m) s
  unfolding serialize_of
  is-answer = refl

  pub closed : not b ≡ true → wrote 19 0 s ≡ serialize_of c m s
  closed h =
      closed-answer (usable? c m) (written_file c m) s (sym (e-usable ∙ ap (λ (l : Lengths). usable_in c l) g) ∙ not-true b h) ∙ sym is-answer

  module _ (id : length c.debug_id ≡ 32) (usable : not b ≡ false) (at : Layout) (e-at : at ≡ layout_of c.state c.state.ranges) where
    len : length (written_file c m) ≡ at.len
    len = written-length c m id c.state.ranges (length-ranges c m) at (laid c.state c.state.ranges at e-at) (counts c m g b e-usable usable).texts

    pub short : length s < at.len → wrote 18 0 s ≡ serialize_of c m s
    short h = short-answer (usable? c m) (written_file c m) s (usable-is c m g b e-usable usable) (rw len h) ∙ sym is-answer

    pub ready : at.len ≤ length s → Ready c (length m.text) (length s)
    ready h = let k = counts c m g b e-usable usable in record { calls = omega arith; texts_there = k.texts; room = rw e-at at h }

    pub done : at.len ≤ length s → (r : List ℕ) → r ≡ sets s 0 (written_file c m) → wrote 0 at.len r ≡ serialize_of c m s
    done h r e =
        ap (λ (l : ℕ). wrote 0 l r) (sym len)
        ∙ done-answer (usable? c m) (written_file c m) s (usable-is c m g b e-usable usable) (rw len h) r e
        ∙ sym is-answer

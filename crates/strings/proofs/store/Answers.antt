use Prim.Native.Nat.{ℕ, ◌+◌, ◌<◌, ◌≤◌}
use mathlib.Core.Path.{◌≡◌, refl, sym, ◌∙◌, ap}
use mathlib.Core.List.{List}
use mathlib.Core.Bool.{Bool, true, false, ◌&&◌}
use native.Mathlib.Omega.{arith}
use lib.Dec.{leb, ltb}
use lib.ListN.{length}
use lib.Seq.{sets}
use borrow.Author.Tests.{leb-true, ltb-true, lt-ltb}
use Rattle.slices.proofs.Cases.{both_true}
use Rattle.text.specs.Leb128.{encoded}
use Rattle.text.proofs.Leb128Laws.{encoded_ten}
use Rattle.tables.specs.Table.{capacity_of, push_of, Left, left}
use Rattle.tables.specs.Kinds.{row_of_text}
use Rattle.strings.specs.Strings.{max_bytes, text_capacity_of, text_size_lem, stored_text, text_hash, text_row, index_of, full_of, store_of, strings_left, text_stored}
use Rattle.tables.specs.declared.Row.{Row}
use Rattle.strings.specs.declared.Stored.{Stored}
use Rattle.strings.proofs.TextRoom.{TextRoom, text-room}
use Rattle.strings.proofs.store.Goals as goal

-- what the test says where it holds
record Inside (text : List ℕ) (bytes count prefix len cap : ℕ) : Type 0 where
  within : bytes + (prefix + len) ≤ length text
  small : bytes + (prefix + len) ≤ max_bytes
  few : count < cap

module _ (text strings : List ℕ) (bytes count : ℕ) (t : List ℕ) {cap limit prefix : ℕ} {f : Bool}
    (e1 : cap ≡ capacity_of (length strings)) (e2 : limit ≡ text_capacity_of (length text)) (e3 : prefix ≡ length (encoded (length t)))
    (e4 : f ≡ (leb (bytes + (prefix + length t)) limit && ltb count cap)) where
  inside : f ≡ true → Inside text bytes count prefix (length t) cap
  inside h =
      let b = both_true (leb (bytes + (prefix + length t)) limit) (ltb count cap) (sym e4 ∙ h) in
      let x : bytes + (prefix + length t) ≤ limit = leb-true _ _ b.0 in
      let r : TextRoom (length text) (text_capacity_of (length text)) = text-room (length text) in
      record { within = omega arith; small = omega arith; few = ltb-true _ _ b.1 }

  few : limit ≤ max_bytes
  few = rw e2 (text-room (length text)).most

  size_is : prefix + length t ≡ text_size_lem t
  unfolding text_size_lem
  size_is = ap (λ (n : ℕ). n + length t) e3

  -- the row is appended, as there is room
  indexed : f ≡ true → {hash start : ℕ} {row : Row} {y : Left ℕ} → row ≡ row_of_text (record { offset = bytes; start = start; len = length t; hash = hash }) → y ≡ push_of strings count row hash
      → y ≡ left (count + 1) (index_of cap strings count (row_of_text (record { offset = bytes; start = start; len = length t; hash = hash })))
  unfolding push_of index_of
  indexed h d v = rw (v, d, ← e1, lt-ltb count cap (inside h).few)

  storing : f ≡ true → {hash start : ℕ} {text₁ : List ℕ} {y : Left ℕ} → hash ≡ text_hash t → start ≡ bytes + prefix → text₁ ≡ sets text bytes (stored_text t)
      → y ≡ left (count + 1) (index_of cap strings count (row_of_text (record { offset = bytes; start = start; len = length t; hash = hash })))
      → strings_left (text_stored bytes (start + length t) y.got) text₁ y.table ≡ store_of text strings bytes count t
  unfolding store_of text_row
  storing h {start = start} g s u v =
      let k : start + length t ≡ bytes + (prefix + length t) = omega arith in
      rw (← e2, ← e1, ← size_is, ← e4, h, ← g, ← e3, ← s, k, u, v)

  refused : f ≡ false → {x : Stored} → x ≡ full_of bytes count (prefix + length t) limit (capacity_of (length strings)) → strings_left x text strings ≡ store_of text strings bytes count t
  unfolding store_of
  refused h g = rw (g, ← e2, ← e1, ← size_is, ← e4, h)

pub overflow_add-size : goal.overflow_add-size
overflow_add-size c = omega (arith, c.leb128_len-prefix.ensures, encoded_ten (length c.args.t.now) (omega arith))

pub write-requires : goal.write-requires
write-requires c =
    let i = (let a = c.args in
    inside a.text.now a.strings.now a.bytes a.count a.t.now c.capacity-cap.ensures c.text_capacity-limit.ensures c.leb128_len-prefix.ensures c.fits.ensures c.if-fits.true) in
    (ap (λ (n : ℕ). c.args.bytes + n) c.leb128_len-prefix.ensures, omega arith)

pub returns-then-fits : goal.returns-then-fits
returns-then-fits c =
    let a = c.args in
    let e1 = c.capacity-cap.ensures in
    let e2 = c.text_capacity-limit.ensures in
    let e3 = c.leb128_len-prefix.ensures in
    storing a.text.now a.strings.now a.bytes a.count a.t.now e1 e2 e3 c.fits.ensures c.if-fits.true
    c.requires refl c.write.ensures
    (indexed a.text.now a.strings.now a.bytes a.count a.t.now e1 e2 e3 c.fits.ensures c.if-fits.true
    {y = left c.push-count.result c.push-count.new.t} c.from-row.ensures c.push-count.ensures)

pub full-requires : goal.full-requires
full-requires c =
    let a = c.args in
    few a.text.now a.strings.now a.bytes a.count a.t.now c.capacity-cap.ensures c.text_capacity-limit.ensures c.leb128_len-prefix.ensures c.fits.ensures

pub returns : goal.returns
returns c =
    let a = c.args in
    refused a.text.now a.strings.now a.bytes a.count a.t.now c.capacity-cap.ensures c.text_capacity-limit.ensures c.leb128_len-prefix.ensures c.fits.ensures c.if-fits.false
    c.full.ensures

-- What the definitions compute to under the tests that the code makes: a row by value, a part of the text, a line's addresses.
use Prim.Native.Nat.{ℕ, ◌+◌, ◌-◌, ◌/◌, ◌≤◌, ◌<◌, min}
use mathlib.Core.Path.{◌≡◌, sym}
use mathlib.Core.Bool.{Bool, true, false, cond, not, ◌||◌, true≢false}
use mathlib.Core.List.{List, []}
use native.Mathlib.Omega.{arith}
use lib.Dec.{ltb}
use lib.ListN.{length, take, drop}
use borrow.Author.Tests.{lt-ltb, le-ltb, le-leb, lt-leb}
use Rattle.model.specs.Rows.{MAX}
use Rattle.rows.specs.declared.TextPart.{TextPart}
use Rattle.rows.specs.declared.OptionalPart.{OptionalPart}
use Rattle.rows.specs.declared.FunctionRow.{FunctionRow as FunctionStruct}
use Rattle.rows.specs.declared.LineRow.{LineRow as LineStruct}
use Rattle.rows.specs.Columns.{function_fields, function_in_columns, line_fields, line_in_columns, boundaries_of, part_of}

-- a row of zeros, as a derived `default` gives it
abbrev ZeroPart : TextPart → Type 0
ZeroPart p = (p.start ≡ 0) × (p.len ≡ 0)

abbrev NoText : OptionalPart → Type 0
NoText o = (o.present ≡ false) × ZeroPart o.part

zero_part : {p : TextPart} → ZeroPart p → p ≡ record { start = 0; len = 0 }
zero_part e = λ i. record { start = e.0 i; len = e.1 i }

no_text : {o : OptionalPart} → NoText o → o ≡ record { present = false; part = record { start = 0; len = 0 } }
no_text e = λ i. record { present = e.0 i; part = zero_part e.1 i }

pub function_default : {q : FunctionStruct}
    → (q.depth ≡ 0) × ((q.address ≡ 0) × ((q.size ≡ 0) × ((q.inline ≡ false) × ((q.language ≡ 0) × (ZeroPart q.name × (ZeroPart q.comp_dir × (q.lines ≡ 0)))))))
    → q ≡ function_fields [] [] 0
function_default e = λ i. record {
  depth = e.0 i;
  address = e.1.0 i;
  size = e.1.1.0 i;
  inline = e.1.1.1.0 i;
  language = e.1.1.1.1.0 i;
  name = zero_part e.1.1.1.1.1.0 i;
  comp_dir = zero_part e.1.1.1.1.1.1.0 i;
  lines = e.1.1.1.1.1.1.1 i;
}

pub line_default : {l : LineStruct}
    → (l.address ≡ 0) × ((l.has_size ≡ false) × ((l.size ≡ 0) × ((l.number ≡ 0) × (ZeroPart l.name × (ZeroPart l.directory × (NoText l.srcsrv_name × (NoText l.srcsrv_dir × NoText l.revision)))))))
    → l ≡ line_fields [] [] 0
line_default e = λ i. record {
  address = e.0 i;
  has_size = e.1.0 i;
  size = e.1.1.0 i;
  number = e.1.1.1.0 i;
  name = zero_part e.1.1.1.1.0 i;
  directory = zero_part e.1.1.1.1.1.0 i;
  srcsrv_name = no_text e.1.1.1.1.1.1.0 i;
  srcsrv_dir = no_text e.1.1.1.1.1.1.1.0 i;
  revision = no_text e.1.1.1.1.1.1.1.1 i;
}

module _ (f64 f32 : List ℕ) (i : ℕ) where
  pub function_in : i < length f64 / 2 → i < length f32 / 8 → function_fields f64 f32 i ≡ function_in_columns f64 f32 i
  unfolding function_in_columns
  function_in g h = rw (lt-ltb _ _ g, lt-ltb _ _ h)

  pub function_out64 : length f64 / 2 ≤ i → function_fields [] [] 0 ≡ function_in_columns f64 f32 i
  unfolding function_in_columns
  function_out64 h = rw (le-ltb _ _ h)

  pub function_out32 : i < length f64 / 2 → length f32 / 8 ≤ i → function_fields [] [] 0 ≡ function_in_columns f64 f32 i
  unfolding function_in_columns
  function_out32 g h = rw (lt-ltb _ _ g, le-ltb _ _ h)

module _ (l64 l32 : List ℕ) (j : ℕ) where
  pub line_in : j < length l64 / 3 → j < length l32 / 14 → line_fields l64 l32 j ≡ line_in_columns l64 l32 j
  unfolding line_in_columns
  line_in g h = rw (lt-ltb _ _ g, lt-ltb _ _ h)

  pub line_out64 : length l64 / 3 ≤ j → line_fields [] [] 0 ≡ line_in_columns l64 l32 j
  unfolding line_in_columns
  line_out64 h = rw (le-ltb _ _ h)

  pub line_out32 : j < length l64 / 3 → length l32 / 14 ≤ j → line_fields [] [] 0 ≡ line_in_columns l64 l32 j
  unfolding line_in_columns
  line_out32 g h = rw (lt-ltb _ _ g, le-ltb _ _ h)

module _ (t : List ℕ) (start len : ℕ) where
  pub part_in : start + len ≤ length t → take (start + len - start) (drop start t) ≡ part_of t start len
  unfolding part_of
  part_in h = let e : start + len - start ≡ len = omega arith in rw (e, le-leb _ _ h)

  pub part_out : length t < start + len → [] ≡ part_of t start len
  unfolding part_of
  part_out h = rw (lt-leb _ _ h)

-- of a line at a, of that size where it has one; m is the size or 1
module _ (a : ℕ) (h : Bool) (s : ℕ) where
  boundaries_are : {from to : ℕ} {cut : Bool} → from ≡ min a MAX → to ≡ min (min a MAX + cond h s 1) MAX → cut ≡ ltb MAX a || ltb MAX (min a MAX + cond h s 1)
      → record { start = from; end = to; cut = cut } ≡ boundaries_of a h s
  unfolding boundaries_of
  boundaries_are e f g = λ i. record { start = e i; end = f i; cut = g i }

  pub boundaries_clamped : MAX < a → record { start = MAX; end = MAX; cut = true } ≡ boundaries_of a h s
  boundaries_clamped l = boundaries_are (omega arith) (omega arith) (rw (lt-ltb MAX a l))

  pub boundaries_saturated : a ≤ MAX → {m : ℕ} → m ≡ cond h s 1 → MAX - a < m → record { start = a; end = MAX; cut = true } ≡ boundaries_of a h s
  boundaries_saturated l e g =
      let far : MAX < min a MAX + cond h s 1 = omega arith in
      boundaries_are (omega arith) (omega arith) (rw (le-ltb MAX a l, lt-ltb MAX (min a MAX + cond h s 1) far))

  pub boundaries-within : a ≤ MAX → {m : ℕ} → m ≡ cond h s 1 → m ≤ MAX - a → record { start = a; end = a + m; cut = false } ≡ boundaries_of a h s
  boundaries-within l e g =
      let near : min a MAX + cond h s 1 ≤ MAX = omega arith in
      boundaries_are (omega arith) (omega arith) (rw (le-ltb MAX a l, le-ltb MAX (min a MAX + cond h s 1) near))

-- ── Tests one after the other ──

-- a test that did not hold, and one that did, as `if !test { return .. }` leaves them
pub failed : {b x : Bool} → b ≡ x → not b ≡ true → x ≡ false
failed {b = true} e h = absurd (true≢false (sym h))
failed {b = false} e h = sym e

pub passed : {b x : Bool} → b ≡ x → not b ≡ false → x ≡ true
passed {b = true} e h = sym e
passed {b = false} e h = absurd (true≢false h)

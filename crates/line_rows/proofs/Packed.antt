-- The columns that line rows stand for: a row of the columns is the row of the list, and what is unpacked is the columns.
use Prim.Native.Nat.{ℕ, zero, suc, ◌+◌, ◌-◌, ◌*◌, ◌/◌, ◌%◌, ◌≤◌, ◌<◌}
use mathlib.Core.Path.{◌≡◌, refl, sym, ap, ◌∙◌}
use mathlib.Core.Bool.{Bool, true, false, cond, not, ◌&&◌}
use mathlib.Core.List.{List, [], ◌∷◌, ◌++◌, append_assoc}
use native.Mathlib.Omega.{arith}
use lib.Dec.{eqb, ltb}
use lib.ListN.{length, get_or, take, drop, length-append, length-drop, get_or-append}
use Rattle.slices.specs.Slices.{flag_of}
use lib.Seq.{sets, sets-eq, length-sets, take_at, drop_at, drop-drop, get_or-append-add}
use borrow.Author.Tests.{lt-ltb, eq-eqb}
use Rattle.rows.specs.Columns.{Columns, line_fields, line_in_columns}
use Rattle.refusals.specs.Refusals.{each, line_texts?, line_lengths?, tree_refusal, refusal_with}
use Rattle.rows.specs.declared.LineRow.{LineRow}
use Rattle.rows.proofs.Laws.{line_in}
use Rattle.refusals.proofs.Laws.{refusal-columns}
use Rattle.line_rows.specs.Lines.{no_line, words64, words32, packed, line_columns, lines_texts?, put_row, put_lines}

-- ── Columns of w words a row ──

module _ (w : ℕ) (f : LineRow → List ℕ) (wide : (l : LineRow) → length (f l) ≡ w) (none : 0 * w ≡ 0) (step : (n : ℕ) → suc n * w ≡ n * w + w) where
  pub packed-length : (ls : List LineRow) → length (packed f ls) ≡ length ls * w
  unfolding packed
  packed-length [] = sym none
  packed-length (l ∷ ls) = length-append (f l) (packed f ls) ∙ (let h = wide l in let e = packed-length ls in let s = step (length ls) in omega (arith, h, e, s))

  -- word k of row j
  pub packed-at : (ls : List LineRow) (j k : ℕ) → j < length ls → k < w → get_or (packed f ls) (j * w + k) 0 ≡ get_or (f (get_or ls j no_line)) k 0
  unfolding packed
  packed-at [] j k h g = absurd (omega arith)
  packed-at (l ∷ ls) zero k h g =
      let e : 0 * w + k ≡ k = omega (arith, none) in
      rw e (get_or-append (f l) (packed f ls) 0 k (let e = wide l in omega (arith, e, g)))
  packed-at (l ∷ ls) (suc j) k h g =
      let e : suc j * w + k ≡ length (f l) + (j * w + k) = (let d = wide l in let s = step j in omega (arith, d, s)) in
      rw e (get_or-append-add (f l) (packed f ls) (j * w + k) 0 ∙ packed-at ls j k (omega arith) g)

  -- unpacked into memory that has room, they stand at its beginning
  module _ (room : (j m : ℕ) → j * w + w ≤ m → j < m / w) where
    put_in : (p t : List ℕ) (j : ℕ) (l : LineRow) → length p ≡ j * w → w ≤ length t → put_row w (p ++ t) j (f l) ≡ p ++ (f l ++ drop w t)
    unfolding put_row
    put_in p t j l e h =
        let long : length (p ++ t) ≡ j * w + length t = length-append p t ∙ ap (λ (n : ℕ). n + length t) e in
        let d = wide l in
        rw (lt-ltb j (length (p ++ t) / w) (room j (length (p ++ t)) (omega (arith, long, h))))
        (sets-eq (f l) (p ++ t) (j * w) (omega (arith, long, d, h))
        ∙ append_assoc (take (j * w) (p ++ t)) (f l) (drop (j * w + length (f l)) (p ++ t))
        ∙ ap (λ (x : List ℕ). x ++ (f l ++ drop (j * w + length (f l)) (p ++ t))) (take_at p t (j * w) e)
        ∙ ap (λ (x : List ℕ). p ++ (f l ++ x)) (sym (drop-drop (length (f l)) (j * w) (p ++ t)) ∙ ap (drop (length (f l))) (drop_at p t (j * w) e) ∙ ap (λ (n : ℕ). drop n t) d))

    put-from : (ls : List LineRow) (p t : List ℕ) (j : ℕ) → length p ≡ j * w → length ls * w ≤ length t → put_lines w f ls j (p ++ t) ≡ p ++ (packed f ls ++ drop (length ls * w) t)
    unfolding put_lines packed
    put-from [] p t j e h = ap (λ (n : ℕ). p ++ drop n t) (sym none)
    put-from (l ∷ ls) p t j e h =
        let s = step (length ls) in
        let s2 = step j in
        let d = wide l in
        let room-left : w ≤ length t = omega (arith, h, s) in
        let long : length (p ++ f l) ≡ suc j * w = length-append p (f l) ∙ omega (arith, e, d, s2) in
        let rest : length (drop w t) ≡ length t - w = length-drop w t in
        let both : w + length ls * w ≡ suc (length ls) * w = omega (arith, s) in
        ap (put_lines w f ls (suc j)) (put_in p t j l e room-left ∙ sym (append_assoc p (f l) (drop w t)))
        ∙ put-from ls (p ++ f l) (drop w t) (suc j) long (omega (arith, rest, h, s))
        ∙ append_assoc p (f l) (packed f ls ++ drop (length ls * w) (drop w t))
        ∙ ap (λ (x : List ℕ). p ++ x) (sym (append_assoc (f l) (packed f ls) (drop (length ls * w) (drop w t))) ∙ ap (λ (x : List ℕ). f l ++ packed f ls ++ x) (drop-drop (length ls * w) w t ∙ ap (λ (n : ℕ). drop n t) both))

    pub unpacked_is : (ls : List LineRow) (t : List ℕ) → length ls * w ≤ length t → take (length ls * w) (put_lines w f ls 0 t) ≡ packed f ls
    unpacked_is ls t h = ap (take (length ls * w)) (put-from ls [] t 0 (sym none) h) ∙ take_at (packed f ls) (drop (length ls * w) t) (length ls * w) (packed-length ls)

put-one-long : (w : ℕ) (t : List ℕ) (j : ℕ) (vs : List ℕ) → length (put_row w t j vs) ≡ length t
unfolding put_row
put-one-long w t j vs = go (ltb j (length t / w))
  where
    go : (b : Bool) → length (cond b (sets t (j * w) vs) t) ≡ length t
    go true = length-sets t (j * w) vs
    go false = refl

pub put-long : (w : ℕ) (f : LineRow → List ℕ) (ls : List LineRow) (j : ℕ) (t : List ℕ) → length (put_lines w f ls j t) ≡ length t
unfolding put_lines
put-long w f [] j t = refl
put-long w f (l ∷ ls) j t = put-long w f ls (suc j) (put_row w t j (f l)) ∙ put-one-long w t j (f l)

-- ── The two columns ──

wide64 : (l : LineRow) → length (words64 l) ≡ 3
wide64 l = refl

wide32 : (l : LineRow) → length (words32 l) ≡ 14
wide32 l = refl

none3 : 0 * 3 ≡ 0
none3 = omega arith

none14 : 0 * 14 ≡ 0
none14 = omega arith

step3 : (n : ℕ) → suc n * 3 ≡ n * 3 + 3
step3 n = omega arith

step14 : (n : ℕ) → suc n * 14 ≡ n * 14 + 14
step14 n = omega arith

room3 : (j m : ℕ) → j * 3 + 3 ≤ m → j < m / 3
room3 j m h = omega (arith, h)

room14 : (j m : ℕ) → j * 14 + 14 ≤ m → j < m / 14
room14 j m h = omega (arith, h)

pub length64 : (ls : List LineRow) → length (packed words64 ls) ≡ length ls * 3
length64 ls = packed-length 3 words64 wide64 none3 step3 ls

pub length32 : (ls : List LineRow) → length (packed words32 ls) ≡ length ls * 14
length32 ls = packed-length 14 words32 wide32 none14 step14 ls

pub unpacked64-is : (ls : List LineRow) (t : List ℕ) → length ls * 3 ≤ length t → take (length ls * 3) (put_lines 3 words64 ls 0 t) ≡ packed words64 ls
unpacked64-is ls t h = unpacked_is 3 words64 wide64 none3 step3 room3 ls t h

pub unpacked32-is : (ls : List LineRow) (t : List ℕ) → length ls * 14 ≤ length t → take (length ls * 14) (put_lines 14 words32 ls 0 t) ≡ packed words32 ls
unpacked32-is ls t h = unpacked_is 14 words32 wide32 none14 step14 room14 ls t h

-- ── A row of the columns ──

flag-back : (b : Bool) → not (eqb (flag_of b) 0) ≡ b
flag-back true = refl
flag-back false = refl

module _ (ls : List LineRow) (j : ℕ) (h : j < length ls) where
  abbrev q : LineRow
  q = get_or ls j no_line

  at64 : (k : ℕ) → k < 3 → get_or (packed words64 ls) (j * 3 + k) 0 ≡ get_or (words64 q) k 0
  at64 k g = packed-at 3 words64 wide64 none3 step3 ls j k h g

  at32 : (k : ℕ) → k < 14 → get_or (packed words32 ls) (j * 14 + k) 0 ≡ get_or (words32 q) k 0
  at32 k g = packed-at 14 words32 wide32 none14 step14 ls j k h g

  first64 : get_or (packed words64 ls) (j * 3) 0 ≡ q.address
  first64 = ap (λ (k : ℕ). get_or (packed words64 ls) k 0) (omega arith) ∙ at64 0 (omega arith)

  first32 : get_or (packed words32 ls) (j * 14) 0 ≡ flag_of q.has_size
  first32 = ap (λ (k : ℕ). get_or (packed words32 ls) k 0) (omega arith) ∙ at32 0 (omega arith)

  flagged : (k : ℕ) (b : Bool) → get_or (packed words32 ls) k 0 ≡ flag_of b → not (eqb (get_or (packed words32 ls) k 0) 0) ≡ b
  flagged k b e = ap (λ (v : ℕ). not (eqb v 0)) e ∙ flag-back b

  words_back : line_fields (packed words64 ls) (packed words32 ls) j ≡ q
  words_back = λ i. record {
    address = first64 i;
    has_size = flagged (j * 14) q.has_size first32 i;
    size = at64 1 (omega arith) i;
    number = at64 2 (omega arith) i;
    name = record { start = at32 1 (omega arith) i; len = at32 2 (omega arith) i };
    directory = record { start = at32 3 (omega arith) i; len = at32 4 (omega arith) i };
    srcsrv_name = record { present = flagged (j * 14 + 5) q.srcsrv_name.present (at32 5 (omega arith)) i; part = record { start = at32 6 (omega arith) i; len = at32 7 (omega arith) i } };
    srcsrv_dir = record { present = flagged (j * 14 + 8) q.srcsrv_dir.present (at32 8 (omega arith)) i; part = record { start = at32 9 (omega arith) i; len = at32 10 (omega arith) i } };
    revision = record { present = flagged (j * 14 + 11) q.revision.present (at32 11 (omega arith)) i; part = record { start = at32 12 (omega arith) i; len = at32 13 (omega arith) i } };
  }

  -- row j of the columns is row j of the list
  pub line-back : line_in_columns (packed words64 ls) (packed words32 ls) j ≡ q
  line-back =
      let a = length64 ls in
      let b = length32 ls in
      sym (line_in (packed words64 ls) (packed words32 ls) j (omega (arith, a, h)) (omega (arith, b, h))) ∙ words_back

-- ── 13 to 16 and 25 of the columns, by the list ──

each_same : (p r : ℕ → Bool) (n : ℕ) → ((i : ℕ) → i < n → p i ≡ r i) → each p n ≡ each r n
unfolding each
each_same p r zero h = refl
each_same p r (suc n) h = λ i. each_same p r n (λ j g. h j (omega arith)) i && h n (omega arith) i

module _ (f64 f32 : List ℕ) (ls : List LineRow) (t : List ℕ) where
  abbrev k : Columns
  k = line_columns f64 f32 ls t

  whole-rows : line_lengths? (packed words64 ls) (packed words32 ls) ≡ true
  unfolding line_lengths?
  whole-rows =
      let a = length64 ls in
      let b = length32 ls in
      rw (
        eq-eqb (length (packed words64 ls) % 3) 0 (omega (arith, a)),
        eq-eqb (length (packed words32 ls) % 14) 0 (omega (arith, b)),
        eq-eqb (length (packed words32 ls) / 14) (length (packed words64 ls) / 3) (omega (arith, a, b)),
      )

  count : length (packed words64 ls) / 3 ≡ length ls
  count = let a = length64 ls in omega (arith, a)

  texts-same : each (λ (j : ℕ). line_texts? t (line_in_columns (packed words64 ls) (packed words32 ls) j)) (length ls) ≡ lines_texts? t ls
  texts-same = each_same (λ (j : ℕ). line_texts? t (line_in_columns (packed words64 ls) (packed words32 ls) j)) (λ (j : ℕ). line_texts? t (get_or ls j no_line)) (length ls) (λ j h. ap (line_texts? t) (line-back ls j h))

  pub refusal-lines : (s : ℕ) → refusal_with f64 f32 (length ls) (lines_texts? t ls) t s ≡ tree_refusal k s
  refusal-lines s =
      sym (ap (λ (n : ℕ). refusal_with f64 f32 n (each (λ (j : ℕ). line_texts? t (line_in_columns (packed words64 ls) (packed words32 ls) j)) n) t s) count
      ∙ ap (λ (b : Bool). refusal_with f64 f32 (length ls) b t s) texts-same)
      ∙ refusal-columns k s whole-rows

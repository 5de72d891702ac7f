-- The loop of `read_leb128`: what it has read and what is still to come make the answer. i bytes are read, which made acc; unit is 128 ^ i. Assumes nothing.
use Prim.Native.Nat.{ℕ, suc, ◌+◌, ◌-◌, ◌*◌, ◌%◌, ◌^◌, ◌≤◌, ◌<◌}
use mathlib.Core.Path.{◌≡◌, refl, sym, ap, ◌∙◌}
use mathlib.Core.Logic.{⊎_elim}
use mathlib.Core.List.{List, [], ◌∷◌}
use mathlib.Core.Bool.{cond, ◌&&◌, and-false}
use native.Mathlib.Nat.{pow-suc, pow-le-pow_right, mul-add, mul_assoc, mul-le-mul_left}
use native.Mathlib.Numerals.{add-one}
use native.Mathlib.Omega.{arith}
use lib.Dec.{ltb, leb, lit<}
use lib.ListN.{length, take, drop, get_or, drop_of_length-le, length-drop}
use lib.Seq.{drop-cons, take_all}
use borrow.Author.Tests.{lt-ltb, le-ltb, le-leb, lt-leb}
use Rattle.text.specs.Leb128.{leb_value, well_formed, leb_prefix, leb_number, number, decoded}
use Rattle.text.specs.declared.leb128.Leb.{Leb}
use Rattle.std.specs.Prelude.{Option, None}
use Rattle.slices.proofs.Cases.{lt-or_ge}
use Rattle.text.proofs.Leb128Laws.{well_formed-more}

-- the answer, where the bytes still to come are p
finish : ℕ → ℕ → ℕ → List ℕ → Option Leb
finish i unit acc p = cond (well_formed p && (leb (i + length p) 10 && ltb (acc + unit * leb_value p) (2 ^ 64))) (number (acc + unit * leb_value p) (i + length p)) None

-- the answer, where they begin at k
pub reading : List ℕ → ℕ → ℕ → ℕ → ℕ → Option Leb
reading s k i unit acc = finish i unit acc (leb_prefix (drop k s))

reading-first : (s : List ℕ) → reading s 0 0 1 0 ≡ decoded s 0
unfolding reading finish decoded leb_number
reading-first s =
    let l : 0 + length (leb_prefix s) ≡ length (leb_prefix s) = omega arith in
    let v : 0 + 1 * leb_value (leb_prefix s) ≡ leb_value (leb_prefix s) = omega arith in
    rw (l, v)

reading-cut : (s : List ℕ) (k i unit acc : ℕ) → length s ≤ k → reading s k i unit acc ≡ None
unfolding reading finish leb_prefix well_formed
reading-cut s k i unit acc h = rw (drop_of_length-le s h)

-- a last byte
reading-last : (s : List ℕ) (k i unit acc : ℕ) → k < length s → get_or s k 0 < 128 → i < 10 → acc + unit * get_or s k 0 < 2 ^ 64 → reading s k i unit acc ≡ number (acc + unit * get_or s k 0) (i + 1)
unfolding reading finish leb_prefix well_formed leb_value
reading-last s k i unit acc h b g f =
    let e : get_or s k 0 % 128 + 128 * 0 ≡ get_or s k 0 = omega arith in
    rw (drop-cons s k 0 h, lt-ltb (get_or s k 0) 128 b, lt-ltb (get_or s k 0) 128 b, e, le-leb (i + 1) 10 (omega arith), lt-ltb (acc + unit * get_or s k 0) (2 ^ 64) f)

-- a byte that another follows
finish-more : (p : List ℕ) (b i unit acc : ℕ) → 128 ≤ b → b < 256 → finish i unit acc (b ∷ p) ≡ finish (i + 1) (unit * 128) (acc + unit * (b - 128)) p
unfolding finish leb_value
finish-more p b i unit acc h g =
    let l : i + suc (length p) ≡ i + 1 + length p = omega arith in
    let m : b % 128 ≡ b - 128 = omega arith in
    let v : acc + unit * (b % 128 + 128 * leb_value p) ≡ acc + unit * (b - 128) + unit * 128 * leb_value p =
    rw (m, mul-add, mul_assoc) (omega arith)
    in
    rw (well_formed-more b p h, l, v)

reading-more : (s : List ℕ) (k i unit acc : ℕ) → k < length s → 128 ≤ get_or s k 0 → get_or s k 0 < 256 → reading s (k + 1) (i + 1) (unit * 128) (acc + unit * (get_or s k 0 - 128)) ≡ reading s k i unit acc
unfolding reading leb_prefix
reading-more s k i unit acc h b g = rw (add-one k, drop-cons s k 0 h, le-ltb (get_or s k 0) 128 b) (sym (finish-more (leb_prefix (drop (suc k) s)) (get_or s k 0) i unit acc b g))

-- after ten bytes nothing is accepted
finish-over : (p : List ℕ) (i unit acc : ℕ) → 10 ≤ i → finish i unit acc p ≡ None
unfolding finish well_formed
finish-over [] i unit acc h = refl
finish-over (b ∷ p) i unit acc h = rw (lt-leb (i + suc (length p)) 10 (omega arith), and-false)

-- a tenth byte from 2 on passes 64 bits
finish-wide : (b acc : ℕ) → 1 < b → b < 128 → finish 9 (128 ^ 9) acc (b ∷ []) ≡ None
unfolding finish leb_value well_formed
finish-wide b acc h l = rw (lt-ltb b 128 l, le-ltb (acc + 128 ^ 9 * (b % 128 + 128 * 0)) (2 ^ 64) (omega arith))

-- a tenth byte other than 0 and 1 goes on, or passes 64 bits
reading_tenth : (s : List ℕ) (k acc : ℕ) → k < length s → 1 < get_or s k 0 → get_or s k 0 < 256 → reading s k 9 (128 ^ 9) acc ≡ None
unfolding reading leb_prefix
reading_tenth s k acc h b g =
    ⊎_elim (λ l. rw (drop-cons s k 0 h, lt-ltb (get_or s k 0) 128 l) (finish-wide (get_or s k 0) acc b l)) (λ l. rw (drop-cons s k 0 h, le-ltb (get_or s k 0) 128 l, finish-more (leb_prefix (drop (suc k) s)) (get_or s k 0) 9 (128 ^ 9) acc l g) (finish-over _ 10 _ _ (omega arith)))
    (lt-or_ge (get_or s k 0) 128)

-- what begins at the offset, as `get(at..)` lends it
pub decoded-rest : (s : List ℕ) (at : ℕ) {r : List ℕ} → r ≡ take (length s - at) (drop at s) → decoded r 0 ≡ decoded s at
unfolding decoded
decoded-rest s at e = rw (e, take_all (length s - at) (drop at s) (omega (arith, length-drop at s)))

-- what the loop keeps
pub record Read (s : List ℕ) (i unit acc : ℕ) : Type 0 where
  pub few : i ≤ 9
  pub scale : unit ≡ 128 ^ i
  pub below : acc < unit
  pub answer : reading s i i unit acc ≡ decoded s 0

pub read_first : (s : List ℕ) → Read s 0 1 0
read_first s = record { few = omega arith; scale = refl; below = omega arith; answer = reading-first s }

scaled : (unit b : ℕ) → b < 128 → unit * b ≤ unit * 127
scaled unit b h = mul-le-mul_left unit (omega arith)

module _ {s : List ℕ} {i unit acc : ℕ} (b : ℕ) (r : Read s i unit acc) where
  -- a byte that is not the tenth keeps the sum below 63 bits
  pub read_fits : i < 9 → b < 128 → acc + unit * b < 2 ^ 63
  read_fits g h =
      let u : unit ≤ 128 ^ 8 = rw r.scale (pow-le-pow_right {n = 128} (lit< tt) {i = i} {j = 8} (omega arith)) in
      omega (arith, scaled unit b h, r.below)

  pub read-last : i < 9 → i < length s → b ≡ get_or s i 0 → b < 128 → number (acc + unit * b) (i + 1) ≡ decoded s 0
  read-last g l e h =
      let f : acc + unit * b < 2 ^ 64 = omega (arith, read_fits g h) in
      rw e (sym (reading-last s i i unit acc l (omega arith) (omega arith) (rw e at f)) ∙ r.answer)

  pub read_more : i < 9 → i < length s → b ≡ get_or s i 0 → 128 ≤ b → b < 256 → Read s (i + 1) (unit * 128) (acc + unit * (b - 128))
  read_more g l e h k =
      record {
        few = omega arith;
        scale = rw (add-one i, pow-suc 128 i, r.scale);
        below = omega (arith, scaled unit (b - 128) (omega arith), r.below);
        answer = rw e (reading-more s i i unit acc l (omega arith) (omega arith) ∙ r.answer);
      }

  pub read-cut : length s ≤ i → None ≡ decoded s 0
  read-cut l = sym (reading-cut s i i unit acc l) ∙ r.answer

  -- the tenth byte
  at_nine : 9 ≤ i → Read s 9 (128 ^ 9) acc
  at_nine g = let n : i ≡ 9 = omega arith in rw (r.scale, n) at r

  pub tenth_fits : 9 ≤ i → b ≤ 1 → acc + unit * b < 2 ^ 64
  tenth_fits g h = let n : i ≡ 9 = omega arith in let u : unit ≡ 128 ^ 9 = r.scale ∙ ap (λ (k : ℕ). 128 ^ k) n in rw u (let q = (at_nine g).below in omega arith)

  pub tenth_last : 9 ≤ i → 9 < length s → b ≡ get_or s 9 0 → b ≤ 1 → number (acc + unit * b) 10 ≡ decoded s 0
  tenth_last g l e h =
      let f = tenth_fits g h in
      let n : i ≡ 9 = omega arith in
      let u : unit ≡ 128 ^ 9 = r.scale ∙ ap (λ (k : ℕ). 128 ^ k) n in
      rw (e, u) (sym (reading-last s 9 9 (128 ^ 9) acc l (omega arith) (omega arith) (rw (e, u) at f)) ∙ (at_nine g).answer)

  pub tenth_wide : 9 ≤ i → 9 < length s → b ≡ get_or s 9 0 → 1 < b → b < 256 → None ≡ decoded s 0
  tenth_wide g l e h k = sym (reading_tenth s 9 acc l (omega arith) (omega arith)) ∙ (at_nine g).answer

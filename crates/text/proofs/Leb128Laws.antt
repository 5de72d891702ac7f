-- LEB128: the standard's algorithm gives the shortest form of a number; decoding gives back what it encoded, and accepts exactly
-- the well-formed sequences of at most ten bytes and 64 bits. Assumes nothing.
use Prim.Native.Nat.{ℕ, zero, suc, ◌+◌, ◌/◌, ◌%◌, ◌^◌, ◌≤◌, ◌<◌}
use mathlib.Core.Path.{◌≡◌, refl, ap}
use mathlib.Core.Logic.{◌⊎◌, inl, inr, ⊎_elim, ◌↔◌}
use mathlib.Core.List.{List, [], ◌∷◌, ◌++◌}
use mathlib.Core.Bool.{Bool, true, false, cond, ◌&&◌, false≢true}
use native.Mathlib.Nat.{div-lt_iff_lt-mul, pow-suc, le_refl}
use native.Mathlib.Numerals.{add-one}
use native.Mathlib.Omega.{arith}
use lib.Dec.{ltb, leb, lit<}
use lib.ListN.{length, drop, set, drop_of_length-le}
use lib.Pow.{are_bytes}
use lib.Seq.{drop_at, sets}
use borrow.Author.Tests.{ltb-true, leb-true, lt-ltb, le-ltb, le-leb}
use Rattle.slices.proofs.Cases.{lt-or_ge, and_left, and_right}
use Rattle.text.specs.Leb128.{leb_value, well_formed, encoded_in, encoded, leb_prefix, leb_number, number, decoded, Accepted}
use Rattle.std.specs.Prelude.{None}
use Rattle.std.proofs.lemmas.Option.{same_Some}
use Rattle.text.specs.declared.leb128.Leb.{Leb}

-- ---- the encoding

-- any bound from v on gives the same bytes
bound-free : (n m v : ℕ) → v ≤ n → v ≤ m → encoded_in n v ≡ encoded_in m v
unfolding encoded_in
bound-free zero zero v hn hm = refl
bound-free zero (suc m) v hn hm = rw (lt-ltb v 128 (omega arith))
bound-free (suc n) zero v hn hm = rw (lt-ltb v 128 (omega arith))
bound-free (suc n) (suc m) v hn hm = ⊎_elim (λ h. rw (lt-ltb v 128 h)) (λ h. rw (le-ltb v 128 h, bound-free n m (v / 128) (omega arith) (omega arith))) (lt-or_ge v 128)

pub encoded-last : (v : ℕ) → v < 128 → encoded v ≡ v ∷ []
unfolding encoded encoded_in
encoded-last zero h = refl
encoded-last (suc n) h = rw (lt-ltb (suc n) 128 h)

pub encoded-more : (v : ℕ) → 128 ≤ v → encoded v ≡ (v % 128 + 128) ∷ encoded (v / 128)
unfolding encoded encoded_in
encoded-more zero h = absurd (omega arith)
encoded-more (suc n) h = rw (le-ltb (suc n) 128 h, bound-free n (suc n / 128) (suc n / 128) (omega arith) (omega arith))

-- the bound of the definition is never met: the algorithm as the standard gives it
pub encoded-step : (v : ℕ) → encoded v ≡ cond (ltb v 128) (v ∷ []) ((v % 128 + 128) ∷ encoded (v / 128))
encoded-step v = ⊎_elim (λ h. rw (lt-ltb v 128 h, encoded-last v h)) (λ h. rw (le-ltb v 128 h) (encoded-more v h)) (lt-or_ge v 128)

-- induction over the groups of a number
by_groups : (P : ℕ → Type 0) → ((v : ℕ) → v < 128 → P v) → ((v : ℕ) → 128 ≤ v → P (v / 128) → P v) → (v : ℕ) → P v
by_groups P last more v = go v v (le_refl v)
  where
    go : (n w : ℕ) → w ≤ n → P w
    go zero w h = last w (omega arith)
    go (suc n) w h = ⊎_elim (last w) (λ g. more w g (go n (w / 128) (omega arith))) (lt-or_ge w 128)

pub well_formed-more : (b : ℕ) (s : List ℕ) → 128 ≤ b → well_formed (b ∷ s) ≡ well_formed s
unfolding well_formed
well_formed-more b [] h = le-ltb b 128 h
well_formed-more b (c ∷ s) h = rw (le-leb 128 b h)

well_formed-last : (b : ℕ) → b < 128 → well_formed (b ∷ []) ≡ true
unfolding well_formed
well_formed-last b h = lt-ltb b 128 h

pub encoded-well_formed : (v : ℕ) → well_formed (encoded v) ≡ true
encoded-well_formed =
    by_groups (λ v. well_formed (encoded v) ≡ true) (λ v h. rw (encoded-last v h) (well_formed-last v h))
    (λ v h r. rw (encoded-more v h, well_formed-more (v % 128 + 128) (encoded (v / 128)) (omega arith)) r)

pub encoded-bytes : (v : ℕ) → are_bytes (encoded v) ≡ true
encoded-bytes = by_groups (λ v. are_bytes (encoded v) ≡ true) (λ v h. rw (encoded-last v h, lt-ltb v 256 (omega arith))) (λ v h r. rw (encoded-more v h, lt-ltb (v % 128 + 128) 256 (omega arith)) r)

pub encoded-value : (v : ℕ) → leb_value (encoded v) ≡ v
unfolding leb_value
encoded-value = by_groups (λ v. leb_value (encoded v) ≡ v) (λ v h. rw (encoded-last v h) (omega arith)) (λ v h r. rw (encoded-more v h, r) (omega arith))

-- no sequence that means v is shorter
pub shortest : (s : List ℕ) (v : ℕ) → well_formed s ≡ true → leb_value s ≡ v → length (encoded v) ≤ length s
unfolding well_formed leb_value
shortest [] v w e = absurd (false≢true w)
shortest (b ∷ []) v w e = rw (encoded-last v (omega arith)) (omega arith)
shortest (b ∷ (c ∷ s)) v w e =
    ⊎_elim (λ h. rw (encoded-last v h) (omega arith))
    (λ h. rw (encoded-more v h) (let r = shortest (c ∷ s) (v / 128) (and_right (leb 128 b) (well_formed (c ∷ s)) w) (omega arith) in omega arith)) (lt-or_ge v 128)

-- and of that length there is no other
pub shortest-only : (s : List ℕ) (v : ℕ) → are_bytes s ≡ true → well_formed s ≡ true → leb_value s ≡ v → length s ≡ length (encoded v) → s ≡ encoded v
unfolding well_formed leb_value
shortest-only [] v a w e l = absurd (false≢true w)
shortest-only (b ∷ []) v a w e l = let h = ltb-true b 128 w in let g : b ≡ v = omega arith in rw (encoded-last v (omega arith), g)
shortest-only (b ∷ (c ∷ s)) v a w e l = go (lt-or_ge v 128) (shortest-only (c ∷ s) (v / 128))
  where
    tail : ℕ → Type 0
    tail u = are_bytes (c ∷ s) ≡ true → well_formed (c ∷ s) ≡ true → leb_value (c ∷ s) ≡ u → length (c ∷ s) ≡ length (encoded u) → c ∷ s ≡ encoded u

    go : (v < 128) ⊎ (128 ≤ v) → tail (v / 128) → b ∷ (c ∷ s) ≡ encoded v
    go (inl h) r = absurd (let k = rw (encoded-last v h) at l in omega arith)
    go (inr h) r =
        let b₀ = ltb-true b 256 (and_left (ltb b 256) (are_bytes (c ∷ s)) a) in
        let b₁ = leb-true 128 b (and_left (leb 128 b) (well_formed (c ∷ s)) w) in
        let k = rw (encoded-more v h) at l in
        let t : c ∷ s ≡ encoded (v / 128) = r (and_right (ltb b 256) (are_bytes (c ∷ s)) a) (and_right (leb 128 b) (well_formed (c ∷ s)) w) (omega arith) (omega arith) in
        let hd : b ≡ v % 128 + 128 = omega arith in
        rw (encoded-more v h, ← t, hd)

-- a number below 128 ^ (k + 1) has at most k + 1 bytes
encoded-short : (k v : ℕ) → v < 128 ^ suc k → length (encoded v) ≤ suc k
encoded-short zero v h = rw (encoded-last v (rw pow-suc at h)) (omega arith)
encoded-short (suc k) v h =
    ⊎_elim (λ g. rw (encoded-last v g) (omega arith))
    (λ g. rw (encoded-more v g) (let r = encoded-short k (v / 128) ((div-lt_iff_lt-mul {k = 128} {x = v} {y = 128 ^ suc k} (lit< tt)).1 (rw (pow-suc 128 (suc k)) at h)) in omega arith)) (lt-or_ge v 128)

pub encoded_ten : (v : ℕ) → v < 2 ^ 64 → length (encoded v) ≤ 10
encoded_ten v h = encoded-short 9 v (omega arith)

pub length_last : (v : ℕ) → v < 128 → length (encoded v) ≡ 1
length_last v h = rw (encoded-last v h)

pub length_more : (v : ℕ) → 128 ≤ v → length (encoded v) ≡ 1 + length (encoded (v / 128))
length_more v h = rw (encoded-more v h) (omega arith)

-- ---- the encoding as `put_leb128` stores it

pub put_last : (s : List ℕ) (i v : ℕ) → v < 128 → set s i v ≡ sets s i (encoded v)
put_last s i v h = rw (encoded-last v h)

pub put-more : (s : List ℕ) (i v : ℕ) → 128 ≤ v → sets (set s i (v % 128 + 128)) (i + 1) (encoded (v / 128)) ≡ sets s i (encoded v)
put-more s i v h = rw (encoded-more v h, add-one i)

-- ---- decoding

-- a well-formed sequence is all that a number takes, whatever follows
prefix_formed : (p q : List ℕ) → well_formed p ≡ true → leb_prefix (p ++ q) ≡ p
unfolding well_formed leb_prefix
prefix_formed [] q w = absurd (false≢true w)
prefix_formed (b ∷ []) q w = rw w
prefix_formed (b ∷ (c ∷ s)) q w =
    let h = leb-true 128 b (and_left (leb 128 b) (well_formed (c ∷ s)) w) in
    rw (le-ltb b 128 h) (ap (λ t. b ∷ t) (prefix_formed (c ∷ s) q (and_right (leb 128 b) (well_formed (c ∷ s)) w)))

-- it begins what it is taken of
suffix : List ℕ → List ℕ
suffix [] = []
suffix (b ∷ s) = cond (ltb b 128) s (suffix s)

prefix_suffix : (s : List ℕ) → s ≡ leb_prefix s ++ suffix s
unfolding leb_prefix suffix
prefix_suffix [] = refl
prefix_suffix (b ∷ s) = go (ltb b 128) (prefix_suffix s)
  where
    go : (t : Bool) → s ≡ leb_prefix s ++ suffix s → b ∷ s ≡ cond t (b ∷ []) (b ∷ leb_prefix s) ++ cond t s (suffix s)
    go true r = refl
    go false r = ap (λ t. b ∷ t) r

pub decoded_accepts : (s : List ℕ) (at v n : ℕ) → Accepted s at v n → decoded s at ≡ number v n
unfolding decoded leb_number
decoded_accepts s at v n a =
    rw (a.stands, prefix_formed a.form a.rest a.formed, a.formed, a.size, a.value, le-leb n 10 a.short, lt-ltb v (2 ^ 64) a.small)

pub decoded-only : (s : List ℕ) (at v n : ℕ) → decoded s at ≡ number v n → Accepted s at v n
unfolding decoded leb_number
decoded-only s at v n e = go (well_formed p) (leb (length p) 10) (ltb (leb_value p) (2 ^ 64)) refl refl refl e
  where
    p : List ℕ
    p = leb_prefix (drop at s)

    go : (x y z : Bool) → well_formed p ≡ x → leb (length p) 10 ≡ y → ltb (leb_value p) (2 ^ 64) ≡ z → cond (x && (y && z)) (number (leb_value p) (length p)) None ≡ number v n → Accepted s at v n
    go true true true ex ey ez f =
        let same = same_Some _ _ f in
        let ev : leb_value p ≡ v = ap (λ (x : Leb). x.value) same in
        let en : length p ≡ n = ap (λ (x : Leb). x.len) same in
        record {
          form = p;
          rest = suffix (drop at s);
          stands = prefix_suffix (drop at s);
          formed = ex;
          value = ev;
          size = en;
          short = rw en at (leb-true (length p) 10 ey);
          small = rw ev at (ltb-true (leb_value p) (2 ^ 64) ez);
        }
    go true true false ex ey ez f = absurd (let z : ◌≡◌ {A = ℕ} 0 1 = cc in omega arith)
    go true false z ex ey ez f = absurd (let z : ◌≡◌ {A = ℕ} 0 1 = cc in omega arith)
    go false y z ex ey ez f = absurd (let z : ◌≡◌ {A = ℕ} 0 1 = cc in omega arith)

-- decoding accepts exactly what the standard does within ten bytes and 64 bits
pub decoded_exactly : (s : List ℕ) (at v n : ℕ) → (decoded s at ≡ number v n) ↔ Accepted s at v n
decoded_exactly s at v n = (decoded-only s at v n, decoded_accepts s at v n)

-- decoding an encoding gives the number and its length, whatever stands before and after
pub decoded-encoded : (p q : List ℕ) (v : ℕ) → v < 2 ^ 64 → decoded (p ++ (encoded v ++ q)) (length p) ≡ number v (length (encoded v))
decoded-encoded p q v h =
    decoded_accepts (p ++ (encoded v ++ q)) (length p) v (length (encoded v))
    record {
      form = encoded v;
      rest = q;
      stands = drop_at p (encoded v ++ q) (length p) refl;
      formed = encoded-well_formed v;
      value = encoded-value v;
      size = refl;
      short = encoded_ten v h;
      small = h;
    }

-- an offset past the bytes
pub decoded-past : (s : List ℕ) (at : ℕ) → length s ≤ at → None ≡ decoded s at
unfolding decoded leb_number leb_prefix well_formed
decoded-past s at h = rw (drop_of_length-le s h)

-- what the answers of src/leb128.rt take
pub ruleset stored = (put_last, put-more, length_last, length_more, encoded_ten)

-- Theorems on `utf8`, to be cited: `utf8-sound` and `utf8_complete` (RFC 3629, section 3), `utf8_append`, and cuts at an ASCII octet,
-- `ascii-cut`, `utf8-take-ascii`, `utf8-drop-ascii`, `utf8-after-ascii`.
use Prim.Native.Nat.{ℕ, zero, suc, ◌+◌, ◌*◌, ◌-◌, ◌/◌, ◌%◌, ◌<◌, ◌≤◌}
use mathlib.Core.Path.{◌≡◌, refl, sym, ◌∙◌, ap}
use mathlib.Core.Bool.{Bool, true, false, cond, ◌&&◌, ◌||◌, false≢true, and-false}
use mathlib.Core.List.{List, [], ◌∷◌, ◌++◌, append_assoc}
use mathlib.Core.Logic.{◌⊎◌, inl, inr, ⊎_elim}
use native.Mathlib.Omega.{arith}
use native.Mathlib.Numerals.{add-one}
use lib.Dec.{leb, ltb}
use lib.ListN.{length, get_or, take, drop, length-drop, drop_of_length-le}
use lib.Seq.{take_all, drop-append-le, drop-cons, split_at}
use borrow.Author.Tests.{le-leb, lt-leb, leb-true, ltb-true}
use Rattle.text.specs.Utf8.{Range, ◌to◌, Utf8Tail, Utf8Char, within, fits, char_len, utf8, scalar, encode, encode_all, all_scalar}
use Rattle.slices.proofs.Cases.{lt-or_ge, and_left, and_right}
use Rattle.std.specs.Prelude.{Option, Some, None}
use Rattle.std.proofs.lemmas.Option.{same_Some, none-some}
use Rattle.text.proofs.Utf8Steps.{char_within, utf8_nil, utf8-none, utf8_char}

-- A cut at an ASCII octet b. In every alternative the ranges after the first lie above ASCII, so b is no part of a char that began before it.
high : List Range → Bool
high [] = true
high (r ∷ rs) = leb 0x80 r.lo && high rs

tails-high : List (List Range) → Bool
tails-high [] = true
tails-high ([] ∷ rows) = false
tails-high ((r ∷ rs) ∷ rows) = high rs && tails-high rows

module _ (b : ℕ) (q : List ℕ) (ascii : b < 128) where
  not_within : (r : Range) → leb 0x80 r.lo ≡ true → within r b ≡ false
  unfolding within
  not_within r h = rw (lt-leb r.lo b (omega (arith, leb-true 0x80 r.lo h)))

  fits_cut : (rs : List Range) → high rs ≡ true → (p : List ℕ) → fits rs (p ++ (b ∷ q)) ≡ fits rs p
  unfolding fits high
  fits_cut [] h p = refl
  fits_cut (r ∷ rs) h [] = rw (not_within r (and_left (leb 0x80 r.lo) (high rs) h))
  fits_cut (r ∷ rs) h (x ∷ p) = rw (fits_cut rs (and_right (leb 0x80 r.lo) (high rs) h) p)

  char_len-cut : (rows : List (List Range)) → tails-high rows ≡ true → (x : ℕ) (p : List ℕ) → char_len rows (x ∷ (p ++ (b ∷ q))) ≡ char_len rows (x ∷ p)
  unfolding char_len fits tails-high
  char_len-cut [] h x p = refl
  char_len-cut ([] ∷ rows) h x p = absurd (false≢true h)
  char_len-cut ((r ∷ rs) ∷ rows) h x p = rw (fits_cut rs (and_left (high rs) (tails-high rows) h) p, char_len-cut rows (and_right (high rs) (tails-high rows) h) x p)

  ascii_char : char_len Utf8Char (b ∷ q) ≡ Some 1
  unfolding char_len Utf8Char fits within
  ascii_char = rw (le-leb 0 b (omega arith), le-leb b 0x7F (omega arith))

  cut : (n : ℕ) (p : List ℕ) → length p ≤ n → utf8 (p ++ (b ∷ q)) ≡ (utf8 p && utf8 q)
  unfolding tails-high high Utf8Char
  cut zero [] h = rw utf8_nil (utf8_char (b ∷ q) 1 ascii_char)
  cut (suc n) [] h = rw utf8_nil (utf8_char (b ∷ q) 1 ascii_char)
  cut zero (x ∷ p) h = absurd (omega arith)
  cut (suc n) (x ∷ p) h = go (λ k l. cut n (drop k (x ∷ p)) (omega (arith, length-drop k (x ∷ p)))) (char_len Utf8Char (x ∷ p)) refl
    where
      go : ((k : ℕ) → 0 < k → utf8 (drop k (x ∷ p) ++ (b ∷ q)) ≡ (utf8 (drop k (x ∷ p)) && utf8 q)) → (o : Option ℕ) → char_len Utf8Char (x ∷ p) ≡ o → utf8 (x ∷ (p ++ (b ∷ q))) ≡ (utf8 (x ∷ p) && utf8 q)
      go f None e = rw (utf8-none (x ∷ p) (omega arith) e) (utf8-none (x ∷ (p ++ (b ∷ q))) (omega arith) (char_len-cut Utf8Char refl x p ∙ e))
      go f (Some k) e =
          let w = char_within (x ∷ p) k e in
          rw (utf8_char (x ∷ p) k e)
          (utf8_char (x ∷ (p ++ (b ∷ q))) k (char_len-cut Utf8Char refl x p ∙ e) ∙ rw (drop-append-le k (x ∷ p) (b ∷ q) w.1) (f k w.0))

pub ascii-cut : (p : List ℕ) (b : ℕ) (q : List ℕ) → b < 128 → utf8 (p ++ (b ∷ q)) ≡ (utf8 p && utf8 q)
ascii-cut p b q h = cut b q h (length p) p (omega arith)

-- The same at an index whose octet is ASCII (0 past the end): what stands before it, what begins with it, and what follows it.
module _ (s : List ℕ) (i : ℕ) (ascii : get_or s i 0 < 128) (valid : utf8 s ≡ true) where
  halves : i < length s → (utf8 (take i s) && utf8 (drop (suc i) s)) ≡ true
  halves h = sym (ascii-cut (take i s) (get_or s i 0) (drop (suc i) s) ascii) ∙ ap utf8 (sym (split_at s i 0 h)) ∙ valid

  pub utf8-take-ascii : utf8 (take i s) ≡ true
  utf8-take-ascii = ⊎_elim (λ h. and_left (utf8 (take i s)) (utf8 (drop (suc i) s)) (halves h)) (λ h. rw (take_all i s h) valid) (lt-or_ge i (length s))

  pub utf8-after-ascii : utf8 (drop (i + 1) s) ≡ true
  utf8-after-ascii = rw (add-one i) (⊎_elim (λ h. and_right (utf8 (take i s)) (utf8 (drop (suc i) s)) (halves h)) (λ h. rw (drop_of_length-le s {i = suc i} (omega arith)) utf8_nil) (lt-or_ge i (length s)))

  pub utf8-drop-ascii : utf8 (drop i s) ≡ true
  utf8-drop-ascii =
      ⊎_elim (λ h. rw (drop-cons s i 0 h) (ascii-cut [] (get_or s i 0) (drop (suc i) s) ascii ∙ rw utf8_nil (and_right (utf8 (take i s)) (utf8 (drop (suc i) s)) (halves h)))) (λ h. rw (drop_of_length-le s {i = i} h) utf8_nil) (lt-or_ge i (length s))

-- Section 3. An alternative fits: the facts about its octets.
abbrev Fits : List Range → List ℕ → Type 0
Fits [] s = Unit {0}
Fits (r ∷ rs) [] = ⊥
Fits (r ∷ rs) (b ∷ s) = (r.lo ≤ b) × (b ≤ r.hi) × Fits rs s

fits-from : (rs : List Range) (s : List ℕ) → Fits rs s → fits rs s ≡ true
unfolding fits within
fits-from [] s f = refl
fits-from (r ∷ rs) [] f = absurd f
fits-from (r ∷ rs) (b ∷ s) f = rw (le-leb r.lo b f.0, le-leb b r.hi f.1) (fits-from rs s f.2)

fits-to : (rs : List Range) (s : List ℕ) → fits rs s ≡ true → Fits rs s
unfolding fits within
fits-to [] s f = tt
fits-to (r ∷ rs) [] f = absurd (false≢true f)
fits-to (r ∷ rs) (b ∷ s) f =
    let w = and_left (within r b) (fits rs s) f in (
      leb-true r.lo b (and_left (leb r.lo b) (leb b r.hi) w),
      leb-true b r.hi (and_right (leb r.lo b) (leb b r.hi) w),
      fits-to rs s (and_right (within r b) (fits rs s) f),
    )

-- From numbers to octets. The octets of c are a char by one of the nine rows, found by the size of c; no row before it fits, since
-- its first octet lies above theirs.
passed : ℕ → List (List Range) → ℕ → Bool
passed lo rows zero = true
passed lo [] (suc k) = true
passed lo ([] ∷ rows) (suc k) = false
passed lo ((r ∷ rs) ∷ rows) (suc k) = ltb r.hi lo && passed lo rows k

over : (r : Range) (a : ℕ) → r.hi < a → within r a ≡ false
unfolding within
over r a h = rw (lt-leb a r.hi h) (and-false (leb r.lo a))

chosen : (lo a : ℕ) (s : List ℕ) → lo ≤ a → (rows : List (List Range)) (k n : ℕ) → passed lo rows k ≡ true → length (get_or rows k []) ≡ suc n → fits (get_or rows k []) (a ∷ s) ≡ true → char_len rows (a ∷ s) ≡ Some (suc n)
unfolding passed char_len fits
chosen lo a s l [] k n h e f = absurd (omega arith)
chosen lo a s l (r ∷ rows) zero n h e f = rw (f, e)
chosen lo a s l ([] ∷ rows) (suc k) n h e f = absurd (false≢true h)
chosen lo a s l ((r ∷ rs) ∷ rows) (suc k) n h e f =
    let o : within r a ≡ false = over r a (omega (arith, ltb-true r.hi lo (and_left (ltb r.hi lo) (passed lo rows k) h))) in
    rw o (chosen lo a s l rows k n (and_right (ltb r.hi lo) (passed lo rows k) h) e f)

-- the list begins with a char by row k, whose first octet is lo or more
by_row : (k lo a : ℕ) (s : List ℕ) (n : ℕ) → passed lo Utf8Char k ≡ true → length (get_or Utf8Char k []) ≡ suc n → lo ≤ a → Fits (get_or Utf8Char k []) (a ∷ s) → utf8 (a ∷ s) ≡ utf8 (drop n s)
by_row k lo a s n p e l f = utf8_char (a ∷ s) (suc n) (chosen lo a s l Utf8Char k n p e (fits-from (get_or Utf8Char k []) (a ∷ s) f))

module _ (c : ℕ) where
  encode_1 : c ≤ 0x7F → encode c ≡ c ∷ []
  unfolding encode
  encode_1 h = rw (le-leb c 0x7F h)

  encode_2 : 0x7F < c → c ≤ 0x7FF → encode c ≡ (0xC0 + c / 64) ∷ (0x80 + c % 64) ∷ []
  unfolding encode
  encode_2 l h = rw (lt-leb c 0x7F l, le-leb c 0x7FF h)

  encode_3 : 0x7FF < c → c ≤ 0xFFFF → encode c ≡ (0xE0 + c / 4096) ∷ (0x80 + c / 64 % 64) ∷ (0x80 + c % 64) ∷ []
  unfolding encode
  encode_3 l h = rw (lt-leb c 0x7F (omega arith), lt-leb c 0x7FF l, le-leb c 0xFFFF h)

  encode_4 : 0xFFFF < c → encode c ≡ (0xF0 + c / 262144) ∷ (0x80 + c / 4096 % 64) ∷ (0x80 + c / 64 % 64) ∷ (0x80 + c % 64) ∷ []
  unfolding encode
  encode_4 l = rw (lt-leb c 0x7F (omega arith), lt-leb c 0x7FF (omega arith), lt-leb c 0xFFFF l)

  module _ (s : List ℕ) where
    row_1 : c ≤ 0x7F → utf8 (encode c ++ s) ≡ utf8 s
    unfolding Utf8Char passed
    row_1 h = rw (encode_1 h) (by_row 0 0 c s 0 refl refl (omega arith) (omega arith, omega arith, tt))

    row_2 : 0x7F < c → c ≤ 0x7FF → utf8 (encode c ++ s) ≡ utf8 s
    unfolding Utf8Char passed
    row_2 l h = rw (encode_2 l h) (by_row 1 0xC2 _ _ 1 refl refl (omega arith) (omega arith, omega arith, (omega arith, omega arith, tt)))

    row_3 : 0x7FF < c → c ≤ 0xFFF → utf8 (encode c ++ s) ≡ utf8 s
    unfolding Utf8Char passed
    row_3 l h = rw (encode_3 l (omega arith)) (by_row 2 0xE0 _ _ 2 refl refl (omega arith) (omega arith, omega arith, (omega arith, omega arith, (omega arith, omega arith, tt))))

    row_4 : 0xFFF < c → c ≤ 0xCFFF → utf8 (encode c ++ s) ≡ utf8 s
    unfolding Utf8Char passed
    row_4 l h = rw (encode_3 (omega arith) (omega arith)) (by_row 3 0xE1 _ _ 2 refl refl (omega arith) (omega arith, omega arith, (omega arith, omega arith, (omega arith, omega arith, tt))))

    row_5 : 0xCFFF < c → c ≤ 0xD7FF → utf8 (encode c ++ s) ≡ utf8 s
    unfolding Utf8Char passed
    row_5 l h = rw (encode_3 (omega arith) (omega arith)) (by_row 4 0xED _ _ 2 refl refl (omega arith) (omega arith, omega arith, (omega arith, omega arith, (omega arith, omega arith, tt))))

    row_6 : 0xDFFF < c → c ≤ 0xFFFF → utf8 (encode c ++ s) ≡ utf8 s
    unfolding Utf8Char passed
    row_6 l h = rw (encode_3 (omega arith) h) (by_row 5 0xEE _ _ 2 refl refl (omega arith) (omega arith, omega arith, (omega arith, omega arith, (omega arith, omega arith, tt))))

    row_7 : 0xFFFF < c → c ≤ 0x3FFFF → utf8 (encode c ++ s) ≡ utf8 s
    unfolding Utf8Char passed
    row_7 l h = rw (encode_4 l) (by_row 6 0xF0 _ _ 3 refl refl (omega arith) (omega arith, omega arith, (omega arith, omega arith, (omega arith, omega arith, (omega arith, omega arith, tt)))))

    row_8 : 0x3FFFF < c → c ≤ 0xFFFFF → utf8 (encode c ++ s) ≡ utf8 s
    unfolding Utf8Char passed
    row_8 l h = rw (encode_4 (omega arith)) (by_row 7 0xF1 _ _ 3 refl refl (omega arith) (omega arith, omega arith, (omega arith, omega arith, (omega arith, omega arith, (omega arith, omega arith, tt)))))

    row_9 : 0xFFFFF < c → c ≤ 0x10FFFF → utf8 (encode c ++ s) ≡ utf8 s
    unfolding Utf8Char passed
    row_9 l h = rw (encode_4 (omega arith)) (by_row 8 0xF4 _ _ 3 refl refl (omega arith) (omega arith, omega arith, (omega arith, omega arith, (omega arith, omega arith, (omega arith, omega arith, tt)))))

scalar_cases : (c : ℕ) → scalar c ≡ true → c ≤ 0xD7FF ⊎ (0xE000 ≤ c) × (c ≤ 0x10FFFF)
unfolding scalar
scalar_cases c h = go (leb c 0xD7FF) refl h
  where
    go : (t : Bool) → leb c 0xD7FF ≡ t → (t || leb 0xE000 c && leb c 0x10FFFF) ≡ true → c ≤ 0xD7FF ⊎ (0xE000 ≤ c) × (c ≤ 0x10FFFF)
    go true e f = inl (leb-true c 0xD7FF e)
    go false e f = inr (leb-true 0xE000 c (and_left (leb 0xE000 c) (leb c 0x10FFFF) f), leb-true c 0x10FFFF (and_right (leb 0xE000 c) (leb c 0x10FFFF) f))

by_size : {A : Type 0} (c n : ℕ) → (c ≤ n → A) → (n < c → A) → A
by_size c n f g = ⊎_elim g f (lt-or_ge n c)

encoded_char : (c : ℕ) (s : List ℕ) → scalar c ≡ true → utf8 (encode c ++ s) ≡ utf8 s
encoded_char c s h = ⊎_elim low high_part (scalar_cases c h)
  where
    low : c ≤ 0xD7FF → utf8 (encode c ++ s) ≡ utf8 s
    low h =
        by_size c 0x7F (row_1 c s)
        (λ a. by_size c 0x7FF (row_2 c s a)
        (λ b. by_size c 0xFFF (row_3 c s b)
        (λ d. by_size c 0xCFFF (row_4 c s d)
        (λ e. row_5 c s e h))))

    high_part : (0xE000 ≤ c) × (c ≤ 0x10FFFF) → utf8 (encode c ++ s) ≡ utf8 s
    high_part h =
        by_size c 0xFFFF (row_6 c s (omega arith))
        (λ a. by_size c 0x3FFFF (row_7 c s a)
        (λ b. by_size c 0xFFFFF (row_8 c s b)
        (λ d. row_9 c s d h.1)))

pub utf8_complete : (cs : List ℕ) → all_scalar cs ≡ true → utf8 (encode_all cs) ≡ true
unfolding encode_all all_scalar
utf8_complete [] h = utf8_nil
utf8_complete (c ∷ cs) h = rw (encoded_char c (encode_all cs) (and_left (scalar c) (all_scalar cs) h)) (utf8_complete cs (and_right (scalar c) (all_scalar cs) h))

-- From octets to numbers. The first k octets of s are the encoding of a character number: so it is where a row of k ranges fits, and hence for the char at the head.
abbrev Head : List ℕ → ℕ → Type 0
Head s k = (c : ℕ) × (scalar c ≡ true) × (s ≡ encode c ++ drop k s)

abbrev Good : List Range → Type 0
Good r = (s : List ℕ) → Fits r s → Head s (length r)

abbrev AllGood : List (List Range) → Type 0
AllGood [] = Unit {0}
AllGood (r ∷ rows) = Good r × AllGood rows

scalar-low : (c : ℕ) → c ≤ 0xD7FF → scalar c ≡ true
unfolding scalar
scalar-low c h = rw (le-leb c 0xD7FF h)

scalar-high : (c : ℕ) → 0xE000 ≤ c → c ≤ 0x10FFFF → scalar c ≡ true
unfolding scalar
scalar-high c l h = rw (lt-leb c 0xD7FF (omega arith), le-leb 0xE000 c l, le-leb c 0x10FFFF h)

-- the octets of c, from the numbers in them
octets_2 : (c a b : ℕ) → c ≡ (a - 0xC0) * 64 + (b - 0x80) → Fits (0xC2 to 0xDF ∷ Utf8Tail ∷ []) (a ∷ b ∷ []) → encode c ≡ a ∷ b ∷ []
octets_2 c a b e f =
    let p : 0xC0 + c / 64 ≡ a = omega arith in
    let q : 0x80 + c % 64 ≡ b = omega arith in
    encode_2 c (omega arith) (omega arith) ∙ rw (p, q)

octets_3 : (c a b d : ℕ) → c ≡ (a - 0xE0) * 4096 + (b - 0x80) * 64 + (d - 0x80) → Fits (0xE0 to 0xEF ∷ Utf8Tail ∷ Utf8Tail ∷ []) (a ∷ b ∷ d ∷ []) → 0x7FF < c → encode c ≡ a ∷ b ∷ d ∷ []
octets_3 c a b d e f h =
    let p : 0xE0 + c / 4096 ≡ a = omega arith in
    let q : 0x80 + c / 64 % 64 ≡ b = omega arith in
    let r : 0x80 + c % 64 ≡ d = omega arith in
    encode_3 c h (omega arith) ∙ rw (p, q, r)

octets_4 : (c a b d g : ℕ) → c ≡ (a - 0xF0) * 262144 + (b - 0x80) * 4096 + (d - 0x80) * 64 + (g - 0x80) → Fits (0xF0 to 0xF4 ∷ Utf8Tail ∷ Utf8Tail ∷ Utf8Tail ∷ []) (a ∷ b ∷ d ∷ g ∷ []) → 0xFFFF < c → encode c ≡ a ∷ b ∷ d ∷ g ∷ []
octets_4 c a b d g e f h =
    let p : 0xF0 + c / 262144 ≡ a = omega arith in
    let q : 0x80 + c / 4096 % 64 ≡ b = omega arith in
    let r : 0x80 + c / 64 % 64 ≡ d = omega arith in
    let t : 0x80 + c % 64 ≡ g = omega arith in
    encode_4 c h ∙ rw (p, q, r, t)

-- the rows, by how many octets they have; `ok` is what is particular to a row
good_1 : Good (0x00 to 0x7F ∷ [])
good_1 [] f = absurd f
good_1 (a ∷ s) f = (a, scalar-low a (omega arith), rw (encode_1 a f.1))

good_2 : Good (0xC2 to 0xDF ∷ Utf8Tail ∷ [])
good_2 [] f = absurd f
good_2 (a ∷ []) f = absurd f.2
good_2 (a ∷ b ∷ s) f =
    let c : ℕ = (a - 0xC0) * 64 + (b - 0x80) in
    (c, scalar-low c (omega arith), rw (octets_2 c a b refl f))

good_3 : (r q : Range) (ok : (c a b d : ℕ) → c ≡ (a - 0xE0) * 4096 + (b - 0x80) * 64 + (d - 0x80) → Fits (r ∷ q ∷ Utf8Tail ∷ []) (a ∷ b ∷ d ∷ []) → Fits (0xE0 to 0xEF ∷ Utf8Tail ∷ Utf8Tail ∷ []) (a ∷ b ∷ d ∷ []) × (0x7FF < c) × (scalar c ≡ true)) → Good (r ∷ q ∷ Utf8Tail ∷ [])
good_3 r q ok [] f = absurd f
good_3 r q ok (a ∷ []) f = absurd f.2
good_3 r q ok (a ∷ b ∷ []) f = absurd f.2.2
good_3 r q ok (a ∷ b ∷ d ∷ s) f =
    let c : ℕ = (a - 0xE0) * 4096 + (b - 0x80) * 64 + (d - 0x80) in
    let k = ok c a b d refl f in
    (c, k.2, rw (octets_3 c a b d refl k.0 k.1))

good_4 : (r q : Range) (ok : (c a b d g : ℕ) → c ≡ (a - 0xF0) * 262144 + (b - 0x80) * 4096 + (d - 0x80) * 64 + (g - 0x80) → Fits (r ∷ q ∷ Utf8Tail ∷ Utf8Tail ∷ []) (a ∷ b ∷ d ∷ g ∷ []) → Fits (0xF0 to 0xF4 ∷ Utf8Tail ∷ Utf8Tail ∷ Utf8Tail ∷ []) (a ∷ b ∷ d ∷ g ∷ []) × (0xFFFF < c) × (c ≤ 0x10FFFF)) → Good (r ∷ q ∷ Utf8Tail ∷ Utf8Tail ∷ [])
good_4 r q ok [] f = absurd f
good_4 r q ok (a ∷ []) f = absurd f.2
good_4 r q ok (a ∷ b ∷ []) f = absurd f.2.2
good_4 r q ok (a ∷ b ∷ d ∷ []) f = absurd f.2.2.2
good_4 r q ok (a ∷ b ∷ d ∷ g ∷ s) f =
    let c : ℕ = (a - 0xF0) * 262144 + (b - 0x80) * 4096 + (d - 0x80) * 64 + (g - 0x80) in
    let k = ok c a b d g refl f in
    (c, scalar-high c (omega (arith, k.1)) k.2, rw (octets_4 c a b d g refl k.0 k.1))

all-good : AllGood Utf8Char
unfolding Utf8Char
all-good = (
  good_1,
  (
    good_2,
    (
      good_3 (0xE0 to 0xE0) (0xA0 to 0xBF) (λ c a b d e f. ((omega arith, omega arith, (omega arith, omega arith, f.2.2)), omega arith, scalar-low c (omega arith))),
      (
        good_3 (0xE1 to 0xEC) Utf8Tail (λ c a b d e f. ((omega arith, omega arith, f.2), omega arith, scalar-low c (omega arith))),
        (
          good_3 (0xED to 0xED) (0x80 to 0x9F) (λ c a b d e f. ((omega arith, omega arith, (omega arith, omega arith, f.2.2)), omega arith, scalar-low c (omega arith))),
          (
            good_3 (0xEE to 0xEF) Utf8Tail (λ c a b d e f. ((omega arith, omega arith, f.2), omega arith, scalar-high c (omega arith) (omega arith))),
            (
              good_4 (0xF0 to 0xF0) (0x90 to 0xBF) (λ c a b d g e f. ((omega arith, omega arith, (omega arith, omega arith, f.2.2)), omega arith, omega arith)),
              (
                good_4 (0xF1 to 0xF3) Utf8Tail (λ c a b d g e f. ((omega arith, omega arith, f.2), omega arith, omega arith)),
                (
                  good_4 (0xF4 to 0xF4) (0x80 to 0x8F) (λ c a b d g e f. ((omega arith, omega arith, (omega arith, omega arith, f.2.2)), omega arith, omega arith)),
                  tt,
                ),
              ),
            ),
          ),
        ),
      ),
    ),
  ),
)

head : (rows : List (List Range)) → AllGood rows → (s : List ℕ) (k : ℕ) → char_len rows s ≡ Some (suc k) → Head s (suc k)
unfolding char_len
head [] g s k e = absurd (none-some (suc k) e)
head (r ∷ rows) g s k e = go (head rows g.1 s k) (fits r s) refl e
  where
    go : (char_len rows s ≡ Some (suc k) → Head s (suc k)) → (t : Bool) → fits r s ≡ t → cond t (Some (length r)) (char_len rows s) ≡ Some (suc k) → Head s (suc k)
    go f true t e = rw (same_Some _ _ e) at (g.0 s (fits-to r s t))
    go f false t e = f e

-- s is the encodings of character numbers, one after another
abbrev Encoded : List ℕ → Type 0
Encoded s = (cs : List ℕ) × (all_scalar cs ≡ true) × (s ≡ encode_all cs)

sound : (n : ℕ) (s : List ℕ) → length s ≤ n → utf8 s ≡ true → Encoded s
unfolding all_scalar encode_all
sound zero [] h v = ([], refl, refl)
sound (suc n) [] h v = ([], refl, refl)
sound zero (b ∷ s) h v = absurd (omega arith)
sound (suc n) (b ∷ s) h v = go (λ k. sound n (drop k s) (omega (arith, length-drop k s))) (char_len Utf8Char (b ∷ s)) refl
  where
    go : ((k : ℕ) → utf8 (drop k s) ≡ true → Encoded (drop k s)) → (o : Option ℕ) → char_len Utf8Char (b ∷ s) ≡ o → Encoded (b ∷ s)
    go f None e = absurd (false≢true (sym (utf8-none (b ∷ s) (omega arith) e) ∙ v))
    go f (Some zero) e = absurd (let w = char_within (b ∷ s) 0 e in omega arith)
    go f (Some (suc k)) e =
        let c = head Utf8Char all-good (b ∷ s) k e in
        let cs = f k (sym (utf8_char (b ∷ s) (suc k) e) ∙ v) in
        (c.0 ∷ cs.0, rw c.1 cs.1, c.2 ∙ ap (λ (l : List ℕ). encode c.0 ++ l) cs.2)

pub utf8-sound : (s : List ℕ) → utf8 s ≡ true → (cs : List ℕ) × (all_scalar cs ≡ true) × (s ≡ encode_all cs)
utf8-sound s v = sound (length s) s (omega arith) v

-- Two lists of UTF-8 one after the other: so are the numbers encoded.
encode_all-append : (cs ds : List ℕ) → encode_all (cs ++ ds) ≡ encode_all cs ++ encode_all ds
unfolding encode_all
encode_all-append [] ds = refl
encode_all-append (c ∷ cs) ds = rw (encode_all-append cs ds, append_assoc)

all_scalar-append : (cs ds : List ℕ) → all_scalar cs ≡ true → all_scalar ds ≡ true → all_scalar (cs ++ ds) ≡ true
unfolding all_scalar
all_scalar-append [] ds p q = q
all_scalar-append (c ∷ cs) ds p q = rw (and_left (scalar c) (all_scalar cs) p) (all_scalar-append cs ds (and_right (scalar c) (all_scalar cs) p) q)

pub utf8_append : (p q : List ℕ) → utf8 p ≡ true → utf8 q ≡ true → utf8 (p ++ q) ≡ true
utf8_append p q v w =
    let a = utf8-sound p v in
    let b = utf8-sound q w in
    rw (a.2, b.2, ← encode_all-append a.0 b.0) (utf8_complete (a.0 ++ b.0) (all_scalar-append a.0 b.0 a.1 b.1))

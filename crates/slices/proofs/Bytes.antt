-- Laws of bytes: what stands where it was stored, and one round trip for every width.
use Prim.Native.Nat.{ℕ, zero, suc, ◌+◌, ◌*◌, ◌/◌, ◌<◌, ◌≤◌, ◌^◌, ◌-◌}
use mathlib.Core.Bool.{Bool, true, false}
use mathlib.Core.Path.{◌≡◌, refl, ap, sym, ◌∙◌}
use mathlib.Core.List.{List, [], ◌∷◌, ◌++◌, append_assoc}
use native.Mathlib.Nat.{add-zero, mul-zero, mul-suc, pow-suc}
use native.Mathlib.Omega.{arith}
use native.Mathlib.Numerals.{add-one, towards_suc}
use lib.Dec.{leb}
use Rattle.std.specs.Int.{w32, from_le_bytes, to_le_bytes}
use borrow.Author.Tests.{leb-true, leb-false, le-leb, lt-leb}
use lib.ListN.{length, get_or, set, take, drop, length-append, take-append-drop}
use lib.Seq.{sets, sets-eq, get_or-append_seam, length-take-le, take_at, take-suc, take-suc-set, take-length, set_out, length-sets}
use Rattle.slices.specs.Bytes.{le, le_at, bytes_at, word_bytes, Words32, Stands, table_bytes}

-- lengths
pub length-le : (w v : ℕ) → length (le w v) ≡ w
unfolding le
length-le zero v = refl
length-le (suc w) v = ap suc (length-le w (v / 256))

pub length_bytes_at : (n : ℕ) (s : List ℕ) (at : ℕ) → length (bytes_at n s at) ≡ n
unfolding bytes_at
length_bytes_at zero s at = refl
length_bytes_at (suc n) s at = ap suc (length_bytes_at n s (suc at))

pub length-words : (vs : List ℕ) → length (word_bytes vs) ≡ 4 * length vs
unfolding word_bytes
length-words [] = refl
length-words (v ∷ vs) = simp (length-append, length-le, length-words vs) (omega arith)

-- What stands in a list

pub stands-left : (xs bs s : List ℕ) (at : ℕ) → Stands (xs ++ bs) s at → Stands xs s at
stands-left [] bs s at h = tt
stands-left (x ∷ xs) bs s at h = (h.0, stands-left xs bs s (suc at) h.1)

pub stands-right : (xs bs s : List ℕ) (at n : ℕ) → n ≡ at + length xs → Stands (xs ++ bs) s at → Stands bs s n
stands-right [] bs s at n e h = let e' : n ≡ at = omega arith in rw e' h
stands-right (x ∷ xs) bs s at n e h = stands-right xs bs s (suc at) n (omega arith) h.1

pub stands-both : (xs bs s : List ℕ) (at n : ℕ) → n ≡ at + length xs → Stands xs s at → Stands bs s n → Stands (xs ++ bs) s at
stands-both [] bs s at n e g h = let e' : at ≡ n = omega arith in rw e' h
stands-both (x ∷ xs) bs s at n e g h = (g.0, stands-both xs bs s (suc at) n (omega arith) g.1 h)

-- a part of a list stands at its place
pub stands-between : (p bs q : List ℕ) (n : ℕ) → n ≡ length p → Stands bs (p ++ (bs ++ q)) n
stands-between p [] q n e = tt
stands-between p (b ∷ bs) q n e = (rw (e, get_or-append_seam), rw (← append_assoc p (b ∷ []) (bs ++ q)) (stands-between (p ++ (b ∷ [])) bs q (suc n) (simp length-append (omega arith))))

-- what is stored where there is room stands there
pub stands-stored : (bs s : List ℕ) (at : ℕ) → at + length bs ≤ length s → Stands bs (sets s at bs) at
stands-stored bs s at h =
    rw (sets-eq bs s at h, append_assoc) (stands-between (take at s) bs (drop (at + length bs) s) at (sym (length-take-le at s (omega arith))))

-- Tables: rows of n bytes each

module _ {A : Type 0} (bytes : A → List ℕ) (n : ℕ) (long : (x : A) → length (bytes x) ≡ n) where
  pub length-table : (xs : List A) → length (table_bytes bytes xs) ≡ n * length xs
  unfolding table_bytes
  length-table [] = sym (mul-zero n)
  length-table (x ∷ xs) = simp (length-append, long, length-table xs, mul-suc) (omega arith)

  -- row i stands i rows further on
  pub row-stands : (xs : List A) (d : A) (s : List ℕ) (at i m : ℕ) → i < length xs → m ≡ at + n * i → Stands (table_bytes bytes xs) s at → Stands (bytes (get_or xs i d)) s m
  unfolding table_bytes
  row-stands [] d s at i m h e g = absurd (omega arith)
  row-stands (x ∷ xs) d s at zero m h e g = let e' : m ≡ at = e ∙ rw (mul-zero n, add-zero) in rw e' (stands-left (bytes x) (table_bytes bytes xs) s at g)
  row-stands (x ∷ xs) d s at (suc i) m h e g =
      let e' : m ≡ at + n + n * i = e ∙ rw (mul-suc n i) (omega arith) in
      row-stands xs d s (at + n) i m (omega arith) e' (stands-right (bytes x) (table_bytes bytes xs) s at (at + n) (rw long) g)

-- The round trip, for every width

pub le-back : (w v : ℕ) (s : List ℕ) (at : ℕ) → v < 256 ^ w → Stands (le w v) s at → le_at w s at ≡ v
unfolding le le_at
le-back zero v s at h e = omega arith
le-back (suc w) v s at h e = rw (e.0, le-back w (v / 256) s (suc at) (omega (arith, pow-suc 256 w)) e.1) (omega arith)

pub bytes_back : (bs s : List ℕ) (at : ℕ) → Stands bs s at → bytes_at (length bs) s at ≡ bs
unfolding bytes_at
bytes_back [] s at e = refl
bytes_back (b ∷ bs) s at e = rw (e.0, bytes_back bs s (suc at) e.1)

-- the number at index i among 32-bit numbers
pub word_back : (vs s : List ℕ) (at i n : ℕ) → Words32 vs → i < length vs → n ≡ at + 4 * i → Stands (word_bytes vs) s at → le_at 4 s n ≡ get_or vs i 0
unfolding word_bytes
word_back [] s at i n f h e g = omega arith
word_back (v ∷ vs) s at zero n f h e g = let e' : n ≡ at = omega arith in rw e' (le-back 4 v s at f.0 (stands-left (le 4 v) (word_bytes vs) s at g))
word_back (v ∷ vs) s at (suc i) n f h e g =
    word_back vs s (at + 4) i n f.1 (omega arith) (omega arith) (stands-right (le 4 v) (word_bytes vs) s at (at + 4) (rw length-le) g)

-- A part cut out, with zeros past the end, reads as the whole does

pub get_d_bytes_at : (n : ℕ) (s : List ℕ) (at i : ℕ) → i < n → get_or (bytes_at n s at) i 0 ≡ get_or s (at + i) 0
unfolding bytes_at
get_d_bytes_at zero s at i h = omega arith
get_d_bytes_at (suc n) s at zero h = rw add-zero
get_d_bytes_at (suc n) s at (suc i) h = let e : at + suc i ≡ suc at + i = omega arith in rw e (get_d_bytes_at n s (suc at) i (omega arith))

pub le_at-cut : (w n : ℕ) (s : List ℕ) (at k j : ℕ) → k + w ≤ n → j ≡ at + k → le_at w (bytes_at n s at) k ≡ le_at w s j
unfolding le_at
le_at-cut zero n s at k j h e = refl
le_at-cut (suc w) n s at k j h e = rw (get_d_bytes_at n s at k (omega arith), le_at-cut w n s at (suc k) (suc j) (omega arith) (omega arith), e)

pub bytes_at_cut : (w n : ℕ) (s : List ℕ) (at k j : ℕ) → k + w ≤ n → j ≡ at + k → bytes_at w (bytes_at n s at) k ≡ bytes_at w s j
unfolding bytes_at
bytes_at_cut zero n s at k j h e = refl
bytes_at_cut (suc w) n s at k j h e = rw (get_d_bytes_at n s at k (omega arith), bytes_at_cut w n s at (suc k) (suc j) (omega arith) (omega arith), e)

pub bytes_at_more : (n : ℕ) (s : List ℕ) (at : ℕ) → bytes_at (suc n) s at ≡ bytes_at n s at ++ (get_or s (at + n) 0 ∷ [])
unfolding bytes_at
bytes_at_more zero s at = rw add-zero
bytes_at_more (suc n) s at = let e : at + suc n ≡ suc at + n = omega arith in rw e (ap (λ (l : List ℕ). get_or s at 0 ∷ l) (bytes_at_more n s (suc at)))

-- one turn of the copy of such a part: `row` has it up to i
pub copy_turn : (s : List ℕ) (at i : ℕ) (row : List ℕ) → i < length row → take i row ≡ bytes_at i s at → take (i + 1) (set row i (get_or s (at + i) 0)) ≡ bytes_at (i + 1) s at
copy_turn s at i row h e = rw (add-one i, take-suc-set row i (get_or s (at + i) 0) h, bytes_at_more i s at, e)

pub copied : (n : ℕ) (s : List ℕ) (at i : ℕ) (row : List ℕ) → i ≡ n → length row ≡ n → take i row ≡ bytes_at i s at → row ≡ bytes_at n s at
copied n s at i row e l h = sym (rw (← l) (take-length row)) ∙ (rw e at h)

-- A number as the code reads it

pub le_at-two : (s : List ℕ) (at : ℕ) → le_at 2 s at ≡ get_or s at 0 + 256 * get_or s (at + 1) 0
unfolding le_at
le_at-two s at = simp towards_suc (omega arith)

pub le_at-four : (s : List ℕ) (at : ℕ) → le_at 4 s at ≡ get_or s at 0 + 256 * (get_or s (at + 1) 0 + 256 * (get_or s (at + 2) 0 + 256 * get_or s (at + 3) 0))
unfolding le_at
le_at-four s at = simp towards_suc (omega arith)

-- Tests

pub leb-shift : (a n l : ℕ) → n ≤ l → leb a (l - n) ≡ leb (a + n) l
leb-shift a n l h = go (leb a (l - n)) refl where
  go : (t : Bool) → leb a (l - n) ≡ t → t ≡ leb (a + n) l
  go true e = sym (le-leb (a + n) l (omega (arith, leb-true a (l - n) e)))
  go false e = sym (lt-leb (a + n) l (omega (arith, leb-false a (l - n) e)))

-- Runs of stores

-- two runs, the second where the first ends
pub sets_join : (vs ws s : List ℕ) (at n : ℕ) → n ≡ at + length vs → sets (sets s at vs) n ws ≡ sets s at (vs ++ ws)
sets_join [] ws s at n e = let e' : n ≡ at = omega arith in rw e'
sets_join (v ∷ vs) ws s at n e = sets_join vs ws (set s at v) (suc at) n (omega arith)

-- a run begun at the front of zeros is what its length takes of them
pub take-sets : (bs z : List ℕ) (n : ℕ) → length bs ≡ n → n ≤ length z → take n (sets z 0 bs) ≡ bs
take-sets bs z n e h = rw (sets-eq bs z 0 (omega arith)) (take_at bs (drop (0 + length bs) z) n e)

-- one more of them
pub copied_more : (s : List ℕ) (at : ℕ) (t u : List ℕ) (i : ℕ) → i < length t → u ≡ sets s at (take i t) → set u (at + i) (get_or t i 0) ≡ sets s at (take (i + 1) t)
copied_more s at t u i h e =
    rw (add-one i, take-suc t i 0 h, e)
    (sets_join (take i t) (get_or t i 0 ∷ []) s at (at + i) (rw (length-take-le i t (let k : i ≤ length t = omega arith in k))))

-- what lies past the end is not stored
pub sets-beyond : (vs s : List ℕ) (at : ℕ) → length s ≤ at → sets s at vs ≡ s
sets-beyond [] s at h = refl
sets-beyond (v ∷ vs) s at h = rw (set_out s at v h) (sets-beyond vs s (suc at) (omega arith))

-- so as many as have room are enough
pub sets-fitting : (vs s : List ℕ) (at n : ℕ) → length s ≤ at + n → n ≤ length vs → sets s at (take n vs) ≡ sets s at vs
sets-fitting vs s at n h l =
    sym (sets-beyond (drop n vs) (sets s at (take n vs)) (at + n) (rw (length-sets s at (take n vs)) h))
    ∙ (sets_join (take n vs) (drop n vs) s at (at + n) (rw (length-take-le n vs l)) ∙ ap (λ (l : List ℕ). sets s at l) (take-append-drop n vs))

-- The library's numbers from bytes and bytes of numbers

pub from_bytes : (s : List ℕ) (at : ℕ) {n : ℕ} (a b c d : ℕ) → n ≡ from_le_bytes w32 (a ∷ b ∷ c ∷ d ∷ []) → a ≡ get_or s at 0 → b ≡ get_or s (at + 1) 0 → c ≡ get_or s (at + 2) 0 → d ≡ get_or s (at + 3) 0 → n ≡ le_at 4 s at
from_bytes s at a b c d e ea eb ec ed = omega (arith, le_at-four s at)

pub to_bytes : (v : ℕ) → to_le_bytes w32 v ≡ le 4 v
unfolding le
to_bytes v =
    let e : v / 65536 ≡ v / 256 / 256 = omega arith in
    let f : v / 16777216 ≡ v / 256 / 256 / 256 = omega arith in
    rw (e, f)

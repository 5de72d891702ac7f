-- Feeding a line's bytes one by one gives the line's meaning (`line_read`), and running over an input gives the meanings
-- of its lines (`lines-read`). The three fields of the state are followed each by itself.
use Rattle.std.proofs.Common.{◌≡◌, ℕ, Option, Some, None, suc, ◌+◌, ◌*◌, ◌^◌, ◌<◌, ◌≤◌, Bool, true, false, cond, not, ◌&&◌, ◌||◌, eqb, ltb, leb, ◌⊎◌, List, [], ◌∷◌, ◌++◌, map, length, refl, ap, ◌∙◌, inl, inr, ⊎_elim, pow-suc, zero-add, arith, ltb-false, ltb-true, lt-ltb, ne_eqb, le-leb}
use native.Mathlib.Nat.{pow-le-pow_right}
use borrow.Author.Tests.{lt-leb}
use Rattle.slices.proofs.Cases.{lt-or_ge, both_true}
use Rattle.input_lines.specs.declared.LineState.{LineState}
use Rattle.input_lines.specs.Line.{digit_of, all_digits, number_from, meaning, line_start, feed_of, finish_of, lines_after}

-- all bytes of a line, one after the other
unfoldable pub feed_all : LineState → List ℕ → LineState
feed_all s [] = s
feed_all s (b ∷ bs) = feed_all (feed_of s b) bs

-- what an input says byte by byte, with the state `s` of the line at hand
unfoldable pub run_lines : LineState → List ℕ → List (Option ℕ)
run_lines s [] = cond (eqb s.digits 0) [] (finish_of s ∷ [])
run_lines s (b ∷ rest) = cond (eqb b 10) (finish_of s ∷ run_lines line_start rest) (run_lines (feed_of s b) rest)

-- ---- the count
few : (s : LineState) (line : List ℕ) → s.digits + length line ≤ 17 → (feed_all s line).digits ≡ s.digits + length line
unfolding feed_all feed_of
few s [] h = omega arith
few s (b ∷ bs) h =
    let e : (feed_of s b).digits ≡ s.digits + 1 = rw (lt-ltb s.digits 17 (omega arith)) in
    let r : (feed_all (feed_of s b) bs).digits ≡ (feed_of s b).digits + length bs = few (feed_of s b) bs (omega arith) in
    omega arith

capped : (d : ℕ) → d ≤ 17 → (cond (ltb d 17) (d + 1) 17 ≤ 17) × (d ≤ cond (ltb d 17) (d + 1) 17) × ((17 ≤ d) ⊎ (cond (ltb d 17) (d + 1) 17 ≡ d + 1))
capped d h = go (ltb d 17) refl
  where
    go : (t : Bool) → ltb d 17 ≡ t → (cond t (d + 1) 17 ≤ 17) × (d ≤ cond t (d + 1) 17) × ((17 ≤ d) ⊎ (cond t (d + 1) 17 ≡ d + 1))
    go true e = let l : d < 17 = ltb-true d 17 e in (omega arith, omega arith, inr refl)
    go false e = (omega arith, h, inl (ltb-false d 17 e))

many : (s : LineState) (line : List ℕ) → s.digits ≤ 17 → 17 ≤ s.digits + length line → (feed_all s line).digits ≡ 17
unfolding feed_all feed_of
many s [] h k = omega arith
many s (b ∷ bs) h k =
    let e = capped s.digits h in
    many (feed_of s b) bs e.0 (⊎_elim (λ w. omega (arith, e.1)) (λ w. omega arith) e.2)

-- ---- the mark
no_digit : (d : ℕ) → leb 16 d ≡ not (ltb d 16)
no_digit d = go (ltb d 16) refl
  where
    go : (t : Bool) → ltb d 16 ≡ t → leb 16 d ≡ not t
    go true e = lt-leb 16 d (ltb-true d 16 e)
    go false e = le-leb 16 d (ltb-false d 16 e)

or-not : (x y z : Bool) → ((x || not y) || not z) ≡ (x || not (y && z))
or-not true y z = refl
or-not false true z = refl
or-not false false z = refl

or-false : (x : Bool) → x ≡ (x || false)
or-false true = refl
or-false false = refl

marked : (s : LineState) (line : List ℕ) → (feed_all s line).bad ≡ (s.bad || not (all_digits line))
unfolding feed_all feed_of all_digits
marked s [] = or-false s.bad
marked s (b ∷ bs) =
    marked (feed_of s b) bs
    ∙ ap (λ (t : Bool). (s.bad || t) || not (all_digits bs)) (no_digit (digit_of b))
    ∙ or-not s.bad (ltb (digit_of b) 16) (all_digits bs)

-- ---- the number: up to 16 digits nothing is cut
number : (s : LineState) (line : List ℕ) (k : ℕ) → s.value < 16 ^ k → k + length line ≤ 16 → all_digits line ≡ true
    → (feed_all s line).value ≡ number_from s.value line
unfolding feed_all feed_of all_digits number_from
number s [] k h l a = refl
number s (b ∷ bs) k h l a =
    let p = both_true (ltb (digit_of b) 16) (all_digits bs) a in
    let d : digit_of b < 16 = ltb-true (digit_of b) 16 p.0 in
    let w : 16 ^ k ≤ 16 ^ 15 = pow-le-pow_right (omega arith) {i = k} {j = 15} (omega arith) in
    let n : 16 ^ suc k ≡ 16 ^ k * 16 = pow-suc 16 k in
    let e : (feed_of s b).value ≡ s.value * 16 + digit_of b = omega arith in
    number (feed_of s b) bs (suc k) (omega arith) (omega arith) p.1
    ∙ ap (λ (v : ℕ). number_from v bs) e

-- ---- a whole line
short : (line : List ℕ) → length line ≤ 16 → finish_of (feed_all line_start line) ≡ meaning line
unfolding finish_of meaning line_start
short line h =
    let d : (feed_all line_start line).digits ≡ length line = few line_start line (omega arith) ∙ zero-add (length line) in
    let m : (feed_all line_start line).bad ≡ not (all_digits line) = marked line_start line in
    rw (d, m) (go (leb 1 (length line) && leb (length line) 16) (all_digits line) refl)
  where
    go : (t v : Bool) → all_digits line ≡ v
        → cond (t && not (not v)) (Some (feed_all line_start line).value) None ≡ cond (t && v) (Some (number_from 0 line)) None
    go false v e = refl
    go true false e = refl
    go true true e = ap Some (number line_start line 0 (omega arith) (omega arith) e)

long : (line : List ℕ) → 16 < length line → finish_of (feed_all line_start line) ≡ meaning line
unfolding finish_of meaning line_start
long line h =
    let d : (feed_all line_start line).digits ≡ 17 = many line_start line (omega arith) (omega arith) in
    rw (d, le-leb 1 (length line) (omega arith), lt-leb (length line) 16 h)

-- Feeding the bytes of any line from the start, and finishing, gives what the line means.
pub line_read : (line : List ℕ) → finish_of (feed_all line_start line) ≡ meaning line
line_read line = ⊎_elim (long line) (short line) (lt-or_ge 16 (length line))

-- ---- an input
feed_last : (s : LineState) (line : List ℕ) (b : ℕ) → feed_all s (line ++ (b ∷ [])) ≡ feed_of (feed_all s line) b
unfolding feed_all
feed_last s [] b = refl
feed_last s (a ∷ line) b = feed_last (feed_of s a) line b

-- something has come of the line at hand exactly where the count isn't 0
begun : (a : ℕ) (line : List ℕ) → eqb (feed_all line_start (a ∷ line)).digits 0 ≡ false
unfolding line_start
begun a line =
    ne_eqb (feed_all line_start (a ∷ line)).digits 0
    (λ e. ⊎_elim
    (λ h. let d : (feed_all line_start (a ∷ line)).digits ≡ 17 = many line_start (a ∷ line) (omega arith) (omega arith) in omega arith)
    (λ h. let d : (feed_all line_start (a ∷ line)).digits ≡ 0 + suc (length line) = few line_start (a ∷ line) (omega arith) in omega arith)
    (lt-or_ge 16 (suc (length line))))

run-read : (line input : List ℕ) → run_lines (feed_all line_start line) input ≡ map meaning (lines_after line input)
unfolding run_lines lines_after feed_all line_start
run-read [] [] = refl
run-read (a ∷ line) [] = rw (begun a line, line_read (a ∷ line))
run-read line (b ∷ rest) = go (eqb b 10) (run-read [] rest) (rw (← feed_last line_start line b) (run-read (line ++ (b ∷ [])) rest))
  where
    go : (t : Bool) → run_lines line_start rest ≡ map meaning (lines_after [] rest) → run_lines (feed_of (feed_all line_start line) b) rest ≡ map meaning (lines_after (line ++ (b ∷ [])) rest)
        → cond t (finish_of (feed_all line_start line) ∷ run_lines line_start rest) (run_lines (feed_of (feed_all line_start line) b) rest)
        ≡ map meaning (cond t (line ∷ lines_after [] rest) (lines_after (line ++ (b ∷ [])) rest))
    go true e f = rw (line_read line, e)
    go false e f = f

-- Run over any input byte by byte, the lister finds the meanings of its lines, in order.
pub lines-read : (input : List ℕ) → run_lines line_start input ≡ map meaning (lines_after [] input)
unfolding feed_all
lines-read input = run-read [] input

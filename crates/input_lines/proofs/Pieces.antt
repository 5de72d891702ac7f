-- Reading on by the byte at hand (`at-line`, `in_line`, `at_piece_end`). However an input is cut: what one read leaves is what was to come (`one-read`), and
-- from the start on that is what the input says (`says_all`).
use Rattle.std.proofs.Common.{◌≡◌, ℕ, Option, Some, None, suc, ◌+◌, ◌-◌, ◌%◌, ◌<◌, ◌≤◌, Bool, true, false, cond, eqb, List, [], ◌∷◌, ◌++◌, map, length, get_or, drop, sym, refl, ap, ◌∙◌, add-one, arith, drop_of_length-le, drop-cons, eq-eqb, ne_eqb}
use lib.Seq.{drop-nil}
use Rattle.input_lines.specs.declared.Input.{Input}
use Rattle.input_lines.specs.Line.{Got, meaning, lines_after, line_start, feed_of, finish_of}
use Rattle.input_lines.specs.Input.{told, all_told, input_says, input_start, fed, after_line, whole_line, line_at_lem, read_on, at_end}
use Rattle.input_lines.proofs.Lines.{run_lines, lines-read}

module _ (s : Input) (bytes : List ℕ) (i : ℕ) where
  pub at-line : i < length bytes → get_or bytes i 0 ≡ 10 → line_at_lem s (i + 1) ≡ read_on s i (drop i bytes)
  unfolding read_on
  at-line h e = rw (drop-cons bytes i 0 h, eq-eqb (get_or bytes i 0) 10 e)

  pub in_line : i < length bytes → (get_or bytes i 0 ≡ 10 → ⊥) → read_on (fed s (get_or bytes i 0)) (i + 1) (drop (i + 1) bytes) ≡ read_on s i (drop i bytes)
  unfolding read_on
  in_line h n = rw (drop-cons bytes i 0 h, ne_eqb (get_or bytes i 0) 10 n, add-one i)

  pub at_piece_end : length bytes ≤ i → record { input = s; next = i; got = None } ≡ read_on s i (drop i bytes)
  unfolding read_on
  at_piece_end h = rw (drop_of_length-le bytes h)

-- what a turn of `read` needs
pub ruleset read_cases = (at-line, in_line, at_piece_end)

-- ── However an input is cut ──

-- what is read, before what comes after it
unfoldable pub kept : Got → List Got → List Got
kept None gs = gs
kept (Some r) gs = Some r ∷ gs

-- what an input still says, of which these bytes are to come
unfoldable pub says : Input → List ℕ → List Got
says s [] = kept (at_end s).got []
says s (b ∷ bs) = cond (eqb b 10) ((whole_line s).got ∷ says (whole_line s).input bs) (says (fed s b) bs)

-- a whole line is no line that goes on
kept-told : (n : ℕ) (r : Option ℕ) (gs : List Got) → kept (told n r) gs ≡ told n r ∷ gs
unfolding kept told
kept-told n (Some a) gs = refl
kept-told n None gs = refl

kept_line : (s : Input) (gs : List Got) → kept (whole_line s).got gs ≡ (whole_line s).got ∷ gs
unfolding whole_line
kept_line s gs = kept-told s.number (finish_of s.line) gs

pub read-further : (s : Input) (i : ℕ) (bs : List ℕ) → i ≤ (read_on s i bs).next
unfolding read_on line_at_lem
read-further s i [] = omega arith
read-further s i (b ∷ bs) = go (read-further (fed s b) (i + 1) bs) (eqb b 10)
  where
    go : i + 1 ≤ (read_on (fed s b) (i + 1) bs).next → (t : Bool) → i ≤ (cond t (line_at_lem s (i + 1)) (read_on (fed s b) (i + 1) bs)).next
    go r true = omega arith
    go r false = omega arith

pub read_past : (s : Input) (bytes : List ℕ) (i : ℕ) → i < length bytes → i < (read_on s i (drop i bytes)).next
unfolding read_on line_at_lem
read_past s bytes i h = rw (drop-cons bytes i 0 h) (go (eqb (get_or bytes i 0) 10))
  where
    further : i + 1 ≤ (read_on (fed s (get_or bytes i 0)) (i + 1) (drop (suc i) bytes)).next
    further = read-further (fed s (get_or bytes i 0)) (i + 1) (drop (suc i) bytes)

    go : (t : Bool) → i < (cond t (line_at_lem s (i + 1)) (read_on (fed s (get_or bytes i 0)) (i + 1) (drop (suc i) bytes))).next
    go true = omega arith
    go false = omega (arith, further)

-- one read in a piece, of which these bytes from place i on are left, and after which the others come
pub one-read : (s : Input) (i : ℕ) (bs rest : List ℕ)
    → says s (bs ++ rest) ≡ kept (read_on s i bs).got (says (read_on s i bs).input (drop ((read_on s i bs).next - i) bs ++ rest))
unfolding read_on line_at_lem kept says
one-read s i [] rest = rw (drop-nil {A = ℕ} (i - i))
one-read s i (b ∷ bs) rest = go (one-read (fed s b) (i + 1) bs rest) (eqb b 10)
  where
    further : i + 1 ≤ (read_on (fed s b) (i + 1) bs).next
    further = read-further (fed s b) (i + 1) bs

    one : (i + 1) - i ≡ 1
    one = omega arith

    less : (read_on (fed s b) (i + 1) bs).next - i ≡ suc ((read_on (fed s b) (i + 1) bs).next - (i + 1))
    less = omega (arith, further)

    go : says (fed s b) (bs ++ rest)
        ≡ kept (read_on (fed s b) (i + 1) bs).got (says (read_on (fed s b) (i + 1) bs).input (drop ((read_on (fed s b) (i + 1) bs).next - (i + 1)) bs ++ rest))
        → (t : Bool)
        → cond t ((whole_line s).got ∷ says (whole_line s).input (bs ++ rest)) (says (fed s b) (bs ++ rest))
        ≡ kept (cond t (line_at_lem s (i + 1)) (read_on (fed s b) (i + 1) bs)).got
        (says (cond t (line_at_lem s (i + 1)) (read_on (fed s b) (i + 1) bs)).input (drop ((cond t (line_at_lem s (i + 1)) (read_on (fed s b) (i + 1) bs)).next - i) (b ∷ bs) ++ rest))
    go r true = rw one (sym (kept_line s (says (whole_line s).input (bs ++ rest))))
    go r false = rw less r

-- ── From the start on ──

numbered : ℕ → List (Option ℕ) → List Got
numbered n [] = []
numbered n (r ∷ rs) = told n r ∷ numbered ((n + 1) % 4294967296) rs

says-run : (s : Input) (bs : List ℕ) → says s bs ≡ numbered s.number (run_lines s.line bs)
unfolding says run_lines at_end whole_line after_line fed kept numbered
says-run s [] = go (eqb s.line.digits 0)
  where
    go : (t : Bool)
        → kept (cond t (record { input = s; got = None }) (whole_line s)).got [] ≡ numbered s.number (cond t [] (finish_of s.line ∷ []))
    go true = refl
    go false = kept_line s []
says-run s (b ∷ bs) = go (says-run (after_line s) bs) (says-run (fed s b) bs) (eqb b 10)
  where
    go : says (after_line s) bs ≡ numbered ((s.number + 1) % 4294967296) (run_lines line_start bs)
        → says (fed s b) bs ≡ numbered s.number (run_lines (feed_of s.line b) bs) → (t : Bool)
        → cond t ((whole_line s).got ∷ says (whole_line s).input bs) (says (fed s b) bs)
        ≡ numbered s.number (cond t (finish_of s.line ∷ run_lines line_start bs) (run_lines (feed_of s.line b) bs))
    go e f true = ap (λ (gs : List Got). told s.number (finish_of s.line) ∷ gs) e
    go e f false = f

numbered-told : (n : ℕ) (lines : List (List ℕ)) → numbered (n % 4294967296) (map meaning lines) ≡ all_told n lines
unfolding all_told numbered
numbered-told n [] = refl
numbered-told n (l ∷ ls) =
    let e : (n % 4294967296 + 1) % 4294967296 ≡ (n + 1) % 4294967296 = omega arith in
    rw e (ap (λ (gs : List Got). told (n % 4294967296) (meaning l) ∷ gs) (numbered-told (n + 1) ls))

pub says_all : (input : List ℕ) → says input_start input ≡ input_says input
unfolding input_start
says_all input = says-run input_start input ∙ ap (numbered 1) (lines-read input) ∙ numbered-told 1 (lines_after [] input)

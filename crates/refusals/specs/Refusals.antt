-- The numbers 13 to 16 and 25, in include/symcache.h INVALID_ROWS, INVALID_TEXT, ADDRESS_OVERFLOW, SCRATCH_TOO_SMALL and TOO_DEEP: "one definition over
-- the rows, callable by itself". "A number is given when its condition holds and no earlier one's does, and only then."
use Rattle.std.specs.Prelude.{Bool, true, cond, ◌&&◌, List, ℕ, zero, suc, ◌+◌, ◌*◌, ◌/◌, ◌%◌, length, ltb, leb, eqb}
use Rattle.text.specs.Utf8.{utf8}
use Rattle.rows.specs.Columns.{Columns, function_in_columns, function_rows, line_rows, function_struct, line_struct, text_of}
use Rattle.rows.specs.declared.TextPart.{TextPart}
use Rattle.rows.specs.declared.OptionalPart.{OptionalPart}
use Rattle.rows.specs.declared.FunctionRow.{FunctionRow}
use Rattle.rows.specs.declared.LineRow.{LineRow}

-- p holds of 0, 1, .., n - 1
unfoldable pub each : (ℕ → Bool) → ℕ → Bool
each p zero = true
each p (suc n) = each p n && p n

-- f 0 + f 1 + .. + f (n - 1)
unfoldable pub total : (ℕ → ℕ) → ℕ → ℕ
total f zero = 0
total f (suc n) = total f n + f n

-- ── 13 ──

-- lengths that are no multiple of a row's words, and "row slices whose lengths disagree"
unfoldable pub lengths? : Columns → Bool
lengths? k =
    eqb (length k.functions64 % 2) 0
    && (eqb (length k.functions32 % 8) 0
    && (eqb (length k.lines64 % 3) 0
    && (eqb (length k.lines32 % 14) 0
    && (eqb (length k.functions32 / 8) (function_rows k) && eqb (length k.lines32 / 14) (line_rows k)))))

-- "no function rows, over 65,536 of them"
unfoldable pub count? : ℕ → Bool
count? n = ltb 0 n && leb n 65536

-- of the depths d 0, d 1, .. that at i: "first depth not 0, a later depth 0 or above its predecessor's plus 1"
unfoldable pub depth? : (ℕ → ℕ) → ℕ → Bool
depth? d zero = eqb (d 0) 0
depth? d (suc i) = ltb 0 (d (suc i)) && leb (d (suc i)) (d i + 1)

-- the number of line rows before those of function row i: the line counts of the rows before it
abbrev pub first_line_lem : Columns → ℕ → ℕ
first_line_lem k i = total (λ (r : ℕ). (function_struct k r).lines) i

-- "line counts that don't sum to the line rows"
unfoldable pub shaped? : Columns → Bool
shaped? k =
    lengths? k
    && (count? (function_rows k)
    && (each (depth? (λ (i : ℕ). (function_struct k i).depth)) (function_rows k) && eqb (first_line_lem k (function_rows k)) (line_rows k)))

-- ── 25 ──

-- K7: "the deepest inlinee stood at depth 41, with the root at 0. That becomes the limit"
unfoldable pub shallow_row? : FunctionRow → Bool
shallow_row? q = leb q.depth 41

-- "a function row deeper than 41": none, be it visited or not
unfoldable pub shallow? : Columns → Bool
shallow? k = each (λ (i : ℕ). shallow_row? (function_struct k i)) (function_rows k)

-- ── 14 ──

-- "a text outside the lent text": an empty one too, where it starts past the end
unfoldable pub inside? : List ℕ → TextPart → Bool
inside? t p = leb (p.start + p.len) (length t)

unfoldable pub readable? : List ℕ → TextPart → Bool
readable? t p = inside? t p && utf8 (text_of t p)

-- an absent text is not looked at
unfoldable pub optional? : List ℕ → OptionalPart → Bool
optional? t o = cond o.present (readable? t o.part) true

-- "any text but a compilation directory not UTF-8"
unfoldable pub function_texts? : List ℕ → FunctionRow → Bool
function_texts? t q = readable? t q.name && inside? t q.comp_dir

unfoldable pub line_texts? : List ℕ → LineRow → Bool
line_texts? t l =
    readable? t l.name
    && (readable? t l.directory && (optional? t l.srcsrv_name && (optional? t l.srcsrv_dir && optional? t l.revision)))

unfoldable pub texts? : Columns → Bool
texts? k =
    each (λ (i : ℕ). function_texts? k.text (function_struct k i)) (function_rows k)
    && each (λ (j : ℕ). line_texts? k.text (line_struct k j)) (line_rows k)

-- ── 15 and 16 ──

-- "address plus size above 2^64 − 1"
unfoldable pub end? : FunctionRow → Bool
end? q = leb (q.address + q.size) 0xffff_ffff_ffff_ffff

-- "in any function row"
unfoldable pub ends? : Columns → Bool
ends? k = each (λ (i : ℕ). end? (function_struct k i)) (function_rows k)

-- "scratch under four words for each function and line row"
unfoldable pub room? : Columns → ℕ → Bool
room? k s = leb (4 * (function_rows k + line_rows k)) s

-- "13, 14, 15, 16", with 25 "right after 13": 0 where there is nothing to refuse
unfoldable pub tree_refusal : Columns → ℕ → ℕ
tree_refusal k s = cond (shaped? k) (cond (shallow? k) (cond (texts? k) (cond (ends? k) (cond (room? k s) 0 16) 15) 14) 25) 13

-- ── The same where of the line rows their count is given, n, and whether their texts are in order, b ──

unfoldable pub function_lengths? : List ℕ → List ℕ → Bool
function_lengths? f64 f32 = eqb (length f64 % 2) 0 && (eqb (length f32 % 8) 0 && eqb (length f32 / 8) (length f64 / 2))

unfoldable pub line_lengths? : List ℕ → List ℕ → Bool
line_lengths? l64 l32 = eqb (length l64 % 3) 0 && (eqb (length l32 % 14) 0 && eqb (length l32 / 14) (length l64 / 3))

unfoldable pub shaped_with? : List ℕ → List ℕ → ℕ → Bool
shaped_with? f64 f32 n =
    function_lengths? f64 f32
    && (count? (length f64 / 2)
    && (each (depth? (λ (i : ℕ). (function_in_columns f64 f32 i).depth)) (length f64 / 2)
    && eqb (total (λ (i : ℕ). (function_in_columns f64 f32 i).lines) (length f64 / 2)) n))

unfoldable pub refusal_with : List ℕ → List ℕ → ℕ → Bool → List ℕ → ℕ → ℕ
refusal_with f64 f32 n b t s =
    cond (shaped_with? f64 f32 n)
    (cond (each (λ (i : ℕ). shallow_row? (function_in_columns f64 f32 i)) (length f64 / 2))
    (cond (each (λ (i : ℕ). function_texts? t (function_in_columns f64 f32 i)) (length f64 / 2) && b)
    (cond (each (λ (i : ℕ). end? (function_in_columns f64 f32 i)) (length f64 / 2)) (cond (leb (4 * (length f64 / 2 + n)) s) 0 16) 15)
    14)
    25)
    13

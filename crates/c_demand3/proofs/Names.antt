-- Texts by words: the three words that `symcache_read_string` stores tell of the text that `read_string` gives, and those of `symcache_function_name` of the name that `function_name` gives, or that there
-- is none, and then it is the caller's stand-in.
use Prim.Native.Nat.{ℕ, zero, suc, ◌+◌, ◌<◌, ◌≤◌}
use native.Mathlib.Omega.{arith}
use mathlib.Core.Bool.{Bool, true, false}
use mathlib.Core.Path.{◌≡◌, refl, sym, ap, ◌∙◌}
use mathlib.Core.List.{List, [], ◌∷◌}
use mathlib.Core.Option.{Option, none, some}
use lib.ListN.{length, take, drop, length-take}
use lib.Seq.{take-take, drop-drop}
use Rattle.raw.specs.declared.Function.{Function}
use Rattle.text.specs.declared.strings.Text.{Text}
use Rattle.std.specs.Prelude as std
use Rattle.text.specs.Texts.{read_text, bytes_of, text_part}
use Rattle.text.proofs.TextLaws.{text-within}
use Rattle.symcache.specs.declared.SymCache.{SymCache}
use Rattle.symcache.specs.Answers.{Answer, gives, refuses, answer_number, Refusal, refuse_if, and_then}
use Rattle.symcache.specs.Reader.{tested, parsed}
use Rattle.lookup.specs.Lookup.{got_function}
use Rattle.symcache.specs.Reader.{function_in_lem}
use Rattle.file_texts.specs.declared.Part.{Part}
use Rattle.file_texts.specs.Strings.{section_of, placed, got_string, or_else, string_of, text_or, name_in, name_of}
use Rattle.read_back.specs.Shown.{part_of, text_shown, name_or}
use Rattle.c_reading.specs.Reading.{answered, part_words, string_call, name_after, got_name, name_call, text_told}
use Rattle.c_reading.proofs.Numbers.{answered-number}
use Rattle.slices.proofs.Runs.{sets_in}
use Rattle.c_demand3.specs.Walks.{Tells, Names}

-- ── No refusal has number 0 ────────────────────────────────────────────────────────────────────────────────────────────

abbrev Positive : {A : Type 0} → Answer A → Type 0
Positive (gives a) = Unit {0}
Positive (refuses r) = 0 < r.number

positive_if : {A : Type 0} (b : Bool) (r : Refusal) (o : Answer A) → 0 < r.number → Positive o → Positive (refuse_if b r o)
unfolding refuse_if
positive_if true r o h p = h
positive_if false r o h p = p

positive_then : {A B : Type 0} (o : Answer A) (f : A → Answer B) → Positive o → ((a : A) → Positive (f a)) → Positive (and_then o f)
unfolding and_then
positive_then (gives a) f p q = q a
positive_then (refuses r) f p q = p

pub parsed_positive : (s : List ℕ) → Positive (parsed s)
unfolding parsed tested
parsed_positive s =
    positive_if _ _ _ (omega arith)
    (positive_if _ _ _ (omega arith)
    (positive_if _ _ _ (omega arith)
    (positive_if _ _ _ (omega arith)
    (positive_if _ _ _ (omega arith)
    (positive_if _ _ _ (omega arith)
    (positive_if _ _ _ (omega arith)
    (positive_if _ _ _ (omega arith)
    (positive_if _ _ _ (omega arith)
    (positive_if _ _ _ (omega arith)
    (positive_if _ _ _ (omega arith)
    (positive_if _ _ _ (omega arith) tt)))))))))))

string_positive : (s : List ℕ) (o : ℕ) → Positive (got_string s o)
unfolding got_string
string_positive s o = positive_then (parsed s) _ (parsed_positive s) (λ c. tt)

after_positive : (s : List ℕ) (f : Option Function) → Positive (name_after s f)
unfolding name_after
after_positive s none = tt
after_positive s (some f) = string_positive s f.name_offset

name_positive : (s : List ℕ) (i : ℕ) → Positive (got_name s i)
unfolding got_name got_function
name_positive s i = positive_then _ (name_after s) (positive_then (parsed s) _ (parsed_positive s) (λ c. tt)) (after_positive s)

-- ── The part ───────────────────────────────────────────────────────────────────────────────────────────────────────────

part_of_front : (start len n : ℕ) (x : List ℕ) → start + len ≤ n → take len (drop start (take n x)) ≡ take len (drop start x)
part_of_front zero len n x h = take-take len n x (omega arith)
part_of_front (suc start) len zero x h = absurd (omega arith)
part_of_front (suc start) len (suc n) [] h = refl
part_of_front (suc start) len (suc n) (a ∷ x) h = part_of_front start len n x (omega arith)

module _ (s d : List ℕ) (c : SymCache) where
  placed-shown : (o : ℕ) (t : std.Option Text) → read_text (section_of s c) o ≡ t → name_or d (part_of s (gives (placed c.strings t))) ≡ text_or d (section_of s c) t
  unfolding placed text_or section_of
  placed-shown o std.None e = refl
  placed-shown o (std.Some t) e =
      let within : t.start + t.len ≤ length (take c.string_bytes (drop c.strings s)) = text-within _ o t.start t.len e in
      let front : length (take c.string_bytes (drop c.strings s)) ≤ c.string_bytes = simp length-take (omega arith) in
      sym (part_of_front t.start t.len c.string_bytes (drop c.strings s) (omega arith) ∙ ap (take t.len) (drop-drop t.start c.strings s))

  function-shown : (f : Option Function) → parsed s ≡ gives c
      → name_or d (part_of s (name_after s f)) ≡ elim f [ none ↦ d | some g ↦ text_or d (section_of s c) (read_text (section_of s c) g.name_offset) ]
  unfolding name_after got_string and_then
  function-shown none is = refl
  function-shown (some g) is = rw (is, and_then) (placed-shown g.name_offset (read_text (section_of s c) g.name_offset) refl)

pub name-is : (s d : List ℕ) (i : ℕ) → name_or d (part_of s (got_name s i)) ≡ name_of s d i
unfolding got_name got_function name_of name_in and_then or_else
name-is s d i = go (parsed s) refl
  where
    go : (p : Answer SymCache) → parsed s ≡ p
        → name_or d (part_of s (and_then (and_then p (λ c. gives (function_in_lem s c i))) (name_after s))) ≡ or_else (and_then p (λ c. gives (name_in s c d i))) d
    go (gives c) is = function-shown s d c (function_in_lem s c i) is
    go (refuses r) is = refl

-- an absent text is empty
pub string_is : (s : List ℕ) (o : ℕ) → name_or [] (text_shown s o) ≡ string_of s o
unfolding got_string string_of and_then or_else text_or text_part bytes_of
string_is s o = go (parsed s)
  where
    or_empty : (t : List ℕ) (x : std.Option Text) → text_or [] t x ≡ bytes_of t x
    or_empty t std.None = refl
    or_empty t (std.Some p) = refl

    go : (p : Answer SymCache)
        → name_or [] (part_of s (and_then p (λ c. gives (placed c.strings (read_text (section_of s c) o))))) ≡ or_else (and_then p (λ c. gives (text_part (section_of s c) o))) []
    go (gives c) = placed-shown s [] c o (read_text (section_of s c) o) refl ∙ or_empty (section_of s c) (read_text (section_of s c) o)
    go (refuses r) = refl

-- ── Its words ──────────────────────────────────────────────────────────────────────────────────────────────────────────

words-told : (s t : List ℕ) (o : Answer (Option Part)) → 3 ≤ length t → Positive o → (answered part_words o t).code ≡ 0 → text_told s (answered part_words o t).slice ≡ part_of s o
unfolding answered text_told
words-told s t (gives none) h p e = rw (sets_in (0 ∷ []) t 0 0 0 refl (omega arith) (omega arith))
words-told s t (gives (some q)) h p e =
    rw (sets_in (1 ∷ q.start ∷ q.len ∷ []) t 0 0 0 refl (omega arith) (omega arith), sets_in (1 ∷ q.start ∷ q.len ∷ []) t 0 1 1 refl (omega arith) (omega arith), sets_in (1 ∷ q.start ∷ q.len ∷ []) t 0 2 2 refl (omega arith) (omega arith))
words-told s t (refuses r) h p e = absurd (omega arith)

-- for every file, stand-in and index, and three words lent: where the answer is 0, they tell of the function's name
pub name_by_words : (s d : List ℕ) (i : ℕ) (t : List ℕ) → 3 ≤ length t → (name_call s i t).code ≡ 0 → name_or d (text_told s (name_call s i t).slice) ≡ name_of s d i
unfolding name_call
name_by_words s d i t h e = ap (name_or d) (words-told s t (got_name s i) h (name_positive s i) e) ∙ name-is s d i

-- ── In a file that was read ────────────────────────────────────────────────────────────────────────────────────────────

module _ (s : List ℕ) (c : SymCache) (is : parsed s ≡ gives c) where
  string_zero : (o : ℕ) → answer_number (got_string s o) ≡ 0
  unfolding got_string and_then
  string_zero o = rw (is, and_then)

  name-zero : (i : ℕ) → answer_number (got_name s i) ≡ 0
  unfolding got_name got_function and_then name_after
  name-zero i = rw (is, and_then) (after (function_in_lem s c i))
    where
      after : (f : Option Function) → answer_number (name_after s f) ≡ 0
      after none = refl
      after (some f) = string_zero f.name_offset

  -- each text by its offset
  pub tells : (o : ℕ) → Tells s (string_call s o) (text_shown s o)
  unfolding string_call
  tells o p h =
      let z : (answered part_words (got_string s o) p).code ≡ 0 = answered-number part_words (got_string s o) p ∙ string_zero o in
      (z, words-told s p (got_string s o) h (string_positive s o) z)

  -- a file's name, empty where it is absent
  pub tells-name : (o : ℕ) → Names s [] (string_call s o) (string_of s o)
  tells-name o p h = let (z, t) = tells o p h in (z, ap (name_or []) t ∙ string_is s o)

  -- the name of a function
  pub names : (d : List ℕ) (i : ℕ) → Names s d (name_call s i) (name_of s d i)
  unfolding name_call
  names d i p h = let z : (name_call s i p).code ≡ 0 = answered-number part_words (got_name s i) p ∙ name-zero i in (z, name_by_words s d i p h z)

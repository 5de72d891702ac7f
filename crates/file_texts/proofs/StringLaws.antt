-- Laws that the functions of src/ cite.
use Prim.Native.Nat.{ℕ, ◌+◌, ◌*◌, ◌≤◌, ◌<◌}
use mathlib.Core.Path.{◌≡◌, refl, sym}
use mathlib.Core.List.{List}
use mathlib.Core.Option.{none, some}
use borrow.Author.Tests.{lt-ltb, le-ltb}
use Rattle.raw.specs.Rows.{function_at_lem}
use Rattle.std.specs.Prelude.{Some}
use lib.ListN.{length}
use Rattle.text.specs.declared.strings.Text.{Text}
use Rattle.text.specs.Texts.{read_text}
use Rattle.text.proofs.TextLaws.{text-within}
use Rattle.symcache.specs.declared.SymCache.{SymCache}
use Rattle.symcache.specs.Answers.{Refusal, Answer, gives, refuses, and_then}
use Rattle.symcache.specs.Reader.{function_in_lem}
use Rattle.file_texts.specs.Strings.{section_of, text_or, name_in}
use Rattle.symcache.proofs.ReaderLaws.{parsed-within}

-- the lent bytes come first
pub read-gives : {A B : Type 0} (a : A) (f : A → Answer B) → and_then (gives a) f ≡ f a
unfolding and_then
read-gives a f = refl

pub read-refuses : {A B : Type 0} (r : Refusal) (f : A → Answer B) → and_then (refuses r) f ≡ refuses r
unfolding and_then
read-refuses r f = refl

pub text-inside : (s : List ℕ) (at : ℕ) (t : Text) → Some t ≡ read_text s at → t.start + t.len ≤ length s
text-inside s at t e = text-within s at t.start t.len (sym e)

-- a file that was read has its texts in it, and a text that was read lies in its section
pub ruleset read_cases = (read-gives, read-refuses, parsed-within, text-inside)

function-there : (s : List ℕ) (c : SymCache) (i : ℕ) → i < c.num_functions → function_in_lem s c i ≡ some (function_at_lem s (c.functions + 16 * i))
unfolding function_in_lem
function-there s c i h = rw (lt-ltb i c.num_functions h)

function-none : (s : List ℕ) (c : SymCache) (i : ℕ) → c.num_functions ≤ i → function_in_lem s c i ≡ none
unfolding function_in_lem
function-none s c i h = rw (le-ltb i c.num_functions h)

pub name-there : (s : List ℕ) (c : SymCache) (d : List ℕ) (i : ℕ) → i < c.num_functions
    → name_in s c d i ≡ text_or d (section_of s c) (read_text (section_of s c) (function_at_lem s (c.functions + 16 * i)).name_offset)
unfolding name_in
name-there s c d i h = rw (function-there s c i h, name_in)

pub name-none : (s : List ℕ) (c : SymCache) (d : List ℕ) (i : ℕ) → c.num_functions ≤ i → name_in s c d i ≡ d
unfolding name_in
name-none s c d i h = rw (function-none s c i h, name_in)

-- what `function_name` cites
pub ruleset name_cases = (read-gives, read-refuses, parsed-within, name-there, name-none)

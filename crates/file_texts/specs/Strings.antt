-- Texts of a file: `get_string` of v9/mod.rs and the names of v9/lookup.rs (document 01 "Texts", "Lookup").
use Rattle.std.specs.Prelude.{ℕ, ◌+◌, List, [], take, drop}
use Rattle.std.specs.Prelude as rust
use Rattle.std.proofs.Math.Option.{Option, none, some}
use Rattle.text.specs.declared.strings.Text.{Text}
use Rattle.text.specs.Texts.{read_text, text_part}
use Rattle.symcache.specs.declared.SymCache.{SymCache}
use Rattle.file_texts.specs.declared.Part.{Part}
use Rattle.symcache.specs.declared.ErrorKind.{ErrorKind}
use Rattle.symcache.specs.Answers.{Answer, gives, refuses, and_then, maybe_answer}
use Rattle.symcache.specs.Reader.{parsed}
use Rattle.symcache.specs.Reader.{function_in_lem}

-- the string section
unfoldable pub section_of : List ℕ → SymCache → List ℕ
section_of s c = take c.string_bytes (drop c.strings s)

-- ── Where a text lies ──

abbrev pub string_answer : rust.Result (rust.Option Part) ErrorKind → Answer (Option Part)
string_answer r = maybe_answer r

-- a part of the section that begins at `at`, as a part of the file
unfoldable pub placed : ℕ → rust.Option Text → Option Part
placed at rust.None = none
placed at (rust.Some t) = some (record { start = at + t.start; len = t.len })

unfoldable pub got_string : List ℕ → ℕ → Answer (Option Part)
got_string s offset = and_then (parsed s) (λ c. gives (placed c.strings (read_text (section_of s c) offset)))

-- ── Its bytes ──

-- what a read that returns a part of the lent bytes gives where these are refused: nothing of them, or the stand-in
unfoldable pub or_else : Answer (List ℕ) → List ℕ → List ℕ
or_else (gives t) d = t
or_else (refuses r) d = d

-- an absent text is empty
unfoldable pub string_of : List ℕ → ℕ → List ℕ
string_of s offset = or_else (and_then (parsed s) (λ c. gives (text_part (section_of s c) offset))) []

-- "A function's name is a part of the string section or of the stand-in the caller lent"
unfoldable pub text_or : List ℕ → List ℕ → rust.Option Text → List ℕ
text_or d t rust.None = d
text_or d t (rust.Some p) = take p.len (drop p.start t)

unfoldable pub name_in : List ℕ → SymCache → List ℕ → ℕ → List ℕ
name_in s c d i = elim (function_in_lem s c i) [ none ↦ d | some f ↦ text_or d (section_of s c) (read_text (section_of s c) f.name_offset) ]

unfoldable pub name_of : List ℕ → List ℕ → ℕ → List ℕ
name_of s d i = or_else (and_then (parsed s) (λ c. gives (name_in s c d i))) d

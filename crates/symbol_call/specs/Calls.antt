-- What a call leaves, and a symbol call, for every input: document 01 "Converter" and "Who causes which number". A call gives its number, the record,
-- and every lent slice as it leaves it.
use Rattle.std.specs.Prelude.{true, false, cond, List, [], ℕ}
use Rattle.model.specs.Machine.{convert_symbol_m}
use Rattle.model.specs.Converter.{Setup, input}
use Rattle.rows.specs.declared.OptionalPart.{OptionalPart}
use Rattle.refusals.specs.Refusals.{optional?}
use Rattle.memory.specs.Memory.{Memory, Words, zeroed}
use Rattle.memory.specs.Record.{fits?, usable?, with_state, words_of_lem, unused}
use Rattle.memory.specs.declared.Converter.{Converter}
use Rattle.slices.specs.Slices.{zeros}
use Rattle.steps.specs.Steps.{over_words}
use Rattle.steps.specs.Symbols.{symbol_row_lem}

-- ── What a call leaves ─────────────────────────────────────────────────────────────────────────────────────────────────

pub record Called : Type 0 where
  pub code : ℕ
  pub converter : Converter
  pub memory : Memory
  pub scratch : List ℕ

abbrev pub called : ℕ → Converter → Memory → List ℕ → Called
called n c m s = record { code = n; converter = c; memory = m; scratch = s }

abbrev pub setup : Converter → Setup
setup c = record { functions_on = c.undecorate_functions; symbols_on = c.undecorate_symbols }

-- "17 fills all tables and scratch with zeros and closes the converter until begun anew"; else the call is accepted, and "Scratch is zero after every
-- accepted tree"
unfoldable pub finished : Converter → List ℕ → Words → Called
finished c s w =
    cond (fits? w) (called 0 (with_state c true w.st) w.mm (zeros s)) (called 17 (with_state c false unused) (zeroed w.mm) (zeros s))

-- ── A symbol ───────────────────────────────────────────────────────────────────────────────────────────────────────────

-- "Symbols: 19, 14, 17"; "a symbol call lends no scratch"
unfoldable pub symbol_of : Converter → Memory → List ℕ → ℕ → ℕ → OptionalPart → Called
symbol_of c m t address size name =
    cond (usable? c m)
    (cond (optional? t name)
    (finished c [] (convert_symbol_m input (over_words (setup c)) (symbol_row_lem t address size name) (words_of_lem c m)))
    (called 14 c m []))
    (called 19 c m [])

-- THE NUMBERS OF THE REFUSALS: document 01, "Who causes which number", named as in include/symcache.h; 25 is K7's.
use Rattle.std.specs.Prelude.{ℕ, Result, Ok, Err}
use Rattle.errors.specs.declared.Refusal.{Refusal}
use Rattle.errors.specs.declared.Refusal.TheVariants.{InvalidRows, InvalidText, AddressOverflow, ScratchTooSmall, TableFull, OutputTooShort, Closed, TooDeep}

abbrev pub number_lem : Refusal → ℕ
number_lem InvalidRows = 13
number_lem InvalidText = 14
number_lem AddressOverflow = 15
number_lem ScratchTooSmall = 16
number_lem TableFull = 17
number_lem OutputTooShort = 18
number_lem Closed = 19
number_lem TooDeep = 25

-- what a call answers in C: 0 where it is accepted
abbrev pub code_of : {A : Type 0} → Result A Refusal → ℕ
code_of (Ok a) = 0
code_of (Err e) = number_lem e

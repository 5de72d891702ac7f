-- What the calls answer, in document 01's terms ("Who causes which number"):
-- what was asked for, with number 0, or the number of a refusal with the counts of 10.
use Rattle.std.specs.Prelude.{ℕ, Bool, cond, Option, None, Some, Result, Ok, Err}
use Rattle.std.proofs.Math.Option as maybe
use Rattle.symcache.specs.declared.ErrorKind.{ErrorKind}
use Rattle.symcache.specs.declared.ErrorKind.TheVariants as kind
use Rattle.symcache.specs.declared.SymCache.{SymCache}

-- a number, with the expected and the found count of 10; for the others these are 0
pub record Refusal : Type 0 where
  pub number : ℕ
  pub expected : ℕ
  pub found : ℕ

abbrev pub only : ℕ → Refusal
only n = record { number = n; expected = 0; found = 0 }

-- the number and the values of each case
abbrev pub refusal_of : ErrorKind → Refusal
refusal_of kind.TooShort = only 1
refusal_of kind.WrongEndianness = only 2
refusal_of kind.WrongFormat = only 3
refusal_of kind.WrongVersion = only 4
refusal_of kind.InvalidHeader = only 5
refusal_of kind.InvalidFiles = only 6
refusal_of kind.InvalidFunctions = only 7
refusal_of kind.InvalidSourceLocations = only 8
refusal_of kind.InvalidRanges = only 9
refusal_of (kind.UnexpectedStringBytes expected found) = record { number = 10; expected = expected; found = found }
refusal_of kind.InvalidVariableHeader = only 11
refusal_of kind.UnorderedRanges = only 12

pub data Answer (A : Type 0) : Type 0 where
  gives : A → Answer A
  refuses : Refusal → Answer A

-- document 01's number of every answer: 0 where the call gives what was asked for, also where that is nothing
abbrev pub answer_number : {A : Type 0} → Answer A → ℕ
answer_number (gives a) = 0
answer_number (refuses r) = r.number

-- tests in their order: the first that holds refuses
unfoldable pub refuse_if : {A : Type 0} → Bool → Refusal → Answer A → Answer A
refuse_if b r a = cond b (refuses r) a

-- a call reads the lent bytes first: its own work follows only where they are accepted
unfoldable pub and_then : {A B : Type 0} → Answer A → (A → Answer B) → Answer B
and_then (gives a) f = f a
and_then (refuses r) f = refuses r

-- each answer of the code
abbrev pub answer_of : {A : Type 0} → Result A ErrorKind → Answer A
answer_of (Ok a) = gives a
answer_of (Err k) = refuses (refusal_of k)

abbrev pub parse_answer : Result SymCache ErrorKind → Answer SymCache
parse_answer r = answer_of r

-- the same where what was asked for may be nothing
abbrev pub maybe_of : {A : Type 0} → Option A → maybe.Option A
maybe_of None = maybe.none
maybe_of (Some a) = maybe.some a

abbrev pub maybe_answer : {A : Type 0} → Result (Option A) ErrorKind → Answer (maybe.Option A)
maybe_answer (Ok o) = gives (maybe_of o)
maybe_answer (Err k) = refuses (refusal_of k)

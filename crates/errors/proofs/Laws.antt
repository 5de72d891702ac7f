-- No refusal's number is 0.
use Rattle.std.proofs.Common.{◌≡◌, arith}
use Rattle.errors.specs.declared.Refusal.{Refusal}
use Rattle.errors.specs.declared.Refusal.TheVariants.{InvalidRows, InvalidText, AddressOverflow, ScratchTooSmall, TableFull, OutputTooShort, Closed, TooDeep}
use Rattle.errors.specs.Numbers.{number_lem}

pub number-not_0 : (e : Refusal) → number_lem e ≡ 0 → ⊥
number-not_0 InvalidRows h = omega arith
number-not_0 InvalidText h = omega arith
number-not_0 AddressOverflow h = omega arith
number-not_0 ScratchTooSmall h = omega arith
number-not_0 TableFull h = omega arith
number-not_0 OutputTooShort h = omega arith
number-not_0 Closed h = omega arith
number-not_0 TooDeep h = omega arith

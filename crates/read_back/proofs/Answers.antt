-- An answer has one meaning and one form: two refusals with the same number and counts are the same.
use Rattle.std.specs.Prelude.{Result, Ok, Err}
use mathlib.Core.Path.{◌≡◌, refl, ap, sym, ◌∙◌}
use mathlib.Core.Bool.{cond}
use lib.Dec.{eqb}
use Rattle.symcache.specs.declared.ErrorKind.{ErrorKind}
use Rattle.symcache.specs.declared.ErrorKind.TheVariants as kind
use Rattle.symcache.specs.declared.SymCache.{SymCache}
use Rattle.symcache.specs.Answers.{Refusal, refusal_of, parse_answer}

-- the case that a refusal is of
unfoldable pub kind_of : Refusal → ErrorKind
kind_of r =
    cond (eqb r.number 1) kind.TooShort
    (cond (eqb r.number 2) kind.WrongEndianness
    (cond (eqb r.number 3) kind.WrongFormat
    (cond (eqb r.number 4) kind.WrongVersion
    (cond (eqb r.number 5) kind.InvalidHeader
    (cond (eqb r.number 6) kind.InvalidFiles
    (cond (eqb r.number 7) kind.InvalidFunctions
    (cond (eqb r.number 8) kind.InvalidSourceLocations
    (cond (eqb r.number 9) kind.InvalidRanges
    (cond (eqb r.number 10) (kind.UnexpectedStringBytes r.expected r.found)
    (cond (eqb r.number 11) kind.InvalidVariableHeader kind.UnorderedRanges))))))))))

pub kind-back : (k : ErrorKind) → kind_of (refusal_of k) ≡ k
unfolding kind_of
kind-back kind.TooShort = refl
kind-back kind.WrongEndianness = refl
kind-back kind.WrongFormat = refl
kind-back kind.WrongVersion = refl
kind-back kind.InvalidHeader = refl
kind-back kind.InvalidFiles = refl
kind-back kind.InvalidFunctions = refl
kind-back kind.InvalidSourceLocations = refl
kind-back kind.InvalidRanges = refl
kind-back (kind.UnexpectedStringBytes e f) = refl
kind-back kind.InvalidVariableHeader = refl
kind-back kind.UnorderedRanges = refl

pub kind-single : (j k : ErrorKind) → refusal_of j ≡ refusal_of k → j ≡ k
kind-single j k e = sym (kind-back j) ∙ (ap kind_of e ∙ kind-back k)

-- so each contract `parse_answer r ≡ ..` leaves a single r (and those of the other enums, whose other cases are constructors)
pub parse_single : (p q : Result SymCache ErrorKind) → parse_answer p ≡ parse_answer q → p ≡ q
parse_single (Ok c) (Ok d) e = cc
parse_single (Ok c) (Err k) e = cc
parse_single (Err j) (Ok d) e = cc
parse_single (Err j) (Err k) e = let r : refusal_of j ≡ refusal_of k = cc in ap Err (kind-single j k r)

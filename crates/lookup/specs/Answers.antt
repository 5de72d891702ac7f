-- What the calls of the lookup answer, in document 01's terms: what was asked for, with number 0, or the number of a refusal.
use Rattle.std.specs.Prelude.{Option, Result}
use Rattle.std.proofs.Math.Option as maybe
use Rattle.raw.specs.declared.File.{File}
use Rattle.raw.specs.declared.Function.{Function}
use Rattle.symcache.specs.declared.ErrorKind.{ErrorKind}
use Rattle.symcache.specs.Answers.{Answer, answer_of, maybe_answer}
use Rattle.lookup.specs.declared.SourceLocations.{SourceLocations}
use Rattle.lookup.specs.declared.Step.{Step}
use Rattle.lookup.specs.declared.NextFunction.{NextFunction}
use Rattle.lookup.specs.declared.NextFile.{NextFile}

abbrev pub lookup_answer : Result SourceLocations ErrorKind → Answer SourceLocations
lookup_answer r = answer_of r

-- a frame and where the walk goes on
abbrev pub Framed : Type 0
Framed = Step

abbrev pub step_answer : Result (Option Step) ErrorKind → Answer (maybe.Option Framed)
step_answer r = maybe_answer r

abbrev pub file_answer : Result (Option File) ErrorKind → Answer (maybe.Option File)
file_answer r = maybe_answer r

abbrev pub function_answer : Result (Option Function) ErrorKind → Answer (maybe.Option Function)
function_answer r = maybe_answer r

-- a row, its index, and where the reading of the rows goes on
abbrev pub functions_answer : Result (Option NextFunction) ErrorKind → Answer (maybe.Option NextFunction)
functions_answer r = maybe_answer r

abbrev pub files_answer : Result (Option NextFile) ErrorKind → Answer (maybe.Option NextFile)
files_answer r = maybe_answer r

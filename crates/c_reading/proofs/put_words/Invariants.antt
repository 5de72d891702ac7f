-- With the words from i on, all are stored.
use Rattle.std.proofs.Common.{◌≡◌, ◌+◌, drop}
use Rattle.std.proofs.lemmas.List.Edits.{sets}
use Rattle.c_reading.proofs.put_words.Given as goal

abbrev pub invariant-loop-i : goal.invariant-loop-i
invariant-loop-i l = sets l.row (l.k + l.i) (drop l.i l.words) ≡ sets l.initial.row l.k l.words

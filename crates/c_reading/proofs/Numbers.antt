-- The number that a call over words answers is document 01's number of the answer by value (symcache's `answer_number`): 0 where there is what was asked for, or nothing, and else the refusal's.
use Prim.Native.Nat.{ℕ}
use mathlib.Core.Path.{◌≡◌, refl}
use mathlib.Core.List.{List}
use mathlib.Core.Option.{Option, none, some}
use Rattle.symcache.specs.declared.SymCache.{SymCache}
use Rattle.symcache.specs.Answers.{Answer, gives, refuses, answer_number}
use Rattle.c_reading.specs.Reading.{answered, steps_to, refused, cached}

pub answered-number : {A : Type 0} (words : A → List ℕ) (o : Answer A) (t : List ℕ) → (answered words o t).code ≡ answer_number o
unfolding answered
answered-number words (gives a) t = refl
answered-number words (refuses r) t = refl

pub step-number : {A : Type 0} (next words : A → List ℕ) (o : Answer (Option A)) (k t : List ℕ) → (steps_to next words o k t).code ≡ answer_number o
unfolding steps_to
step-number next words (gives none) k t = refl
step-number next words (gives (some a)) k t = refl
step-number next words (refuses r) k t = refl

pub cached-number : (o : Answer SymCache) (t : List ℕ) → (cached o t).code ≡ answer_number o
unfolding cached refused
cached-number (gives c) t = refl
cached-number (refuses r) t = refl

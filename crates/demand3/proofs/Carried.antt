-- TWO WAYS TO CARRY THE RECORD: where every call leaves by one way what it leaves by the other, seen through a map of what carries it, so does every list of calls. Nothing here knows the kinds of calls.
use mathlib.Core.Path.{◌≡◌, refl, ap, ◌∙◌}
use mathlib.Core.List.{List, [], ◌∷◌}
use Rattle.memory.specs.Memory.{Memory}
use Rattle.demand3.specs.Lists.{Call, Outcome, outcome, counts, Standing, next, run}

module _ {R S : Type 0} (see : S → R) where
  abbrev pub outcome-seen : Outcome S → Outcome R
  outcome-seen o = outcome o.code (see o.carrier) o.memory

  abbrev pub seen : Standing S → Standing R
  seen x = record { carrier = see x.carrier; memory = x.memory; counted = x.counted }

  module _ (leaves : Call → R → Memory → Outcome R) (leaves' : Call → S → Memory → Outcome S)
      (same : (k : Call) (c : S) (m : Memory) → outcome-seen (leaves' k c m) ≡ leaves k (see c) m) where
    next-carried : (k : Call) (x : Standing S) → seen (next leaves' k x) ≡ next leaves k (seen x)
    unfolding next
    next-carried k x = ap (λ (o : Outcome R). record { carrier = o.carrier; memory = o.memory; counted = counts k o.code x.counted }) (same k x.carrier x.memory)

    pub run-carried : (ks : List Call) (x : Standing S) → seen (run leaves' ks x) ≡ run leaves ks (seen x)
    unfolding run
    run-carried [] x = refl
    run-carried (k ∷ ks) x = run-carried ks (next leaves' k x) ∙ ap (run leaves ks) (next-carried k x)

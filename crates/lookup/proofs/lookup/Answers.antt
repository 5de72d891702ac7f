-- The walk's search ends where a lookup means it to.
use mathlib.Core.Path.{ap, sym, ◌∙◌}
use Rattle.symcache.specs.Answers.{gives}
use Rattle.lookup.proofs.ByMeaning.{by_meaning}
use Rattle.lookup.proofs.lookup.Goals as goal

pub returns : goal.returns
returns c = ap gives c.walk.ensures ∙ (by_meaning c.args.s.now c.in_ok-cache.cache (sym c.in_ok-cache.ensures) c.args.addr).walk

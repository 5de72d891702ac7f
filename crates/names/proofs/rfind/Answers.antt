use Rattle.std.proofs.Common.{◌-◌, arith, sym, ◌∙◌}
use Rattle.names.proofs.Laws.{rest, stood, rfind-none, rfind-here, rfind_lower}
use Rattle.names.proofs.rfind.Goals as goal

pub returns-then-starts_with : goal.returns-then-starts_with
returns-then-starts_with c =
    let s = c.args.s.now in
    let e = rw (rest (c.loop-i.i - 1) s) at (stood c.args.pat.now _ c.starts_with.ensures.value c.if-starts_with.true) in
    sym (sym c.loop-i.invariant ∙ rfind-here _ s c.loop-i.i (omega arith) e)

pub loop-i-preserved : goal.loop-i-preserved
loop-i-preserved c =
    let s = c.args.s.now in
    let e = rw (rest (c.loop-i.i - 1) s) at (stood c.args.pat.now _ c.starts_with.ensures.value c.if-starts_with.false) in
    sym (rfind_lower _ s c.loop-i.i (omega arith) e) ∙ c.loop-i.invariant

pub returns : goal.returns
returns c = sym (sym c.loop-i.invariant ∙ rfind-none _ _ c.loop-i.i (omega arith))

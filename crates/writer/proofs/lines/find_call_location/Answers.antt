use Prim.Native.Nat.{ℕ, ◌+◌, ◌*◌, ◌-◌}
use mathlib.Core.Path.{◌≡◌, sym, ap, ◌∙◌}
use native.Mathlib.Omega.{arith}
use Rattle.model.specs.Machine.{advance_m}
use Rattle.scratch.specs.Scratch.{refs_at}
use Rattle.scratch.proofs.Lines.{cursor-end, cursor-stays, cursor-moves}
use Rattle.writer.proofs.lines.find_call_location.Goals as goal

pub returns-then-line_range_start-word : goal.returns-then-line_range_start-word
returns-then-line_range_start-word c =
    let a = c.args in
    let l = c.loop-next_call_location in (
      omega (arith, c.loop-next_call_location-test.true),
      l.invariant
          ∙ cursor-stays a.s.now a.others.at a.others.len a.line_range_start l.current_call_location l.next_call_location c.loop-next_call_location-test.true
          (rw c.word.ensures at c.if-line_range_start-word.true),
    )

pub loop-next_call_location-preserved : goal.loop-next_call_location-preserved
loop-next_call_location-preserved c =
    let a = c.args in
    let l = c.loop-next_call_location in
    l.invariant
    ∙ cursor-moves a.s.now a.others.at a.others.len a.line_range_start l.current_call_location l.next_call_location c.loop-next_call_location-test.true
    (rw c.word.ensures at c.if-line_range_start-word.false)
    ∙ ap (λ (v : ℕ). advance_m a.line_range_start v (refs_at a.s.now (a.others.at + (l.next_call_location + 1) * 2) (a.others.len - (l.next_call_location + 1)))) (sym c.word-current_call_location.ensures)

pub returns : goal.returns
returns c =
    let a = c.args in
    let l = c.loop-next_call_location in
    let end : l.next_call_location ≡ a.others.len = omega arith in
    let ended = l.invariant ∙ cursor-end a.s.now a.others.at a.others.len a.line_range_start l.current_call_location l.next_call_location c.loop-next_call_location-test.false in
    (omega arith, rw end at ended)

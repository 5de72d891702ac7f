use mathlib.Core.Path.{◌∙◌}
use Prim.Native.Nat.{◌-◌}
use native.Mathlib.Omega.{arith}
use Rattle.text.proofs.Leb128Reading.{decoded-rest, read_first, read-cut, read_fits, read-last, read_more, tenth_last, tenth_wide}
use Rattle.text.proofs.Leb128Laws.{decoded-past}
use Rattle.text.proofs.leb128.read_leb128.Goals as goal

pub returns-in_err-rest : goal.returns-in_err-rest
returns-in_err-rest c = c.from_residual.ensures ∙ decoded-past c.args.s.now c.args.at (omega (arith, c.in_err-rest.ensures.lookup))

pub loop-i-init : goal.loop-i-init
loop-i-init c = read_first c.in_ok-rest.rest.now

pub returns-in_err-get : goal.returns-in_err-get
returns-in_err-get c =
    c.from_residual-in_err-get.ensures ∙ read-cut 0 c.loop-i.invariant (omega (arith, c.in_err-get.ensures.lookup))
    ∙ decoded-rest c.args.s.now c.args.at c.in_ok-rest.ensures.lookup.0.2

pub overflow_mul-result : goal.overflow_mul-result
overflow_mul-result c = omega (arith, read_fits c.from-byte.result c.loop-i.invariant c.loop-i-test.true c.if-byte-lt128.true)

pub overflow_add-result : goal.overflow_add-result
overflow_add-result c = omega (arith, read_fits c.from-byte.result c.loop-i.invariant c.loop-i-test.true c.if-byte-lt128.true)

pub returns-then-byte-lt128 : goal.returns-then-byte-lt128
returns-then-byte-lt128 c =
    read-last c.from-byte.result c.loop-i.invariant c.loop-i-test.true c.in_ok-get.ensures.lookup.3.0 (c.from-byte.ensures ∙ c.in_ok-get.ensures.lookup.4 (omega arith) 0) c.if-byte-lt128.true
    ∙ decoded-rest c.args.s.now c.args.at c.in_ok-rest.ensures.lookup.0.2

pub overflow_mul-value : goal.overflow_mul-value
overflow_mul-value c = omega (arith, read_fits (c.from-byte.result - 128) c.loop-i.invariant c.loop-i-test.true (omega arith))

pub overflow_add-value : goal.overflow_add-value
overflow_add-value c = omega (arith, read_fits (c.from-byte.result - 128) c.loop-i.invariant c.loop-i-test.true (omega arith))

pub overflow_mul-unit : goal.overflow_mul-unit
overflow_mul-unit c = omega (arith, read_fits 127 c.loop-i.invariant c.loop-i-test.true (omega arith))

pub loop-i-preserved : goal.loop-i-preserved
loop-i-preserved c =
    read_more c.from-byte.result c.loop-i.invariant c.loop-i-test.true c.in_ok-get.ensures.lookup.3.0 (c.from-byte.ensures ∙ c.in_ok-get.ensures.lookup.4 (omega arith) 0) c.if-byte-lt128.false (omega arith)

pub returns-in_err-get-2 : goal.returns-in_err-get-2
returns-in_err-get-2 c =
    c.from_residual-in_err-get-2.ensures ∙ read-cut 0 c.loop-i.invariant (omega (arith, c.in_err-get-2.ensures.lookup))
    ∙ decoded-rest c.args.s.now c.args.at c.in_ok-rest.ensures.lookup.0.2

pub returns-then-tenth-gt1 : goal.returns-then-tenth-gt1
returns-then-tenth-gt1 c =
    tenth_wide c.from-tenth.result c.loop-i.invariant (omega arith) c.in_ok-get-2.ensures.lookup.3.0 (c.from-tenth.ensures ∙ c.in_ok-get-2.ensures.lookup.4 (omega arith) 0) c.if-tenth-gt1.true (omega arith)
    ∙ decoded-rest c.args.s.now c.args.at c.in_ok-rest.ensures.lookup.0.2

pub returns : goal.returns
returns c =
    tenth_last c.from-tenth.result c.loop-i.invariant (omega arith) c.in_ok-get-2.ensures.lookup.3.0 (c.from-tenth.ensures ∙ c.in_ok-get-2.ensures.lookup.4 (omega arith) 0) (omega arith)
    ∙ decoded-rest c.args.s.now c.args.at c.in_ok-rest.ensures.lookup.0.2

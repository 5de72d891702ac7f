-- `cut` is `rfind`, then the test of what follows the pattern, which lies in the name.
use Prim.Native.Nat.{◌+◌, ◌≤◌}
use mathlib.Core.Path.{sym, ◌∙◌}
use native.Mathlib.Omega.{arith}
use lib.ListN.{length}
use Rattle.names.proofs.Laws.{rest}
use Rattle.names.proofs.Sizes.{rfind-within, cut-none, cut-some, cut-other}
use Rattle.names.proofs.cut.Goals as goal

pub returns-in_err-n : goal.returns-in_err-n
returns-in_err-n c = c.from_residual.ensures ∙ sym (cut-none _ _ (sym c.in_err-n.ensures))

pub overflow_add-n : goal.overflow_add-n
overflow_add-n c =
    let w : c.in_ok-n.n + length c.args.pat.now ≤ length c.args.s.now = rfind-within _ _ _ (sym c.in_ok-n.ensures) in
    omega arith

pub slice_bounds-parses-count : goal.slice_bounds-parses-count
slice_bounds-parses-count c = rfind-within _ _ _ (sym c.in_ok-n.ensures)

pub slice_bounds-parses-start : goal.slice_bounds-parses-start
slice_bounds-parses-start c = rfind-within _ _ _ (sym c.in_ok-n.ensures)

pub returns-then-parses : goal.returns-then-parses
returns-then-parses c =
    let a = c.args in
    let n = c.in_ok-n.n in
    let e = rw (rest (n + length a.pat.now) a.s.now) at (sym c.parses.ensures ∙ c.if-parses.true) in
    sym (cut-some a.pat.now a.s.now n (sym c.in_ok-n.ensures) e)

pub returns : goal.returns
returns c =
    let a = c.args in
    let n = c.in_ok-n.n in
    let e = rw (rest (n + length a.pat.now) a.s.now) at (sym c.parses.ensures ∙ c.if-parses.false) in
    sym (cut-other a.pat.now a.s.now n (sym c.in_ok-n.ensures) e)

-- `own_calls` meets its contract: depth 0 has its one value, any other depth its pairs.
use native.Mathlib.Omega.{arith}
use Rattle.writer.proofs.TreeLaws.{own_root, own-top, own-none, own-some}
use Rattle.writer.proofs.tree.own_calls.Goals as goal

pub returns-then-depth-eq0 : goal.returns-then-depth-eq0
returns-then-depth-eq0 c = let a = c.args in own_root a.s.now a.base a.depth c.if-depth-eq0.true

pub returns-then-len-eq0 : goal.returns-then-len-eq0
returns-then-len-eq0 c =
    let a = c.args in
    own-none a.s.now a.base a.depth c.calls_at-c.result.start c.calls_at-c.result.len c.if-depth-eq0.false c.calls_at-c.ensures.0 c.calls_at-c.ensures.1 c.if-len-eq0.true

pub returns : goal.returns
returns c =
    let a = c.args in
    own-some a.s.now a.base a.depth c.calls_at-c.result.start c.calls_at-c.result.len c.if-depth-eq0.false c.calls_at-c.ensures.0 c.calls_at-c.ensures.1 c.word-first.result c.if-len-eq0.false c.word-first.ensures

-- the pairs of the depth end where those in use end
pub overflow_add-top : goal.overflow_add-top
overflow_add-top c = let a = c.args in omega (arith, own-top a.s.now a.base a.depth c.calls_at-c.result.start c.calls_at-c.result.len c.if-depth-eq0.false c.calls_at-c.ensures.0 c.calls_at-c.ensures.1)

pub overflow_mul-at : goal.overflow_mul-at
overflow_mul-at c = let a = c.args in omega (arith, own-top a.s.now a.base a.depth c.calls_at-c.result.start c.calls_at-c.result.len c.if-depth-eq0.false c.calls_at-c.ensures.0 c.calls_at-c.ensures.1)

pub overflow_add-at : goal.overflow_add-at
overflow_add-at c = let a = c.args in omega (arith, own-top a.s.now a.base a.depth c.calls_at-c.result.start c.calls_at-c.result.len c.if-depth-eq0.false c.calls_at-c.ensures.0 c.calls_at-c.ensures.1)

pub overflow_add-at-2 : goal.overflow_add-at-2
overflow_add-at-2 c = let a = c.args in omega (arith, own-top a.s.now a.base a.depth c.calls_at-c.result.start c.calls_at-c.result.len c.if-depth-eq0.false c.calls_at-c.ensures.0 c.calls_at-c.ensures.1)

pub overflow_add-others : goal.overflow_add-others
overflow_add-others c = let a = c.args in omega (arith, own-top a.s.now a.base a.depth c.calls_at-c.result.start c.calls_at-c.result.len c.if-depth-eq0.false c.calls_at-c.ensures.0 c.calls_at-c.ensures.1)

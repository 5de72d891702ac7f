-- Each return of the function is a branch of `undecorated`: the tests that led there, read off the calls, pick the branch.
use mathlib.Core.Path.{sym, ◌∙◌}
use mathlib.Core.List.{[], ◌∷◌}
use lib.Seq.{length-take-le}
use Rattle.names.proofs.Laws.{rest, stood, prefixed-within}
use Rattle.names.proofs.Sizes.{cut-within}
use Rattle.names.proofs.Branches.{mangled, qualified, vectorcall, plain, stdcall, cdecl, fastcall_kept}
use Rattle.names.proofs.undecorate_win_symbol.Goals as goal
use Rattle.names.proofs.undecorate_win_symbol.Goals.{then-starts_with-via-then-starts_with, then-starts_with-via-else-starts_with+then-contains}

pub returns-then-starts_with : goal.returns-then-starts_with
returns-then-starts_with c =
    let s = c.args.name.now in
    elim c.then-starts_with.branch [
      | then-starts_with-via-then-starts_with w ↦ sym (mangled s (stood (63 ∷ []) s c.starts_with.ensures.value w.if-starts_with.true))
      | then-starts_with-via-else-starts_with+then-contains w ↦ sym (qualified s (stood (63 ∷ []) s c.starts_with.ensures.value w.if-starts_with.false) (sym w.contains.ensures ∙ w.if-contains.true))
    ]

pub slice_bounds-result-end : goal.slice_bounds-result-end
slice_bounds-result-end c = sym (length-take-le _ _ (cut-within _ _ _ (sym c.in-Some.ensures)))

pub returns-in-Some : goal.returns-in-Some
returns-in-Some c = sym (vectorcall c.args.name.now (stood (63 ∷ []) _ c.starts_with.ensures.value c.if-starts_with.false) (sym c.contains.ensures ∙ c.if-contains.false) _ (sym c.in-Some.ensures))

pub slice_bounds-rest-count : goal.slice_bounds-rest-count
slice_bounds-rest-count c = prefixed-within _ (sym c.prefixed.ensures ∙ c.if-prefixed.true)

pub slice_bounds-rest-start : goal.slice_bounds-rest-start
slice_bounds-rest-start c = prefixed-within _ (sym c.prefixed.ensures ∙ c.if-prefixed.true)

pub slice_bounds-result-end-in-Some-cut : goal.slice_bounds-result-end-in-Some-cut
slice_bounds-result-end-in-Some-cut c =
    let s = c.args.name.now in
    rw (rest 1 s) (sym (length-take-le _ _ (cut-within _ _ _ (sym (rw (rest 1 s) at c.in-Some-cut.ensures)))))

pub returns-in-Some-cut : goal.returns-in-Some-cut
returns-in-Some-cut c =
    let s = c.args.name.now in
    rw (rest 1 s) (sym (stdcall s (stood (63 ∷ []) _ c.starts_with.ensures.value c.if-starts_with.false) (sym c.contains.ensures ∙ c.if-contains.false) (sym c.in_default.ensures) (sym c.prefixed.ensures ∙ c.if-prefixed.true) _ (sym (rw (rest 1 s) at c.in-Some-cut.ensures))))

pub returns-then-starts_with-2 : goal.returns-then-starts_with-2
returns-then-starts_with-2 c =
    let s = c.args.name.now in
    rw (rest 1 s) (sym (cdecl s (stood (63 ∷ []) _ c.starts_with.ensures.value c.if-starts_with.false) (sym c.contains.ensures ∙ c.if-contains.false) (sym c.in_default.ensures) (sym c.prefixed.ensures ∙ c.if-prefixed.true) (sym (rw (rest 1 s) at c.in_default-cut.ensures)) (stood (95 ∷ []) _ c.starts_with-then-prefixed.ensures.value c.if-starts_with-2.true)))

pub returns-else-starts_with-2 : goal.returns-else-starts_with-2
returns-else-starts_with-2 c =
    let s = c.args.name.now in
    sym (fastcall_kept s (stood (63 ∷ []) _ c.starts_with.ensures.value c.if-starts_with.false) (sym c.contains.ensures ∙ c.if-contains.false) (sym c.in_default.ensures) (sym c.prefixed.ensures ∙ c.if-prefixed.true) (sym (rw (rest 1 s) at c.in_default-cut.ensures)) (stood (95 ∷ []) _ c.starts_with-then-prefixed.ensures.value c.if-starts_with-2.false))

pub returns-else-prefixed : goal.returns-else-prefixed
returns-else-prefixed c = sym (plain c.args.name.now (stood (63 ∷ []) _ c.starts_with.ensures.value c.if-starts_with.false) (sym c.contains.ensures ∙ c.if-contains.false) (sym c.in_default.ensures) (sym c.prefixed.ensures ∙ c.if-prefixed.false))

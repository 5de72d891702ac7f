-- `process_row` meets its contract: the row is passed over, or visited with the call locations of its depth.
use Rattle.memory.specs.Memory.{words_of}
use Rattle.steps.specs.Symbols.{switches}
use Rattle.writer.proofs.TreeLaws.{own-ready, row-passed, visit-ready, row_visits}
use Rattle.writer.proofs.tree.process_row.Goals as goal

pub own_calls-own-requires : goal.own_calls-own-requires
own_calls-own-requires c =
    let a = c.args in
    own-ready a.functions.columns64.now a.functions.columns32.now a.lines.columns64.now a.lines.columns32.now a.text.now a.base a.row.i a.row.first_line a.s.now c.requires.ready a.row.function c.requires.is

pub returns-in-None-clause-left : goal.returns-in-None-clause-left
returns-in-None-clause-left c =
    let a = c.args in
    λ Y.
    row-passed a.functions.columns64.now a.functions.columns32.now a.lines.columns64.now a.lines.columns32.now a.text.now a.base a.row.i a.row.first_line a.s.now c.requires.ready a.row.function c.requires.is
    c.own_calls-own.result c.own_calls-own.ensures c.to_visit.result c.to_visit.ensures (switches a.undecorate Y)
    (words_of a.tables.now) c.set_calls.new.s c.in-None.is c.set_calls.ensures

pub visit_row-requires : goal.visit_row-requires
visit_row-requires c =
    let a = c.args in
    visit-ready a.functions.columns64.now a.functions.columns32.now a.lines.columns64.now a.lines.columns32.now a.text.now a.base a.row.i a.row.first_line a.s.now c.requires.ready a.row.function c.requires.is
    c.own_calls-own.result c.own_calls-own.ensures c.to_visit.result c.to_visit.ensures c.in-Some.call_locations c.in-Some.is

pub returns-in-Some-clause-left : goal.returns-in-Some-clause-left
returns-in-Some-clause-left c =
    let a = c.args in
    λ Y.
    row_visits a.functions.columns64.now a.functions.columns32.now a.lines.columns64.now a.lines.columns32.now a.text.now a.base a.row.i a.row.first_line a.s.now c.requires.ready a.row.function c.requires.is
    c.own_calls-own.result c.own_calls-own.ensures c.to_visit.result c.to_visit.ensures c.in-Some.call_locations c.in-Some.is (switches a.undecorate Y)
    (words_of a.tables.now) (words_of c.visit_row.new.tables) c.visit_row.new.s (c.visit_row.ensures.left Y)

-- `convert_unpacked` meets its contract: each number by the tests that led to it.
use mathlib.Core.Path.{refl}
use Rattle.memory.specs.Memory.{memory_of}
use Rattle.c_trees.proofs.LinesLaws.{unpacked_16_64, unpacked_16_32, unpacked_taken}
use Rattle.c_trees.proofs.convert_unpacked.Goals as goal

pub returns-then-lines-unpacked64-clause-left : goal.returns-then-lines-unpacked64-clause-left
returns-then-lines-unpacked64-clause-left c =
    let a = c.args in
    unpacked_16_64 0 a.lines a.«record».now (memory_of a.tables.now) a.scratch.now a.unpacked64.now a.unpacked32.now
    a.functions.columns64.now a.functions.columns32.now a.text.now refl c.if-lines-unpacked64.true

pub returns-then-lines-unpacked32-clause-left : goal.returns-then-lines-unpacked32-clause-left
returns-then-lines-unpacked32-clause-left c =
    let a = c.args in
    unpacked_16_32 0 a.lines a.«record».now (memory_of a.tables.now) a.scratch.now a.unpacked64.now a.unpacked32.now
    a.functions.columns64.now a.functions.columns32.now a.text.now refl c.if-lines-unpacked64.false c.if-lines-unpacked32.true

pub returns-clause-left : goal.returns-clause-left
returns-clause-left c =
    let a = c.args in
    unpacked_taken 0 a.lines a.«record».now (memory_of a.tables.now) a.scratch.now a.unpacked64.now a.unpacked32.now
    a.functions.columns64.now a.functions.columns32.now a.text.now refl c.if-lines-unpacked64.false c.if-lines-unpacked32.false
    c.process_symbolic_function-answer.ensures.left c.zero.ensures c.zero-2.ensures

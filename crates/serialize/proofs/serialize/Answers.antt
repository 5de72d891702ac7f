-- `serialize` meets its contract: closed or over a capacity, an output that is too short, or the file.
use Rattle.memory.specs.Memory.{memory_in}
use Rattle.serialize.proofs.Answers.{closed, short, ready, done}
use borrow.Author.Rules.{rules}
use Rattle.serialize.proofs.serialize.Goals as goal

pub returns-then-not-is_usable : goal.returns-then-not-is_usable
returns-then-not-is_usable c = closed c.args.converter (memory_in c.args.lent) c.args.out.now c.lengths.ensures c.is_usable.result c.is_usable.ensures c.if-not-is_usable.true-raw

pub returns-then-out-len : goal.returns-then-out-len
returns-then-out-len c =
    short c.args.converter (memory_in c.args.lent) c.args.out.now c.lengths.ensures c.is_usable.result c.is_usable.ensures (search rules) c.if-not-is_usable.false-raw
    c.lay_out-at.result c.lay_out-at.ensures c.if-out-len.true

pub write_sections-requires : goal.write_sections-requires
write_sections-requires c =
    ready c.args.converter (memory_in c.args.lent) c.args.out.now c.lengths.ensures c.is_usable.result c.is_usable.ensures (search rules) c.if-not-is_usable.false-raw
    c.lay_out-at.result c.lay_out-at.ensures c.if-out-len.false

pub returns : goal.returns
returns c =
    done c.args.converter (memory_in c.args.lent) c.args.out.now c.lengths.ensures c.is_usable.result c.is_usable.ensures (search rules) c.if-not-is_usable.false-raw
    c.lay_out-at.result c.lay_out-at.ensures c.if-out-len.false c.write_sections.new.out c.write_sections.ensures

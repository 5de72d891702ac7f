-- `write_sections` meets its contract: each section has room, and the sections joined are the file.
use mathlib.Core.Path.{◌≡◌, ◌∙◌}
use lib.ListN.{length}
use Rattle.memory.specs.Memory.{memory_in}
use Rattle.serialize.proofs.Whole.{files_fit, functions_fit, calls_fit, ranges_fit, texts_fit, sections-written}
use Rattle.serialize.specs.Sections.{file_row, function_row, call_row}
use Rattle.serialize.proofs.Rows.{length-file_row, length-function_row, length-call_row, file-stored, function-stored, call-stored}
use borrow.Author.Rules.{rules}
use Rattle.serialize.proofs.write_sections.Goals as goal

pub write_rows-requires-clause-room : goal.write_rows-requires-clause-room
write_rows-requires-clause-room c = files_fit c.args.converter.state c.args.converter.state.ranges c.lay_out-at.result c.lay_out-at.ensures c.write_head.auto.out c.requires.room

pub write_rows-requires-2-clause-room : goal.write_rows-requires-2-clause-room
write_rows-requires-2-clause-room c = functions_fit c.args.converter.state c.args.converter.state.ranges c.lay_out-at.result c.lay_out-at.ensures (c.write_rows.auto.out ∙ c.write_head.auto.out) c.requires.room

pub write_rows-requires-3-clause-room : goal.write_rows-requires-3-clause-room
write_rows-requires-3-clause-room c = calls_fit c.args.converter.state c.args.converter.state.ranges c.lay_out-at.result c.lay_out-at.ensures (c.write_rows-2.auto.out ∙ c.write_rows.auto.out ∙ c.write_head.auto.out) c.requires.room

pub write_sorted-requires : goal.write_sorted-requires
write_sorted-requires c = ranges_fit c.args.converter.state c.args.converter.state.ranges c.lay_out-at.result c.lay_out-at.ensures (c.write_rows-3.auto.out ∙ c.write_rows-2.auto.out ∙ c.write_rows.auto.out ∙ c.write_head.auto.out) c.requires.room

pub write_texts-requires : goal.write_texts-requires
write_texts-requires c = (c.requires.texts_there, texts_fit c.args.converter.state c.args.converter.state.ranges c.lay_out-at.result c.lay_out-at.ensures (c.write_padding.auto.out ∙ c.write_sorted.auto.out ∙ c.write_rows-3.auto.out ∙ c.write_rows-2.auto.out ∙ c.write_rows.auto.out ∙ c.write_head.auto.out) c.requires.room)

pub returns : goal.returns
returns c =
    let a = c.args in
    let id : length c.args.converter.debug_id ≡ 32 = search rules in
    sections-written a.converter (memory_in a.lent) id c.lay_out-at.result c.lay_out-at.ensures a.out.now
    c.write_head.new.out
    c.write_rows.new.out
    c.write_rows-2.new.out
    c.write_rows-3.new.out
    c.write_sorted.new.out
    c.write_padding.new.out
    c.write_texts.new.out
    c.write_head.ensures
    (c.write_rows.ensures file_row (λ r x h. file-stored r x h.1) length-file_row)
    (c.write_rows-2.ensures function_row (λ r x h. function-stored r x h.1) length-function_row)
    (c.write_rows-3.ensures call_row (λ r x h. call-stored r x h.1) length-call_row)
    c.write_sorted.ensures
    c.write_padding.ensures
    c.write_texts.ensures

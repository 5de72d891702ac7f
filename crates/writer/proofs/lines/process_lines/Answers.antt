use mathlib.Core.Path.{refl, ◌∙◌}
use mathlib.Core.Bool.{true}
use Rattle.model.specs.Converter.{Setup, input}
use Rattle.rows.specs.Columns.{columns}
use Rattle.memory.specs.Memory.{SameTables, words_of}
use Rattle.memory.proofs.Same.{same_refl, same_trans}
use Rattle.steps.specs.Steps.{over_words}
use Rattle.scratch.proofs.Walks.{Stopped, line-ends, no_range_left, range_after, range_taken}
use Rattle.scratch.proofs.Lines.{keeps_start, keeps_skipped, keeps_done}
use Rattle.steps.specs.Symbols.{switches}
use Rattle.writer.proofs.LineLaws.{fixed, goes-start, line-passed, line-walked, lines-ended, dir_of, left_of}
use Rattle.writer.proofs.lines.process_lines.Goals as goal
use Rattle.writer.proofs.lines.process_lines.Goals.{then-line_range_end-current_address, else-line_range_end-current_address+then-inline_len-next_inline, else-line_range_end-current_address+else-inline_len-next_inline+then-line_range_end-inline_start}

pub loop-next_line-init : goal.loop-next_line-init
loop-next_line-init c =
    let a = c.args in (
      same_refl a.tables.now,
      keeps_start a.function.lines a.own.others.at a.own.others.len a.inlinee_ranges.at a.inlinee_ranges.len a.s.now c.requires.room c.requires.apart,
      λ X f64 f32 i e. goes-start (fixed (columns f64 f32 a.line_rows.columns64.now a.line_rows.columns32.now a.text.now) i a.first_line a.function_idx a.function.lines a.own.others a.own.first a.inlinee_ranges.at a.inlinee_ranges.len a.s.now X (words_of a.tables.now)),
    )

-- the line is skipped
pub loop-next_line-preserved-then-address-current_address : goal.loop-next_line-preserved-then-address-current_address
loop-next_line-preserved-then-address-current_address c =
    let a = c.args in
    let l = c.loop-next_line in (
      l.invariant.0,
      keeps_skipped a.function.lines a.own.others.at a.own.others.len a.inlinee_ranges.at a.inlinee_ranges.len a.s.now
          l.s l.next_line l.call_location_iter.next_call_location l.next_inline l.invariant.1 c.loop-next_line-test.true,
      λ X f64 f32 i e.
          line-passed (fixed (columns f64 f32 a.line_rows.columns64.now a.line_rows.columns32.now a.text.now) i a.first_line a.function_idx a.function.lines a.own.others a.own.first a.inlinee_ranges.at a.inlinee_ranges.len a.s.now X (words_of a.tables.now)) l.s l.next_line l.call_location_iter l.next_inline l.current_address (words_of l.tables)
          (l.invariant.2 X f64 f32 i e) c.loop-next_line-test.true c.row-line.result c.row-line.ensures c.if-address-current_address.true,
    )

-- the range becomes a call location
pub loop-current_address-preserved : goal.loop-current_address-preserved
loop-current_address-preserved c =
    let r = c.args.inlinee_ranges in
    let b = c.line_boundaries-line_range.result in
    let l = c.loop-next_line in
    let m = c.loop-current_address in
    let located = c.locate_line-source_location in (
      same_trans located.new.tables m.tables c.insert_call_location.new.tables m.invariant.0
          (same_trans m.tables c.insert_self_range.new.tables c.insert_call_location.new.tables c.insert_self_range.ensures.same c.insert_call_location.ensures.same),
      λ X.
          range_taken input (over_words X) r.at r.len located.result b.end l.s l.next_inline b.start (words_of located.new.tables)
          m.s m.next_inline m.current_address (words_of m.tables) (m.invariant.1 X) c.if-line_range_end-current_address.false c.if-inline_len-next_inline.false
          c.word-inline_start.result c.word-inline_start.ensures (words_of c.insert_self_range.new.tables) c.insert_self_range.ensures.put c.if-line_range_end-inline_start.false
          c.word-inline_end.result c.insert_call_location.result (words_of c.insert_call_location.new.tables) c.put.new.t
          c.word-inline_end.ensures c.insert_call_location.ensures.added c.put.ensures,
    )

-- the line is walked: it is at its end, no inlinee range is left, or the next range starts at or after the line's end
pub loop-next_line-preserved : goal.loop-next_line-preserved
loop-next_line-preserved c =
    let a = c.args in
    let r = a.inlinee_ranges in
    let b = c.line_boundaries-line_range.result in
    let l = c.loop-next_line in
    let m = c.loop-current_address in
    let located = c.locate_line-source_location in
    let found = c.find_call_location-call_location_iter in
    let j = c.if-line_range_end-current_address in
    let i = m.invariant.1 (switches true true) in
    let same : SameTables m.tables j.tables = elim j.branch [
      | then-line_range_end-current_address w ↦ rw w.tables-is (same_refl m.tables)
      | else-line_range_end-current_address+then-inline_len-next_inline w ↦ rw w.tables-is w.insert_range.ensures.same
      | else-line_range_end-current_address+else-inline_len-next_inline+then-line_range_end-inline_start w ↦ rw w.tables-is w.insert_self_range.ensures.same
    ] in
    let stopped : (X : Setup) → Stopped input (over_words X) r.at r.len located.result b.end l.s l.next_inline b.start (words_of located.new.tables) m.s m.next_inline j.current_address (words_of j.tables) = λ X. elim j.branch [
      | then-line_range_end-current_address w ↦ rw (w.tables-is, w.current_address-is)
          (line-ends input (over_words X) r.at r.len located.result b.end l.s l.next_inline b.start (words_of located.new.tables)
          m.s m.next_inline m.current_address (words_of m.tables) (m.invariant.1 X) w.if-line_range_end-current_address.true)
      | else-line_range_end-current_address+then-inline_len-next_inline w ↦ rw (w.tables-is, w.current_address-is)
          (no_range_left input (over_words X) r.at r.len located.result b.end l.s l.next_inline b.start (words_of located.new.tables)
          m.s m.next_inline m.current_address (words_of m.tables) (m.invariant.1 X) w.if-line_range_end-current_address.false w.if-inline_len-next_inline.true
          (words_of w.insert_range.new.tables) w.insert_range.ensures.put)
      | else-line_range_end-current_address+else-inline_len-next_inline+then-line_range_end-inline_start w ↦ rw (w.tables-is, w.current_address-is)
          (range_after input (over_words X) r.at r.len located.result b.end l.s l.next_inline b.start (words_of located.new.tables)
          m.s m.next_inline m.current_address (words_of m.tables) (m.invariant.1 X) w.if-line_range_end-current_address.false w.if-inline_len-next_inline.false
          w.word-inline_start.result w.word-inline_start.ensures (words_of w.insert_self_range.new.tables) w.insert_self_range.ensures.put w.if-line_range_end-inline_start.true)
    ] in (
      same_trans a.tables.now l.tables j.tables l.invariant.0
          (same_trans l.tables located.new.tables j.tables located.ensures.same (same_trans located.new.tables m.tables j.tables m.invariant.0 same)),
      keeps_done a.function.lines a.own.others.at a.own.others.len r.at r.len a.s.now
          l.s l.next_line l.call_location_iter.next_call_location l.next_inline l.invariant.1 c.loop-next_line-test.true
          found.result.next_call_location found.ensures.0 m.s m.next_inline i.kept i.len i.few,
      λ X f64 f32 i e.
          line-walked (fixed (columns f64 f32 a.line_rows.columns64.now a.line_rows.columns32.now a.text.now) i a.first_line a.function_idx a.function.lines a.own.others a.own.first a.inlinee_ranges.at a.inlinee_ranges.len a.s.now X (words_of a.tables.now)) l.s l.next_line l.call_location_iter l.next_inline l.current_address (words_of l.tables)
          (l.invariant.2 X f64 f32 i e) c.loop-next_line-test.true c.row-line.result c.row-line.ensures l.invariant.1.apart b c.line_boundaries-line_range.ensures c.if-address-current_address.false
          c.comp_dir_part-comp_dir.result e found.result found.ensures.0 found.ensures.1
          located.result (words_of located.new.tables) located.ensures.located m.s m.next_inline j.current_address (words_of j.tables) (stopped X),
    )

pub returns-clause-left : goal.returns-clause-left
returns-clause-left c =
    let a = c.args in
    let l = c.loop-next_line in
    λ X f64 f32 i e.
    let k = columns f64 f32 a.line_rows.columns64.now a.line_rows.columns32.now a.text.now in
    left_of X k i a.first_line a.function_idx a.own a.inlinee_ranges a.s.now l.s (words_of a.tables.now) (words_of l.tables) l.next_inline a.function e
    (lines-ended (fixed (columns f64 f32 a.line_rows.columns64.now a.line_rows.columns32.now a.text.now) i a.first_line a.function_idx a.function.lines a.own.others a.own.first a.inlinee_ranges.at a.inlinee_ranges.len a.s.now X (words_of a.tables.now)) l.s l.next_line l.call_location_iter l.next_inline l.current_address (words_of l.tables)
    (l.invariant.2 X f64 f32 i (dir_of k i a.function c.comp_dir_part-comp_dir.result e c.comp_dir_part-comp_dir.ensures)) l.invariant.1 c.loop-next_line-test.false)

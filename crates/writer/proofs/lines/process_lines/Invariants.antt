-- `process_lines` meets its contract. Inner loop: the walk still to come is what was to come (`Inner`); outer loop: the lines still to come are what were to come (`Goes`).
-- Each holds for both switches. Each way out of the inner loop goes on to the next line by itself.
use Prim.Native.Nat.{ℕ, ◌-◌}
use mathlib.Core.Path.{◌≡◌}
use mathlib.Core.List.{List}
use Rattle.model.specs.Converter.{Setup, input}
use Rattle.rows.specs.Columns.{columns}
use Rattle.memory.specs.Memory.{SameTables, words_of}
use Rattle.steps.specs.Steps.{over_words}
use Rattle.steps.proofs.RowTexts.{dir_part}
use Rattle.scratch.proofs.Walks.{Inner}
use Rattle.writer.proofs.LineLaws.{fixed, Kept, Goes}
use Rattle.writer.proofs.lines.process_lines.Given as goal

abbrev pub invariant-loop-current_address : goal.invariant-loop-current_address
invariant-loop-current_address l =
    SameTables l.initial.tables l.tables
    × ((X : Setup) → Inner input (over_words X) l.inline_at l.inline_len l.source_location l.line_range_end l.initial.s l.initial.next_inline l.initial.current_address (words_of l.initial.tables) l.s l.next_inline l.current_address (words_of l.tables))

abbrev pub decreases-loop-current_address : goal.decreases-loop-current_address
decreases-loop-current_address l = l.inline_len - l.next_inline

abbrev pub invariant-loop-next_line : goal.invariant-loop-next_line
invariant-loop-next_line l =
    SameTables l.initial.tables l.tables
    × Kept l.lines l.others l.inline_at l.inline_len l.initial.s l.s l.next_line l.call_location_iter l.next_inline
    × ((X : Setup) (f64 f32 : List ℕ) (i : ℕ) → l.comp_dir ≡ dir_part (columns f64 f32 l.line_rows.columns64.now l.line_rows.columns32.now l.text) i
    → Goes (fixed (columns f64 f32 l.line_rows.columns64.now l.line_rows.columns32.now l.text) i l.first_line l.function_idx l.lines l.others l.initial.call_location_iter.current_call_location l.inline_at l.inline_len l.initial.s X (words_of l.initial.tables)) l.s l.next_line l.call_location_iter l.next_inline l.current_address (words_of l.tables))

-- `comp_dir_part` meets its contract: by whether the part is UTF-8.
use mathlib.Core.Path.{sym, ◌∙◌, ap}
use mathlib.Core.Bool.{Bool, cond}
use Rattle.text.specs.Utf8.{utf8}
use Rattle.steps.specs.Steps.{no_part}
use Rattle.steps.proofs.comp_dir_part.Goals as goal

pub returns-then-is_utf8 : goal.returns-then-is_utf8
returns-then-is_utf8 c = sym (ap (λ (b : Bool). cond b c.args.p no_part) (sym (c.is_utf8.ensures ∙ ap utf8 c.part-t.ensures) ∙ c.if-is_utf8.true))

pub returns : goal.returns
returns c = sym (ap (λ (b : Bool). cond b c.args.p no_part) (sym (c.is_utf8.ensures ∙ ap utf8 c.part-t.ensures) ∙ c.if-is_utf8.false))

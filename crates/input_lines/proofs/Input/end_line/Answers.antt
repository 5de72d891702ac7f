use Rattle.std.proofs.Common.{◌≡◌, ℕ, Option, Some, None, ok_or, refl}
use Rattle.input_lines.specs.Input.{told, whole_line}
use Rattle.input_lines.proofs.Input.end_line.Goals as goal

told-ok : (n : ℕ) (o : Option ℕ) → told n o ≡ Some (ok_or o (record { 0 = n }))
unfolding told
told-ok n (Some a) = refl
told-ok n None = refl

pub returns : goal.returns
unfolding whole_line
returns c = rw (c.after_line.ensures, c.ok_or.ensures.value, c.finish.ensures, told-ok)

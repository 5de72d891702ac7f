use Rattle.std.proofs.Common.{◌∙◌, ◌+◌, ◌*◌, refl, sym, get_or, arith}
use Rattle.slices.specs.Bytes.{le, word_bytes}
use Rattle.slices.proofs.Bytes.{sets-beyond}
use Rattle.raw.proofs.Rows.{word-stored}
use Rattle.raw.proofs.store_words.Goals as goal
use Rattle.raw.proofs.store_words.Goals.{in-Some, in_default}

pub loop-i-init : goal.loop-i-init
unfolding word_bytes
loop-i-init c = refl

pub loop-i-preserved : goal.loop-i-preserved
loop-i-preserved c =
    let a = c.args in
    let i = c.loop-i.i in
    word-stored a.s.now a.words.now a.at i (omega arith) c.loop-i.invariant
    (elim c.match-checked_add.branch [
      | in-Some w ↦ w.s-is ∙ rw w.in-Some.ensures.1 at w.store_u32.ensures
      | in_default w ↦ w.s-is ∙ sym (sets-beyond (le 4 (get_or a.words.now i 0)) c.loop-i.s (a.at + 4 * i) (omega (arith, w.in_default.ensures)))
    ])

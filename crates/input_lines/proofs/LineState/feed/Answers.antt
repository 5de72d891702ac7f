-- The three fields, each as `feed_of` gives it.
use Rattle.std.proofs.Common.{◌≡◌, ℕ, ◌+◌, ◌*◌, ◌%◌, Bool, ◌||◌, cond, ltb, leb, ◌∙◌}
use Rattle.input_lines.specs.declared.LineState.{LineState}
use Rattle.input_lines.specs.Line.{digit_of, feed_of}
use Rattle.input_lines.proofs.Digits.{digit_read, digit-none, one_more}
use Rattle.input_lines.proofs.LineState.feed.Goals as goal

fed-as : (s : LineState) (b n v : ℕ) (t : Bool) → n ≡ cond (ltb s.digits 17) (s.digits + 1) 17 → v ≡ digit_of b % 16 → t ≡ (s.bad || leb 16 (digit_of b))
    → record { digits = n; value = s.value % 1152921504606846976 * 16 + v; bad = t } ≡ feed_of s b
unfolding feed_of
fed-as s b n v t e f g = rw (e, f, g)

pub returns-then-self : goal.returns-then-self
returns-then-self c =
    let a = c.args in
    fed-as a.self a.byte c.min.result c.from-2.result _ (one_more a.self.digits _ _ c.saturating_add.ensures c.min.ensures)
    (c.from-2.ensures ∙ c.unwrap_or.ensures ∙ digit_read a.byte c.to_digit-digit.result (rw c.from.ensures at c.to_digit-digit.ensures.value)) (rw c.if-self.true)

pub returns-else-self : goal.returns-else-self
returns-else-self c =
    let a = c.args in
    fed-as a.self a.byte c.min.result c.from-2.result _ (one_more a.self.digits _ _ c.saturating_add.ensures c.min.ensures)
    (c.from-2.ensures ∙ c.unwrap_or.ensures ∙ digit_read a.byte c.to_digit-digit.result (rw c.from.ensures at c.to_digit-digit.ensures.value))
    (rw c.if-self.false (digit-none a.byte _ _ (rw c.from.ensures at c.to_digit-digit.ensures.value) c.is_none.ensures))

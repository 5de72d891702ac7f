use Rattle.strings.specs.Strings.{find_text, newest_text}
use Rattle.strings.proofs.find.Goals as goal

pub returns : goal.returns
unfolding find_text newest_text
returns c = rw (← c.requires, ← c.head_of.ensures) c.follow.ensures

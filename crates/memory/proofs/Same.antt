-- That the references are still those that were lent goes on from call to call.
use Rattle.std.proofs.Common.{◌≡◌, refl, ◌∙◌}
use Rattle.memory.specs.declared.Tables.{Tables}
use Rattle.memory.specs.Memory.{SameTables}

pub same_refl : (a : Tables) → SameTables a a
same_refl a = (refl, refl, refl, refl, refl, refl)

pub same_trans : (a b c : Tables) → SameTables a b → SameTables b c → SameTables a c
same_trans a b c f g = (g.0 ∙ f.0, g.1 ∙ f.1, g.2 ∙ f.2, g.3 ∙ f.3, g.4 ∙ f.4, g.5 ∙ f.5)

-- What the derived methods of rows give, as the words of a row say it.
use mathlib.Core.Path.{◌≡◌, refl, ap}
use mathlib.Core.Bool.{Bool, true, false, ◌&&◌}
use lib.Dec.{eqb}
use Rattle.tables.specs.Table.{same_row}
use Rattle.tables.specs.declared.Row.{Row}

and_true : (b : Bool) → b ≡ b && true
and_true true = refl
and_true false = refl

abbrev pub equal : Row → Row → Bool
equal x y = eqb x.a y.a && (eqb x.b y.b && (eqb x.c y.c && (eqb x.d y.d && (eqb x.e y.e && eqb x.f y.f))))

pub equal_same : (x y : Row) → equal x y ≡ same_row x y
unfolding same_row
equal_same x y =
    ap (λ v. eqb x.a y.a && (eqb x.b y.b && (eqb x.c y.c && (eqb x.d y.d && (eqb x.e y.e && v))))) (and_true (eqb x.f y.f))

pub zero_is : {r : Row} → (r.a ≡ 0) × ((r.b ≡ 0) × ((r.c ≡ 0) × ((r.d ≡ 0) × ((r.e ≡ 0) × (r.f ≡ 0))))) → r ≡ record { a = 0; b = 0; c = 0; d = 0; e = 0; f = 0 }
zero_is h = λ j. record { a = h.0 j; b = h.1.0 j; c = h.1.1.0 j; d = h.1.1.1.0 j; e = h.1.1.1.1.0 j; f = h.1.1.1.1.1 j }

-- Terms that may be the value of a side's variable: what a scan finds whole and fit converts to a term of such atoms alone.
use Rattle.std.specs.Prelude.{◌≡◌, ℕ, nat_lt, true, false}
use Rattle.lp_calculus.specs.Term.{Term, Atom, constant, integer, text, eigen, logic, param}
use Rattle.lp_calculus.specs.Convert.{Converts}
use Rattle.lp_calculus.specs.Fill.{Within}
use Rattle.lp_model.specs.Scan.{Side, is_side, allows, Scanned, broken, whole}
use Rattle.lp_pattern.specs.Scanning.{all_fit}

-- an allowed eigenconstant, or another variable of no higher level
abbrev pub MayStand : Side → Atom → Type 0
MayStand s (constant c ts) = Unit {0}
MayStand s (integer z) = Unit {0}
MayStand s (text b) = Unit {0}
MayStand s (eigen k) = allows s k ≡ true
MayStand s (logic x l) = (is_side s x l ≡ false) × (nat_lt s.level l ≡ false)
MayStand s (param k t) = Unit {0}

-- with loose indices below d
pub record IsClean (s : Side) (d : ℕ) (t : Term) : Type 0 where
  pub to : Term
  pub converts : Converts t to
  pub within : Within (MayStand s) d to

-- nothing fails, nothing delays, and each pattern fits
abbrev pub IsFit : Side → Scanned → Type 0
IsFit s (broken u) = ⊥
IsFit s (whole u d ps) = (d ≡ false) × (all_fit s ps ≡ true)

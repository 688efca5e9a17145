-- What has no loose index once it is closed had none before.
use Rattle.std.proofs.Common.{ℕ, suc, arith}
use Rattle.lp_calculus.specs.Fill.{Within, fill, raise, at_variables}
use Rattle.lp_calculus.specs.Instance.{instance_term}
use Rattle.lp_calculus.specs.Term.{Term, Atom, index, atom, abs, app}
use Rattle.lp_calculus.specs.Types.{Ty}
use Rattle.lp_term.specs.Spine.{LooseBelow}
use Rattle.lp_model.specs.Pair.{Closing, closed}

-- terms for atoms and types for type variables leave loose indices as they are
loose_filled : (P : Atom → Type 0) (f : Atom → Term) (θ : ℕ → Ty) (d : ℕ) (t : Term) → Within P d (fill f (instance_term θ t)) → LooseBelow 0 d t
loose_filled P f θ d (index i) h = omega (arith, h)
loose_filled P f θ d (atom a) h = tt
loose_filled P f θ d (abs b) h = loose_filled P (raise f) θ (suc d) b h
loose_filled P f θ d (app t u) h = (loose_filled P f θ d t h.0, loose_filled P f θ d u h.1)

pub loose_closed : (P : Atom → Type 0) (c : Closing) (t : Term) → Within P 0 (closed c t) → LooseBelow 0 0 t
loose_closed P c t h = loose_filled P (at_variables c.terms) c.types 0 t h

-- The beta-normal form by steps, and the eigenconstant to which a term comes.
use Rattle.std.specs.Prelude.{ℕ, zero, suc, Option, Some, None, option_map}
use Rattle.lp_calculus.specs.Term.{Term, atom, eigen}
use Rattle.lp_calculus.specs.Convert.{leftmost_step}
use Rattle.lp_calculus.specs.Normal.{eta_normal}

-- the beta-normal form, if fewer than n steps lead there
abbrev pub beta_normal : ℕ → Term → Option Term
beta_normal zero t = None
beta_normal (suc n) t = elim (leftmost_step t) [ None ↦ Some t | Some s ↦ beta_normal n s ]

abbrev pub eigen_of : Term → Option ℕ
eigen_of (atom (eigen k)) = Some k
eigen_of t = None

-- the eigenconstant to which a term comes, if it comes to one. The outer None: more steps are needed
abbrev pub as_eigen : ℕ → Term → Option (Option ℕ)
as_eigen n t = option_map (λ s. eigen_of (eta_normal s)) (beta_normal n t)

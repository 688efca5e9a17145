-- Terms that reduce to one with type variables of Q alone, in the types of its constants and parameters.
use Rattle.std.proofs.Common.{ℕ, subst as transport}
use Rattle.lp_calculus.specs.Term.{Term, Atom}
use Rattle.lp_calculus.specs.Closed.{AllAtoms}
use Rattle.lp_calculus.specs.Instance.{instance_term}
use Rattle.lp_unify_laws.proofs.NewInstances.{reduces_instance}
use Rattle.lp_search_laws.proofs.Families.{Family}
use Rattle.lp_search_laws.proofs.Reducts.{Reduct, atom_reduces, reducts_keep}
use Rattle.lp_search_laws.proofs.RunsKeep.{Any, Good, good_instance, good_values}

abbrev pub IsOver : (Q : ℕ → Type 0) → Atom → Type 0
IsOver Q a = Good Any Q a

abbrev pub ComesOver : (Q : ℕ → Type 0) → Term → Type 0
ComesOver Q t = Reduct (IsOver Q) t

pub over_family : Family ComesOver
over_family = record {
  keeps = λ Q. reducts_keep (IsOver Q) (λ x l. tt) (λ k. tt) (good_values Any Q);
  typed = λ Q R θ f t h. (instance_term θ h.0, reduces_instance θ h.1, good_instance Any Q R θ f h.0 h.2);
  constants = λ Q c ts h. (transport (AllAtoms (IsOver Q)) (atom_reduces h.1) h.2).1;
  parameters = λ Q n T h. transport (AllAtoms (IsOver Q)) (atom_reduces h.1) h.2;
}

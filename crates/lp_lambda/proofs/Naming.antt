-- Terms that are no index are no names.
use Rattle.std.proofs.Common.{◌≡◌, ℕ, List, refl, subst, false}
use Rattle.lp_calculus.specs.Term.{Term, index, atom, abs, app}
use Rattle.lp_term.specs.Node.{TermBelow}
use Rattle.lp_term.specs.Nodes.{Nodes, tree, node_tree}
use Rattle.lp_term.specs.Shapes.{term_shape}
use Rattle.lp_term.specs.declared.node.TermNode.{TermNode}
use Rattle.lp_model.specs.inner.Connected.{IsApplication}
use Rattle.lp_model.proofs.Connectives.{is_applied}
use Rattle.lp_lambda.specs.Pattern.{is_index, is_name}
use Rattle.lp_lambda.specs.declared.walk.Binder.{Binder}

abbrev IsNoIndex : Term → Type 0
IsNoIndex (index i) = ⊥
IsNoIndex (atom a) = Unit {0}
IsNoIndex (abs b) = Unit {0}
IsNoIndex (app t u) = Unit {0}

applied_no_index : (t : Term) → IsApplication t → IsNoIndex t
applied_no_index (index i) a = absurd a
applied_no_index (atom x) a = tt
applied_no_index (abs b) a = tt
applied_no_index (app t u) a = tt

other_node : (b : Nodes) (n m : ℕ) (node : TermNode) (t : Term) → TermBelow n m (term_shape node) → node_tree b (term_shape node) ≡ t → ((i : ℕ) → node ≡ TermNode.Index i → ⊥) → IsNoIndex t
other_node b n m (TermNode.Index i) t o e h = absurd (h i refl)
other_node b n m (TermNode.Const c ts) t o e h = subst IsNoIndex e tt
other_node b n m (TermNode.Int z) t o e h = subst IsNoIndex e tt
other_node b n m (TermNode.Text s) t o e h = subst IsNoIndex e tt
other_node b n m (TermNode.Eigen k) t o e h = subst IsNoIndex e tt
other_node b n m (TermNode.Logic id level) t o e h = subst IsNoIndex e tt
other_node b n m (TermNode.Param k x) t o e h = subst IsNoIndex e tt
other_node b n m (TermNode.Abs x) t o e h = subst IsNoIndex e tt
other_node b n m (TermNode.App f ids) t o e h = applied_no_index t (is_applied b t (tree b f.0) ids.now o.2 e)

not_index : (i : ℕ) (t : Term) → IsNoIndex t → false ≡ is_index i t
not_index i (index j) n = absurd n
not_index i (atom a) n = refl
not_index i (abs b) n = refl
not_index i (app t u) n = refl

not_name : (bs : List Binder) (i : ℕ) (t : Term) (us : List Term) → IsNoIndex t → false ≡ is_name bs i t us
not_name bs i (index j) us n = absurd n
not_name bs i (atom a) us n = refl
not_name bs i (abs b) us n = refl
not_name bs i (app t u) us n = refl

module _ (b : Nodes) (n m : ℕ) (node : TermNode) (t : Term) (o : TermBelow n m (term_shape node)) (e : node_tree b (term_shape node) ≡ t) (h : (i : ℕ) → node ≡ TermNode.Index i → ⊥) where
  pub other_index : (i : ℕ) → false ≡ is_index i t
  other_index i = not_index i t (other_node b n m node t o e h)

  pub other_name : (bs : List Binder) (i : ℕ) (us : List Term) → false ≡ is_name bs i t us
  other_name bs i us = not_name bs i t us (other_node b n m node t o e h)

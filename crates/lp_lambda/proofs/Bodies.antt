-- The bodies of quantifiers that stand on no abstraction.
use Rattle.std.proofs.Common.{◌≡◌, ℕ, ◌<◌, ◌≤◌, ◌^◌, length, refl, sym, ap, ◌∙◌, subst, arith}
use Rattle.lp_calculus.specs.Term.{Term, index, atom, abs, app, shift}
use Rattle.lp_term.specs.Node.{TermBelow}
use Rattle.lp_term.specs.Nodes.{Nodes, IsSound, tree, node_tree}
use Rattle.lp_term.specs.Shapes.{term_shape}
use Rattle.lp_term.specs.Walk.{Everywhere}
use Rattle.lp_term.specs.Raise.{FitsRaised}
use Rattle.lp_term.specs.Spine.{LooseBelow, IsLoose}
use Rattle.lp_term.specs.declared.node.TermId.{TermId}
use Rattle.lp_term.specs.declared.node.TermNode.{TermNode}
use Rattle.lp_term.proofs.Loose.{everywhere_both, below_height, height_below}
use Rattle.lp_standard.specs.Connectives.{body_of}
use Rattle.lp_model.specs.inner.Connected.{IsApplication}
use Rattle.lp_model.proofs.Connectives.{is_applied}

abbrev IsApplied : Term → Type 0
IsApplied t = body_of t ≡ app (shift 0 1 t) (index 0)

applied_body : (t : Term) → IsApplication t → IsApplied t
applied_body (index i) a = absurd a
applied_body (atom x) a = absurd a
applied_body (abs b) a = absurd a
applied_body (app t u) a = refl

pub plain_body : (b : Nodes) (n m : ℕ) (node : TermNode) (t : Term) → TermBelow n m (term_shape node) → node_tree b (term_shape node) ≡ t → ((x : TermId) → node ≡ TermNode.Abs x → ⊥) → body_of t ≡ app (shift 0 1 t) (index 0)
plain_body b n m (TermNode.Index i) t o e h = subst IsApplied e refl
plain_body b n m (TermNode.Const c ts) t o e h = subst IsApplied e refl
plain_body b n m (TermNode.Int z) t o e h = subst IsApplied e refl
plain_body b n m (TermNode.Text s) t o e h = subst IsApplied e refl
plain_body b n m (TermNode.Eigen k) t o e h = subst IsApplied e refl
plain_body b n m (TermNode.Logic id level) t o e h = subst IsApplied e refl
plain_body b n m (TermNode.Param k x) t o e h = subst IsApplied e refl
plain_body b n m (TermNode.Abs x) t o e h = absurd (h x refl)
plain_body b n m (TermNode.App f ids) t o e h = applied_body t (is_applied b t (tree b f.0) ids.now o.2 e)

pub put_body : (t s u x : Term) → body_of t ≡ app (shift 0 1 t) (index 0) → u ≡ shift 0 1 t → x ≡ index 0 → s ≡ app u x → s ≡ body_of t
put_body t s u x h e f g = g ∙ ap (λ z. app z x) e ∙ ap (app (shift 0 1 t)) f ∙ sym h

-- the condition of a raise
pub fits_raised : (b : Nodes) → IsSound b → (i : ℕ) → i < length b.terms → length b.terms < 2 ^ 62 → LooseBelow 4294967296 0 (tree b i) → Everywhere (FitsRaised 1) 0 (tree b i)
fits_raised b s i h few l =
    everywhere_both (IsLoose 4294967296) (λ e j. e ≤ i) (FitsRaised 1) (λ e j p q r. omega arith) 0 (tree b i) l (below_height i 0 (tree b i) (omega (arith, height_below b s i h)))

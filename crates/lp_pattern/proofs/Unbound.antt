-- Nothing is bound: terms are read as they are, and the lists of bindings read as the bindings do.
use Rattle.std.proofs.Common.{◌≡◌, ℕ, List, [], ◌∷◌, map, ◌∙◌, refl, sym, ap, subst as transport, Some, nat_eq}
use mathlib.Core.Path.{fun_ext}
use Rattle.std.specs.Map.{lookup}
use Rattle.lp_calculus.specs.Types.{Ty, var, instance}
use Rattle.lp_calculus.specs.Term.{Term, Atom, index, atom, abs, app, constant, integer, text, eigen, logic, param}
use Rattle.lp_calculus.specs.Fill.{fill, raise, at_variables}
use Rattle.lp_calculus.specs.Instance.{instance_term}
use Rattle.lp_type_laws.proofs.Types.{instance-var}
use Rattle.lp_term.specs.Nodes.{Nodes, tree}
use Rattle.lp_term.specs.declared.node.TermId.{TermId}
use Rattle.lp_term.specs.declared.node.TypeId.{TypeId}
use Rattle.lp_model.specs.Pair.{closed}
use Rattle.lp_model.specs.Unify.{Unified, Fail, Solution, Spent}
use Rattle.lp_model.specs.declared.answer.Pair.{Pair as Numbers}
use Rattle.lp_pattern.specs.declared.bindings.Bindings.{Bindings}
use Rattle.lp_pattern.specs.declared.unify.Solved.{Solved}
use Rattle.lp_pattern.specs.Turning.{IsOpenReading, ArePairsFor}
use Rattle.lp_pattern.specs.Under.{ValueIs, TypeIs}
use Rattle.lp_pattern.specs.Unifying.{pair_of, unbound, IsSolutionUnder, IsSolution}

types_as_is : (ts : List Ty) → map (instance var) ts ≡ ts
types_as_is [] = refl
types_as_is (t ∷ ts) = λ i. instance-var t i ∷ types_as_is ts i

raised_is : (a : Atom) → raise (at_variables unbound.terms) a ≡ at_variables unbound.terms a
raised_is (constant c ts) = refl
raised_is (integer z) = refl
raised_is (text s) = refl
raised_is (eigen k) = refl
raised_is (logic x l) = refl
raised_is (param k t) = refl

pub unbound_is : (t : Term) → closed unbound t ≡ t
unbound_is (index i) = refl
unbound_is (atom (constant c ts)) = ap (λ l. atom (constant c l)) (types_as_is ts)
unbound_is (atom (integer z)) = refl
unbound_is (atom (text s)) = refl
unbound_is (atom (eigen k)) = refl
unbound_is (atom (logic x l)) = refl
unbound_is (atom (param k t)) = ap (λ u. atom (param k u)) (instance-var t)
unbound_is (abs b) = ap abs (ap (λ f. fill f (instance_term var b)) (fun_ext raised_is) ∙ unbound_is b)
unbound_is (app t u) = λ i. app (unbound_is t i) (unbound_is u i)

-- a reading of no bindings
value_unbound : (b : Nodes) (x : ℕ) (l : List (ℕ × TermId)) → l ≡ [] → ValueIs b unbound x (lookup (nat_eq x) l)
value_unbound b x l e = transport (λ y. ValueIs b unbound x (lookup (nat_eq x) y)) (sym e) (λ m. refl)

type_unbound : (b : Nodes) (x : ℕ) (l : List (ℕ × TypeId)) → l ≡ [] → TypeIs b var x (lookup (nat_eq x) l)
type_unbound b x l e = transport (λ y. TypeIs b var x (lookup (nat_eq x) y)) (sym e) refl

pub unbound_reading : (b : Nodes) (s : Bindings) (next : ℕ) → s.terms.entries ≡ [] → s.types.entries ≡ [] → IsOpenReading b s next unbound
unbound_reading b s next e f = record {
  reading = record { terms = λ x. value_unbound b x s.terms.entries e; types = λ x. type_unbound b x s.types.entries f };
  shut = λ x l. refl;
  still = λ x. refl;
  unbound = λ x l. ap (lookup (nat_eq x)) e;
}

-- pairs are those of the bank
pub pairs_unbound : (b : Nodes) (qs : List Numbers) → ArePairsFor b unbound qs (map (pair_of b) qs)
pairs_unbound b [] = tt
pairs_unbound b (q ∷ qs) = (
  record {
    stands = refl;
    left = (0, ap (λ x. Some x) (sym (unbound_is (tree b q.left.0))));
    right = (0, ap (λ x. Some x) (sym (unbound_is (tree b q.right.0))));
  },
  pairs_unbound b qs,
)

-- the lists of the bindings
pub listed : (lv : ℕ → ℕ) (next next' : ℕ) (b : Nodes) (s : Bindings) (found : Solved) (u : Unified) → found.bindings.items ≡ s.terms.entries → found.types.items ≡ s.types.entries → IsSolutionUnder lv next unbound b s next' found.residual.items u →
    IsSolution lv next b next' found u
listed lv next next' b s found Fail e f h = absurd h
listed lv next next' b s found Spent e f h = absurd h
listed lv next next' b s found (Solution st) e f h = (
  h.0,
  record {
    terms = λ x. transport (λ y. ValueIs b h.0 x (lookup (nat_eq x) y)) (sym e) (h.1.reading.terms x);
    types = λ x. transport (λ y. TypeIs b h.0.types x (lookup (nat_eq x) y)) (sym f) (h.1.reading.types x);
  },
  h.2,
)

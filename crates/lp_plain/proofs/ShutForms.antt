-- A connective whose parts are known as the bindings read them has no loose index.
use Rattle.std.proofs.Common.{ℕ, suc, arith}
use Rattle.std.specs.Prelude.{◌<◌, length}
use Rattle.lp_calculus.specs.Fill.{Within, at_variables, fill, raise}
use Rattle.lp_calculus.specs.Instance.{instance_term}
use Rattle.lp_calculus.specs.Term.{Term, Atom, index, atom, abs, app}
use Rattle.lp_calculus.specs.Types.{Ty}
use Rattle.lp_standard.specs.Connectives.{Connective}
use Rattle.lp_standard.specs.Connectives as connective
use Rattle.lp_term.specs.Nodes.{Nodes, tree}
use Rattle.lp_term.specs.declared.node.TermId.{TermId}
use Rattle.lp_model.specs.Connected.{IsConnectiveIn, connective_in}
use Rattle.lp_model.specs.Pair.{Closing, closed}
use Rattle.lp_model.specs.declared.connective.Connective.{Connective as Coded}
use Rattle.lp_model.specs.declared.connective.Connective.TheVariants as code
use Rattle.lp_plain.specs.WrittenSearch.{IsShut, IsShutIn}
use Rattle.lp_plain.proofs.ClosedForms.{IsFormUnder, a_cut, a_not, a_pi, a_sigma, a_truth, an_and, an_atom, an_implies, an_or}
use Rattle.lp_plain.proofs.KnownForms.{IsKnownForm, body_known, from_body}
use Rattle.lp_plain.proofs.TrialParts.{within_loose}

abbrev Any : Atom → Type 0
Any a = Unit {0}

filled_back : (P : Atom → Type 0) (f : Atom → Term) (θ : ℕ → Ty) (d : ℕ) (t : Term) → Within P d (fill f (instance_term θ t)) → Within Any d t
filled_back P f θ d (index i) h = h
filled_back P f θ d (atom a) h = tt
filled_back P f θ d (abs b) h = filled_back P (raise f) θ (suc d) b h
filled_back P f θ d (app t u) h = (filled_back P f θ d t h.0, filled_back P f θ d u h.1)

closed_back : (P : Atom → Type 0) (z : Closing) (t : Term) → Within P 0 (closed z t) → Within Any 0 t
closed_back P z t h = filled_back P (at_variables z.terms) z.types 0 t h

-- no part of it has a loose index
abbrev IsLooseForm : Connective → Type 0
IsLooseForm connective.True = Unit {0}
IsLooseForm connective.Cut = Unit {0}
IsLooseForm (connective.And l r) = Within Any 0 l × Within Any 0 r
IsLooseForm (connective.Or l r) = Within Any 0 l × Within Any 0 r
IsLooseForm (connective.Implies l r) = Unit {0}
IsLooseForm (connective.ForAll T b) = Within Any 1 b
IsLooseForm (connective.Exists T b) = Within Any 1 b
IsLooseForm (connective.Not g) = Unit {0}
IsLooseForm connective.Atomic = Unit {0}

loose_form : (P : Atom → Type 0) (z : Closing) {g g' : Connective} → IsFormUnder z g g' → IsKnownForm P g' → IsLooseForm g
loose_form P z a_truth k = tt
loose_form P z a_cut k = tt
loose_form P z (an_and l r) k = (closed_back P z l k.0, closed_back P z r k.1)
loose_form P z (an_or l r) k = (closed_back P z l k.0, closed_back P z r k.1)
loose_form P z (an_implies l r) k = tt
loose_form P z (a_pi T s) k = body_known Any s (closed_back P z s (from_body P (closed z s) k))
loose_form P z (a_sigma T s) k = body_known Any s (closed_back P z s (from_body P (closed z s) k))
loose_form P z (a_not g) k = tt
loose_form P z an_atom k = tt

shut : (b : Nodes) (u : TermId) → u.0 < length b.terms → Within Any 0 (tree b u.0) → IsShut b u
shut b u l w = (l, within_loose Any 0 0 0 (tree b u.0) (omega arith) w)

shut_in : (b : Nodes) (k : Coded) → IsConnectiveIn b k → IsLooseForm (connective_in b k) → IsShutIn b k
shut_in b code.True i w = tt
shut_in b code.Cut i w = tt
shut_in b (code.And l r) i w = (shut b l i.0 w.0, shut b r i.1 w.1)
shut_in b (code.Or l r) i w = (shut b l i.0 w.0, shut b r i.1 w.1)
shut_in b (code.Implies c g) i w = tt
shut_in b (code.ForAll T t) i w = shut b t i.1 (from_body Any (tree b t.0) w)
shut_in b (code.Exists T t) i w = shut b t i.1 (from_body Any (tree b t.0) w)
shut_in b (code.Not g) i w = tt
shut_in b code.Atomic i w = tt

pub form_shut : (P : Atom → Type 0) (z : Closing) (b : Nodes) (k : Coded) (g' : Connective) → IsConnectiveIn b k → IsFormUnder z (connective_in b k) g' → IsKnownForm P g' → IsShutIn b k
form_shut P z b k g' i f h = shut_in b k i (loose_form P z f h)

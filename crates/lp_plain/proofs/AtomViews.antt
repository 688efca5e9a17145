-- What the definition's look at an atomic goal tells, by what the goal is.
use Rattle.std.proofs.Common.{◌≡◌, ℕ, List, [], ◌∷◌, map, refl, sym, ap, ◌∙◌, subst, false}
use Rattle.lp_calculus.specs.Types.{Ty, instance}
use Rattle.lp_calculus.specs.Term.{Term, index, atom, abs, app, constant, integer, text, eigen, logic, param}
use Rattle.lp_calculus.specs.Spine.{arguments, head_of}
use Rattle.lp_standard.specs.Connectives as connective
use Rattle.lp_term.specs.Nodes.{Nodes}
use Rattle.lp_model.specs.Branch.{Branch, Entry, Task}
use Rattle.lp_model.specs.Flat.{Clause}
use Rattle.lp_model.specs.Pair.{Closing, closed}
use Rattle.lp_model.specs.Search.{look_atom, look_form}
use Rattle.lp_model.specs.Skeleton.{GoalName, Takes, variable}
use Rattle.lp_pattern.specs.Seen.{IsEndedHead}
use Rattle.lp_pattern.specs.Under.{IsReading, ValueIs}
use Rattle.lp_pattern.specs.declared.bindings.Bindings.{Bindings}
use Rattle.lp_plain.specs.AtRunTime.{IsNoForm}
use Rattle.lp_plain.specs.Forms.{is_named}
use Rattle.lp_plain.specs.Trials.{IsCallHead}
use Rattle.lp_plain.proofs.ClosedForms.{IsFormUnder, a_truth, a_cut, an_and, an_or, an_implies, a_pi, a_sigma, a_not, an_atom}
use Rattle.lp_plain.proofs.HeadLooks.{head_closes}
use Rattle.lp_plain.proofs.Trials.{arguments_closed}

-- an atom stays one as the bindings read it, and so does what no positive term is
pub atom_stays : (z : Closing) {g g' : connective.Connective} → IsFormUnder z g g' → g ≡ connective.Atomic → g' ≡ connective.Atomic
atom_stays z a_truth e = absurd (cc)
atom_stays z a_cut e = absurd (cc)
atom_stays z (an_and l r) e = absurd (cc)
atom_stays z (an_or l r) e = absurd (cc)
atom_stays z (an_implies l r) e = absurd (cc)
atom_stays z (a_pi T s) e = absurd (cc)
atom_stays z (a_sigma T s) e = absurd (cc)
atom_stays z (a_not g) e = absurd (cc)
atom_stays z an_atom e = refl

pub no_form_stays : (z : Closing) {g g' : connective.Connective} → IsFormUnder z g g' → IsNoForm g → IsNoForm g'
no_form_stays z a_truth e = absurd e
no_form_stays z a_cut e = tt
no_form_stays z (an_and l r) e = absurd e
no_form_stays z (an_or l r) e = absurd e
no_form_stays z (an_implies l r) e = tt
no_form_stays z (a_pi T s) e = absurd e
no_form_stays z (a_sigma T s) e = absurd e
no_form_stays z (a_not g) e = tt
no_form_stays z an_atom e = absurd e

-- its head and its arguments
pub constant_closed : (z : Closing) (x : Term) (c : ℕ) (ts : List Ty) → head_of x ≡ atom (constant c ts) → head_of (closed z x) ≡ atom (constant c (map (instance z.types) ts))
constant_closed z x c ts e = head_closes z x (subst IsCallHead (sym e) tt) ∙ ap (closed z) e

pub two_closed : (z : Closing) (x l r : Term) → IsCallHead (head_of x) → arguments x ≡ l ∷ r ∷ [] → arguments (closed z x) ≡ closed z l ∷ closed z r ∷ []
two_closed z x l r h e = arguments_closed z x [] h ∙ ap (map (closed z)) e

module _ (b : Nodes) (s : Bindings) (z : Closing) (y : IsReading b s z) where
  variable_stays : (i l : ℕ) → IsEndedHead s (atom (logic i l)) → head_of (closed z (atom (logic i l))) ≡ atom (logic i l)
  variable_stays i l q = ap head_of (subst (λ o. ValueIs b z i o) q (y.terms i) l)

  pub free_closed : (x : Term) (i l : ℕ) → head_of x ≡ atom (logic i l) → IsEndedHead s x → head_of (closed z x) ≡ atom (logic i l)
  free_closed (index j) i l e q = absurd (cc)
  free_closed (atom a) i l e q = subst (λ t. IsEndedHead s t → head_of (closed z t) ≡ atom (logic i l)) (sym e) (variable_stays i l) q
  free_closed (abs c) i l e q = absurd q
  free_closed (app f u) i l e q = free_closed f i l e q

  pub unnamed_closed : (x : Term) → is_named (head_of x) ≡ false → IsEndedHead s x → is_named (head_of (closed z x)) ≡ false
  unnamed_closed (index j) e q = refl
  unnamed_closed (atom (constant c ts)) e q = absurd (cc)
  unnamed_closed (atom (integer k)) e q = refl
  unnamed_closed (atom (text t)) e q = refl
  unnamed_closed (atom (eigen k)) e q = absurd (cc)
  unnamed_closed (atom (logic i l)) e q = absurd (cc)
  unnamed_closed (atom (param k T)) e q = refl
  unnamed_closed (abs c) e q = absurd q
  unnamed_closed (app f u) e q = unnamed_closed f e q

module _ (u n : ℕ) (P : List Clause) (height : ℕ) (e : Entry) (b : Branch) (t : Term) where
  -- what no well-typed goal is
  pub unnamed_taken : (hd : Term) → is_named hd ≡ false → look_atom u n P height e b t hd ≡ Takes variable []
  unnamed_taken (index i) q = refl
  unnamed_taken (atom (constant c ts)) q = absurd (cc)
  unnamed_taken (atom (integer k)) q = refl
  unnamed_taken (atom (text s)) q = refl
  unnamed_taken (atom (eigen k)) q = absurd (cc)
  unnamed_taken (atom (logic x l)) q = absurd (cc)
  unnamed_taken (atom (param k T)) q = refl
  unnamed_taken (abs c) q = refl
  unnamed_taken (app f a) q = refl

  pub no_form_taken : (g : connective.Connective) → IsNoForm g → look_form u n P height e b t g ≡ Takes variable []
  no_form_taken connective.Cut q = refl
  no_form_taken (connective.Implies c g) q = refl
  no_form_taken (connective.Not g) q = refl
  no_form_taken connective.True q = absurd q
  no_form_taken (connective.And l r) q = absurd q
  no_form_taken (connective.Or l r) q = absurd q
  no_form_taken (connective.ForAll T s) q = absurd q
  no_form_taken (connective.Exists T s) q = absurd q
  no_form_taken connective.Atomic q = absurd q

  -- each takes a step
  pub atom_taken : (hd : Term) → (name : GoalName) × (ts : List Task) × (look_atom u n P height e b t hd ≡ Takes name ts)
  atom_taken (index i) = (variable, [], refl)
  atom_taken (atom (constant c ts)) = (_, _, refl)
  atom_taken (atom (integer k)) = (variable, [], refl)
  atom_taken (atom (text s)) = (variable, [], refl)
  atom_taken (atom (eigen k)) = (_, _, refl)
  atom_taken (atom (logic x l)) = (_, _, refl)
  atom_taken (atom (param k T)) = (variable, [], refl)
  atom_taken (abs c) = (variable, [], refl)
  atom_taken (app f a) = (variable, [], refl)

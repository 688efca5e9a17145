-- What a closing keeps: reduction, formulas, and terms without the variable that is changed.
use Rattle.std.proofs.Common.{◌≡◌, ℕ, suc, List, [], length, ◌∙◌, refl, sym, ap, subst as transport, arith, true, nat_eq, if◌then◌else◌}
use Rattle.std.specs.Prelude.{◌&&◌}
use Rattle.std.proofs.lemmas.Bool.Decides.{nat_tests}
use Rattle.lp_calculus.specs.Types.{Ty}
use Rattle.lp_calculus.specs.Term.{Term, Atom, index, atom, abs, app, shift, substitute, constant, integer, text, eigen, logic, param}
use Rattle.lp_calculus.specs.Convert.{ReducesTo, done, then_step, here, by_beta}
use Rattle.lp_calculus.specs.Fill.{Within, close, at_variables}
use Rattle.lp_calculus.specs.Instance.{instance_atom, instance_term}
use Rattle.lp_calculus.specs.Typing.{o_type, atom_type}
use Rattle.lp_calculus.specs.Closed.{IsClosedAtom}
use Rattle.lp_calculus.proofs.Fills.{fill_same}
use Rattle.lp_calculus.proofs.Steps.{step_fill, within_reduces}
use Rattle.lp_calculus.proofs.Subject.{typed_reduces}
use Rattle.lp_calculus.proofs.Commutations.{substitute_shift}
use Rattle.lp_calculus.proofs.Plain.{substitute-subst}
use Rattle.lp_model.specs.Pair.{Closing, closed}
use Rattle.lp_model.specs.Proofs.{Declared, under, IsFormula}
use Rattle.lp_standard.specs.Connectives.{body_of}
use Rattle.lp_search_laws.specs.Holds.{with_value, IsOther, IsUnused}
use Rattle.lp_unify_laws.proofs.NewInstances.{reduces_instance}

fill_reduces : (σ : ℕ → ℕ → Term) {t u : Term} → ReducesTo t u → ReducesTo (close σ t) (close σ u)
fill_reduces σ (done t) = done (close σ t)
fill_reduces σ (then_step p ps) = then_step (step_fill (at_variables σ) p) (fill_reduces σ ps)

pub closed_reduces : (c : Closing) {t u : Term} → ReducesTo t u → ReducesTo (closed c t) (closed c u)
closed_reduces c r = fill_reduces c.terms (reduces_instance c.types r)

pub formula_reduces : (d : Declared) (E : List Ty) {t u : Term} → ReducesTo t u → IsFormula d E t → IsFormula d E u
formula_reduces d E r f = record { typed = typed_reduces (atom_type (under d E)) [] r o_type f.typed; closed = within_reduces (IsClosedAtom (length E)) 0 r f.closed }

-- a quantifier's body, at a term
raised_body : (u t : Term) → substitute u (app (shift 0 1 t) (index 0)) ≡ app t u
raised_body u t = λ i. app (substitute_shift u t i) (substitute-subst u (index 0) i)

same_term : {t u : Term} → t ≡ u → ReducesTo t u
same_term {t} e = transport (ReducesTo t) e (done t)

pub body_opens : (a u : Term) → ReducesTo (app a u) (substitute u (body_of a))
body_opens (abs b) u = then_step (here (by_beta b u)) (done (substitute u b))
body_opens (index i) u = same_term (sym (raised_body u (index i)))
body_opens (atom a) u = same_term (λ i. app (atom a) (sym (substitute-subst u (index 0)) i))
body_opens (app t v) u = same_term (sym (raised_body u (app t v)))

-- a variable that is not there
other_instance : (x l : ℕ) (θ : ℕ → Ty) (a : Atom) → IsOther x l a → IsOther x l (instance_atom θ a)
other_instance x l θ (constant c us) h = tt
other_instance x l θ (integer z) h = tt
other_instance x l θ (text s) h = tt
other_instance x l θ (eigen k) h = tt
other_instance x l θ (logic y m) h = h
other_instance x l θ (param k T) h = tt

unused_instance : (x l : ℕ) (θ : ℕ → Ty) (n : ℕ) (t : Term) → Within (IsOther x l) n t → Within (IsOther x l) n (instance_term θ t)
unused_instance x l θ n (index i) h = h
unused_instance x l θ n (atom a) h = other_instance x l θ a h
unused_instance x l θ n (abs b) h = unused_instance x l θ (suc n) b h
unused_instance x l θ n (app t u) h = (unused_instance x l θ n t h.0, unused_instance x l θ n u h.1)

other_value : (c : Closing) (x l : ℕ) (w : Term) (a : Atom) → IsOther x l a → at_variables (with_value c x l w).terms a ≡ at_variables c.terms a
other_value c x l w (logic y m) h = ap (λ b. if b then w else c.terms y m) h
other_value c x l w (constant k us) h = refl
other_value c x l w (integer z) h = refl
other_value c x l w (text s) h = refl
other_value c x l w (eigen k) h = refl
other_value c x l w (param k T) h = refl

pub unused_closed : (c : Closing) (x l : ℕ) (w t : Term) → IsUnused x l t → closed (with_value c x l w) t ≡ closed c t
unused_closed c x l w t h = fill_same (IsOther x l) (at_variables (with_value c x l w).terms) (at_variables c.terms) (other_value c x l w) 0 (instance_term c.types t) (unused_instance x l c.types 0 t h)

pub value_at : (c : Closing) (x l : ℕ) (w : Term) → closed (with_value c x l w) (atom (logic x l)) ≡ w
value_at c x l w =
    let p : nat_eq x x ≡ true = grind (arith, nat_tests) in
    let q : nat_eq l l ≡ true = grind (arith, nat_tests) in
    ap (λ b. if b && nat_eq l l then w else c.terms x l) p ∙ ap (λ b. if b then w else c.terms x l) q

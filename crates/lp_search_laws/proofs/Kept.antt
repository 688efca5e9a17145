-- A term under a closing converts to the term with the bindings under the closing that was kept.
use Rattle.std.proofs.Common.{◌≡◌, ℕ, suc, List, length, Some, slice_get, ◌∙◌, sym, ap, subst as transport, arith}
use mathlib.Core.Path.{fun_ext}
use Rattle.lp_calculus.specs.Types.{Ty}
use Rattle.lp_calculus.specs.Term.{Term, Atom, index, atom, abs, app, constant, integer, text, eigen, logic, param}
use Rattle.lp_calculus.specs.Convert.{Converts, same}
use Rattle.lp_calculus.specs.Fill.{Within, Binding, close, at_variables, put_all}
use Rattle.lp_calculus.specs.Instance.{instance_term, instance_atom}
use Rattle.lp_calculus.proofs.Fills.{within_more}
use Rattle.lp_calculus.proofs.Steps.{converts_on, converts_is, converts_sym, converts_atoms}
use Rattle.lp_model.specs.Pair.{Pair, Closing, closed}
use Rattle.lp_model.specs.Flatten.{ClauseFormula}
use Rattle.lp_model.specs.Proofs.{Declared, IsFormula, Leaves}
use Rattle.lp_model.specs.Answers.{Variable}
use Rattle.lp_unify_laws.specs.Solutions.{through_bindings, KeptClosing}
use Rattle.lp_unify_laws.proofs.Scopes.{variable_of}
use Rattle.lp_unify_laws.proofs.Throughs.{through_close}
use Rattle.lp_unify_laws.proofs.TypedBindings.{IsAtomOf, term_atoms}
use Rattle.lp_unify_laws.proofs.PairLists.{put_all_instance}
use Rattle.lp_unify_laws.proofs.Runs.{bindings_at}
use Rattle.lp_unify_laws.proofs.Laws.{gives_through}
use Rattle.lp_proof_laws.proofs.Uniform.Uniforms.{by_conversion}
use Rattle.lp_search_laws.specs.Holds.{Holds, IsTyped}

-- a variable that stands there is one of V, at its own level
abbrev pub IsVariableOf : List Variable → Atom → Type 0
IsVariableOf V (logic x l) = (v : Variable) × (slice_get V x ≡ Some v) × (l ≡ length v.scope)
IsVariableOf V (constant c ts) = Unit {0}
IsVariableOf V (integer z) = Unit {0}
IsVariableOf V (text s) = Unit {0}
IsVariableOf V (eigen k) = Unit {0}
IsVariableOf V (param k T) = Unit {0}

-- a variable of V at its own level
pub variable_atom : (d : Declared) (E : List Ty) (V : List Variable) (a : Atom) → IsAtomOf d E V a → IsVariableOf V a
variable_atom d E V (logic x l) h = let v = variable_of V x l h.1.0 h.1.1 in (v.variable, v.is, v.level)
variable_atom d E V (constant c ts) h = tt
variable_atom d E V (integer z) h = tt
variable_atom d E V (text s) h = tt
variable_atom d E V (eigen k) h = tt
variable_atom d E V (param k T) h = tt

variable_instance : (V : List Variable) (κ : ℕ → Ty) (a : Atom) → IsVariableOf V a → IsVariableOf V (instance_atom κ a)
variable_instance V κ (logic x l) h = h
variable_instance V κ (constant c ts) h = tt
variable_instance V κ (integer z) h = tt
variable_instance V κ (text s) h = tt
variable_instance V κ (eigen k) h = tt
variable_instance V κ (param k T) h = tt

pub variables_instance : (V : List Variable) (κ : ℕ → Ty) (n : ℕ) (t : Term) → Within (IsVariableOf V) n t → Within (IsVariableOf V) n (instance_term κ t)
variables_instance V κ n (index i) h = h
variables_instance V κ n (atom a) h = variable_instance V κ a h
variables_instance V κ n (abs b) h = variables_instance V κ (suc n) b h
variables_instance V κ n (app t u) h = (variables_instance V κ n t h.0, variables_instance V κ n u h.1)

atom_goes : (d : Declared) (V W : List Variable) (c : Closing) (bs : List Binding) (ps : List Pair) → (k : KeptClosing d V W c bs ps) → (a : Atom) → IsVariableOf V a → Converts (at_variables c.terms a) (at_variables (through_bindings bs k.closing).terms a)
atom_goes d V W c bs ps k (logic x l) h = transport (λ n. Converts (c.terms x n) ((through_bindings bs k.closing).terms x n)) (sym h.2) (k.gives x h.0 h.1)
atom_goes d V W c bs ps k (constant n ts) h = same (atom (constant n ts))
atom_goes d V W c bs ps k (integer z) h = same (atom (integer z))
atom_goes d V W c bs ps k (text s) h = same (atom (text s))
atom_goes d V W c bs ps k (eigen n) h = same (atom (eigen n))
atom_goes d V W c bs ps k (param n T) h = same (atom (param n T))

pub through_term : (z : Closing) (bs : List Binding) (t : Term) → close (through_bindings bs z).terms (instance_term z.types t) ≡ closed z (put_all bs t)
through_term z bs t =
    ap (λ σ. close σ (instance_term z.types t)) (sym (fun_ext (λ x. fun_ext (λ l. gives_through z.types z.terms bs x l)))) ∙
    sym (through_close (bindings_at z.types bs) z.terms (instance_term z.types t)) ∙ ap (close z.terms) (put_all_instance z.types bs t)

goes : (d : Declared) (V W : List Variable) (c : Closing) (bs : List Binding) (ps : List Pair) → (k : KeptClosing d V W c bs ps) → (t : Term) → Within (IsVariableOf V) 0 t → Converts (closed c t) (closed k.closing (put_all bs t))
goes d V W c bs ps k t w =
    let κ = c.types in
    let τ = (through_bindings bs k.closing).terms in
    let first : Converts (close c.terms (instance_term κ t)) (close τ (instance_term κ t)) = converts_atoms (IsVariableOf V) (at_variables c.terms) (at_variables τ) (atom_goes d V W c bs ps k) 0 (instance_term κ t) (variables_instance V κ 0 t w) in
    converts_on first (converts_is (ap (λ θ. close τ (instance_term θ t)) (sym k.types) ∙ through_term k.closing bs t))

pub terms_go_through : (d : Declared) (E : List Ty) (V W : List Variable) (c : Closing) (bs : List Binding) (ps : List Pair) → (k : KeptClosing d V W c bs ps) → (t : Term) (T : Ty) → IsTyped d E V t T → Converts (closed c t) (closed k.closing (put_all bs t))
terms_go_through d E V W c bs ps k t T h = goes d V W c bs ps k t (variables t (term_atoms d E V t T (record { typed = h.typed; scoped = h.scoped })))
  where
    variables : (t : Term) → Within (IsAtomOf d E V) 0 t → Within (IsVariableOf V) 0 t
    variables t w = within_more (IsAtomOf d E V) (IsVariableOf V) 0 0 (variable_atom d E V) (omega arith) t w

pub goals_go_through : {L : Leaves} (d : Declared) (E F : List Ty) (P : List ClauseFormula) (V W : List Variable) (c : Closing) (bs : List Binding)
    (ps : List Pair) → (k : KeptClosing d V W c bs ps) → (t : Term) (T : Ty) → IsTyped d E V t T → IsFormula d F (closed c t) → IsFormula d F
    (closed k.closing (put_all bs t)) →
    (Holds L d F P c t → Holds L d F P k.closing (put_all bs t)) × (Holds L d F P k.closing (put_all bs t) → Holds L d F P c t)
goals_go_through {L} d E F P V W c bs ps k t T h f g =
    let e = terms_go_through d E V W c bs ps k t T h in
    ((λ p. by_conversion d F P (closed k.closing (put_all bs t)) (closed c t) f e p), (λ p. by_conversion d F P (closed c t) (closed k.closing (put_all bs t)) g (converts_sym e) p))

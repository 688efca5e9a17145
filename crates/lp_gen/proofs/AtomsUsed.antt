-- What an atom takes, by the nodes of its spine.
use Rattle.std.proofs.Common.{◌≡◌, ◌∙◌, ℕ, List, [], length, map, ap, refl, sym}
use Rattle.lp_calculus.specs.Types.{Ty}
use Rattle.lp_calculus.specs.Term.{Term, Atom, index, atom, abs, app, apply, constant, integer, text, eigen, logic, param}
use Rattle.lp_calculus.specs.Spine.{head_of, arguments}
use Rattle.lp_term.specs.Nodes.{Nodes, type_tree}
use Rattle.lp_term.specs.declared.node.TypeId.{TypeId}
use Rattle.lp_gen.specs.Registers.{both, all_take, terms_take, call_takes, call_of, goal_of_head, goal_term_takes, atom_takes}
use Rattle.lp_gen.specs.Steps.{Around, head_type}
use Rattle.lp_gen.proofs.AtomWritten.{head_apply, arguments_is}
use Rattle.lp_gen.proofs.Courses.{mapped_types}

called : (K : ℕ → List Ty → Ty) (a : Around) (c : ℕ) (Ts : List Ty) (ts : List Term) (t : Term) → apply (atom (constant c Ts)) ts ≡ t →
    atom_takes K a t ≡ both (all_take Ts) (both (terms_take K a (K c Ts) ts) (call_takes c (length Ts) (length ts)))
called K a c Ts ts t e =
    let h : head_of t ≡ atom (constant c Ts) = ap head_of (sym e) ∙ head_apply (atom (constant c Ts)) ts in
    let g : arguments t ≡ ts = ap arguments (sym e) ∙ arguments_is (atom (constant c Ts)) ts tt in
    (λ i. goal_of_head K a t (h i) (g i))

pub constant_takes : (K : ℕ → List Ty → Ty) (b : Nodes) (a : Around) (c : ℕ) (ids : List TypeId) (head : Term) (ts : List Term) (t : Term) →
    atom (constant c (map (type_tree b) (map (λ i. i.0) ids))) ≡ head → apply head ts ≡ t →
    atom_takes K a t ≡ both (all_take (map (λ i. type_tree b i.0) ids)) (both (terms_take K a (head_type K [] a head) ts) (call_takes c (length (map (λ i. type_tree b i.0) ids)) (length ts)))
constant_takes K b a c ids head ts t is e =
    let Ts = map (λ i. type_tree b i.0) ids in
    let same : atom (constant c Ts) ≡ head = ap (λ l. atom (constant c l)) (sym (mapped_types b ids)) ∙ is in
    called K a c Ts ts t (ap (λ u. apply u ts) same ∙ e) ∙ ap (λ u. both (all_take Ts) (both (terms_take K a (head_type K [] a u) ts) (call_takes c (length Ts) (length ts)))) same

no_call : (K : ℕ → List Ty → Ty) (a : Around) (t : Term) (s : Atom) (us : List Term) → ((c : ℕ) (Ts : List Ty) → atom s ≡ atom (constant c Ts) → ⊥) → call_of K a t s us ≡ goal_term_takes K a t
no_call K a t (constant c Ts) us x = absurd (x c Ts refl)
no_call K a t (integer z) us x = refl
no_call K a t (text s) us x = refl
no_call K a t (eigen k) us x = refl
no_call K a t (logic y l) us x = refl
no_call K a t (param k T) us x = refl

by_head : (K : ℕ → List Ty → Ty) (a : Around) (t h : Term) (us : List Term) → ((c : ℕ) (Ts : List Ty) → h ≡ atom (constant c Ts) → ⊥) → goal_of_head K a t h us ≡ goal_term_takes K a t
by_head K a t (index i) us x = refl
by_head K a t (atom s) us x = no_call K a t s us x
by_head K a t (abs b) us x = refl
by_head K a t (app f u) us x = refl

pub other_atom_takes : (K : ℕ → List Ty → Ty) (a : Around) (t : Term) → ((c : ℕ) (Ts : List Ty) → head_of t ≡ atom (constant c Ts) → ⊥) → atom_takes K a t ≡ goal_term_takes K a t
other_atom_takes K a t x = by_head K a t (head_of t) (arguments t) x

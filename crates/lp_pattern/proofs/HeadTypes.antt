-- Heads of the same name under bindings, and the types of two heads.
use Rattle.std.proofs.Common.{◌≡◌, ℕ, List, ◌∙◌, refl, sym, subst as transport, Bool, true, false, nat_eq, inr}
use Rattle.std.specs.Prelude.{◌&&◌}
use Rattle.lp_calculus.specs.Types.{Ty, instance}
use Rattle.lp_calculus.specs.Term.{Term, Atom, index, atom, abs, app, constant, integer, text, eigen, logic, param}
use Rattle.lp_calculus.specs.Instance.{instance_atom, instance_term}
use Rattle.lp_term.specs.Nodes.{Nodes, tree}
use Rattle.lp_term.specs.declared.node.TypeId.{TypeId}
use Rattle.lp_model.specs.Pair.{Closing, closed}
use Rattle.lp_model.specs.Same.{same_atom, same_name}
use Rattle.lp_model.specs.Rule.{type_pairs, compare_types}
use Rattle.lp_unify_laws.proofs.TypedInstances.{length_map}
use Rattle.lp_lemmas.proofs.Booleans.{and_equal}
use Rattle.lp_pattern.specs.declared.fault.PatternRefusal.{PatternRefusal}
use Rattle.lp_pattern.specs.declared.fault.PatternRefusal.TheVariants.{Deep, Fails, Memory}
use Rattle.lp_pattern.specs.declared.bindings.Bindings.{Bindings}
use Rattle.lp_pattern.specs.declared.look.Head.{Head}
use Rattle.lp_pattern.specs.declared.look.Looked.{Looked}
use Rattle.lp_pattern.specs.Seen.{IsRigid, IsHead, IsLooked}
use Rattle.lp_pattern.specs.Reading.{type_pairs_of}
use Rattle.lp_pattern.specs.Comparing.{IsComparedTo, IsPassed, IsHeadCompared, IsHeadPassed}
use Rattle.lp_pattern.proofs.Stacks.{rigid_closed}

atoms_same : (θ : ℕ → Ty) (a b : Atom) → same_atom (instance_atom θ a) (instance_atom θ b) ≡ same_atom a b
atoms_same θ (constant c ts) (constant d us) = λ i. nat_eq c d && nat_eq (length_map (instance θ) ts i) (length_map (instance θ) us i)
atoms_same θ (constant c ts) (integer j) = refl
atoms_same θ (constant c ts) (text r) = refl
atoms_same θ (constant c ts) (eigen j) = refl
atoms_same θ (constant c ts) (logic y m) = refl
atoms_same θ (constant c ts) (param j u) = refl
atoms_same θ (integer i) (constant d us) = refl
atoms_same θ (integer i) (integer j) = refl
atoms_same θ (integer i) (text r) = refl
atoms_same θ (integer i) (eigen j) = refl
atoms_same θ (integer i) (logic y m) = refl
atoms_same θ (integer i) (param j u) = refl
atoms_same θ (text s) (constant d us) = refl
atoms_same θ (text s) (integer j) = refl
atoms_same θ (text s) (text r) = refl
atoms_same θ (text s) (eigen j) = refl
atoms_same θ (text s) (logic y m) = refl
atoms_same θ (text s) (param j u) = refl
atoms_same θ (eigen i) (constant d us) = refl
atoms_same θ (eigen i) (integer j) = refl
atoms_same θ (eigen i) (text r) = refl
atoms_same θ (eigen i) (eigen j) = refl
atoms_same θ (eigen i) (logic y m) = refl
atoms_same θ (eigen i) (param j u) = refl
atoms_same θ (logic x l) (constant d us) = refl
atoms_same θ (logic x l) (integer j) = refl
atoms_same θ (logic x l) (text r) = refl
atoms_same θ (logic x l) (eigen j) = refl
atoms_same θ (logic x l) (logic y m) = refl
atoms_same θ (logic x l) (param j u) = refl
atoms_same θ (param i t) (constant d us) = refl
atoms_same θ (param i t) (integer j) = refl
atoms_same θ (param i t) (text r) = refl
atoms_same θ (param i t) (eigen j) = refl
atoms_same θ (param i t) (logic y m) = refl
atoms_same θ (param i t) (param j u) = refl

names_same : (θ : ℕ → Ty) (t u : Term) → same_name (instance_term θ t) (instance_term θ u) ≡ same_name t u
names_same θ (index i) (index j) = refl
names_same θ (index i) (atom e) = refl
names_same θ (index i) (abs c) = refl
names_same θ (index i) (app v w) = refl
names_same θ (atom a) (index j) = refl
names_same θ (atom a) (atom e) = atoms_same θ a e
names_same θ (atom a) (abs c) = refl
names_same θ (atom a) (app v w) = refl
names_same θ (abs b) (index j) = refl
names_same θ (abs b) (atom e) = refl
names_same θ (abs b) (abs c) = refl
names_same θ (abs b) (app v w) = refl
names_same θ (app t u) (index j) = refl
names_same θ (app t u) (atom e) = refl
names_same θ (app t u) (abs c) = refl
names_same θ (app t u) (app v w) = refl

pub names_under : (c : Closing) (t u : Term) → IsRigid t → IsRigid u → same_name (closed c t) (closed c u) ≡ same_name t u
names_under c t u i j = (λ k. same_name (rigid_closed c t i k) (rigid_closed c u j k)) ∙ names_same c.types t u

-- the types of two heads of one name, with as many arguments
pub head_compared : (b : Nodes) (c : Closing) (t u : Term) (same h : Bool) (old new m n : ℕ) (ps : List (TypeId × TypeId)) → IsRigid t → IsRigid u → h ≡ same_name t u → h ≡ true → m ≡ n →
    type_pairs_of b c.types ps ≡ type_pairs (instance_term c.types t) (instance_term c.types u) → ((k : ℕ) → IsComparedTo same old new (compare_types k (type_pairs_of b c.types ps))) →
    IsHeadCompared same old new (closed c t) (closed c u) m n
head_compared b c t u same h old new m n ps i j e f q p k = go same k
  where
    named : (same_name (closed c t) (closed c u) && nat_eq m n) ≡ true
    named = and_equal (same_name (closed c t) (closed c u)) m n (names_under c t u i j ∙ sym e ∙ f) q

    pairs : type_pairs_of b c.types ps ≡ type_pairs (closed c t) (closed c u)
    pairs = p ∙ (λ x. type_pairs (sym (rigid_closed c t i) x) (sym (rigid_closed c u j) x))

    go : (same : Bool) → ((k : ℕ) → IsComparedTo same old new (compare_types k (type_pairs_of b c.types ps))) → IsHeadCompared same old new (closed c t) (closed c u) m n
    go true g = (named, λ k. transport (λ l. IsComparedTo true old new (compare_types k l)) pairs (g k))
    go false g = inr (named, λ k. transport (λ l. IsComparedTo false old new (compare_types k l)) pairs (g k))

pub head_passed : (b : Nodes) (c : Closing) (t u : Term) (r : PatternRefusal) (h : Bool) (old m n : ℕ) (ps : List (TypeId × TypeId)) → IsRigid t → IsRigid u → h ≡ same_name t u → h ≡ true → m ≡ n →
    type_pairs_of b c.types ps ≡ type_pairs (instance_term c.types t) (instance_term c.types u) → ((k : ℕ) → IsPassed r old (compare_types k (type_pairs_of b c.types ps))) →
    IsHeadPassed r old (closed c t) (closed c u) m n
head_passed b c t u Deep h old m n ps i j e f q p k = (
  and_equal (same_name (closed c t) (closed c u)) m n (names_under c t u i j ∙ sym e ∙ f) q,
  λ x. transport (λ l. IsPassed Deep old (compare_types x l)) (p ∙ (λ y. type_pairs (sym (rigid_closed c t i) y) (sym (rigid_closed c u j) y))) (k x),
)
head_passed b c t u Fails h old m n ps i j e f q p k = k 0
head_passed b c t u Memory h old m n ps i j e f q p k = tt

pub rigid_top : (b : Nodes) (s : Bindings) (r : Looked) → IsLooked b s r → r.head ≡ Head.Rigid → IsRigid (tree b r.top.0)
rigid_top b s r k h = transport (λ x. IsHead b s x (tree b r.top.0) r.arguments.items) h k.head

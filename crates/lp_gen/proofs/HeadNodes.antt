-- The code of the head by the nodes of its parts.
use Rattle.std.proofs.Common.{◌≡◌, ◌≢◌, ◌∙◌, ◌<◌, ℕ, zero, suc, ◌+◌, List, [], ◌∷◌, ◌++◌, map, length, take, get_or, Bor, Some, None, ap, refl, sym, subst, arith}
use Rattle.std.specs.Prelude.{slice_index_or}
use Rattle.std.proofs.lemmas.List.{map-append, take_more, length-take-le}
use Rattle.lp_calculus.specs.Types.{Ty}
use Rattle.lp_calculus.specs.Term.{Term, index, atom, abs, app, apply, constant}
use Rattle.lp_term.specs.Nodes.{Nodes, tree, type_tree, node_tree}
use Rattle.lp_term.specs.Node.{TermBelow}
use Rattle.lp_term.specs.Shapes.{term_shape}
use Rattle.lp_term.specs.Spine.{IsNoApplication}
use Rattle.lp_term.specs.declared.node.TypeId.{TypeId}
use Rattle.lp_term.specs.declared.node.TermNode.{TermNode}
use Rattle.lp_term.specs.declared.node.TermNode.TheVariants as node
use Rattle.lp_code.specs.declared.record.RecordHead.{RecordHead}
use Rattle.lp_code.specs.declared.record.RecordHead.TheVariants.{Const, Register}
use Rattle.lp_gen.specs.declared.emitter.Emitter.{Emitter}
use Rattle.lp_gen.specs.Steps.{from_of, to_of, Around, set_level, head_type, first_place}
use Rattle.lp_gen.specs.inner.Running.{AreTypesPut, IsTypePut}
use Rattle.lp_gen.specs.inner.Saying.{ConstantGot, TypeGot}
use Rattle.lp_gen.specs.inner.Written.{left_by}
use Rattle.lp_gen.specs.inner.Heading.{VariableGot, ArgumentGot, ArgumentsGot, TypesGot, predicate_of, HeadMatched}
use Rattle.lp_gen.proofs.TypeWorks.{map_length}
use Rattle.lp_gen.proofs.Courses.{mapped_types}
use Rattle.lp_gen.proofs.AtomWritten.{no_constant_node}
use Rattle.lp_gen.proofs.ArgumentGot.{first_argument, constant_argument}
use Rattle.lp_gen.proofs.HeadGot.{next_head_argument, head_type_then}
use Rattle.lp_gen.proofs.HeadWhole.{constant_matched, other_matched}

no_pair : (p : ℕ × ℕ) → None ≡ Some p → ⊥
no_pair p e = cc

-- an argument at its first place
pub first_argument_of : (K : ℕ → List Ty → Ty) (old new : Emitter) (a b : Around) (i l r : ℕ) (F : Ty) (t : Term) → VariableGot old new i r → first_place a t ≡ Some (l, r) → b ≡ set_level a l →
    ArgumentGot K old new a b i F t
first_argument_of K old new a b i l r F (index j) x e s = subst (λ c. ArgumentGot K old new a c i F (index j)) (sym s) (first_argument K old new a i l r F j x e)
first_argument_of K old new a b i l r F (atom c) x e s = absurd (no_pair (l, r) e)
first_argument_of K old new a b i l r F (abs t) x e s = absurd (no_pair (l, r) e)
first_argument_of K old new a b i l r F (app t u) x e s = absurd (no_pair (l, r) e)

pub constant_node_argument : (K : ℕ → List Ty → Ty) (b : Nodes) (old mid new : Emitter) (a : Around) (i c : ℕ) (F : Ty) (ids : List TypeId) (ts : List ℕ) (t : Term) →
    AreTypesPut old mid ts (map (λ i. type_tree b i.0) ids) → ConstantGot mid new i c ts → atom (constant c (map (type_tree b) (map (λ i. i.0) ids))) ≡ t → ArgumentGot K old new a a i F t
constant_node_argument K b old mid new a i c F ids ts t x y e =
    subst (ArgumentGot K old new a a i F) (ap (λ l. atom (constant c l)) (sym (mapped_types b ids)) ∙ e) (constant_argument K old mid new a i c F (map (λ i. type_tree b i.0) ids) ts x y)

-- a node that is no index, and one that is no constant either

no_places : (a : Around) (t u : Term) (ts : List Term) → None ≡ first_place a (apply (app t u) ts)
no_places a t u [] = refl
no_places a t u (v ∷ vs) = no_places a (app t u) v vs

no_list_place : (b : Nodes) (a : Around) (f : ℕ) (is : List ℕ) → is ≢ [] → None ≡ first_place a (apply (tree b f) (map (tree b) is))
no_list_place b a f [] some = absurd (some refl)
no_list_place b a f (i ∷ is) some = no_places a (tree b f) (tree b i) (map (tree b) is)

pub other_place : (b : Nodes) (a : Around) (m k : ℕ) (n : TermNode) → ((i : ℕ) → n ≡ node.Index i → ⊥) → TermBelow m k (term_shape n) → None ≡ first_place a (node_tree b (term_shape n))
other_place b a m k (node.Index i) x low = absurd (x i refl)
other_place b a m k (node.Const c ids) x low = refl
other_place b a m k (node.Int z) x low = refl
other_place b a m k (node.Text s) x low = refl
other_place b a m k (node.Eigen j) x low = refl
other_place b a m k (node.Logic i l) x low = refl
other_place b a m k (node.Param j t) x low = refl
other_place b a m k (node.Abs body) x low = refl
other_place b a m k (node.App f ids) x low = no_list_place b a f.0 (map (λ t. t.0) ids.now) low.2

no_predicates : (a : Around) (t u : Term) (ts : List Term) → Register 0 ≡ predicate_of a (apply (app t u) ts)
no_predicates a t u [] = refl
no_predicates a t u (v ∷ vs) = no_predicates a (app t u) v vs

no_list_predicate : (b : Nodes) (a : Around) (f : ℕ) (is : List ℕ) → is ≢ [] → Register 0 ≡ predicate_of a (apply (tree b f) (map (tree b) is))
no_list_predicate b a f [] some = absurd (some refl)
no_list_predicate b a f (i ∷ is) some = no_predicates a (tree b f) (tree b i) (map (tree b) is)

pub other_predicate : (b : Nodes) (a : Around) (m k : ℕ) (n : TermNode) → ((i : ℕ) → n ≡ node.Index i → ⊥) →
    ((c : ℕ) (ids : Bor (List TypeId)) → n ≡ node.Const c ids → ⊥) → TermBelow m k (term_shape n) →
    Register 0 ≡ predicate_of a (node_tree b (term_shape n))
other_predicate b a m k (node.Index i) x y low = absurd (x i refl)
other_predicate b a m k (node.Const c ids) x y low = absurd (y c ids refl)
other_predicate b a m k (node.Int z) x y low = refl
other_predicate b a m k (node.Text s) x y low = refl
other_predicate b a m k (node.Eigen j) x y low = refl
other_predicate b a m k (node.Logic i l) x y low = refl
other_predicate b a m k (node.Param j t) x y low = refl
other_predicate b a m k (node.Abs body) x y low = refl
other_predicate b a m k (node.App f ids) x y low = no_list_predicate b a f.0 (map (λ t. t.0) ids.now) low.2

pub other_head : (K : ℕ → List Ty → Ty) (b : Nodes) (old new : Emitter) (a d : Around) (m k : ℕ) (n : TermNode) (head : Term) (ts : List Term) (t : Term) (p : RecordHead) → IsNoApplication head →
    ((c : ℕ) (ids : Bor (List TypeId)) → n ≡ node.Const c ids → ⊥) → TermBelow m k (term_shape n) → node_tree b (term_shape n) ≡ head → ArgumentsGot K old new a d (head_type K [] a head) ts →
    apply head ts ≡ t → p ≡ predicate_of a head → HeadMatched K old new a d p t
other_head K b old new a d m k n head ts t p none x low is y e named =
    other_matched K old new a d head ts t p none (λ c Ts z. no_constant_node b m k n x low c Ts (is ∙ z)) y e named

-- an element does not depend on what stands outside
pub index_or : {A : Type 0} (xs : List A) (i : ℕ) (d e : A) → i < length xs → slice_index_or xs i d ≡ get_or xs i e
index_or [] i d e l = absurd (omega (arith, l))
index_or (x ∷ xs) zero d e l = refl
index_or (x ∷ xs) (suc i) d e l = index_or xs i d e (omega (arith, l))

-- one argument more, and one type more
pub argument_at_place : {X : Type 0} (f : X → Term) (K : ℕ → List Ty → Ty) (old mid new : Emitter) (a b c : Around) (i n : ℕ) (F G H of : Ty)
    (xs : List X) (x : X) → i < length xs → x ≡ get_or xs i x →
    ArgumentsGot K old mid a b F (map f (take i xs)) × (G ≡ left_by F i) → ArgumentGot K mid new b c n of (f x) → n ≡ i → of ≡ from_of G → H ≡ to_of G →
    ArgumentsGot K old new a c F (map f (take (i + 1) xs)) × (H ≡ left_by F (i + 1))
argument_at_place f K old mid new a b c i n F G H of xs x low at w p number is left =
    let many : length (take i xs) ≡ i = length-take-le i xs (omega (arith, low)) in
    let all : take (i + 1) xs ≡ take i xs ++ x ∷ [] = take_more xs i x low ∙ ap (λ y. take i xs ++ y ∷ []) (sym at) in
    let size : length (take i xs ++ x ∷ []) ≡ i + 1 = ap length (sym all) ∙ length-take-le (i + 1) xs (omega (arith, low)) in
    let z = next_head_argument f K old mid new a b c n F G H of (take i xs) x (w.0, w.1 ∙ ap (left_by F) (sym many)) p (number ∙ sym many) is left in
    (subst (λ l. ArgumentsGot K old new a c F (map f l)) (sym all) z.0, z.1 ∙ ap (left_by F) size)

pub type_at_place : {X : Type 0} (f : X → Ty) (old mid kind new : Emitter) (i n r : ℕ) (xs : List X) (x : X) → i < length xs → x ≡ get_or xs i x → TypesGot old mid (map f (take i xs)) →
    IsTypePut mid kind r (f x) → TypeGot kind new n r → n ≡ i → TypesGot old new (map f (take (i + 1) xs))
type_at_place f old mid kind new i n r xs x low at w q p number =
    let many : length (take i xs) ≡ i = length-take-le i xs (omega (arith, low)) in
    let all : take (i + 1) xs ≡ take i xs ++ x ∷ [] = take_more xs i x low ∙ ap (λ y. take i xs ++ y ∷ []) (sym at) in
    subst (λ l. TypesGot old new (map f l)) (sym all) (subst (TypesGot old new) (sym (map-append f (take i xs) (x ∷ [])))
    (head_type_then old mid kind new (map f (take i xs)) (f x) n r w q p (number ∙ sym (map_length f (take i xs) ∙ many))))

-- the head by the node of its predicate

pub constant_head : (K : ℕ → List Ty → Ty) (b : Nodes) (old mid new : Emitter) (a d : Around) (c : ℕ) (ids : List TypeId) (head : Term) (ts : List Term) (t : Term) (p : RecordHead) →
    TypesGot old mid (map (λ i. type_tree b i.0) ids) → ArgumentsGot K mid new a d (head_type K [] a head) ts → atom (constant c (map (type_tree b) (map (λ i. i.0) ids))) ≡ head → apply head ts ≡ t →
    p ≡ predicate_of a head → HeadMatched K old new a d p t
constant_head K b old mid new a d c ids head ts t p x y is e named =
    let Ts = map (λ i. type_tree b i.0) ids in
    let same : atom (constant c Ts) ≡ head = ap (λ l. atom (constant c l)) (sym (mapped_types b ids)) ∙ is in
    subst (λ p. HeadMatched K old new a d p t) (sym (named ∙ ap (predicate_of a) (sym same)))
    (subst (HeadMatched K old new a d (Const c)) (ap (λ u. apply u ts) same ∙ e) (constant_matched K old mid new a d c Ts ts x
    (subst (λ u. ArgumentsGot K mid new a d (head_type K [] a u) ts) (sym same) y)))

-- Names of heads: two of different kinds are not the same.
use Rattle.std.proofs.Common.{◌≡◌, ℕ, ◌≢◌, List, [], ◌∷◌, map, ◌∙◌, refl, sym, ap, Bool, true, false}
use Rattle.lp_calculus.specs.Types.{Ty, instance}
use Rattle.lp_calculus.specs.Instance.{instance_term}
use Rattle.lp_model.specs.Types.{zipped}
use Rattle.lp_model.specs.Rule.{type_pairs}
use Rattle.lp_pattern.specs.Reading.{paired, type_pairs_of}
use Rattle.lp_calculus.specs.Term.{Term, Atom, index, atom, abs, app, apply, constant, integer, text, eigen, logic, param}
use Rattle.lp_term.specs.Node.{TermBelow}
use Rattle.lp_term.specs.Nodes.{Nodes, node_tree, type_tree}
use Rattle.lp_term.specs.Shapes.{term_shape}
use Rattle.lp_term.specs.declared.node.TypeId.{TypeId}
use Rattle.lp_term.specs.declared.node.TermId.{TermId}
use Rattle.lp_term.specs.declared.node.TermNode.{TermNode}
use Rattle.lp_term.specs.declared.node.TermNode.TheVariants.{Index, Const, Int, Text, Eigen, Logic, Param, Abs, App}
use Rattle.lp_model.specs.Same.{same_atom, same_name}

-- the kind of a term and of a node
abbrev pub kind : Term → ℕ
kind (index i) = 0
kind (atom (constant c ts)) = 1
kind (atom (integer z)) = 2
kind (atom (text s)) = 3
kind (atom (eigen k)) = 4
kind (atom (logic x l)) = 5
kind (atom (param k t)) = 6
kind (abs b) = 7
kind (app t u) = 8

abbrev pub node_kind : TermNode → ℕ
node_kind (Index i) = 0
node_kind (Const c ids) = 1
node_kind (Int z) = 2
node_kind (Text s) = 3
node_kind (Eigen k) = 4
node_kind (Logic x l) = 5
node_kind (Param k t) = 6
node_kind (Abs b) = 7
node_kind (App f ids) = 8

atom_kinds : (a b : Atom) → same_atom a b ≡ true → kind (atom a) ≡ kind (atom b)
atom_kinds (constant c ts) (constant d us) e = refl
atom_kinds (integer i) (integer j) e = refl
atom_kinds (text s) (text r) e = refl
atom_kinds (eigen i) (eigen j) e = refl
atom_kinds (logic x l) (logic y m) e = refl
atom_kinds (param i t) (param j u) e = refl
atom_kinds _ _ e = absurd (cc)

kinds : (t u : Term) → same_name t u ≡ true → kind t ≡ kind u
kinds (index i) (index j) e = refl
kinds (atom a) (atom b) e = atom_kinds a b e
kinds _ _ e = absurd (cc)

app_kind : (h : Term) (ts : List Term) → kind h ≡ 8 → kind (apply h ts) ≡ 8
app_kind h [] e = e
app_kind h (t ∷ ts) e = app_kind (app h t) ts refl

applied_kind : (h : Term) (f : ℕ → Term) (ids : List ℕ) → ids ≢ [] → kind (apply h (map f ids)) ≡ 8
applied_kind h f [] n = absurd (n refl)
applied_kind h f (i ∷ ids) n = app_kind (app h (f i)) (map f ids) refl

pub kind_of : (b : Nodes) (n m : ℕ) (x : TermNode) → TermBelow n m (term_shape x) → kind (node_tree b (term_shape x)) ≡ node_kind x
kind_of b n m (Index i) l = refl
kind_of b n m (Const c ids) l = refl
kind_of b n m (Int z) l = refl
kind_of b n m (Text s) l = refl
kind_of b n m (Eigen k) l = refl
kind_of b n m (Logic x y) l = refl
kind_of b n m (Param k t) l = refl
kind_of b n m (Abs x) l = refl
kind_of b n m (App f ids) l = applied_kind _ _ (map (λ t. t.0) ids.now) l.2

kinds_apart : (t u : Term) → (kind t ≡ kind u → ⊥) → false ≡ same_name t u
kinds_apart t u h = go (same_name t u) refl
  where
    go : (x : Bool) → same_name t u ≡ x → false ≡ same_name t u
    go true e = absurd (h (kinds t u e))
    go false e = sym e

-- a node of another kind is not the name
pub apart : (b : Nodes) (n m : ℕ) (t u : Term) (x : TermNode) → TermBelow n m (term_shape x) → node_tree b (term_shape x) ≡ u → (node_kind x ≡ kind t → ⊥) → false ≡ same_name t u
apart b n m t u x l e h = kinds_apart t u (λ q. h (sym (kind_of b n m x l) ∙ ap kind e ∙ sym q))

pub no_index : (x : TermNode) → ((i : ℕ) → x ≡ Index i → ⊥) → node_kind x ≡ 0 → ⊥
no_index (Index i) h e = h i refl
no_index _ h e = cc

pub no_constant : (x : TermNode) → ((c : ℕ) → (ids : _) → x ≡ Const c ids → ⊥) → node_kind x ≡ 1 → ⊥
no_constant (Const c ids) h e = h c ids refl
no_constant _ h e = cc

pub no_integer : (x : TermNode) → ((z : _) → x ≡ Int z → ⊥) → node_kind x ≡ 2 → ⊥
no_integer (Int z) h e = h z refl
no_integer _ h e = cc

pub no_text : (x : TermNode) → ((s : _) → x ≡ Text s → ⊥) → node_kind x ≡ 3 → ⊥
no_text (Text s) h e = h s refl
no_text _ h e = cc

pub no_eigen : (x : TermNode) → ((k : ℕ) → x ≡ Eigen k → ⊥) → node_kind x ≡ 4 → ⊥
no_eigen (Eigen k) h e = h k refl
no_eigen _ h e = cc

pub no_logic : (x : TermNode) → ((y l : ℕ) → x ≡ Logic y l → ⊥) → node_kind x ≡ 5 → ⊥
no_logic (Logic y l) h e = h y l refl
no_logic _ h e = cc

pub no_parameter : (x : TermNode) → ((k : ℕ) (t : TypeId) → x ≡ Param k t → ⊥) → node_kind x ≡ 6 → ⊥
no_parameter (Param k t) h e = h k t refl
no_parameter _ h e = cc

no_app : (t u : Term) → same_name t u ≡ true → kind t ≡ 8 → ⊥
no_app (index i) u h k = cc
no_app (atom (constant c ts)) u h k = cc
no_app (atom (integer z)) u h k = cc
no_app (atom (text s)) u h k = cc
no_app (atom (eigen i)) u h k = cc
no_app (atom (logic x l)) u h k = cc
no_app (atom (param i t)) u h k = cc
no_app (abs b) u h k = cc
no_app (app f a) u h k = cc

never : (t u : Term) → (same_name t u ≡ true → ⊥) → false ≡ same_name t u
never t u h = go (same_name t u) refl
  where
    go : (x : Bool) → same_name t u ≡ x → false ≡ same_name t u
    go true e = absurd (h e)
    go false e = sym e

pub apart_from_applied : (b : Nodes) (n m : ℕ) (t u : Term) (f : TermId) (ids : _) → TermBelow n m (term_shape (App f ids)) → node_tree b (term_shape (App f ids)) ≡ t → false ≡ same_name t u
apart_from_applied b n m t u f ids l e = never t u (λ h. no_app t u h (sym (ap kind e) ∙ kind_of b n m (App f ids) l))

-- the types of two heads
abbrev type_of : Nodes → (ℕ → Ty) → TypeId → Ty
type_of b θ t = instance θ (type_tree b t.0)

zipped_types : (b : Nodes) (θ : ℕ → Ty) (ids js : List TypeId) → type_pairs_of b θ (paired ids js) ≡ zipped (map (type_of b θ) ids) (map (type_of b θ) js)
zipped_types b θ [] js = refl
zipped_types b θ (i ∷ ids) [] = refl
zipped_types b θ (i ∷ ids) (j ∷ js) = ap (λ l. record { left = type_of b θ i; right = type_of b θ j } ∷ l) (zipped_types b θ ids js)

three_maps : (b : Nodes) (θ : ℕ → Ty) (ids : List TypeId) → map (instance θ) (map (type_tree b) (map (λ t. t.0) ids)) ≡ map (type_of b θ) ids
three_maps b θ [] = refl
three_maps b θ (i ∷ ids) = ap (λ l. type_of b θ i ∷ l) (three_maps b θ ids)

pub constants_pairs : (b : Nodes) (θ : ℕ → Ty) (c d : ℕ) (ids js : List TypeId) (pairs : List (TypeId × TypeId)) (u : Term) → pairs ≡ paired ids js → atom (constant d (map (type_tree b) (map (λ t. t.0) js))) ≡ u →
    type_pairs_of b θ pairs ≡ type_pairs (atom (constant c (map (type_of b θ) ids))) (instance_term θ u)
constants_pairs b θ c d ids js pairs u q e =
    ap (type_pairs_of b θ) q ∙ zipped_types b θ ids js ∙ ap (zipped (map (type_of b θ) ids)) (sym (three_maps b θ js)) ∙
    ap (λ t. type_pairs (atom (constant c (map (type_of b θ) ids))) (instance_term θ t)) e

pub constant_is : (b : Nodes) (θ : ℕ → Ty) (c : ℕ) (ids : List TypeId) (t g : Term) → atom (constant c (map (type_tree b) (map (λ t. t.0) ids))) ≡ t →
    type_pairs (atom (constant c (map (type_of b θ) ids))) g ≡ type_pairs (instance_term θ t) g
constant_is b θ c ids t g e = ap (λ l. type_pairs (atom (constant c l)) g) (sym (three_maps b θ ids)) ∙ ap (λ x. type_pairs (instance_term θ x) g) e

no_constant_pairs : (θ : ℕ → Ty) (c : ℕ) (ts : List Ty) (u : Term) → (kind u ≡ 1 → ⊥) → [] ≡ type_pairs (atom (constant c ts)) (instance_term θ u)
no_constant_pairs θ c ts (index i) h = refl
no_constant_pairs θ c ts (atom (constant d us)) h = absurd (h refl)
no_constant_pairs θ c ts (atom (integer z)) h = refl
no_constant_pairs θ c ts (atom (text s)) h = refl
no_constant_pairs θ c ts (atom (eigen k)) h = refl
no_constant_pairs θ c ts (atom (logic x l)) h = refl
no_constant_pairs θ c ts (atom (param k t)) h = refl
no_constant_pairs θ c ts (abs b) h = refl
no_constant_pairs θ c ts (app t u) h = refl

no_parameter_pairs : (θ : ℕ → Ty) (k : ℕ) (T : Ty) (u : Term) → (kind u ≡ 6 → ⊥) → [] ≡ type_pairs (atom (param k T)) (instance_term θ u)
no_parameter_pairs θ k T (index i) h = refl
no_parameter_pairs θ k T (atom (constant d us)) h = refl
no_parameter_pairs θ k T (atom (integer z)) h = refl
no_parameter_pairs θ k T (atom (text s)) h = refl
no_parameter_pairs θ k T (atom (eigen i)) h = refl
no_parameter_pairs θ k T (atom (logic x l)) h = refl
no_parameter_pairs θ k T (atom (param i t)) h = absurd (h refl)
no_parameter_pairs θ k T (abs b) h = refl
no_parameter_pairs θ k T (app t u) h = refl

no_head_pairs : (θ : ℕ → Ty) (t g : Term) → (kind t ≡ 1 → ⊥) → (kind t ≡ 6 → ⊥) → [] ≡ type_pairs (instance_term θ t) g
no_head_pairs θ (index i) g h k = refl
no_head_pairs θ (atom (constant d us)) g h k = absurd (h refl)
no_head_pairs θ (atom (integer z)) g h k = refl
no_head_pairs θ (atom (text s)) g h k = refl
no_head_pairs θ (atom (eigen i)) g h k = refl
no_head_pairs θ (atom (logic x l)) g h k = refl
no_head_pairs θ (atom (param i t)) g h k = absurd (k refl)
no_head_pairs θ (abs b) g h k = refl
no_head_pairs θ (app t u) g h k = refl

other_kind : (b : Nodes) (n m k : ℕ) (u : Term) (x : TermNode) → TermBelow n m (term_shape x) → node_tree b (term_shape x) ≡ u → (node_kind x ≡ k → ⊥) → kind u ≡ k → ⊥
other_kind b n m k u x l e h q = h (sym (kind_of b n m x l) ∙ ap kind e ∙ q)

pub without_constant : (b : Nodes) (n m : ℕ) (θ : ℕ → Ty) (c : ℕ) (ts : List Ty) (u : Term) (x : TermNode) (pairs : List (TypeId × TypeId)) → pairs ≡ [] → TermBelow n m (term_shape x) → node_tree b (term_shape x) ≡ u →
    (node_kind x ≡ 1 → ⊥) → type_pairs_of b θ pairs ≡ type_pairs (atom (constant c ts)) (instance_term θ u)
without_constant b n m θ c ts u x pairs q l e h = ap (type_pairs_of b θ) q ∙ no_constant_pairs θ c ts u (other_kind b n m 1 u x l e h)

pub without_parameter : (b : Nodes) (n m : ℕ) (θ : ℕ → Ty) (k : ℕ) (T : Ty) (u : Term) (x : TermNode) (pairs : List (TypeId × TypeId)) → pairs ≡ [] → TermBelow n m (term_shape x) → node_tree b (term_shape x) ≡ u →
    (node_kind x ≡ 6 → ⊥) → type_pairs_of b θ pairs ≡ type_pairs (atom (param k T)) (instance_term θ u)
without_parameter b n m θ k T u x pairs q l e h = ap (type_pairs_of b θ) q ∙ no_parameter_pairs θ k T u (other_kind b n m 6 u x l e h)

pub without_types : (b : Nodes) (n m : ℕ) (θ : ℕ → Ty) (t g : Term) (x : TermNode) (pairs : List (TypeId × TypeId)) → pairs ≡ [] → TermBelow n m (term_shape x) → node_tree b (term_shape x) ≡ t →
    (node_kind x ≡ 1 → ⊥) → (node_kind x ≡ 6 → ⊥) → type_pairs_of b θ pairs ≡ type_pairs (instance_term θ t) g
without_types b n m θ t g x pairs q l e h k = ap (type_pairs_of b θ) q ∙ no_head_pairs θ t g (other_kind b n m 1 t x l e h) (other_kind b n m 6 t x l e k)

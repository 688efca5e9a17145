-- What has to be made before a node is lighter than it.
use Rattle.std.proofs.Common.{◌≡◌, ◌≢◌, ℕ, suc, ◌+◌, ◌*◌, ◌<◌, ◌≤◌, List, [], ◌∷◌, length, map, refl, ap, ◌∙◌, subst as transport, arith}
use Rattle.std.specs.Prelude.{All}
use Rattle.std.proofs.lemmas.List.Elements.{All-nil, All-cons}
use Rattle.lp_calculus.specs.Types.{Ty, var, param, con, arrow, tys}
use Rattle.lp_calculus.specs.Term.{Term, Atom, constant, integer, text, eigen, logic, index, atom, abs, app, apply}
use Rattle.lp_calculus.specs.Term as term
use Rattle.lp_term.specs.Node.{TypeShape, var_node, param_node, con_node, arrow_node, TermShape, index_node, const_node, int_node, text_node, eigen_node, logic_node, typed_param_node, abs_node, app_node, TermBelow}
use Rattle.lp_term.specs.Nodes.{Nodes, IsSound, tree, type_tree, type_node_tree, node_tree, term_at, type_at}
use Rattle.lp_term.specs.Mapped.{Map, Told, IsMap, TypeIs, TermIs, IsNoDetour, IsFirmType, IsNoTermDetour, IsFirmAtom, IsFirm, mapped, mapped_type, mapped_types}
use Rattle.lp_term.specs.declared.becomes.TypeChange.{TypeChange}
use Rattle.lp_term.specs.declared.becomes.TermChange.{TermChange}
use Rattle.lp_term.specs.declared.walked.Node.{Node}
use Rattle.lp_term.specs.inner.Walking.{type_parts, term_parts, type_detour, term_detour, parts, IsIn, type_size, types_size, list_size, atom_size, term_size, type_turn, term_turn, turns_type, turns_atom, turns, weight}
use Rattle.lp_term.proofs.Trees.{type_tree-node, tree-node, term_below}
use Rattle.lp_term.proofs.Rebuilding.{mapped-apply}

small_turn : (x : TypeChange) → type_turn x ≤ 1
small_turn (TypeChange.Var y) = omega arith
small_turn (TypeChange.Is t) = omega arith
small_turn (TypeChange.As t) = omega arith

no_turn : (x : TypeChange) → IsNoDetour x → type_turn x ≡ 0
no_turn (TypeChange.Var y) h = refl
no_turn (TypeChange.Is t) h = refl
no_turn (TypeChange.As t) h = absurd h

small_term_turn : (x : TermChange) → term_turn x ≤ 1
small_term_turn TermChange.Stays = omega arith
small_term_turn (TermChange.Is t) = omega arith
small_term_turn (TermChange.As t) = omega arith

no_term_turn : (x : TermChange) → IsNoTermDetour x → term_turn x ≡ 0
no_term_turn TermChange.Stays h = refl
no_term_turn (TermChange.Is t) h = refl
no_term_turn (TermChange.As t) h = absurd h

type_some : (T : Ty) → 0 < type_size T
type_some (var i) = omega arith
type_some (param k) = omega arith
type_some (con c ts) = omega arith
type_some (arrow a b) = omega arith

atom_some : (a : Atom) → 0 < atom_size a
atom_some (constant c ts) = omega arith
atom_some (integer z) = omega arith
atom_some (text s) = omega arith
atom_some (eigen k) = omega arith
atom_some (logic x l) = omega arith
atom_some (term.param k T) = omega arith

term_some : (t : Term) → 0 < term_size t
term_some (index i) = omega arith
term_some (atom a) = atom_some a
term_some (abs b) = omega arith
term_some (app t u) = omega arith

abbrev terms_size : List Term → ℕ
terms_size [] = 0
terms_size (t ∷ ts) = suc (term_size t) + terms_size ts

apply_size : (h : Term) (xs : List Term) → term_size (apply h xs) ≡ term_size h + terms_size xs
apply_size h [] = omega arith
apply_size h (x ∷ xs) = omega (arith, apply_size (app h x) xs)

module _ (f : Told) (m : Map) (b d : Nodes) where
  small_type : (T : Ty) → turns_type f T ≤ 1
  small_type (var x) = small_turn (f.types x)
  small_type (param k) = omega arith
  small_type (con c ts) = omega arith
  small_type (arrow s t) = omega arith

  firm_type : (T : Ty) → IsFirmType f T → turns_type f T ≡ 0
  firm_type (var x) h = no_turn (f.types x) h
  firm_type (param k) h = refl
  firm_type (con c ts) h = refl
  firm_type (arrow s t) h = refl

  small_atom : (a : Atom) → turns_atom f a ≤ 1
  small_atom (constant c ts) = omega arith
  small_atom (integer z) = omega arith
  small_atom (text s) = omega arith
  small_atom (eigen k) = omega arith
  small_atom (logic x l) = small_term_turn (f.terms x)
  small_atom (term.param k T) = omega arith

  small : (t : Term) → turns f t ≤ 1
  small (index i) = omega arith
  small (atom a) = small_atom a
  small (abs s) = omega arith
  small (app t u) = omega arith

  firm_atom : (a : Atom) → IsFirmAtom f a → turns_atom f a ≡ 0
  firm_atom (constant c ts) h = refl
  firm_atom (integer z) h = refl
  firm_atom (text s) h = refl
  firm_atom (eigen k) h = refl
  firm_atom (logic x l) h = no_term_turn (f.terms x) h
  firm_atom (term.param k T) h = refl

  firm : (t : Term) → IsFirm f t → turns f t ≡ 0
  firm (index i) h = refl
  firm (atom a) h = firm_atom a h
  firm (abs s) h = refl
  firm (app t u) h = refl

  w : Node → ℕ
  w n = weight f m b n

  nothing : (v : ℕ) → All (λ p. weight f m b p < v) []
  nothing v = All-nil (λ p. weight f m b p < v)

  and : (v : ℕ) (n : Node) (ns : List Node) → weight f m b n < v → All (λ p. weight f m b p < v) ns → All (λ p. weight f m b p < v) (n ∷ ns)
  and v n ns h a = All-cons (λ p. weight f m b p < v) n ns h a

  types_lighter : (v : ℕ) (ids : List ℕ) → 2 * types_size (mapped_types m (tys (map (type_tree b) ids))) + 1 < v → All (λ p. weight f m b p < v) (map (λ i. Node.Type i) ids)
  types_lighter v [] h = nothing v
  types_lighter v (i ∷ ids) h = and v (Node.Type i) (map (λ i. Node.Type i) ids) (omega (arith, h, small_type (type_tree b i))) (types_lighter v ids (omega (arith, h)))

  list_lighter : (v : ℕ) (ids : List ℕ) → 2 * list_size (map (mapped_type m) (map (type_tree b) ids)) + 1 < v → All (λ p. weight f m b p < v) (map (λ i. Node.Type i) ids)
  list_lighter v [] h = nothing v
  list_lighter v (i ∷ ids) h = and v (Node.Type i) (map (λ i. Node.Type i) ids) (omega (arith, h, small_type (type_tree b i))) (list_lighter v ids (omega (arith, h)))

  terms_lighter : (v : ℕ) (ids : List ℕ) → 2 * terms_size (map (mapped m) (map (tree b) ids)) < v → All (λ p. weight f m b p < v) (map (λ i. Node.Term i) ids)
  terms_lighter v [] h = nothing v
  terms_lighter v (i ∷ ids) h = and v (Node.Term i) (map (λ i. Node.Term i) ids) (omega (arith, h, small (tree b i))) (terms_lighter v ids (omega (arith, h)))

  detour_lighter : (x : TypeChange) (T : Ty) → TypeIs f m b d T x → All (λ p. weight f m b p < 2 * type_size T + type_turn x) (type_detour x)
  detour_lighter (TypeChange.Var y) T h = nothing (2 * type_size T + 0)
  detour_lighter (TypeChange.Is t) T h = nothing (2 * type_size T + 0)
  detour_lighter (TypeChange.As t) T h =
      and (2 * type_size T + 1) (Node.Type t.0) [] (omega (arith, ap type_size h.1, firm_type (type_tree b t.0) h.2)) (nothing (2 * type_size T + 1))

  term_detour_lighter : (x : TermChange) (s here : Term) → TermIs f m b d s here x → All (λ p. weight f m b p < 2 * term_size s + term_turn x) (term_detour x)
  term_detour_lighter TermChange.Stays s u h = nothing (2 * term_size s + 0)
  term_detour_lighter (TermChange.Is t) s u h = nothing (2 * term_size s + 0)
  term_detour_lighter (TermChange.As t) s u h =
      and (2 * term_size s + 1) (Node.Term t.0) [] (omega (arith, ap term_size h.1, firm (tree b t.0) h.2)) (nothing (2 * term_size s + 1))

  type_lighter : IsMap f m b d → (x : TypeShape) → All (λ p. weight f m b p < 2 * type_size (mapped_type m (type_node_tree b x)) + turns_type f (type_node_tree b x)) (type_parts f x)
  type_lighter M (var_node x) = detour_lighter (f.types x) (m.types x) (M.types x)
  type_lighter M (param_node k) = nothing (2 * 1 + 0)
  type_lighter M (con_node k ids) = types_lighter (2 * suc (types_size (mapped_types m (tys (map (type_tree b) ids)))) + 0) ids (omega arith)
  type_lighter M (arrow_node s t) =
      let v = 2 * suc (type_size (mapped_type m (type_tree b s)) + type_size (mapped_type m (type_tree b t))) + 0 in
      and v (Node.Type s) (Node.Type t ∷ []) (omega (arith, small_type (type_tree b s))) (and v (Node.Type t) [] (omega (arith, small_type (type_tree b t))) (nothing v))

  some_size : (ids : List ℕ) → ids ≢ [] → 0 < terms_size (map (mapped m) (map (tree b) ids))
  some_size [] h = absurd (h refl)
  some_size (i ∷ ids) h = omega arith

  term_lighter : IsMap f m b d → (n k : ℕ) (x : TermShape) → TermBelow n k x → All (λ p. weight f m b p < 2 * term_size (mapped m (node_tree b x)) + turns f (node_tree b x)) (term_parts f x)
  term_lighter M n k (index_node i) h = nothing (2 * 1 + 0)
  term_lighter M n k (const_node c ids) h = list_lighter (2 * suc (list_size (map (mapped_type m) (map (type_tree b) ids))) + 0) ids (omega arith)
  term_lighter M n k (int_node z) h = nothing (2 * 1 + 0)
  term_lighter M n k (text_node s) h = nothing (2 * 1 + 0)
  term_lighter M n k (eigen_node e) h = nothing (2 * 1 + 0)
  term_lighter M n k (logic_node x l) h = term_detour_lighter (f.terms x) (m.terms x l) (atom (logic x l)) (M.terms x l)
  term_lighter M n k (typed_param_node p t) h =
      let v = 2 * suc (type_size (mapped_type m (type_tree b t))) + 0 in and v (Node.Type t) [] (omega (arith, small_type (type_tree b t))) (nothing v)
  term_lighter M n k (abs_node s) h =
      let v = 2 * suc (term_size (mapped m (tree b s))) + 0 in and v (Node.Term s) [] (omega (arith, small (tree b s))) (nothing v)
  term_lighter M n k (app_node s ids) h =
      let xs = map (tree b) ids in
      let u = mapped m (tree b s) in
      let v = 2 * term_size (mapped m (apply (tree b s) xs)) + turns f (apply (tree b s) xs) in
      let e : term_size (mapped m (apply (tree b s) xs)) ≡ term_size u + terms_size (map (mapped m) xs) = ap term_size (mapped-apply m (tree b s) xs) ∙ apply_size u (map (mapped m) xs) in
      and v (Node.Term s) (map (λ i. Node.Term i) ids) (omega (arith, e, small (tree b s), some_size ids h.2)) (terms_lighter v ids (omega (arith, e, term_some u)))

  pub parts_lighter : IsSound b → IsMap f m b d → (n : Node) → IsIn b n → All (λ p. weight f m b p < weight f m b n) (parts f b n)
  parts_lighter s M (Node.Term i) l =
      transport (λ t. All (λ p. weight f m b p < 2 * term_size (mapped m t) + turns f t) (term_parts f (term_at b i))) (tree-node b s i l)
      (term_lighter M (length b.types) i (term_at b i) (term_below b s i l))
  parts_lighter s M (Node.Type i) l =
      transport (λ t. All (λ p. weight f m b p < 2 * type_size (mapped_type m t) + turns_type f t) (type_parts f (type_at b i))) (type_tree-node b s i l) (type_lighter M (type_at b i))

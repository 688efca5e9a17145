-- A node with what its parts have become: where these are right, so is the node.
use Rattle.std.proofs.Common.{◌≡◌, ℕ, ◌<◌, List, [], ◌∷◌, length, map, refl, sym, ap, ◌∙◌, subst as transport, arith, Option, Some, None, Bool, true, false}
use Rattle.std.specs.Prelude.{All, ◌&&◌}
use Rattle.std.specs.Cmp.Lexicographic.{pointwise}
use Rattle.std.proofs.lemmas.List.Elements.{All-head, All-tail}
use Rattle.lp_calculus.specs.Types.{Ty, con, arrow, tys, types}
use Rattle.lp_calculus.specs.Term.{Term, constant, atom, abs, app, apply}
use Rattle.lp_calculus.specs.Term as term
use Rattle.lp_term.specs.Node.{TypeShape, var_node, param_node, con_node, arrow_node, TermShape, index_node, const_node, int_node, text_node, eigen_node, logic_node, typed_param_node, abs_node, app_node}
use Rattle.lp_term.specs.Nodes.{Nodes, IsSound, Extends, tree, type_tree, type_node_tree, node_tree, term_at, type_at}
use Rattle.lp_term.specs.Mapped.{Map, Told, IsMap, TypeIs, TermIs, mapped, mapped_type, mapped_types}
use Rattle.lp_term.specs.declared.becomes.TypeChange.{TypeChange}
use Rattle.lp_term.specs.declared.becomes.TermChange.{TermChange}
use Rattle.lp_term.specs.declared.node.TermId.{TermId}
use Rattle.lp_term.specs.declared.node.TypeId.{TypeId}
use Rattle.lp_term.specs.declared.walked.Node.{Node}
use Rattle.lp_term.specs.declared.changed.Changed.{Changed}
use Rattle.lp_term.specs.inner.Walking.{made_of, or_own, IsRightAt, IsRight, type_parts, term_parts, type_detour, term_detour, parts, IsIn}
use Rattle.lp_term.specs.inner.Rebuilt.{type_for, term_for, rebuilt_type, rebuilt, rebuilt_variable, rebuilt_logic, IsLeaf}
use Rattle.lp_term.proofs.Trees.{type_tree-node, tree-node}
use Rattle.lp_term.proofs.Walks.{map_map}

type_value : (m : Map) (b d : Nodes) (i : ℕ) (o : Option ℕ) → IsRightAt m b d (Node.Type i) o → type_tree d (or_own o i) ≡ mapped_type m (type_tree b i)
type_value m b d i None h = absurd h
type_value m b d i (Some j) h = h.1

term_value : (m : Map) (b d : Nodes) (i : ℕ) (o : Option ℕ) → IsRightAt m b d (Node.Term i) o → tree d (or_own o i) ≡ mapped m (tree b i)
term_value m b d i None h = absurd h
term_value m b d i (Some j) h = h.1

pub mapped-apply : (m : Map) (h : Term) (xs : List Term) → mapped m (apply h xs) ≡ apply (mapped m h) (map (mapped m) xs)
mapped-apply m h [] = refl
mapped-apply m h (x ∷ xs) = mapped-apply m (app h x) xs

module _ (f : Told) (m : Map) (b d : Nodes) (c : Changed) where
  abbrev AreMade : List Node → Type 0
  AreMade ns = All (λ p. IsRightAt m b d p (made_of c p)) ns

  first : (n : Node) (ns : List Node) → AreMade (n ∷ ns) → IsRightAt m b d n (made_of c n)
  first n ns a = All-head (λ p. IsRightAt m b d p (made_of c p)) n ns a

  others : (n : Node) (ns : List Node) → AreMade (n ∷ ns) → AreMade ns
  others n ns a = All-tail (λ p. IsRightAt m b d p (made_of c p)) n ns a

  types_made : (ids : List ℕ) → AreMade (map (λ i. Node.Type i) ids) → tys (map (type_tree d) (map (type_for c) ids)) ≡ mapped_types m (tys (map (type_tree b) ids))
  types_made [] a = refl
  types_made (i ∷ ids) a =
      let h = type_value m b d i (made_of c (Node.Type i)) (first (Node.Type i) (map (λ i. Node.Type i) ids) a) in
      let r = types_made ids (others (Node.Type i) (map (λ i. Node.Type i) ids) a) in
      λ j. types (h j) (r j)

  type_list_made : (ids : List ℕ) → AreMade (map (λ i. Node.Type i) ids) → map (type_tree d) (map (type_for c) ids) ≡ map (mapped_type m) (map (type_tree b) ids)
  type_list_made [] a = refl
  type_list_made (i ∷ ids) a =
      let h = type_value m b d i (made_of c (Node.Type i)) (first (Node.Type i) (map (λ i. Node.Type i) ids) a) in
      let r = type_list_made ids (others (Node.Type i) (map (λ i. Node.Type i) ids) a) in
      λ j. h j ∷ r j

  terms_made : (ids : List ℕ) → AreMade (map (λ i. Node.Term i) ids) → map (tree d) (map (term_for c) ids) ≡ map (mapped m) (map (tree b) ids)
  terms_made [] a = refl
  terms_made (i ∷ ids) a =
      let h = term_value m b d i (made_of c (Node.Term i)) (first (Node.Term i) (map (λ i. Node.Term i) ids) a) in
      let r = terms_made ids (others (Node.Term i) (map (λ i. Node.Term i) ids) a) in
      λ j. h j ∷ r j

  variable_made : (x : TypeChange) (T : Ty) → TypeIs f m b d T x → AreMade (type_detour x) → rebuilt_variable c d x ≡ T
  variable_made (TypeChange.Var y) T h a = sym h
  variable_made (TypeChange.Is t) T h a = sym h.1
  variable_made (TypeChange.As t) T h a = type_value m b d t.0 (made_of c (Node.Type t.0)) (first (Node.Type t.0) [] a) ∙ sym h.1

  logic_made : (x l : ℕ) (k : TermChange) (s : Term) → TermIs f m b d s (atom (term.logic x l)) k → AreMade (term_detour k) → rebuilt_logic c d x l k ≡ s
  logic_made x l TermChange.Stays s h a = sym h
  logic_made x l (TermChange.Is t) s h a = sym h.1
  logic_made x l (TermChange.As t) s h a = term_value m b d t.0 (made_of c (Node.Term t.0)) (first (Node.Term t.0) [] a) ∙ sym h.1

  type_made : IsMap f m b d → (x : TypeShape) → AreMade (type_parts f x) → rebuilt_type f c d x ≡ mapped_type m (type_node_tree b x)
  type_made M (var_node x) a = variable_made (f.types x) (m.types x) (M.types x) a
  type_made M (param_node k) a = refl
  type_made M (con_node k ids) a = let e = sym (M.kinds k) in let r = types_made ids a in λ j. con (e j) (r j)
  type_made M (arrow_node s t) a =
      let x = type_value m b d s (made_of c (Node.Type s)) (first (Node.Type s) (Node.Type t ∷ []) a) in
      let y = type_value m b d t (made_of c (Node.Type t)) (first (Node.Type t) [] (others (Node.Type s) (Node.Type t ∷ []) a)) in
      λ j. arrow (x j) (y j)

  term_made : IsMap f m b d → (x : TermShape) → AreMade (term_parts f x) → rebuilt f c d x ≡ mapped m (node_tree b x)
  term_made M (index_node i) a = refl
  term_made M (const_node k ids) a = let e = sym (M.constants k) in let r = type_list_made ids a in λ j. atom (constant (e j) (r j))
  term_made M (int_node z) a = refl
  term_made M (text_node s) a = refl
  term_made M (eigen_node k) a = refl
  term_made M (logic_node x l) a = logic_made x l (f.terms x) (m.terms x l) (M.terms x l) a
  term_made M (typed_param_node k t) a = ap (λ T. atom (term.param k T)) (type_value m b d t (made_of c (Node.Type t)) (first (Node.Type t) [] a))
  term_made M (abs_node s) a = ap abs (term_value m b d s (made_of c (Node.Term s)) (first (Node.Term s) [] a))
  term_made M (app_node h ids) a =
      let ns = map (λ i. Node.Term i) ids in
      let x = term_value m b d h (made_of c (Node.Term h)) (first (Node.Term h) ns a) in
      let r = terms_made ids (others (Node.Term h) ns a) in
      (λ j. apply (x j) (r j)) ∙ sym (mapped-apply m (tree b h) (map (tree b) ids))

  -- a node that was read in a bank that has grown since
  pub type_is_right : (a e : Nodes) (i made : ℕ) → Extends b a → IsSound b → i < length b.types → IsMap f m b d → AreMade (parts f b (Node.Type i)) →
      (i < length a.types → made < length e.types) → type_tree e made ≡ rebuilt_type f c d (type_at a i) → IsRight m b e (Node.Type i) made
  type_is_right a e i made x s l M h w t = (
    w (omega (arith, x.more_types)),
    t ∙ ap (rebuilt_type f c d) (x.types_stay i l) ∙ type_made M (type_at b i) h ∙ ap (mapped_type m) (type_tree-node b s i l),
  )

  pub term_is_right : (a e : Nodes) (i made : ℕ) → Extends b a → IsSound b → i < length b.terms → IsMap f m b d → AreMade (parts f b (Node.Term i)) →
      (i < length a.terms → made < length e.terms) → tree e made ≡ rebuilt f c d (term_at a i) → IsRight m b e (Node.Term i) made
  term_is_right a e i made x s l M h w t = (
    w (omega (arith, x.more_terms)),
    t ∙ ap (rebuilt f c d) (x.terms_stay i l) ∙ term_made M (term_at b i) h ∙ ap (mapped m) (tree-node b s i l),
  )

  pub type_right_at : (n : Node) (a e : Nodes) (i made : ℕ) → n ≡ Node.Type i → Extends b a → IsSound b → IsIn b n → IsMap f m b d → AreMade (parts f b n) →
      (i < length a.types → made < length e.types) → type_tree e made ≡ rebuilt_type f c d (type_at a i) → IsRight m b e n made
  type_right_at n a e i made q x s l M h w t =
      transport (λ y. IsIn b y → AreMade (parts f b y) → IsRight m b e y made) (sym q) (λ k g. type_is_right a e i made x s k M g w t) l h

  pub term_right_at : (n : Node) (a e : Nodes) (i made : ℕ) → n ≡ Node.Term i → Extends b a → IsSound b → IsIn b n → IsMap f m b d → AreMade (parts f b n) →
      (i < length a.terms → made < length e.terms) → tree e made ≡ rebuilt f c d (term_at a i) → IsRight m b e n made
  term_right_at n a e i made q x s l M h w t =
      transport (λ y. IsIn b y → AreMade (parts f b y) → IsRight m b e y made) (sym q) (λ k g. term_is_right a e i made x s k M g w t) l h

-- what is put together of parts

pub listed_types : (c : Changed) (d : Nodes) (ids parts slice : List TypeId) → slice ≡ parts → map (λ t. t.0) parts ≡ map (λ t. or_own (made_of c (Node.Type t.0)) t.0) ids →
    map (λ t. type_tree d t.0) slice ≡ map (type_tree d) (map (type_for c) (map (λ t. t.0) ids))
listed_types c d ids parts slice s e =
    ap (map (λ t. type_tree d t.0)) s ∙ sym (map_map (type_tree d) (λ t. t.0) parts) ∙ ap (map (type_tree d)) (e ∙ sym (map_map (type_for c) (λ t. t.0) ids))

pub listed_terms : (c : Changed) (d : Nodes) (ids parts slice : List TermId) → slice ≡ parts → map (λ t. t.0) parts ≡ map (λ t. or_own (made_of c (Node.Term t.0)) t.0) ids →
    map (λ t. tree d t.0) slice ≡ map (tree d) (map (term_for c) (map (λ t. t.0) ids))
listed_terms c d ids parts slice s e =
    ap (map (λ t. tree d t.0)) s ∙ sym (map_map (tree d) (λ t. t.0) parts) ∙ ap (map (tree d)) (e ∙ sym (map_map (term_for c) (λ t. t.0) ids))

pub constructor_is : (f : Told) (c : Changed) (d : Nodes) (k new : ℕ) (ids parts slice : List TypeId) (x : TypeShape) (T : Ty) → T ≡ con new (tys (map (λ t. type_tree d t.0) slice)) → slice ≡ parts →
    map (λ t. t.0) parts ≡ map (λ t. or_own (made_of c (Node.Type t.0)) t.0) ids → new ≡ f.kinds k → con_node k (map (λ t. t.0) ids) ≡ x → T ≡ rebuilt_type f c d x
constructor_is f c d k new ids parts slice x T t s e n q =
    t ∙ ap (λ l. con new (tys l)) (listed_types c d ids parts slice s e) ∙ ap (λ i. con i (tys (map (type_tree d) (map (type_for c) (map (λ t. t.0) ids))))) n ∙ ap (rebuilt_type f c d) q

pub constant_is : (f : Told) (c : Changed) (d : Nodes) (k new : ℕ) (ids parts slice : List TypeId) (x : TermShape) (s : Term) → s ≡ atom (constant new (map (λ t. type_tree d t.0) slice)) → slice ≡ parts →
    map (λ t. t.0) parts ≡ map (λ t. or_own (made_of c (Node.Type t.0)) t.0) ids → new ≡ f.constants k → const_node k (map (λ t. t.0) ids) ≡ x → s ≡ rebuilt f c d x
constant_is f c d k new ids parts slice x s t v e n q =
    t ∙ ap (λ l. atom (constant new l)) (listed_types c d ids parts slice v e) ∙ ap (λ i. atom (constant i (map (type_tree d) (map (type_for c) (map (λ t. t.0) ids))))) n ∙ ap (rebuilt f c d) q

pub application_is : (f : Told) (c : Changed) (d : Nodes) (head top : TermId) (ids parts slice : List TermId) (x : TermShape) (s : Term) → s ≡ apply (tree d top.0) (map (λ t. tree d t.0) slice) → slice ≡ parts →
    map (λ t. t.0) parts ≡ map (λ t. or_own (made_of c (Node.Term t.0)) t.0) ids → top.0 ≡ or_own (made_of c (Node.Term head.0)) head.0 → app_node head.0 (map (λ t. t.0) ids) ≡ x → s ≡ rebuilt f c d x
application_is f c d head top ids parts slice x s t v e n q =
    t ∙ ap (apply (tree d top.0)) (listed_terms c d ids parts slice v e) ∙ ap (λ i. apply (tree d i) (map (tree d) (map (term_for c) (map (λ t. t.0) ids)))) n ∙ ap (rebuilt f c d) q

and_left : (x y : Bool) → (x && y) ≡ true → x ≡ true
and_left true y h = refl
and_left false y h = absurd (cc)

and_right : (x y : Bool) → (x && y) ≡ true → y ≡ true
and_right true y h = h
and_right false y h = absurd (cc)

-- lists of numbers that are equal
pub same_types : (E : TypeId → TypeId → Bool) → ((x y : TypeId) → E x y ≡ true → x.0 ≡ y.0) → (xs ys : List TypeId) → pointwise E xs ys ≡ true → map (λ t. t.0) xs ≡ map (λ t. t.0) ys
same_types E d [] [] h = refl
same_types E d [] (y ∷ ys) h = absurd (cc)
same_types E d (x ∷ xs) [] h = absurd (cc)
same_types E d (x ∷ xs) (y ∷ ys) h = λ i. d x y (and_left (E x y) (pointwise E xs ys) h) i ∷ same_types E d xs ys (and_right (E x y) (pointwise E xs ys) h) i

pub same_terms : (E : TermId → TermId → Bool) → ((x y : TermId) → E x y ≡ true → x.0 ≡ y.0) → (xs ys : List TermId) → pointwise E xs ys ≡ true → map (λ t. t.0) xs ≡ map (λ t. t.0) ys
same_terms E d [] [] h = refl
same_terms E d [] (y ∷ ys) h = absurd (cc)
same_terms E d (x ∷ xs) [] h = absurd (cc)
same_terms E d (x ∷ xs) (y ∷ ys) h = λ i. d x y (and_left (E x y) (pointwise E xs ys) h) i ∷ same_terms E d xs ys (and_right (E x y) (pointwise E xs ys) h) i

-- in place, where the numbers stay
pub constructor_stays : (f : Told) (c : Changed) (d : Nodes) (k new i : ℕ) (ids parts slice : List TypeId) (x : TypeShape) → con_node k (map (λ t. t.0) ids) ≡ x → type_node_tree d (con_node k (map (λ t. t.0) ids)) ≡ type_tree d i → slice ≡ parts →
    map (λ t. t.0) parts ≡ map (λ t. or_own (made_of c (Node.Type t.0)) t.0) ids → map (λ t. t.0) slice ≡ map (λ t. t.0) ids → new ≡ k → new ≡ f.kinds k → type_tree d i ≡ rebuilt_type f c d x
constructor_stays f c d k new i ids parts slice x q t s e same n m =
    sym t ∙ ap (λ j. con j (tys (map (type_tree d) (map (λ t. t.0) ids)))) (sym n ∙ m) ∙
    ap (λ l. con (f.kinds k) (tys (map (type_tree d) l))) (sym same ∙ ap (map (λ t. t.0)) s ∙ e ∙ sym (map_map (type_for c) (λ t. t.0) ids)) ∙ ap (rebuilt_type f c d) q

pub constant_stays : (f : Told) (c : Changed) (d : Nodes) (k new i : ℕ) (ids parts slice : List TypeId) (x : TermShape) → const_node k (map (λ t. t.0) ids) ≡ x → node_tree d (const_node k (map (λ t. t.0) ids)) ≡ tree d i → slice ≡ parts →
    map (λ t. t.0) parts ≡ map (λ t. or_own (made_of c (Node.Type t.0)) t.0) ids → map (λ t. t.0) slice ≡ map (λ t. t.0) ids → new ≡ k → new ≡ f.constants k → tree d i ≡ rebuilt f c d x
constant_stays f c d k new i ids parts slice x q t s e same n m =
    sym t ∙ ap (λ j. atom (constant j (map (type_tree d) (map (λ t. t.0) ids)))) (sym n ∙ m) ∙
    ap (λ l. atom (constant (f.constants k) (map (type_tree d) l))) (sym same ∙ ap (map (λ t. t.0)) s ∙ e ∙ sym (map_map (type_for c) (λ t. t.0) ids)) ∙ ap (rebuilt f c d) q

pub application_stays : (f : Told) (c : Changed) (d : Nodes) (i : ℕ) (head top : TermId) (ids parts slice : List TermId) (x : TermShape) → app_node head.0 (map (λ t. t.0) ids) ≡ x → node_tree d (app_node head.0 (map (λ t. t.0) ids)) ≡ tree d i → slice ≡ parts →
    map (λ t. t.0) parts ≡ map (λ t. or_own (made_of c (Node.Term t.0)) t.0) ids → map (λ t. t.0) slice ≡ map (λ t. t.0) ids → top.0 ≡ head.0 → top.0 ≡ or_own (made_of c (Node.Term head.0)) head.0 →
    tree d i ≡ rebuilt f c d x
application_stays f c d i head top ids parts slice x q t s e same n m =
    sym t ∙ ap (λ j. apply (tree d j) (map (tree d) (map (λ t. t.0) ids))) (sym n ∙ m) ∙
    ap (λ l. apply (tree d (term_for c head.0)) (map (tree d) l)) (sym same ∙ ap (map (λ t. t.0)) s ∙ e ∙ sym (map_map (term_for c) (λ t. t.0) ids)) ∙ ap (rebuilt f c d) q

-- a leaf has the same tree in each bank
pub leaf_same : (b d : Nodes) (x : TermShape) → IsLeaf x → node_tree b x ≡ node_tree d x
leaf_same b d (index_node i) h = refl
leaf_same b d (const_node k ids) h = absurd h
leaf_same b d (int_node z) h = refl
leaf_same b d (text_node s) h = refl
leaf_same b d (eigen_node k) h = refl
leaf_same b d (logic_node x l) h = absurd h
leaf_same b d (typed_param_node k t) h = absurd h
leaf_same b d (abs_node t) h = absurd h
leaf_same b d (app_node h ids) k = absurd k

pub leaf_rebuilt : (f : Told) (c : Changed) (d b : Nodes) (x : TermShape) → IsLeaf x → node_tree b x ≡ rebuilt f c d x
leaf_rebuilt f c d b (index_node i) h = refl
leaf_rebuilt f c d b (const_node k ids) h = absurd h
leaf_rebuilt f c d b (int_node z) h = refl
leaf_rebuilt f c d b (text_node s) h = refl
leaf_rebuilt f c d b (eigen_node k) h = refl
leaf_rebuilt f c d b (logic_node x l) h = absurd h
leaf_rebuilt f c d b (typed_param_node k t) h = absurd h
leaf_rebuilt f c d b (abs_node t) h = absurd h
leaf_rebuilt f c d b (app_node h ids) k = absurd k

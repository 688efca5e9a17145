-- The types of a constant's node.
use Rattle.std.proofs.Common.{◌≡◌, ℕ, zero, suc, ◌<◌, List, [], ◌∷◌, length, map, get_or, refl, sym, ap, ◌∙◌, arith, Bor}
use Rattle.lp_calculus.specs.Term.{Term, atom, app, constant, apply}
use Rattle.lp_calculus.specs.Typing.{o_type, type_at}
use Rattle.lp_term.specs.Node.{TermShape, TermBelow, index_node, const_node, int_node, text_node, eigen_node, logic_node, typed_param_node, abs_node, app_node}
use Rattle.lp_term.specs.Nodes.{Nodes, tree, type_tree, node_tree}
use Rattle.lp_term.specs.Shapes.{term_shape}
use Rattle.lp_term.specs.declared.node.TypeId.{TypeId}
use Rattle.lp_term.specs.declared.node.TermNode.{TermNode}
use Rattle.lp_term.specs.declared.node.TermNode.TheVariants.{Const}
use Rattle.lp_gen.specs.inner.Reading.{types_of}

shape_no : (n : TermNode) → ((k : ℕ) (xs : Bor (List TypeId)) → n ≡ Const k xs → ⊥) → (i : ℕ) (ids : List ℕ) → term_shape n ≡ const_node i ids → ⊥
shape_no (Const k xs) h i ids e = h k xs refl
shape_no _ h i ids e = cc

applied_none : (h : Term) (t : Term) (ts : List Term) → types_of (apply (app h t) ts) ≡ []
applied_none h t [] = refl
applied_none h t (x ∷ ts) = applied_none (app h t) x ts

types_shape : (b : Nodes) (s : TermShape) (m k : ℕ) → TermBelow m k s → ((i : ℕ) (ids : List ℕ) → s ≡ const_node i ids → ⊥) → types_of (node_tree b s) ≡ []
types_shape b (index_node i) m k o h = refl
types_shape b (const_node c ids) m k o h = absurd (h c ids refl)
types_shape b (int_node z) m k o h = refl
types_shape b (text_node s) m k o h = refl
types_shape b (eigen_node i) m k o h = refl
types_shape b (logic_node i l) m k o h = refl
types_shape b (typed_param_node i t) m k o h = refl
types_shape b (abs_node x) m k o h = refl
types_shape b (app_node f []) m k o h = absurd (o.2 refl)
types_shape b (app_node f (i ∷ ids)) m k o h = applied_none (tree b f) (tree b i) (map (tree b) ids)

pub no_types : (b : Nodes) (number m : ℕ) (n : TermNode) (i : ℕ) → node_tree b (term_shape n) ≡ tree b i → TermBelow m i (term_shape n) →
    ((k : ℕ) (xs : Bor (List TypeId)) → n ≡ Const k xs → ⊥) → o_type ≡ type_at (types_of (tree b i)) number
no_types b number m n i e o h = ap (λ ts. type_at ts number) (sym (ap types_of (sym e) ∙ types_shape b (term_shape n) m i o (shape_no n h)))

at_place : (b : Nodes) (n : ℕ) (ids : List TypeId) (d : TypeId) → n < length ids → type_tree b (get_or ids n d).0 ≡ type_at (map (type_tree b) (map (λ t. t.0) ids)) n
at_place b n [] d h = absurd (omega arith)
at_place b zero (x ∷ xs) d h = refl
at_place b (suc n) (x ∷ xs) d h = at_place b n xs d (omega arith)

pub argument_at : (b : Nodes) (n k : ℕ) (ids : List TypeId) (d : TypeId) (i : ℕ) → n < length ids → atom
    (constant k (map (type_tree b) (map (λ t. t.0) ids))) ≡ tree b i → type_tree b (get_or ids n d).0 ≡ type_at (types_of (tree b i)) n
argument_at b n k ids d i h e = at_place b n ids d h ∙ ap (λ t. type_at (types_of t) n) e

-- The head of a term that is taken apart.
use Rattle.std.proofs.Common.{◌≡◌, ℕ, List, [], ◌∷◌, ◌++◌, map, reverse, refl, sym, ap, ◌∙◌, subst as transport, Bor}
use Rattle.std.proofs.lemmas.List.{map-append, reverse-append}
use Rattle.lp_calculus.specs.Term.{Term, index, atom, abs, app, apply}
use Rattle.lp_term.specs.Node.{TermShape, index_node, const_node, int_node, text_node, eigen_node, logic_node, typed_param_node, abs_node, app_node}
use Rattle.lp_term.specs.Nodes.{Nodes, tree, node_tree}
use Rattle.lp_term.specs.Shapes.{term_shape}
use Rattle.lp_term.specs.Spine.{IsNoApplication, head}
use Rattle.lp_term.specs.declared.node.TermId.{TermId}
use Rattle.lp_term.specs.declared.node.TermNode.{TermNode}
use Rattle.lp_term.specs.declared.node.TermNode.TheVariants.{App}

shape_no : (n : TermNode) → ((f : TermId) (xs : Bor (List TermId)) → n ≡ App f xs → ⊥) → (i : ℕ) (ids : List ℕ) → term_shape n ≡ app_node i ids → ⊥
shape_no (App f xs) h i ids e = h f xs refl
shape_no _ h i ids e = cc

no_application : (b : Nodes) (s : TermShape) → ((i : ℕ) (ids : List ℕ) → s ≡ app_node i ids → ⊥) → IsNoApplication (node_tree b s)
no_application b (index_node i) h = tt
no_application b (const_node c ids) h = tt
no_application b (int_node z) h = tt
no_application b (text_node s) h = tt
no_application b (eigen_node k) h = tt
no_application b (logic_node i k) h = tt
no_application b (typed_param_node k t) h = tt
no_application b (abs_node x) h = tt
no_application b (app_node f ids) h = absurd (h f ids refl)

pub is_head : (b : Nodes) (n : TermNode) (i : ℕ) → node_tree b (term_shape n) ≡ tree b i → ((f : TermId) (xs : Bor (List TermId)) → n ≡ App f xs → ⊥) → IsNoApplication (tree b i)
is_head b n i e h = transport IsNoApplication e (no_application b (term_shape n) (shape_no n h))

pub head_applied : (h : Term) (xs : List Term) → head (apply h xs) ≡ head h
head_applied h [] = refl
head_applied h (x ∷ xs) = head_applied (app h x) xs

pub head_inside : (b : Nodes) (t : TermId) (f : Term) (xs : List Term) → apply f xs ≡ tree b t.0 → head f ≡ head (tree b t.0)
head_inside b t f xs e = sym (head_applied f xs) ∙ ap head e

pub map-reverse : {X Y : Type 0} (f : X → Y) (xs : List X) → map f (reverse xs) ≡ reverse (map f xs)
map-reverse f [] = refl
map-reverse f (x ∷ xs) =
    ap (map f) (reverse-append (x ∷ []) xs) ∙ map-append f (reverse xs) (x ∷ []) ∙ ap (λ l. l ++ f x ∷ []) (map-reverse f xs) ∙ sym (reverse-append (f x ∷ []) (map f xs))

-- the head that is no application is the one that a term has
pub head_of_head : (t : Term) → IsNoApplication t → head t ≡ t
head_of_head (index i) h = refl
head_of_head (atom a) h = refl
head_of_head (abs b) h = refl
head_of_head (app t u) h = absurd h

-- The key of a term is that of its head, and keys of texts meet where their bytes are the same.
use Rattle.std.proofs.Common.{◌≡◌, ◌≢◌, ℕ, List, [], ◌∷◌, map, refl, sym, ap, ◌∙◌, Bool, false, Option, Bor}
use Rattle.lp_calculus.specs.Term.{Term, index, atom, abs, app, apply, text}
use Rattle.lp_term.specs.Node.{TermBelow}
use Rattle.lp_term.specs.Nodes.{Nodes, tree, node_tree}
use Rattle.lp_term.specs.Shapes.{term_shape}
use Rattle.lp_term.specs.declared.node.TermId.{TermId}
use Rattle.lp_term.specs.declared.node.TermNode.{TermNode}
use Rattle.lp_model.specs.Same.{same_name}
use Rattle.lp_model.specs.Search.{may_meet, key_of}
use Rattle.lp_term.specs.Spine.{head}
use Rattle.lp_plain.specs.Heads.{IsTextKey}

key_of_head : (t : Term) → key_of t ≡ key_of (head t)
key_of_head (index i) = refl
key_of_head (atom a) = refl
key_of_head (abs b) = refl
key_of_head (app f a) = key_of_head f

pub key_is : (t h T : Term) → T ≡ h → h ≡ head t → key_of t ≡ key_of T
key_is t h T e f = key_of_head t ∙ ap key_of (sym (e ∙ f))

-- texts
no_text_applied : (t u : Term) (ts : List Term) (s : List ℕ) → apply (app t u) ts ≡ atom (text s) → ⊥
no_text_applied t u [] s e = absurd (cc)
no_text_applied t u (a ∷ ts) s e = no_text_applied (app t u) a ts s e

no_text_ids : (b : Nodes) (t : Term) (ids : List ℕ) (s : List ℕ) → ids ≢ [] → apply t (map (tree b) ids) ≡ atom (text s) → ⊥
no_text_ids b t [] s ne e = ne refl
no_text_ids b t (i ∷ ids) s ne e = no_text_applied t (tree b i) (map (tree b) ids) s e

-- a node that is no text is the top of no text
no_text : (b : Nodes) (n m : ℕ) (node : TermNode) (t : Term) (s : List ℕ) → TermBelow n m (term_shape node) → node_tree b (term_shape node) ≡ t → ((bytes : Bor (List ℕ)) → node ≡ TermNode.Text bytes → ⊥) → t ≡ atom (text s) → ⊥
no_text b n m (TermNode.Index i) t s o e h f = absurd (cc)
no_text b n m (TermNode.Const c ts) t s o e h f = absurd (cc)
no_text b n m (TermNode.Int z) t s o e h f = absurd (cc)
no_text b n m (TermNode.Text x) t s o e h f = h x refl
no_text b n m (TermNode.Eigen k) t s o e h f = absurd (cc)
no_text b n m (TermNode.Logic id level) t s o e h f = absurd (cc)
no_text b n m (TermNode.Param k x) t s o e h f = absurd (cc)
no_text b n m (TermNode.Abs x) t s o e h f = absurd (cc)
no_text b n m (TermNode.App f ids) t s o e h q = no_text_ids b (tree b f.0) (map (λ t. t.0) ids.now) s o.2 (e ∙ q)

pub first_is_none : (b : Nodes) (n m : ℕ) (node : TermNode) (one other : TermId) → TermBelow n m (term_shape node) → node_tree b (term_shape node) ≡ tree b one.0 → ((bytes : Bor (List ℕ)) → node ≡ TermNode.Text bytes → ⊥) →
    (a o : Option _) → IsTextKey b one a → IsTextKey b other o → false ≡ may_meet a o
first_is_none b n m node one other w e h a o k l = absurd (no_text b n m node (tree b one.0) k.0 w e h k.1)

same_text : (s r : List ℕ) (t : Term) → atom (text s) ≡ t → t ≡ atom (text r) → s ≡ r
same_text s r t e f = cc

pub texts_meet : (b : Nodes) (one other : TermId) (left : List ℕ) (r : Bool) → atom (text left) ≡ tree b one.0 → r ≡ same_name (atom (text left)) (tree b other.0) →
    (a o : Option _) → IsTextKey b one a → IsTextKey b other o → r ≡ may_meet a o
texts_meet b one other left r e g a o k l =
    let x : left ≡ k.0 = same_text left k.0 (tree b one.0) e k.1 in
    g ∙ (λ i. same_name (atom (text (x i))) (l.1 i)) ∙ (λ i. may_meet (sym k.2 i) (sym l.2 i))

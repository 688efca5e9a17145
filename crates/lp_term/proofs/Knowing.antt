-- What is known of a term follows from what is known of its parts, and stays known as the bank grows.
use Rattle.std.proofs.Common.{◌≡◌, ℕ, zero, suc, ◌-◌, ◌<◌, ◌≤◌, List, [], ◌∷◌, ◌++◌, length, map, take, get_or, refl, sym, ap, ◌∙◌, subst as transport, arith, Option, Some, None, length-append, ◌⊎◌, inl, inr, ◌≢◌}
use Rattle.std.specs.Prelude.{All}
use Rattle.std.proofs.lemmas.List.Elements.{All-head, All-tail}
use Rattle.lp_term.specs.declared.node.TermId.{TermId}
use Rattle.lp_calculus.specs.Term.{Term, index, atom, abs, app, apply}
use Rattle.lp_calculus.specs.Convert.{leftmost_step, option_term, or_else}
use Rattle.lp_term.specs.Node.{TermShape, abs_node, app_node, index_node, const_node, int_node, text_node, eigen_node, logic_node, typed_param_node, TermBelow}
use Rattle.lp_term.specs.Nodes.{Nodes, tree, node_tree, Extends}
use Rattle.lp_term.specs.Spine.{LooseBelow}
use Rattle.lp_term.specs.Facts.{AreFacts, AreNodes, IsNoAbstraction, AreKnown, no_facts}
use Rattle.lp_term.specs.declared.facts.Facts.{Facts}
use Rattle.lp_term.specs.declared.node.TypeCell.{TypeCell}
use Rattle.lp_term.specs.declared.bank.Entry.{Entry}
use Rattle.lp_term.specs.Shown.{nodes_of, facts_of}
use Rattle.lp_term.proofs.Trees.{get_or-front, get_or-last}

pub loose_more : (r s d : ℕ) → r ≤ s → (t : Term) → LooseBelow r d t → LooseBelow s d t
loose_more r s d l (index i) h = omega arith
loose_more r s d l (atom a) h = tt
loose_more r s d l (abs b) h = loose_more r s (suc d) l b h
loose_more r s d l (app t u) h = (loose_more r s d l t h.0, loose_more r s d l u h.1)

pub loose_under : (r d : ℕ) (t : Term) → LooseBelow r d t → LooseBelow (r - 1) (suc d) t
loose_under r d (index i) h = omega arith
loose_under r d (atom a) h = tt
loose_under r d (abs b) h = loose_under r (suc d) b h
loose_under r d (app t u) h = (loose_under r d t h.0, loose_under r d u h.1)

pub nodes_abs : (o : Option ℕ) (t : Term) → AreNodes o (app t (index 0)) → AreNodes o (abs t)
nodes_abs None t h = omega arith
nodes_abs (Some n) t h = omega arith

pub normal_app : (t u : Term) → IsNoAbstraction t → leftmost_step t ≡ None → leftmost_step u ≡ None → leftmost_step (app t u) ≡ None
normal_app (index i) u n h k = ap (option_term (app (index i))) k
normal_app (atom a) u n h k = ap (option_term (app (atom a))) k
normal_app (abs b) u n h k = absurd n
normal_app (app t v) u n h k = λ i. or_else (option_term (λ s. app s u) (h i)) (option_term (app (app t v)) (k i))

-- what is known of a bank with one more term
pub known_more : (b a : Nodes) (fs gs : List Facts) (f : Facts) (x : TermShape) → Extends b a → length fs ≡ length b.terms → gs ≡ fs ++ f ∷ [] → AreKnown b fs → AreFacts f (node_tree b x) →
    ((i : ℕ) → i ≡ length b.terms → tree a i ≡ node_tree b x) → AreKnown a gs
known_more b a fs gs f x e l q k h t i j = transport (λ y. AreFacts (get_or y i no_facts) (tree a i)) (sym q) (go (under i))
  where
    under : (i : ℕ) → (i < length fs) ⊎ (length fs ≤ i)
    under i = grind (arith)

    go : (i < length fs) ⊎ (length fs ≤ i) → AreFacts (get_or (fs ++ f ∷ []) i no_facts) (tree a i)
    go (inl p) = transport (λ y. AreFacts y (tree a i)) (sym (get_or-front fs (f ∷ []) no_facts i p)) (transport (AreFacts (get_or fs i no_facts)) (sym (e.same_terms i (omega arith))) (k i p))
    go (inr p) =
        let z : i ≡ length fs = omega (arith, ap length q, length-append fs (f ∷ [])) in
        transport (λ y. AreFacts y (tree a i)) (sym (get_or-last fs f no_facts i z)) (transport (AreFacts f) (sym (t i (omega arith))) h)

pub known_stays : (b a : Nodes) (fs : List Facts) → Extends b a → length fs ≡ length b.terms → AreKnown b fs → AreKnown a fs
known_stays b a fs e l k i j = transport (AreFacts (get_or fs i no_facts)) (sym (e.same_terms i (omega arith))) (k i j)

pub facts_long : (types : List TypeCell) (entries : List Entry) → length (facts_of entries) ≡ length (nodes_of types entries).terms
facts_long types [] = refl
facts_long types (e ∷ es) = ap suc (facts_long types es)

-- an application at the top is no abstraction
apply_no : (h : Term) (xs : List Term) → IsNoAbstraction h → IsNoAbstraction (apply h xs)
apply_no h [] n = n
apply_no h (x ∷ xs) n = apply_no (app h x) xs tt

pub apply_last : (h : Term) (xs : List Term) (x : Term) → apply h (xs ++ x ∷ []) ≡ app (apply h xs) x
apply_last h [] x = refl
apply_last h (y ∷ xs) x = apply_last (app h y) xs x

some_apply : (h : Term) (xs : List Term) → xs ≢ [] → IsNoAbstraction (apply h xs)
some_apply h [] n = absurd (n refl)
some_apply h (x ∷ xs) n = apply_no (app h x) xs tt

map_some : (f : ℕ → Term) (ids : List ℕ) → ids ≢ [] → map f ids ≢ []
map_some f [] n e = n refl
map_some f (i ∷ ids) n e = cc

pub top_no : (b : Nodes) (n m : ℕ) (s : TermShape) → ((i : ℕ) → s ≡ abs_node i → ⊥) → TermBelow n m s → IsNoAbstraction (node_tree b s)
top_no b n m (index_node i) h l = tt
top_no b n m (const_node c ids) h l = tt
top_no b n m (int_node z) h l = tt
top_no b n m (text_node s) h l = tt
top_no b n m (eigen_node k) h l = tt
top_no b n m (logic_node i k) h l = tt
top_no b n m (typed_param_node k t) h l = tt
top_no b n m (abs_node x) h l = absurd (h x refl)
top_no b n m (app_node f ids) h l = some_apply (tree b f) (map (tree b) ids) (map_some (tree b) ids l.2)

-- a head on the first arguments of a list, and on one more
pub applied_next : (τ : ℕ → Term) (h : Term) (ids : List TermId) (k m : ℕ) → m ≡ suc k → k < length ids →
    apply h (map τ (map (λ t. t.0) (take m ids))) ≡ app (apply h (map τ (map (λ t. t.0) (take k ids)))) (τ (get_or ids k (record { 0 = 0 })).0)
applied_next τ h [] k m e l = absurd (omega arith)
applied_next τ h (x ∷ xs) zero m e l = ap (λ n. apply h (map τ (map (λ t. t.0) (take n (x ∷ xs))))) e
applied_next τ h (x ∷ xs) (suc k) m e l = ap (λ n. apply h (map τ (map (λ t. t.0) (take n (x ∷ xs))))) e ∙ applied_next τ (app h (τ x.0)) xs k (suc k) refl (omega arith)

pub take_whole : {X : Type 0} (xs : List X) (k : ℕ) → length xs ≤ k → take k xs ≡ xs
take_whole [] zero l = refl
take_whole [] (suc k) l = refl
take_whole (x ∷ xs) zero l = absurd (omega arith)
take_whole (x ∷ xs) (suc k) l = ap (λ y. x ∷ y) (take_whole xs k (omega arith))

pub id_below : (n : ℕ) (ids : List TermId) (k : ℕ) → All (λ i. i < n) (map (λ t. t.0) ids) → k < length ids → (get_or ids k (record { 0 = 0 })).0 < n
id_below n [] k a l = absurd (omega arith)
id_below n (x ∷ xs) zero a l = All-head (λ i. i < n) x.0 (map (λ t. t.0) xs) a
id_below n (x ∷ xs) (suc k) a l = id_below n xs k (All-tail (λ i. i < n) x.0 (map (λ t. t.0) xs) a) (omega arith)

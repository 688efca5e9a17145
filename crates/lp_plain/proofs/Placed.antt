-- Places that give way to those of a node's parts are lighter.
use Rattle.std.proofs.Common.{◌≡◌, ℕ, ◌+◌, ◌^◌, ◌<◌, List, [], ◌∷◌, ◌++◌, length, map, refl, sym, ap, ◌∙◌, subst, arith, inl, inr}
use Rattle.std.specs.Prelude.{◌≢◌, All}
use Rattle.std.proofs.lemmas.Bool.{cases_lt}
use Rattle.std.proofs.lemmas.List.Elements.{All-append, All-cons, All-head, All-nil, All-tail}
use Rattle.lp_lemmas.proofs.Elements.{All_pushed}
use Rattle.lp_calculus.specs.Term.{abs, apply}
use Rattle.lp_term.specs.Node.{TermShape, abs_node, app_node, index_node}
use Rattle.lp_term.specs.Nodes.{Nodes, term_at, tree}
use Rattle.lp_term.specs.declared.node.TermId.{TermId}
use Rattle.lp_plain.specs.declared.head.Place.{Place}
use Rattle.lp_plain.specs.Heads.{places_of}
use Rattle.lp_plain.specs.inner.Looking.{weight_of_all, term_weight}
use Rattle.lp_plain.specs.inner.Placing.{IsShallow, places_weight}
use Rattle.lp_term.proofs.Trees.{term_at-past}
use Rattle.lp_plain.proofs.Looks.{lighter_off, lighter_parts}
use Rattle.lp_plain.proofs.OpenNodes.{term_weighs, abs_lighter, app_lighter}

pub place_off : (b : Nodes) (all ps : List Place) (p : Place) → all ≡ ps ++ p ∷ [] → places_weight b ps < places_weight b all
place_off b all ps p e = lighter_off (λ (p : Place). p.term.0) (term_weight b) all ps p (λ i. term_weighs (tree b i)) e

pub body_placed : (b : Nodes) (ps new : List Place) (p : Place) (body : TermId) (d : ℕ) → abs (tree b body.0) ≡ tree b p.term.0 → new ≡ ps ++ record
    { term = body; depth = d } ∷ [] → places_weight b new < places_weight b (ps ++ p ∷ [])
body_placed b ps new p body d t e = lighter_parts (λ (p : Place). p.term.0) (term_weight b) (ps ++ p ∷ []) ps new (record { term = body; depth = d } ∷ []) p refl e (abs_lighter b p.term.0 body.0 t)

numbers_of : (d : ℕ) (ts : List TermId) → map (λ (p : Place). p.term.0) (places_of d ts) ≡ map (λ t. t.0) ts
numbers_of d [] = refl
numbers_of d (t ∷ ts) = ap (λ l. t.0 ∷ l) (numbers_of d ts)

pub parts_placed : (b : Nodes) (ps new : List Place) (p : Place) (head : TermId) (args : List TermId) (d : ℕ) → apply (tree b head.0)
    (map (tree b) (map (λ t. t.0) args)) ≡ tree b p.term.0 → map (λ t. t.0) args ≢ [] →
    new ≡ ps ++ places_of d (head ∷ args) → places_weight b new < places_weight b (ps ++ p ∷ [])
parts_placed b ps new p head args d t n e =
    lighter_parts (λ (p : Place). p.term.0) (term_weight b) (ps ++ p ∷ []) ps new (places_of d (head ∷ args)) p refl e
    (subst (λ l. weight_of_all (term_weight b) l < term_weight b p.term.0) (sym (numbers_of d (head ∷ args))) (app_lighter b p.term.0 head.0 (map (λ t. t.0) args) t n))

-- the parts of a node stand no deeper than its number allows

inside_one : (b : Nodes) (i : ℕ) (s : TermShape) → s ≡ term_at b i → (s ≡ index_node 0 → ⊥) → i < length b.terms
inside_one b i s e n = elim (cases_lt i (length b.terms)) [
  | inl l ↦ l
  | inr l ↦ absurd (n (e ∙ term_at-past b i l))
]

pub body_depth : (b : Nodes) (p : Place) (body : TermId) → abs_node body.0 ≡ term_at b p.term.0 → IsShallow b p → p.depth < 2 ^ 62
body_depth b p body n s = let l = s (inside_one b p.term.0 (abs_node body.0) n (λ e. absurd (cc))) in omega (arith, l)

pub body_shallow : (b : Nodes) (ps new : List Place) (p : Place) (body : TermId) → abs_node body.0 ≡ term_at b p.term.0 → body.0 < p.term.0 →
    IsShallow b p → new ≡ ps ++ record { term = body; depth = p.depth + 1 } ∷ [] →
    All (IsShallow b) ps → All (IsShallow b) new
body_shallow b ps new p body n l s e a =
    let k = s (inside_one b p.term.0 (abs_node body.0) n (λ q. absurd (cc))) in
    All_pushed (IsShallow b) new ps (record { term = body; depth = p.depth + 1 }) e a (λ i. omega (arith, k, l))

all_shallow : (b : Nodes) (top d : ℕ) → d + top < 2 ^ 62 → (ts : List TermId) → All (λ i. i < top) (map (λ t. t.0) ts) → All (IsShallow b) (places_of d ts)
all_shallow b top d s [] a = All-nil (IsShallow b)
all_shallow b top d s (t ∷ ts) a =
    let l : t.0 < top = All-head (λ j. j < top) t.0 (map (λ j. j.0) ts) a in
    All-cons (IsShallow b) (record { term = t; depth = d }) (places_of d ts) (λ i. omega (arith, s, l)) (all_shallow b top d s ts (All-tail (λ j. j < top) t.0 (map (λ j. j.0) ts) a))

pub parts_shallow : (b : Nodes) (ps new : List Place) (p : Place) (head : TermId) (args : List TermId) → app_node head.0 (map (λ t. t.0) args) ≡
    term_at b p.term.0 → head.0 < p.term.0 → All (λ i. i < p.term.0) (map (λ t. t.0) args) → IsShallow b p →
    new ≡ ps ++ places_of p.depth (head ∷ args) → All (IsShallow b) ps → All (IsShallow b) new
parts_shallow b ps new p head args n l m s e a =
    let k = s (inside_one b p.term.0 (app_node head.0 (map (λ t. t.0) args)) n (λ q. absurd (cc))) in
    subst (All (IsShallow b)) (sym e)
    (All-append (IsShallow b) ps (places_of p.depth (head ∷ args)) a
    (All-cons (IsShallow b) (record { term = head; depth = p.depth }) (places_of p.depth args) (λ i. omega (arith, k, l)) (all_shallow b p.term.0 p.depth k args m)))

pub root_shallow : (b : Nodes) (term : TermId) (none all : List Place) → length b.terms < 2 ^ 62 → none ≡ [] → all ≡ none ++ record { term = term; depth = 0 } ∷ [] → All (IsShallow b) all
root_shallow b term none all f n e =
    All_pushed (IsShallow b) all none (record { term = term; depth = 0 }) e (subst (All (IsShallow b)) (sym n) (All-nil (IsShallow b))) (λ i. omega (arith, i, f))

-- Terms below abstractions that were opened: looks at them, and at the bodies of their abstractions.
use Rattle.std.proofs.Common.{◌≡◌, ℕ, zero, suc, ◌+◌, ◌-◌, ◌<◌, List, [], ◌∷◌, map, length, ◌∙◌, refl, sym, ap, subst as transport, arith, Bool, true, false, Option, Some, None, if◌then◌else◌}
use Rattle.std.specs.Prelude.{option_map, nat_lt}
use Rattle.std.proofs.lemmas.Bool.Decides.{nat_tests}
use mathlib.Core.Path.{fun_ext}
use Rattle.lp_calculus.specs.Term.{Term, Atom, index, atom, abs, app, apply, substitute, constant, integer, text, eigen, logic, param}
use Rattle.lp_calculus.specs.Convert.{steps}
use Rattle.lp_calculus.specs.Fill.{fill, raise, at_variables}
use Rattle.lp_calculus.specs.Instance.{instance_term}
use Rattle.lp_calculus.proofs.Sigma.{up, subst, instead, subst-subst, subst-rename, subst-index}
use Rattle.lp_calculus.proofs.Plain.{substitute-subst}
use Rattle.lp_term.specs.Nodes.{Nodes, Extends, tree}
use Rattle.lp_term.specs.declared.node.TermId.{TermId}
use Rattle.lp_model.specs.Pair.{Closing, closed}
use Rattle.lp_model.specs.Look.{Look, an_abs, rigid, flexible, looked, weak_step, top_normal}
use Rattle.lp_term.proofs.Walks.{map_map}
use Rattle.lp_pattern.specs.declared.bindings.Bindings.{Bindings}
use Rattle.lp_pattern.specs.declared.look.Head.{Head}
use Rattle.lp_pattern.specs.declared.look.Looked.{Looked}
use Rattle.lp_pattern.specs.Under.{ValueIs, IsReading, under, below}
use Rattle.lp_pattern.specs.Seen.{IsRigid, IsHead, IsLooked}
use Rattle.lp_pattern.specs.Stripping.{opens, IsShut, read_at}
use Rattle.lp_pattern.specs.TopLooks.{top_look}
use Rattle.std.proofs.lemmas.List.{append-nil}
use Rattle.lp_pattern.proofs.Looking.{closed_apply, looked_apply}
use Rattle.lp_pattern.proofs.Naming.{IsLeaf, AreLeaves, weak_named, steps_named, subst_apply, leaf_weak, leaf_weak_on}
use Rattle.lp_pattern.proofs.Stacks.{under_kept}

pub opens_leaves : (l d : ℕ) → AreLeaves (opens l d)
opens_leaves l d i = go (nat_lt i d)
  where
    go : (b : Bool) → IsLeaf (if b then atom (eigen (l + (d - i))) else index (i - d))
    go true = tt
    go false = tt

-- none is open
pub opens_none : (l i : ℕ) → opens l 0 i ≡ index i
opens_none l i =
    let e : nat_lt i 0 ≡ false = grind (arith, nat_tests) in
    let z : i - 0 ≡ i = omega arith in
    ap (λ b. if b then atom (eigen (l + (0 - i))) else index (i - 0)) e ∙ ap index z

pub read_none : (b : Nodes) (c : Closing) (l : ℕ) (t : TermId) → read_at b c l 0 t ≡ under b c t
read_none b c l t = ap (λ σ. subst σ (under b c t)) (fun_ext (opens_none l)) ∙ subst-index (under b c t)

-- one more is opened
one_more_at : (l d k : ℕ) → k ≡ l + d → (i : ℕ) → subst (instead (atom (eigen (suc k)))) (up (opens l d) i) ≡ opens l (suc d) i
one_more_at l d k q zero =
    let e : nat_lt 0 (suc d) ≡ true = grind (arith, nat_tests) in
    let z : suc k ≡ l + (suc d - 0) = omega (arith, q) in
    ap (λ x. atom (eigen x)) z ∙ ap (λ b. if b then atom (eigen (l + (suc d - 0))) else index (0 - suc d)) (sym e)
one_more_at l d k q (suc i) =
    let e : nat_lt i d ≡ nat_lt (suc i) (suc d) = grind (arith, nat_tests) in
    let y : d - i ≡ suc d - suc i = omega arith in
    let z : i - d ≡ suc i - suc d = omega arith in
    subst-rename suc (instead (atom (eigen (suc k)))) (opens l d i) ∙ subst-index (opens l d i) ∙ (λ j. if e j then atom (eigen (l + y j)) else index (z j))

pub opened_once : (l d k : ℕ) (b : Term) → k ≡ l + d → substitute (atom (eigen (suc k))) (subst (up (opens l d)) b) ≡ subst (opens l (suc d)) b
opened_once l d k b q =
    substitute-subst (atom (eigen (suc k))) (subst (up (opens l d)) b) ∙ subst-subst (up (opens l d)) (instead (atom (eigen (suc k)))) b ∙ ap (λ σ. subst σ b) (fun_ext (one_more_at l d k q))

-- a closing without loose indices closes bodies as terms
raised_same : (c : Closing) → IsShut c → (a : Atom) → raise (at_variables c.terms) a ≡ at_variables c.terms a
raised_same c h (constant k ts) = refl
raised_same c h (integer z) = refl
raised_same c h (text s) = refl
raised_same c h (eigen k) = refl
raised_same c h (logic x l) = h x l
raised_same c h (param k t) = refl

pub body_closed : (c : Closing) → IsShut c → (t : Term) → below c t ≡ closed c t
body_closed c h t = ap (λ f. fill f (instance_term c.types t)) (fun_ext (raised_same c h))

-- steps
pub read_reached : (b d : Nodes) (c : Closing) (l k n : ℕ) (t s : TermId) → steps weak_step n (under b c t) ≡ Some (under d c s) → steps weak_step n (read_at b c l k t) ≡ Some (read_at d c l k s)
read_reached b d c l k n t s e = steps_named weak_step (opens l k) (weak_named (opens l k) (opens_leaves l k)) n (under b c t) (under d c s) e

pub read_kept : (b d : Nodes) (c : Closing) (l k : ℕ) (t : TermId) → Extends b d → t.0 < length b.terms → read_at d c l k t ≡ read_at b c l k t
read_kept b d c l k t e h = ap (subst (opens l k)) (under_kept b d c t e h)

-- the whole of what was looked at: its head on its arguments
pub read_whole : (b : Nodes) (s : Bindings) (c : Closing) (l k : ℕ) (r : Looked) → IsLooked b s r → read_at b c l k r.whole ≡ apply (read_at b c l k r.top) (map (read_at b c l k) r.arguments.items)
read_whole b s c l k r h =
    ap (λ t. subst (opens l k) (closed c t)) h.made ∙ ap (subst (opens l k)) (closed_apply c (map (λ t. tree b t.0) r.arguments.items) (tree b r.top.0)) ∙
    subst_apply (opens l k) (map (closed c) (map (λ t. tree b t.0) r.arguments.items)) (under b c r.top) ∙
    ap (apply (read_at b c l k r.top)) (map_map (subst (opens l k)) (closed c) (map (λ t. tree b t.0) r.arguments.items) ∙ map_map (λ t. subst (opens l k) (closed c t)) (λ t. tree b t.0) r.arguments.items)

-- the step of a leaf on arguments
spine_none : (ts : List Term) (h t : Term) → weak_step (app h t) ≡ None → weak_step (apply (app h t) ts) ≡ None
spine_none [] h t e = e
spine_none (u ∷ ts) h t e = spine_none ts (app h t) u (ap (λ (o : Option Term). elim o as (λ z. Option Term) [ None ↦ None | Some s ↦ Some (app s u) ]) e)

weak_leaf : (ts : List Term) (h : Term) → IsLeaf h → weak_step (apply h ts) ≡ None
weak_leaf [] h l = leaf_weak h l
weak_leaf (t ∷ ts) h l = spine_none ts h t (leaf_weak_on h t l)

-- what a look at the top comes to
reached_same : (m p : ℕ) (t x v : Term) → top_normal m t ≡ Some x → steps weak_step p t ≡ Some v → weak_step v ≡ None → x ≡ v
reached_same zero p t x v e f n = absurd (cc)
reached_same (suc m) zero t x v e f n =
    let i : t ≡ v = cc in
    let q : Some t ≡ Some x = sym (ap (λ (o : Option Term). elim o as (λ z. Option Term) [ None ↦ Some t | Some s ↦ top_normal m s ]) (ap weak_step i ∙ n)) ∙ e in
    let j : t ≡ x = cc in
    sym j ∙ i
reached_same (suc m) (suc p) t x v e f n = go (weak_step t) refl f e (λ s a b. reached_same m p s x v a b n)
  where
    go : (o : Option Term) → weak_step t ≡ o → (elim o as (λ z. Option Term) [ None ↦ None | Some s ↦ steps weak_step p s ]) ≡ Some v →
        (elim o as (λ z. Option Term) [ None ↦ Some t | Some s ↦ top_normal m s ]) ≡ Some x → ((s : Term) → top_normal m s ≡ Some x → steps weak_step p s ≡ Some v → x ≡ v) → x ≡ v
    go None q a b k = absurd (cc)
    go (Some s) q a b k = k s b a

pub top_of : (m p : ℕ) (t v : Term) (w : Look) → top_look m t ≡ Some w → steps weak_step p t ≡ Some v → weak_step v ≡ None → w ≡ looked v []
top_of m p t v w e f n = go (top_normal m t) refl e
  where
    go : (o : Option Term) → top_normal m t ≡ o → option_map (λ s. looked s []) o ≡ Some w → w ≡ looked v []
    go None q a = absurd (cc)
    go (Some x) q a = let i : looked x [] ≡ w = cc in sym i ∙ ap (λ y. looked y []) (reached_same m p t x v q f n)

-- the three kinds of heads
rigid_leaf : (c : Closing) (l k : ℕ) (t : Term) → IsRigid t → IsLeaf (subst (opens l k) (closed c t))
rigid_leaf c l k (index i) h = opens_leaves l k i
rigid_leaf c l k (atom (constant j us)) h = tt
rigid_leaf c l k (atom (integer z)) h = tt
rigid_leaf c l k (atom (text s)) h = tt
rigid_leaf c l k (atom (eigen j)) h = tt
rigid_leaf c l k (atom (logic x m)) h = absurd h
rigid_leaf c l k (atom (param j u)) h = tt
rigid_leaf c l k (abs b) h = absurd h
rigid_leaf c l k (app t u) h = absurd h

rigid_seen : (c : Closing) (l k : ℕ) (t : Term) (ts : List Term) → IsRigid t → looked (subst (opens l k) (closed c t)) ts ≡ rigid (subst (opens l k) (closed c t)) ts
rigid_seen c l k (index i) ts h = go (nat_lt i k)
  where
    go : (b : Bool) → looked (if b then atom (eigen (l + (k - i))) else index (i - k)) ts ≡ rigid (if b then atom (eigen (l + (k - i))) else index (i - k)) ts
    go true = refl
    go false = refl
rigid_seen c l k (atom (constant j us)) ts h = refl
rigid_seen c l k (atom (integer z)) ts h = refl
rigid_seen c l k (atom (text s)) ts h = refl
rigid_seen c l k (atom (eigen j)) ts h = refl
rigid_seen c l k (atom (logic x m)) ts h = absurd h
rigid_seen c l k (atom (param j u)) ts h = refl
rigid_seen c l k (abs b) ts h = absurd h
rigid_seen c l k (app t u) ts h = absurd h

-- a term that was looked at takes no step, and this is what is seen
pub record SeenAt (t : Term) (v : Look) : Type 0 where
  pub ended : weak_step t ≡ None
  pub look : looked t [] ≡ v

pub on_leaf : (t h : Term) (ts : List Term) (v : Look) → t ≡ apply h ts → IsLeaf h → looked h ts ≡ v → SeenAt t v
on_leaf t h ts v e l q = record {
  ended = ap weak_step e ∙ weak_leaf ts h l;
  look = ap (λ x. looked x []) e ∙ looked_apply ts [] h ∙ ap (looked h) (append-nil ts) ∙ q;
}

pub rigid_at : (b : Nodes) (s : Bindings) (c : Closing) (l k : ℕ) (r : Looked) → IsLooked b s r → r.head ≡ Head.Rigid →
    SeenAt (read_at b c l k r.whole) (rigid (read_at b c l k r.top) (map (read_at b c l k) r.arguments.items))
rigid_at b s c l k r h q =
    let i : IsRigid (tree b r.top.0) = transport (λ x. IsHead b s x (tree b r.top.0) r.arguments.items) q h.head in
    on_leaf (read_at b c l k r.whole) (read_at b c l k r.top) (map (read_at b c l k) r.arguments.items) _ (read_whole b s c l k r h) (rigid_leaf c l k (tree b r.top.0) i)
    (rigid_seen c l k (tree b r.top.0) (map (read_at b c l k) r.arguments.items) i)

pub variable_at : (b : Nodes) (s : Bindings) (c : Closing) (l k : ℕ) (r : Looked) (x m : ℕ) → IsReading b s c → IsLooked b s r → r.head ≡ Head.Variable x m →
    SeenAt (read_at b c l k r.whole) (flexible x m (map (read_at b c l k) r.arguments.items))
variable_at b s c l k r x m i h q =
    let w : IsHead b s (Head.Variable x m) (tree b r.top.0) r.arguments.items = transport (λ y. IsHead b s y (tree b r.top.0) r.arguments.items) q h.head in
    let v : ValueIs b c x None = transport (ValueIs b c x) w.1 (i.terms x) in
    let top : read_at b c l k r.top ≡ atom (logic x m) = ap (λ t. subst (opens l k) (closed c t)) w.0 ∙ ap (subst (opens l k)) (v m) in
    on_leaf (read_at b c l k r.whole) (atom (logic x m)) (map (read_at b c l k) r.arguments.items) _
    (read_whole b s c l k r h ∙ ap (λ t. apply t (map (read_at b c l k) r.arguments.items)) top) tt refl

pub abstraction_at : (b : Nodes) (s : Bindings) (c : Closing) (l k : ℕ) (r : Looked) (body : TermId) → IsShut c → IsLooked b s r → r.head ≡ Head.Abstraction body →
    SeenAt (read_at b c l k r.whole) (an_abs (subst (up (opens l k)) (under b c body)))
abstraction_at b s c l k r body h i q =
    let w : IsHead b s (Head.Abstraction body) (tree b r.top.0) r.arguments.items = transport (λ y. IsHead b s y (tree b r.top.0) r.arguments.items) q i.head in
    let e : read_at b c l k r.whole ≡ abs (subst (up (opens l k)) (under b c body)) =
    ap (λ t. subst (opens l k) (closed c t)) (i.made ∙ ap (λ l. apply (tree b r.top.0) (map (λ t. tree b t.0) l)) w.2 ∙ w.0) ∙ ap (λ t. abs (subst (up (opens l k)) t)) (body_closed c h (tree b body.0)) in
    record { ended = ap weak_step e; look = ap (λ x. looked x []) e }

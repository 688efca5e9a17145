-- A term that is visited keeps what can be typed: by its top, and by what the call for that top says.
use Rattle.std.proofs.Common.{◌≡◌, ℕ, zero, suc, ◌<◌, ◌≤◌, List, [], ◌∷◌, ◌++◌, map, length, sym, ap, subst, ◌∙◌, arith, Bool, true, false}
use Rattle.std.specs.Prelude.{All, Some, None, slice_get, Result, Ok, Err, IfOk}
use Rattle.std.proofs.lemmas.List.{length-map}
use Rattle.std.proofs.lemmas.List.Elements.{All-nil, All-cons, All-head, All-tail}
use Rattle.std.proofs.lemmas.Option.{slice_get_past}
use Rattle.lp_lemmas.proofs.Lists.{get_map}
use Rattle.lp_lemmas.proofs.Elements.{All_pushed}
use Rattle.lp_base.specs.declared.memory.Memory.{Memory}
use Rattle.lp_calculus.specs.Types.{Ty}
use Rattle.lp_calculus.specs.Term.{Term, Atom, atom, abs, app, apply, constant, eigen, logic, param}
use Rattle.lp_calculus.specs.Closed.{IsClosedType, AreClosed, AllAtoms}
use Rattle.lp_calculus.specs.Typing.{HasType, scheme_type, eigen_type}
use Rattle.lp_model.specs.Readings.{declared_by}
use Rattle.lp_term.specs.Node.{TermShape, TermBelow, const_node}
use Rattle.lp_term.specs.Nodes.{Nodes, Extends, tree, type_tree, node_tree}
use Rattle.lp_term.specs.declared.node.TypeId.{TypeId}
use Rattle.lp_term.specs.declared.node.TermId.{TermId}
use Rattle.lp_term.proofs.Trees.{extends-trans, extends_same}
use Rattle.lp_cert.specs.Facts.{AreInside}
use Rattle.lp_cert.specs.Same.{types_in}
use Rattle.lp_cert.specs.inner.Derives.{visiting, step_of, types_of, Keeps, IsTaskIn, IsTidy, IsHeld}
use Rattle.lp_cert.specs.inner.Named.{HasClosedTypes}
use Rattle.lp_cert.specs.declared.typing.Task.{Task}
use Rattle.lp_cert.specs.declared.typing.Task.TheVariants as task
use Rattle.lp_cert.specs.declared.typing.Typing.{Typing}
use Rattle.lp_cert.proofs.ClosedTypes.{scheme_closed}
use Rattle.lp_cert.proofs.Comparisons.{twice}
use Rattle.lp_cert.proofs.Keeping.{refused, held_keeps, constant_keeps, eigen_keeps, keeps_as}
use Rattle.lp_cert.proofs.Later.{closed_type_inside, closed_types_inside, inside_later, seen_inside}

-- what a type put on the stack says
abbrev Held : Nodes → (old new : Typing) → TypeId → Bool → Type 0
Held now old new of done = IsClosedType (type_tree now of.0) → (done ≡ true) × IsHeld old new of

abbrev HeldAs : Nodes → (old new : Typing) → Ty → Bool → Type 0
HeldAs now old new T done = (done ≡ true) × ((of : TypeId) × IsHeld old new of × (type_tree now of.0 ≡ T))

pub constant_kept : (a now : Nodes) (old new : Typing) (r : Result Bool Memory) (n : ℕ) (ids : List TypeId) (of : TypeId) → Extends a now → (AreInside (length a.types) ids → (b : Nodes) → Extends now b → scheme_type (types_in b ids) (declared_by b old.constants.now n) ≡ Some (type_tree b of.0)) →
    IfOk r (Held now old new of) → IfOk r (λ done. IsTidy a old → AreClosed (types_in a ids) → Keeps now old new (λ b. visiting (atom (constant n (types_in b ids))) ∷ []) done)
constant_kept a now old new (Err x) n ids of g s h = tt
constant_kept a now old new (Ok done) n ids of g s h = λ y k.
    let i = closed_types_inside a ids k in
    let c = scheme_closed (types_in now ids) (declared_by now old.constants.now n) (type_tree now of.0) (subst AreClosed (sym (inside_later a now ids g i)) k) (s i now (extends_same now)) in
    let q = h c in
    constant_keeps a now old new n ids of done g y c q.0 q.1 (s i)

pub kind_held : (now : Nodes) (old new : Typing) (r : Result Bool Memory) (of : TypeId) (T : Ty) → IsClosedType T → type_tree now of.0 ≡ T → IfOk r (Held now old new of) → IfOk r (HeldAs now old new T)
kind_held now old new (Err x) of T c e h = tt
kind_held now old new (Ok done) of T c e h = let q = h (subst IsClosedType (sym e) c) in (q.0, (of, q.1, e))

closed_get : (b : Nodes) (ids : List TypeId) (i : ℕ) (of : TypeId) → slice_get ids i ≡ Some of → AreClosed (types_in b ids) → IsClosedType (type_tree b of.0)
closed_get b [] i of e h = absurd (cc)
closed_get b (x ∷ xs) zero of e h = subst (λ t. IsClosedType (type_tree b t.0)) (let z : x ≡ of = cc in z) h.0
closed_get b (x ∷ xs) (suc i) of e h = closed_get b xs i of e h.1

pub eigen_kept : (now : Nodes) (old new : Typing) (r : Result Bool Memory) (level place : ℕ) (of : TypeId) → level ≡ suc place → slice_get
    old.eigens.now place ≡ Some of → IfOk r (Held now old new of) → IfOk r (λ done. IsTidy now old → Keeps now old new
    (λ b. visiting (atom (eigen level)) ∷ []) done)
eigen_kept now old new (Err x) level place of e g h = tt
eigen_kept now old new (Ok done) level place of e g h = λ y.
    let c = closed_get now old.eigens.now place of g y.eigens in
    let q = h c in
    eigen_keeps now old new level place of done (extends_same now) y e g c q.0 q.1 (λ b. ap (eigen_type (types_in b old.eigens.now)) e ∙ get_map (λ t. type_tree b t.0) old.eigens.now place of g)

pub eigen_past : (E : List TypeId) (level place : ℕ) → level ≡ suc place → length E ≤ place → (b : Nodes) → eigen_type (types_in b E) level ≡ None
eigen_past E level place e l b = ap (eigen_type (types_in b E)) e ∙ slice_get_past (types_in b E) place (let n = length-map E (λ t. type_tree b t.0) in omega (arith, n, l))

-- where the call for the top says so
pub visit_as : (a now : Nodes) (old new : Typing) (r : Result Bool Memory) (term : TermId) (j : Nodes → Term) (P : Type 0) → ((b : Nodes) → Extends now b → j b ≡ tree b term.0) → (IsTaskIn a (task.Visit term) → P) →
    IfOk r (λ done. IsTidy a old → P → Keeps now old new (λ b. visiting (j b) ∷ []) done) → IfOk r (λ done. IsTidy a old → IsTaskIn a (task.Visit term) → Keeps now old new (λ b. visiting (tree b term.0) ∷ []) done)
visit_as a now old new (Err x) term j P e f h = tt
visit_as a now old new (Ok done) term j P e f h = λ y k. keeps_as now old new done j (λ b. tree b term.0) e (h y (f k))

pub visit_plain : (a now : Nodes) (old new : Typing) (r : Result Bool Memory) (term : TermId) (j : Nodes → Term) → ((b : Nodes) → Extends now b → j b ≡ tree b term.0) →
    IfOk r (λ done. IsTidy a old → Keeps now old new (λ b. visiting (j b) ∷ []) done) → IfOk r (λ done. IsTidy a old → IsTaskIn a (task.Visit term) → Keeps now old new (λ b. visiting (tree b term.0) ∷ []) done)
visit_plain a now old new (Err x) term j e h = tt
visit_plain a now old new (Ok done) term j e h = λ y k. keeps_as now old new done j (λ b. tree b term.0) e (h y)

pub visit_any : (a : Nodes) (old new : Typing) (r : Result Bool Memory) (term : TermId) (j : Nodes → Term) → ((b : Nodes) → Extends a b → j b ≡ tree b term.0) →
    IfOk r (λ done. (now : Nodes) → IsTidy now old → Keeps now old new (λ b. visiting (j b) ∷ []) done) → IfOk r (λ done. IsTidy a old → IsTaskIn a (task.Visit term) → Keeps a old new (λ b. visiting (tree b term.0) ∷ []) done)
visit_any a old new (Err x) term j e h = tt
visit_any a old new (Ok done) term j e h = λ y k. keeps_as a old new done j (λ b. tree b term.0) e (h a y)

pub visit_kind : (a now : Nodes) (old new : Typing) (r : Result Bool Memory) (term : TermId) (j : Nodes → Term) (T : Ty) → Extends a now → IsClosedType T → ((b : Nodes) → Extends now b → j b ≡ tree b term.0) → ((b : Nodes) → (C : List Ty) → (A : Ty) → HasType (types_of b old) C (j b) A → A ≡ T) →
    IfOk r (HeldAs now old new T) → IfOk r (λ done. IsTidy a old → IsTaskIn a (task.Visit term) → Keeps now old new (λ b. visiting (tree b term.0) ∷ []) done)
visit_kind a now old new (Err x) term j T g c e one h = tt
visit_kind a now old new (Ok done) term j T g c e one h = λ y k.
    let of = h.1.0 in
    let here = subst IsClosedType (sym h.1.2) c in
    keeps_as now old new done j (λ b. tree b term.0) e (held_keeps a now old new of j done g y here h.0 h.1.1 (λ b m C A q. one b C A q ∙ sym h.1.2 ∙ sym (m.same_types of.0 (closed_type_inside now of.0 here))))

pub visit_param : (a : Nodes) (old new : Typing) (r : Result Bool Memory) (term : TermId) (n : ℕ) (of : TypeId) → ((b : Nodes) → Extends a b → atom (param n (type_tree b of.0)) ≡ tree b term.0) →
    IfOk r (Held a old new of) → IfOk r (λ done. IsTidy a old → IsTaskIn a (task.Visit term) → Keeps a old new (λ b. visiting (tree b term.0) ∷ []) done)
visit_param a old new (Err x) term n of e h = tt
visit_param a old new (Ok done) term n of e h = λ y k.
    let c : IsClosedType (type_tree a of.0) = subst (AllAtoms HasClosedTypes) (sym (e a (extends_same a))) k.1 in
    let q = h c in
    keeps_as a old new done (λ b. atom (param n (type_tree b of.0))) (λ b. tree b term.0) e (held_keeps a a old new of (λ b. atom (param n (type_tree b of.0))) done (extends_same a) y c q.0 q.1 (λ b m C A s. let z : Some (type_tree b of.0) ≡ Some A = s in cc))

pub visit_logic : (a : Nodes) (old new : Typing) (term : TermId) (x l : ℕ) → ((b : Nodes) → Extends a b → atom (logic x l) ≡ tree b term.0) → Keeps a old new (λ b. visiting (tree b term.0) ∷ []) false
visit_logic a old new term x l e = keeps_as a old new false (λ b. atom (logic x l)) (λ b. tree b term.0) e (refused a old new (λ b. visiting (atom (logic x l)) ∷ []) (λ b g T c. let none = c.derives.1 in absurd (cc)))

-- the parts of a term whose types are closed
pub body_task : (a : Nodes) (term body : TermId) → body.0 < length a.terms → abs (tree a body.0) ≡ tree a term.0 → IsTaskIn a (task.Visit term) → IsTaskIn a (task.Visit body)
body_task a term body l e k = (l, subst (AllAtoms HasClosedTypes) (sym e) k.1)

pub types_task : (a : Nodes) (term : TermId) (n : ℕ) (ids copy : List TypeId) → copy ≡ ids → atom (constant n (types_in a ids)) ≡ tree a term.0 → IsTaskIn a (task.Visit term) → AreClosed (types_in a copy)
types_task a term n ids copy c e k = subst (λ xs. AreClosed (types_in a xs)) (sym c) (subst (AllAtoms HasClosedTypes) (sym e) k.1)

apply_atoms : (P : Atom → Type 0) (h : Term) (us : List Term) → AllAtoms P (apply h us) → AllAtoms P h × All (AllAtoms P) us
apply_atoms P h [] k = (k, All-nil (AllAtoms P))
apply_atoms P h (u ∷ us) k = let q = apply_atoms P (app h u) us k in (q.0.0, All-cons (AllAtoms P) u us q.0.1 q.1)

argument_tasks : (a : Nodes) (ids : List TermId) → All (λ i. i < length a.terms) (map (λ t. t.0) ids) → All (AllAtoms HasClosedTypes) (map (λ t. tree a t.0) ids) → All (λ t. IsTaskIn a (task.Visit t)) ids
argument_tasks a [] l k = All-nil (λ t. IsTaskIn a (task.Visit t))
argument_tasks a (x ∷ xs) l k =
    All-cons (λ t. IsTaskIn a (task.Visit t)) x xs (All-head (λ i. i < length a.terms) x.0 (map (λ t. t.0) xs) l, All-head (AllAtoms HasClosedTypes) (tree a x.0) (map (λ t. tree a t.0) xs) k)
    (argument_tasks a xs (All-tail (λ i. i < length a.terms) x.0 (map (λ t. t.0) xs) l) (All-tail (AllAtoms HasClosedTypes) (tree a x.0) (map (λ t. tree a t.0) xs) k))

pub visit_application : (a : Nodes) (old new : Typing) (r : Result Bool Memory) (term head : TermId) (ids : List TermId) → head.0 < length a.terms → All (λ i. i < length a.terms) (map (λ t. t.0) ids) →
    ((b : Nodes) → Extends a b → apply (tree b head.0) (map (λ t. tree b t.0) ids) ≡ tree b term.0) →
    IfOk r (λ done. (now : Nodes) → IsTidy now old → IsTaskIn now (task.Visit head) → All (λ t. IsTaskIn now (task.Visit t)) ids → Keeps now old new (λ b. visiting (apply (tree b head.0) (map (λ t. tree b t.0) ids)) ∷ []) done) →
    IfOk r (λ done. IsTidy a old → IsTaskIn a (task.Visit term) → Keeps a old new (λ b. visiting (tree b term.0) ∷ []) done)
visit_application a old new (Err x) term head ids l m e h = tt
visit_application a old new (Ok done) term head ids l m e h = λ y k.
    let q = apply_atoms HasClosedTypes (tree a head.0) (map (λ t. tree a t.0) ids) (subst (AllAtoms HasClosedTypes) (sym (e a (extends_same a))) k.1) in
    keeps_as a old new done (λ b. apply (tree b head.0) (map (λ t. tree b t.0) ids)) (λ b. tree b term.0) e (h a y (l, q.0) (argument_tasks a ids m q.1))

pub visit_constant : (a now : Nodes) (old new : Typing) (r : Result Bool Memory) (term : TermId) (n : ℕ) (ids copy : List TypeId) → copy ≡ ids →
    Extends a now → term.0 < length a.terms → All (λ i. i < length a.types) (map (λ t. t.0) ids) → atom
    (constant n (map (type_tree a) (map (λ t. t.0) ids))) ≡ tree a term.0 →
    IfOk r (λ done. IsTidy a old → AreClosed (types_in a copy) → Keeps now old new (λ b. visiting (atom (constant n (types_in b copy))) ∷ []) done) → IfOk r (λ done. IsTidy a old → IsTaskIn a (task.Visit term) → Keeps now old new (λ b. visiting (tree b term.0) ∷ []) done)
visit_constant a now old new r term n ids copy e g l i t h =
    visit_as a now old new r term (λ b. atom (constant n (types_in b copy))) (AreClosed (types_in a copy))
    (λ b k. ap (λ us. atom (constant n us)) (ap (types_in b) e ∙ sym (twice (type_tree b) ids)) ∙ seen_inside a b term.0 (const_node n (map (λ t. t.0) ids)) (extends-trans a now b g k) l i t)
    (λ k. types_task a term n ids copy e (ap (λ us. atom (constant n us)) (sym (twice (type_tree a) ids)) ∙ t) k) h

-- the tasks of an application
pub tasks_next : (P : Task → Type 0) (all mid ts : List Task) (t : TermId) → mid ≡ ts ++ task.Apply ∷ [] → all ≡ mid ++ task.Visit t ∷ [] → All P ts → P task.Apply → P (task.Visit t) → All P all
tasks_next P all mid ts t em ea h p q = All_pushed P all mid (task.Visit t) ea (All_pushed P mid ts task.Apply em h p) q

-- what is known of a term by its top
pub top_seen : (a now b : Nodes) (term : TermId) (s : TermShape) → Extends a now → Extends now b → term.0 < length a.terms → TermBelow (length a.types) (length a.terms) s → node_tree a s ≡ tree a term.0 → node_tree b s ≡ tree b term.0
top_seen a now b term s g h l w e = seen_inside a b term.0 s (extends-trans a now b g h) l w e

pub task_as : (a now : Nodes) (old new : Typing) (r : Result Bool Memory) (t u : Task) → t ≡ u → IfOk r (λ done. IsTidy a old → IsTaskIn a u → Keeps now old new (λ b. step_of b u ∷ []) done) → IfOk r (λ done. IsTidy a old → IsTaskIn a t → Keeps now old new (λ b. step_of b t ∷ []) done)
task_as a now old new r t u e h = subst (λ x. IfOk r (λ done. IsTidy a old → IsTaskIn a x → Keeps now old new (λ b. step_of b x ∷ []) done)) (sym e) h

pub task_plain : (a now : Nodes) (old new : Typing) (r : Result Bool Memory) (t u : Task) → t ≡ u → IfOk r (λ done. IsTidy a old → Keeps now old new (λ b. step_of b u ∷ []) done) → IfOk r (λ done. IsTidy a old → IsTaskIn a t → Keeps now old new (λ b. step_of b t ∷ []) done)
task_plain a now old new (Err x) t u e h = tt
task_plain a now old new (Ok done) t u e h = λ y k. subst (λ x. Keeps now old new (λ b. step_of b x ∷ []) done) (sym e) (h y)

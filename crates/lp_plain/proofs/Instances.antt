-- Terms with values for their indices and new type variables: what each task leaves leads to the same term.
use Rattle.std.proofs.Common.{◌≡◌, ℕ, zero, suc, ◌+◌, ◌-◌, ◌<◌, ◌≤◌, List, [], ◌∷◌, ◌++◌, map, reverse, length, refl, sym, ap, ◌∙◌, subst as transport, arith, append-nil, append_assoc, add-one, Some, Bool, true, false, nat_lt, if◌then◌else◌}
use Rattle.std.specs.Prelude.{All, slice_get}
use Rattle.std.proofs.lemmas.Bool.Decides.{nat_tests}
use Rattle.std.proofs.lemmas.List.{reverse-append, reverse-reverse, length-map}
use Rattle.std.proofs.lemmas.List.Elements.{All-nil, All-head, All-tail, All-cons}
use Rattle.lp_lemmas.proofs.Lists.{get_below}
use Rattle.lp_calculus.specs.Closed.{AllAtoms}
use Rattle.lp_calculus.specs.Instance.{instance_atom, instance_term}
use Rattle.lp_calculus.specs.Term.{Term, Atom, index, atom, abs, app, apply, constant, integer, text, eigen, logic, param, shift}
use Rattle.lp_calculus.specs.Types.{Ty, var, instance}
use Rattle.lp_term.specs.Node.{abs_node, app_node}
use Rattle.lp_term.specs.Nodes.{Nodes, Extends, tree, type_tree, term_at}
use Rattle.lp_term.specs.Spine.{LooseBelow}
use Rattle.lp_term.specs.declared.node.TermId.{TermId}
use Rattle.lp_term.specs.declared.node.TypeId.{TypeId}
use Rattle.lp_term.proofs.Trees.{extends_same}
use Rattle.lp_term.proofs.Walks.{map_map}
use Rattle.lp_term.proofs.Ways.{shift_unchanged}
use Rattle.lp_model.specs.Index.{lifted, instantiate}
use Rattle.lp_plain.specs.declared.instance.Task.{Task}
use Rattle.lp_plain.specs.Instances.{lifted_by, instanced, values_of, AreValues, StandFor, IsNoParameter, IsReadable, IsRenewedAtom, IsBuiltTerm, Instances, ToInstance, KeepsInstancing, visits_at}
use Rattle.lp_plain.specs.Written.{IsWritten}
use Rattle.lp_plain.proofs.RenewedTypes.{instance_same}
use Rattle.lp_plain.proofs.Workings.{task_done, task_opens, begins, finished}

-- type variables that stay
types_same : (θ : ℕ → Ty) → ((i : ℕ) → θ i ≡ var i) → (ts : List Ty) → map (instance θ) ts ≡ ts
types_same θ h [] = refl
types_same θ h (t ∷ ts) = λ i. instance_same θ h t i ∷ types_same θ h ts i

atom_same : (θ : ℕ → Ty) → ((i : ℕ) → θ i ≡ var i) → (a : Atom) → instance_atom θ a ≡ a
atom_same θ h (constant c ts) = ap (constant c) (types_same θ h ts)
atom_same θ h (integer z) = refl
atom_same θ h (text s) = refl
atom_same θ h (eigen k) = refl
atom_same θ h (logic x l) = refl
atom_same θ h (param k t) = ap (param k) (instance_same θ h t)

pub term_same : (θ : ℕ → Ty) → ((i : ℕ) → θ i ≡ var i) → (t : Term) → instance_term θ t ≡ t
term_same θ h (index i) = refl
term_same θ h (atom a) = ap atom (atom_same θ h a)
term_same θ h (abs b) = ap abs (term_same θ h b)
term_same θ h (app t u) = λ i. app (term_same θ h t i) (term_same θ h u i)

-- indices below binders
raised_index : (i : ℕ) → shift 0 1 (index i) ≡ index (suc i)
raised_index i =
    let q : nat_lt i 0 ≡ false = grind (arith, nat_tests) in
    ap (λ b. if b then index i else index (i + 1)) q ∙ ap index (add-one i)

lifted_below : (d : ℕ) (σ : ℕ → Term) (i : ℕ) → i < d → lifted_by d σ i ≡ index i
lifted_below zero σ i h = absurd (omega arith)
lifted_below (suc d) σ zero h = refl
lifted_below (suc d) σ (suc i) h = ap (shift 0 1) (lifted_below d σ i (omega arith)) ∙ raised_index i

lifted_at : (d : ℕ) (σ : ℕ → Term) (i j : ℕ) → i ≡ d + j → LooseBelow 0 0 (σ j) → lifted_by d σ i ≡ σ j
lifted_at zero σ i j e h = let q : i ≡ j = omega (arith, e) in ap σ q
lifted_at (suc d) σ zero j e h = absurd (omega (arith, e))
lifted_at (suc d) σ (suc i) j e h = ap (shift 0 1) (lifted_at d σ i j (omega (arith, e)) h) ∙ sym (shift_unchanged 1 (σ j) h)

lifted_fixes : (f : ℕ → Term) (n : ℕ) → ((i : ℕ) → i < n → f i ≡ index i) → (i : ℕ) → i < suc n → lifted f i ≡ index i
lifted_fixes f n h zero l = refl
lifted_fixes f n h (suc i) l = ap (shift 0 1) (h i (omega arith)) ∙ raised_index i

instantiate_fixed : (f : ℕ → Term) (e d : ℕ) (t : Term) → ((i : ℕ) → i < e + d → f i ≡ index i) → LooseBelow d e t → instantiate f t ≡ t
instantiate_fixed f e d (index i) h l = h i l
instantiate_fixed f e d (atom a) h l = refl
instantiate_fixed f e d (abs b) h l =
    let q : suc (e + d) ≡ suc e + d = omega arith in
    ap abs (instantiate_fixed (lifted f) (suc e) d b (λ i k. lifted_fixes f (e + d) h i (omega (arith, k, q))) l)
instantiate_fixed f e d (app t u) h l = λ i. app (instantiate_fixed f e d t h l.0 i) (instantiate_fixed f e d u h l.1 i)

-- no loose index, and type variables that stay
shared_is : (σ : ℕ → Term) (θ : ℕ → Ty) (d : ℕ) (t : Term) → ((i : ℕ) → θ i ≡ var i) → LooseBelow d 0 t → instanced σ θ d t ≡ t
shared_is σ θ d t h l = ap (instantiate (lifted_by d σ)) (term_same θ h t) ∙ instantiate_fixed (lifted_by d σ) 0 d t (λ i h. lifted_below d σ i (omega arith)) l

-- applications
instantiate_applied : (f : ℕ → Term) (θ : ℕ → Ty) (ts : List Term) (h : Term) → instantiate f (instance_term θ (apply h ts)) ≡ apply
    (instantiate f (instance_term θ h)) (map (λ t. instantiate f (instance_term θ t)) ts)
instantiate_applied f θ [] h = refl
instantiate_applied f θ (t ∷ ts) h = instantiate_applied f θ ts (app h t)

head_atoms : (P : Atom → Type 0) (ts : List Term) (h : Term) → AllAtoms P (apply h ts) → AllAtoms P h
head_atoms P [] h a = a
head_atoms P (t ∷ ts) h a = (head_atoms P ts (app h t) a).0

argument_atoms : (P : Atom → Type 0) (ts : List Term) (h : Term) → AllAtoms P (apply h ts) → All (AllAtoms P) ts
argument_atoms P [] h a = All-nil (AllAtoms P)
argument_atoms P (t ∷ ts) h a = All-cons (AllAtoms P) t ts (head_atoms P ts (app h t) a).1 (argument_atoms P ts (app h t) a)

-- a program's term has no parameter
written_atoms : (ar : ℕ → ℕ) (k d : ℕ) (t : Term) → IsWritten ar k d t → AllAtoms IsNoParameter t
written_atoms ar k d (index i) h = tt
written_atoms ar k d (atom (constant c ts)) h = tt
written_atoms ar k d (atom (integer z)) h = tt
written_atoms ar k d (atom (text s)) h = tt
written_atoms ar k d (atom (eigen j)) h = tt
written_atoms ar k d (atom (logic x l)) h = tt
written_atoms ar k d (atom (param j t)) h = h
written_atoms ar k d (abs b) h = written_atoms ar k (suc d) b h
written_atoms ar k d (app t u) h = (written_atoms ar k d t h.0, written_atoms ar k d u h.1)

-- its indices have values
written_loose : (ar : ℕ → ℕ) (k n d : ℕ) (t : Term) → IsWritten ar k (d + n) t → LooseBelow n d t
written_loose ar k n d (index i) h = h
written_loose ar k n d (atom a) h = tt
written_loose ar k n d (abs b) h = let e : suc (d + n) ≡ suc d + n = omega arith in written_loose ar k n (suc d) b (transport (λ z. IsWritten ar k z b) e h)
written_loose ar k n d (app t u) h = (written_loose ar k n d t h.0, written_loose ar k n d u h.1)

-- so the parts of a term that is readable
head_loose : (n d : ℕ) (ts : List Term) (h : Term) → LooseBelow n d (apply h ts) → LooseBelow n d h
head_loose n d [] h a = a
head_loose n d (t ∷ ts) h a = (head_loose n d ts (app h t) a).0

arguments_loose : (n d : ℕ) (ts : List Term) (h : Term) → LooseBelow n d (apply h ts) → All (LooseBelow n d) ts
arguments_loose n d [] h a = All-nil (LooseBelow n d)
arguments_loose n d (t ∷ ts) h a = All-cons (LooseBelow n d) t ts (head_loose n d ts (app h t) a).1 (arguments_loose n d ts (app h t) a)

all_both : (n d : ℕ) (ts : List Term) → All (AllAtoms IsNoParameter) ts → All (LooseBelow n d) ts → All (IsReadable n d) ts
all_both n d [] a l = All-nil (IsReadable n d)
all_both n d (t ∷ ts) a l =
    All-cons (IsReadable n d) t ts (All-head (AllAtoms IsNoParameter) t ts a, All-head (LooseBelow n d) t ts l)
    (all_both n d ts (All-tail (AllAtoms IsNoParameter) t ts a) (All-tail (LooseBelow n d) t ts l))

head_readable : (n d : ℕ) (ts : List Term) (h : Term) → IsReadable n d (apply h ts) → IsReadable n d h
head_readable n d ts h a = (head_atoms IsNoParameter ts h a.0, head_loose n d ts h a.1)

arguments_readable : (n d : ℕ) (ts : List Term) (h : Term) → IsReadable n d (apply h ts) → All (IsReadable n d) ts
arguments_readable n d ts h a = all_both n d ts (argument_atoms IsNoParameter ts h a.0) (arguments_loose n d ts h a.1)

-- values
some_same : {X : Type 0} (x y : X) → Some x ≡ Some y → x ≡ y
some_same x y e = cc

pub values_stand : (b : Nodes) (vs : List TermId) → AreValues b vs → StandFor b vs (values_of b vs)
values_stand b [] a i t e = absurd (cc)
values_stand b (v ∷ vs) a zero t e =
    let P = All-head (λ (u : TermId). (u.0 < length b.terms) × LooseBelow 0 0 (tree b u.0)) v vs a in
    let q : v ≡ t = some_same v t e in
    (transport (λ u. u.0 < length b.terms) q P.0, ap (λ u. tree b u.0) (sym q), P.1)
values_stand b (v ∷ vs) a (suc i) t e = values_stand b vs (All-tail (λ (u : TermId). (u.0 < length b.terms) × LooseBelow 0 0 (tree b u.0)) v vs a) i t e

pub values_kept : (b d : Nodes) (vs : List TermId) (σ : ℕ → Term) → Extends b d → StandFor b vs σ → StandFor d vs σ
values_kept b d vs σ e h i t g = let w = h i t g in (omega (arith, w.0, e.more_terms), e.same_terms t.0 w.0 ∙ w.1, w.2)

-- a bank that has grown
instances_kept : (vars : ℕ) (σ : ℕ → Term) (θ : ℕ → Ty) (b d : Nodes) → Extends b d → (t : Task) (us : List Term) (v : Term) → Instances vars σ θ b t us v → Instances vars σ θ d t us v
instances_kept vars σ θ b d e (Task.Visit t n) us v h =
    let q = sym (e.same_terms t.0 h.0) in
    (omega (arith, h.0, e.more_terms), h.1, transport (IsReadable vars n) q h.2, h.3 ∙ ap (instanced σ θ n) q)
instances_kept vars σ θ b d e (Task.Build t) us v h = (omega (arith, h.0, e.more_terms), transport (λ x. IsBuiltTerm x us v) (sym (e.terms_stay t.0 h.0)) h.1)

done_terms : (vars : ℕ) (σ : ℕ → Term) (θ : ℕ → Ty) (b d : Nodes) (old : List Task) (t : Task) (made mid ids made' : List TermId) (new : TermId) → Extends b d → made ≡ mid ++ ids →
    ((us : List Term) (v : Term) → Instances vars σ θ b t us v → (length us ≡ length ids) × (new.0 < length d.terms) ×
    (us ≡ map (λ i. tree b i.0) ids → v ≡ tree d new.0)) → made' ≡ mid ++ new ∷ [] → KeepsInstancing vars σ θ b d (old ++ t ∷ []) old made made'
done_terms vars σ θ b d old t made mid ids made' new e q f z = λ r w.
    task_done (Instances vars σ θ b) (Instances vars σ θ d) (λ i. tree b i.0) (λ i. tree d i.0) (λ i. i.0 < length b.terms)
    (λ i. i.0 < length d.terms) (instances_kept vars σ θ b d e) (λ i h. omega (arith, h, e.more_terms))
    (λ i h. e.same_terms i.0 h) old t made mid ids made' new r q f z w

-- a visit that makes the term at once
visited : (vars : ℕ) (σ : ℕ → Term) (θ : ℕ → Ty) (b d : Nodes) (old : List Task) (id new : TermId) (n : ℕ) (made made' : List TermId) → Extends b d →
    (id.0 < length b.terms → IsReadable vars n (tree b id.0) → new.0 < length d.terms) →
    (IsReadable vars n (tree b id.0) → instanced σ θ n (tree b id.0) ≡ tree d new.0) → made' ≡ made ++ new ∷ [] → KeepsInstancing vars σ θ b d (old ++ Task.Visit id n ∷ []) old made made'
visited vars σ θ b d old id new n made made' e l f z =
    done_terms vars σ θ b d old (Task.Visit id n) made made [] made' new e (sym (append-nil made)) (λ us v h. (ap length h.1, l h.0 h.2, λ _. h.3 ∙ f h.2)) z

-- it is shared
pub visited_shared : (vars : ℕ) (σ : ℕ → Term) (θ : ℕ → Ty) (b : Nodes) (old : List Task) (id : TermId) (n : ℕ) (made made' : List TermId) →
    ((i : ℕ) → θ i ≡ var i) → LooseBelow n 0 (tree b id.0) → made' ≡ made ++ id ∷ [] →
    KeepsInstancing vars σ θ b b (old ++ Task.Visit id n ∷ []) old made made'
visited_shared vars σ θ b old id n made made' q h z = visited vars σ θ b b old id id n made made' (extends_same b) (λ l r. l) (λ _. shared_is σ θ n (tree b id.0) q h) z

-- an atom
pub visited_atom : (vars : ℕ) (σ : ℕ → Term) (θ : ℕ → Ty) (b d : Nodes) (old : List Task) (id new : TermId) (n : ℕ) (made made' : List TermId) →
    Extends b d → (id.0 < length b.terms → new.0 < length d.terms) → IsRenewedAtom θ (tree b id.0) (tree d new.0) → made' ≡ made ++ new ∷ [] →
    KeepsInstancing vars σ θ b d (old ++ Task.Visit id n ∷ []) old made made'
visited_atom vars σ θ b d old id new n made made' e l r z =
    visited vars σ θ b d old id new n made made' e (λ j _. l j) (λ h. ap (instanced σ θ n) r.1 ∙ sym (r.2 (transport (AllAtoms IsNoParameter) r.1 h.0))) z

pub atom_stays : (θ : ℕ → Ty) (a : Atom) (t : Term) → atom a ≡ t → (IsNoParameter a → instance_atom θ a ≡ a) → IsRenewedAtom θ t t
atom_stays θ a t e f = (a, sym e, λ h. sym e ∙ ap atom (sym (f h)))

pub constant_stays : (θ : ℕ → Ty) (c : ℕ) (ts : List Ty) (t : Term) → atom (constant c ts) ≡ t → ((i : ℕ) → θ i ≡ var i) → IsRenewedAtom θ t t
constant_stays θ c ts t e q = atom_stays θ (constant c ts) t e (λ _. atom_same θ q (constant c ts))

pub constant_bare : (θ : ℕ → Ty) (b : Nodes) (c : ℕ) (ids : List ℕ) (t : Term) → atom (constant c (map (type_tree b) ids)) ≡ t → ids ≡ [] → IsRenewedAtom θ t t
constant_bare θ b c ids t e q = atom_stays θ (constant c []) t (ap (λ x. atom (constant c (map (type_tree b) x))) (sym q) ∙ e) (λ _. refl)

known_types : (n : ℕ) (ids : List TypeId) → All (λ i. i < n) (map (λ i. i.0) ids) → All (λ i. i.0 < n) ids
known_types n [] a = All-nil (λ (i : TypeId). i.0 < n)
known_types n (i ∷ ids) a = All-cons (λ (j : TypeId). j.0 < n) i ids (All-head (λ j. j < n) i.0 (map (λ j. j.0) ids) a) (known_types n ids (All-tail (λ j. j < n) i.0 (map (λ j. j.0) ids) a))

-- a constant with new types
pub constant_renewed : (θ : ℕ → Ty) (b : Nodes) (c : ℕ) (ids copies : List TypeId) (t u : Term) → atom
    (constant c (map (type_tree b) (map (λ i. i.0) ids))) ≡ t → All (λ i. i < length b.types) (map (λ i. i.0) ids) → copies ≡ ids →
    (All (λ i. i.0 < length b.types) copies → u ≡ atom (constant c (map (λ i. instance θ (type_tree b i.0)) copies))) → IsRenewedAtom θ t u
constant_renewed θ b c ids copies t u e a q f = (
  constant c (map (type_tree b) (map (λ i. i.0) ids)),
  sym e,
  λ _. f (transport (All (λ i. i.0 < length b.types)) (sym q) (known_types (length b.types) ids a)) ∙ ap (λ x. atom (constant c (map (λ i. instance θ (type_tree b i.0)) x))) q ∙
      ap (λ ts. atom (constant c ts)) (sym (types_renewed ids)),
)
  where
    types_renewed : (is : List TypeId) → map (instance θ) (map (type_tree b) (map (λ i. i.0) is)) ≡ map (λ i. instance θ (type_tree b i.0)) is
    types_renewed [] = refl
    types_renewed (i ∷ is) = ap (λ x. instance θ (type_tree b i.0) ∷ x) (types_renewed is)

-- an index
pub visited_index : (vars : ℕ) (σ : ℕ → Term) (θ : ℕ → Ty) (b : Nodes) (old : List Task) (id new : TermId) (i n : ℕ) (vs made made' : List TermId) →
    index i ≡ tree b id.0 → StandFor b vs σ → (i < n → new ≡ id) →
    (n ≤ i → (t : TermId) → slice_get vs (i - n) ≡ Some t → new ≡ t) → vars ≡ length vs → made' ≡ made ++ new ∷ [] → KeepsInstancing vars σ θ b b (old ++ Task.Visit id n ∷ []) old made made'
visited_index vars σ θ b old id new i n vs made made' e s f g many z = by_place (nat_lt i n) refl
  where
    there : n ≤ i → IsReadable vars n (tree b id.0) → (new.0 < length b.terms) × (tree b new.0 ≡ σ (i - n)) × LooseBelow 0 0 (σ (i - n))
    there h r =
        let l : i < n + vars = transport (LooseBelow vars n) (sym e) r.1 in
        let v = get_below vs (i - n) (omega (arith, l, h, many)) in
        s (i - n) new (v.1 ∙ ap Some (sym (g h v.0 v.1)))

    low : i < n → KeepsInstancing vars σ θ b b (old ++ Task.Visit id n ∷ []) old made made'
    low h =
        let q = f h in
        visited vars σ θ b b old id new n made made' (extends_same b) (λ j _. transport (λ t. t.0 < length b.terms) (sym q) j)
        (λ _. sym (ap (instanced σ θ n) e) ∙ lifted_below n σ i h ∙ e ∙ ap (λ t. tree b t.0) (sym q)) z

    high : n ≤ i → KeepsInstancing vars σ θ b b (old ++ Task.Visit id n ∷ []) old made made'
    high h =
        visited vars σ θ b b old id new n made made' (extends_same b) (λ _ r. (there h r).0)
        (λ r. let w = there h r in sym (ap (instanced σ θ n) e) ∙ lifted_at n σ i (i - n) (omega (arith, h)) w.2 ∙ sym w.1) z

    by_place : (c : Bool) → nat_lt i n ≡ c → KeepsInstancing vars σ θ b b (old ++ Task.Visit id n ∷ []) old made made'
    by_place true p = low (grind (arith, nat_tests))
    by_place false p = high (grind (arith, nat_tests))

-- parts
pub pushed : (old mid more new : List Task) (t u : Task) (tasks : List Task) → mid ≡ old ++ t ∷ [] → more ≡ mid ++ reverse tasks → new ≡ more ++ u ∷ [] → reverse new ≡ u ∷ (tasks ++ t ∷ reverse old)
pushed old mid more new t u tasks p q e =
    ap reverse e ∙ reverse-append more (u ∷ []) ∙
    ap (λ x. u ∷ x) (ap reverse q ∙ reverse-append mid (reverse tasks) ∙ (λ i. reverse-reverse tasks i ++ (ap reverse p ∙ reverse-append old (t ∷ [])) i))

as_visits : (vars : ℕ) (σ : ℕ → Term) (θ : ℕ → Ty) (b : Nodes) (d n : ℕ) (ids : List TermId) → n < length b.terms → All (λ i. i < n)
    (map (λ i. i.0) ids) → All (IsReadable vars d) (map (tree b) (map (λ i. i.0) ids)) →
    All (λ i. Instances vars σ θ b (Task.Visit i d) [] (instanced σ θ d (tree b i.0))) ids
as_visits vars σ θ b d n [] l a p = All-nil (λ i. Instances vars σ θ b (Task.Visit i d) [] (instanced σ θ d (tree b i.0)))
as_visits vars σ θ b d n (i ∷ ids) l a p =
    let h : i.0 < n = All-head (λ j. j < n) i.0 (map (λ j. j.0) ids) a in
    let rest = map (tree b) (map (λ (j : TermId). j.0) ids) in
    All-cons (λ j. Instances vars σ θ b (Task.Visit j d) [] (instanced σ θ d (tree b j.0))) i ids (omega (arith, h, l), refl, All-head (IsReadable vars d) (tree b i.0) rest p, refl)
    (as_visits vars σ θ b d n ids l (All-tail (λ j. j < n) i.0 (map (λ j. j.0) ids) a) (All-tail (IsReadable vars d) (tree b i.0) rest p))

instanced_parts : (σ : ℕ → Term) (θ : ℕ → Ty) (b : Nodes) (d : ℕ) (ids : List TermId) → map (λ t. instantiate (lifted_by d σ) (instance_term θ t))
    (map (tree b) (map (λ i. i.0) ids)) ≡ map (λ i. instanced σ θ d (tree b i.0)) ids
instanced_parts σ θ b d [] = refl
instanced_parts σ θ b d (i ∷ ids) = ap (λ x. instanced σ θ d (tree b i.0) ∷ x) (instanced_parts σ θ b d ids)

pub opened_application : (vars : ℕ) (σ : ℕ → Term) (θ : ℕ → Ty) (b : Nodes) (old mid more new : List Task) (id : TermId) (d : ℕ) (made : List TermId) (head : TermId) (ids : List TermId) →
    app_node head.0 (map (λ i. i.0) ids) ≡ term_at b id.0 → apply (tree b head.0) (map (tree b) (map (λ i. i.0) ids)) ≡ tree b id.0 → head.0 < id.0 →
    All (λ i. i < id.0) (map (λ i. i.0) ids) → mid ≡ old ++ Task.Build id ∷ [] →
    more ≡ mid ++ reverse (visits_at d ids) → new ≡ more ++ Task.Visit head d ∷ [] → KeepsInstancing vars σ θ b b (old ++ Task.Visit id d ∷ []) new made made
opened_application vars σ θ b old mid more new id d made head ids n e f a p q z = λ r w.
    task_opens (Instances vars σ θ b) (λ i. tree b i.0) (λ i. i.0 < length b.terms) old new (Task.Visit id d) (Task.Build id) made r
    (λ i. Task.Visit i d) (λ i. instanced σ θ d (tree b i.0)) (head ∷ ids)
    (pushed old mid more new (Task.Build id) (Task.Visit head d) (visits_at d ids) p q z)
    (λ us v h. (
      h.1,
      visits h.0 h.2,
      (
        h.0,
        transport (λ x. IsBuiltTerm x (map (λ i. instanced σ θ d (tree b i.0)) (head ∷ ids)) v) n
            (built v h.3),
      ),
    )) w
  where
    parts : List Term
    parts = map (tree b) (map (λ i. i.0) ids)

    visits : id.0 < length b.terms → IsReadable vars d (tree b id.0) → All (λ i. Instances vars σ θ b (Task.Visit i d) [] (instanced σ θ d (tree b i.0))) (head ∷ ids)
    visits l h =
        let g = transport (IsReadable vars d) (sym e) h in
        All-cons (λ i. Instances vars σ θ b (Task.Visit i d) [] (instanced σ θ d (tree b i.0))) head ids (omega (arith, f, l), refl, head_readable vars d parts (tree b head.0) g, refl)
        (as_visits vars σ θ b d id.0 ids l a (arguments_readable vars d parts (tree b head.0) g))

    built : (v : Term) → v ≡ instanced σ θ d (tree b id.0) → IsBuiltTerm (app_node head.0 (map (λ i. i.0) ids)) (map (λ i. instanced σ θ d (tree b i.0)) (head ∷ ids)) v
    built v h = (
      instanced σ θ d (tree b head.0),
      map (λ i. instanced σ θ d (tree b i.0)) ids,
      refl,
      length-map ids (λ i. instanced σ θ d (tree b i.0)) ∙ sym (length-map ids (λ i. i.0)),
      h ∙ ap (instanced σ θ d) (sym e) ∙ instantiate_applied (lifted_by d σ) θ parts (tree b head.0) ∙ ap (apply (instanced σ θ d (tree b head.0))) (instanced_parts σ θ b d ids),
    )

pub opened_abstraction : (vars : ℕ) (σ : ℕ → Term) (θ : ℕ → Ty) (b : Nodes) (old mid new : List Task) (id : TermId) (d inner : ℕ) (made : List TermId)
    (body : TermId) → abs_node body.0 ≡ term_at b id.0 →
    abs (tree b body.0) ≡ tree b id.0 → body.0 < id.0 → inner ≡ suc d → mid ≡ old ++ Task.Build id ∷ [] → new ≡ mid ++ Task.Visit body inner ∷ [] →
    KeepsInstancing vars σ θ b b (old ++ Task.Visit id d ∷ []) new made made
opened_abstraction vars σ θ b old mid new id d inner made body n e f s p z = λ r w.
    task_opens (Instances vars σ θ b) (λ i. tree b i.0) (λ i. i.0 < length b.terms) old new (Task.Visit id d) (Task.Build id) made r
    (λ i. Task.Visit i (suc d)) (λ i. instanced σ θ (suc d) (tree b i.0)) (body ∷ [])
    (ap reverse z ∙ reverse-append mid (Task.Visit body inner ∷ []) ∙ (λ i. Task.Visit body (s i) ∷ (ap reverse p ∙ reverse-append old (Task.Build id ∷ [])) i))
    (λ us v h. (
      h.1,
      All-cons (λ i. Instances vars σ θ b (Task.Visit i (suc d)) [] (instanced σ θ (suc d) (tree b i.0))) body [] (omega (arith, f, h.0), refl, transport (IsReadable vars d) (sym e) h.2, refl)
          (All-nil (λ i. Instances vars σ θ b (Task.Visit i (suc d)) [] (instanced σ θ (suc d) (tree b i.0)))),
      (h.0, transport (λ x. IsBuiltTerm x (instanced σ θ (suc d) (tree b body.0) ∷ []) v) n (instanced σ θ (suc d) (tree b body.0), refl, h.3 ∙ ap (instanced σ θ d) (sym e))),
    ))
    w

-- what was made is put together
one_same : (x y : Term) → x ∷ [] ≡ y ∷ [] → x ≡ y
one_same x y e = cc

pub built_abstraction : (vars : ℕ) (σ : ℕ → Term) (θ : ℕ → Ty) (b d : Nodes) (old : List Task) (id new body : TermId) (n : ℕ)
    (made mid made' : List TermId) → Extends b d → abs_node n ≡ term_at b id.0 → made ≡ mid ++ body ∷ [] →
    (id.0 < length b.terms → new.0 < length d.terms) →
    tree d new.0 ≡ abs (tree b body.0) → made' ≡ mid ++ new ∷ [] → KeepsInstancing vars σ θ b d (old ++ Task.Build id ∷ []) old made made'
built_abstraction vars σ θ b d old id new body n made mid made' e q m l t z =
    done_terms vars σ θ b d old (Task.Build id) made mid (body ∷ []) made' new e m (λ us v h. takes us v h.0 (transport (λ x. IsBuiltTerm x us v) (sym q) h.1)) z
  where
    takes : (us : List Term) (v : Term) → id.0 < length b.terms → IsBuiltTerm (abs_node n) us v → (length us ≡ 1) × (new.0 < length d.terms) × (us ≡ tree b body.0 ∷ [] → v ≡ tree d new.0)
    takes us v j h = (ap length h.1, l j, λ s. h.2 ∙ ap abs (one_same h.0 (tree b body.0) (sym h.1 ∙ s)) ∙ sym t)

pub stays_abstraction : (vars : ℕ) (σ : ℕ → Term) (θ : ℕ → Ty) (b : Nodes) (old : List Task) (id body part : TermId) (made mid made' : List TermId) →
    abs_node part.0 ≡ term_at b id.0 → abs (tree b part.0) ≡ tree b id.0 → made ≡ mid ++ body ∷ [] →
    body.0 ≡ part.0 → made' ≡ mid ++ id ∷ [] → KeepsInstancing vars σ θ b b (old ++ Task.Build id ∷ []) old made made'
stays_abstraction vars σ θ b old id body part made mid made' q t m s z =
    built_abstraction vars σ θ b b old id id body part.0 made mid made' (extends_same b) q m (λ l. l) (sym t ∙ ap (λ j. abs (tree b j)) (sym s)) z

first_same : (x y : Term) (xs ys : List Term) → x ∷ xs ≡ y ∷ ys → x ≡ y
first_same x y xs ys e = cc

rest_same : (x y : Term) (xs ys : List Term) → x ∷ xs ≡ y ∷ ys → xs ≡ ys
rest_same x y xs ys e = cc

pub built_application : (vars : ℕ) (σ : ℕ → Term) (θ : ℕ → Ty) (b d : Nodes) (old : List Task) (id new head : TermId) (n : ℕ)
    (parts ids : List TermId) (made front mid made' : List TermId) → Extends b d → app_node n (map (λ i. i.0) parts) ≡ term_at b id.0 →
    made ≡ front ++ ids → length ids ≡ length parts → front ≡ mid ++ head ∷ [] → (id.0 < length b.terms → new.0 < length d.terms) → tree d new.0 ≡
    apply (tree b head.0) (map (λ i. tree b i.0) ids) → made' ≡ mid ++ new ∷ [] →
    KeepsInstancing vars σ θ b d (old ++ Task.Build id ∷ []) old made made'
built_application vars σ θ b d old id new head n parts ids made front mid made' e q m c f l t z =
    done_terms vars σ θ b d old (Task.Build id) made mid (head ∷ ids) made' new e (m ∙ ap (λ x. x ++ ids) f ∙ append_assoc mid (head ∷ []) ids)
    (λ us v h. takes us v h.0 (transport (λ x. IsBuiltTerm x us v) (sym q) h.1)) z
  where
    takes : (us : List Term) (v : Term) → id.0 < length b.terms → IsBuiltTerm (app_node n (map (λ i. i.0) parts)) us v →
        (length us ≡ length (head ∷ ids)) × (new.0 < length d.terms) × (us ≡ tree b head.0 ∷ map (λ i. tree b i.0) ids → v ≡ tree d new.0)
    takes us v j h = (
      ap length h.2 ∙ ap suc (h.3 ∙ length-map parts (λ i. i.0) ∙ sym c),
      l j,
      λ s. h.4 ∙ (λ i. apply (first_same h.0 (tree b head.0) h.1 (map (λ i. tree b i.0) ids) (sym h.2 ∙ s) i) (rest_same h.0 (tree b head.0) h.1 (map (λ i. tree b i.0) ids) (sym h.2 ∙ s) i)) ∙ sym t,
    )

pub stays_application : (vars : ℕ) (σ : ℕ → Term) (θ : ℕ → Ty) (b : Nodes) (old : List Task) (id head part : TermId) (parts ids : List TermId)
    (made front mid made' : List TermId) → app_node part.0 (map (λ i. i.0) parts) ≡ term_at b id.0 →
    apply (tree b part.0) (map (tree b) (map (λ i. i.0) parts)) ≡ tree b id.0 → made ≡ front ++ ids → length ids ≡ length parts → front ≡ mid ++ head ∷ [] → head.0 ≡ part.0 → ids ≡ parts →
    made' ≡ mid ++ id ∷ [] → KeepsInstancing vars σ θ b b (old ++ Task.Build id ∷ []) old made made'
stays_application vars σ θ b old id head part parts ids made front mid made' q t m c f s y z =
    built_application vars σ θ b b old id id head part.0 parts ids made front mid made' (extends_same b) q m c f (λ l. l)
    (sym t ∙ (λ i. apply (tree b (sym s i)) ((map_map (tree b) (λ i. i.0) parts ∙ ap (map (λ i. tree b i.0)) (sym y)) i))) z

-- the start and the end
pub instance_begins : (vars : ℕ) (σ : ℕ → Term) (θ : ℕ → Ty) (b : Nodes) (id : TermId) (tasks : List Task) (made : List TermId) → id.0 < length
    b.terms → IsReadable vars 0 (tree b id.0) → tasks ≡ Task.Visit id 0 ∷ [] → made ≡ [] →
    ToInstance vars σ θ b tasks made (instanced σ θ 0 (tree b id.0))
instance_begins vars σ θ b id tasks made l a q e =
    begins (Instances vars σ θ b) (λ i. tree b i.0) (λ i. i.0 < length b.terms) (Task.Visit id 0) tasks made (instanced σ θ 0 (tree b id.0)) q e (l, refl, a, refl)

pub instance_ends : (vars : ℕ) (σ : ℕ → Term) (θ : ℕ → Ty) (b : Nodes) (tasks : List Task) (made rest : List TermId) (id : TermId) (v : Term) → tasks
    ≡ [] → made ≡ rest ++ id ∷ [] → ToInstance vars σ θ b tasks made v → tree b id.0 ≡ v
instance_ends vars σ θ b tasks made rest id v q e w = (finished (Instances vars σ θ b) (λ i. tree b i.0) (λ i. i.0 < length b.terms) tasks made rest id v q e w).1

pub written_begins : (ar : ℕ → ℕ) (k n : ℕ) (t : Term) → IsWritten ar k n t → IsReadable n 0 t
written_begins ar k n t h =
    let e : n ≡ 0 + n = omega arith in
    (written_atoms ar k n t h, written_loose ar k n 0 t (transport (λ z. IsWritten ar k z t) e h))

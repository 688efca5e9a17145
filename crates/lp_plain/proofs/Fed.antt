-- The tasks by which an instance is made have the terms that they need, and each leaves less to do.
use Rattle.std.proofs.Common.{◌≡◌, ◌≢◌, ℕ, suc, ◌+◌, ◌-◌, ◌*◌, ◌^◌, ◌<◌, ◌≤◌, List, [], ◌∷◌, ◌++◌, map, length, reverse, refl, sym, ap, ◌∙◌, subst, arith}
use Rattle.std.specs.Prelude.{All}
use Rattle.std.proofs.lemmas.List.{length-append, length-map}
use Rattle.std.proofs.lemmas.List.Elements.{All-head, All-tail}
use Rattle.lp_lemmas.proofs.Lists.{length_push_suc, reverse_pushed}
use Rattle.lp_calculus.specs.Term.{abs, apply}
use Rattle.lp_term.specs.Node.{abs_node, app_node}
use Rattle.lp_term.specs.Nodes.{Nodes, Extends, term_at, tree}
use Rattle.lp_term.specs.Shapes.{term_shape}
use Rattle.lp_term.specs.declared.node.TermId.{TermId}
use Rattle.lp_term.specs.declared.node.TermNode.{TermNode}
use Rattle.lp_term.specs.declared.node.TermNode.TheVariants.{Index, Const, Int, Text, Eigen, Logic, Param, Abs, App}
use Rattle.lp_term.specs.inner.Walking.{term_size}
use Rattle.lp_plain.specs.declared.instance.Task.{Task}
use Rattle.lp_plain.specs.Instances.{visits_at}
use Rattle.lp_plain.specs.inner.Building.{GoesFed, IsAtomNode, IsFed, IsReady, parts_of, toil, toil_of}
use Rattle.lp_plain.specs.inner.Looking.{term_weight, weight_of_all}
use Rattle.lp_plain.proofs.Instances.{pushed}
use Rattle.lp_plain.proofs.Looks.{weight_append}
use Rattle.lp_plain.proofs.OpenNodes.{abs_lighter, app_lighter, term_weighs}

-- in a bank that has grown
ready_later : (b d : Nodes) → Extends b d → (i n : ℕ) → IsReady b i n → IsReady d i n
ready_later b d x i n h =
    let s = sym (x.terms_stay i h.0) in
    let l = h.0 in
    let k = x.more_terms in
    (omega (arith, l, k), subst (λ z. 1 ≤ parts_of z) s h.1, subst (λ z. parts_of z ≤ n) s h.2)

pub fed_later : (b d : Nodes) → Extends b d → (ts : List Task) (n : ℕ) → IsFed b ts n → IsFed d ts n
fed_later b d x [] n h = h
fed_later b d x (Task.Visit t e ∷ ts) n h = (let l = h.0 in let k = x.more_terms in omega (arith, l, k), h.1, fed_later b d x ts (n + 1) h.2)
fed_later b d x (Task.Build t ∷ ts) n h =
    (ready_later b d x t.0 n h.0, subst (λ z. IsFed d ts (n - parts_of z + 1)) (sym (x.terms_stay t.0 h.0.0)) (fed_later b d x ts (n - parts_of (term_at b t.0) + 1) h.1))

pub toil_later : (b d : Nodes) → Extends b d → (ts : List Task) (n : ℕ) → IsFed b ts n → toil d ts ≡ toil b ts
toil_later b d x [] n h = refl
toil_later b d x (Task.Visit t e ∷ ts) n h =
    let q = toil_later b d x ts (n + 1) h.2 in
    let w : term_weight d t.0 ≡ term_weight b t.0 = ap term_size (x.same_terms t.0 h.0) in
    omega (arith, q, w)
toil_later b d x (Task.Build t ∷ ts) n h = let q = toil_later b d x ts (n - parts_of (term_at b t.0) + 1) h.1 in omega (arith, q)

-- a visit that makes its term at once
pub fed_leaf : (b d : Nodes) → Extends b d → (id : TermId) (depth : ℕ) (ts : List Task) (made made' : List TermId) (new : TermId) → IsFed b
    (Task.Visit id depth ∷ reverse ts) (length made) → made' ≡ made ++ new ∷ [] → GoesFed b d (Task.Visit id depth) ts ts (length made')
fed_leaf b d x id depth ts made made' new h e =
    let l = ap length e ∙ length_push_suc made new in
    let k : length made + 1 ≡ length made' = omega (arith, l) in
    let q = toil_later b d x (reverse ts) (length made + 1) h.2 in
    let w = term_weighs (tree b id.0) in
    let z : toil_of b (Task.Visit id depth) ≡ 2 * term_weight b id.0 = refl in
    (subst (IsFed d (reverse ts)) k (fed_later b d x (reverse ts) (length made + 1) h.2), omega (arith, q, w, z))

-- an abstraction
pub fed_abstraction : (b : Nodes) (id body : TermId) (depth inner : ℕ) (old mid new : List Task) (n : ℕ) → abs_node body.0 ≡ term_at b id.0 → abs
    (tree b body.0) ≡ tree b id.0 → body.0 < id.0 → inner ≡ suc depth →
    mid ≡ old ++ Task.Build id ∷ [] → new ≡ mid ++ Task.Visit body inner ∷ [] → IsFed b (Task.Visit id depth ∷ reverse old) n → GoesFed b b (Task.Visit id depth) old new n
fed_abstraction b id body depth inner old mid new n node e l s p q h =
    let all : reverse new ≡ Task.Visit body inner ∷ Task.Build id ∷ reverse old = reverse_pushed new mid (Task.Visit body inner) q ∙ ap
    (λ z. Task.Visit body inner ∷ z) (reverse_pushed mid old (Task.Build id) p) in
    let one : 1 ≡ parts_of (term_at b id.0) = ap parts_of node in
    let inside = h.0 in
    let few = h.1 in
    let rest : IsFed b (reverse old) (n + 1 - parts_of (term_at b id.0) + 1) = (let k : n + 1 ≡ n + 1 - parts_of (term_at b id.0) + 1 = omega (arith, one) in subst (IsFed b (reverse old)) k h.2) in
    let w = abs_lighter b id.0 body.0 e in
    let z : weight_of_all (term_weight b) (body.0 ∷ []) ≡ term_weight b body.0 + 0 = refl in (
      subst (λ y. IsFed b y n) (sym all) (omega (arith, inside, l), omega (arith, few, s, l), ((inside, omega (arith, one), omega (arith, one)), rest)),
      subst (λ y. toil b y < toil b (Task.Visit id depth ∷ reverse old)) (sym all) (omega (arith, w, z)),
    )

-- an application
visits_fed : (b : Nodes) (top : ℕ) (depth : ℕ) → top < length b.terms → depth + top < 2 ^ 62 → (ids : List TermId) → All (λ i. i < top)
    (map (λ i. i.0) ids) → (ts : List Task) (n : ℕ) → IsFed b ts (n + length ids) → IsFed b (visits_at depth ids ++ ts) n
visits_fed b top depth l f [] a ts n h = let k : n + 0 ≡ n = omega arith in subst (IsFed b ts) k h
visits_fed b top depth l f (i ∷ ids) a ts n h =
    let p : i.0 < top = All-head (λ j. j < top) i.0 (map (λ j. j.0) ids) a in
    let k : n + length (i ∷ ids) ≡ n + 1 + length ids = omega arith in
    (omega (arith, p, l), omega (arith, p, f), visits_fed b top depth l f ids (All-tail (λ j. j < top) i.0 (map (λ j. j.0) ids) a) ts (n + 1) (subst (IsFed b ts) k h))

visits_toil : (b : Nodes) (depth : ℕ) (ids : List TermId) → toil b (visits_at depth ids) ≡ 2 * weight_of_all (term_weight b) (map (λ i. i.0) ids)
visits_toil b depth [] = refl
visits_toil b depth (i ∷ ids) = let q = visits_toil b depth ids in omega (arith, q)

pub fed_application : (b : Nodes) (id head : TermId) (ids : List TermId) (depth : ℕ) (old mid more new : List Task) (n : ℕ) → app_node head.0
    (map (λ i. i.0) ids) ≡ term_at b id.0 → apply (tree b head.0) (map (tree b) (map (λ i. i.0) ids)) ≡ tree b id.0 →
    head.0 < id.0 → All (λ i. i < id.0) (map (λ i. i.0) ids) → map (λ i. i.0) ids ≢ [] → mid ≡ old ++ Task.Build id ∷ [] → more ≡ mid ++ reverse
    (visits_at depth ids) → new ≡ more ++ Task.Visit head depth ∷ [] →
    IsFed b (Task.Visit id depth ∷ reverse old) n → GoesFed b b (Task.Visit id depth) old new n
fed_application b id head ids depth old mid more new n node e l a some p q r h =
    let all : reverse new ≡ Task.Visit head depth ∷ (visits_at depth ids ++ Task.Build id ∷ reverse old) = pushed old mid more new (Task.Build id)
    (Task.Visit head depth) (visits_at depth ids) p q r in
    let parts : length (map (λ (i : TermId). i.0) ids) + 1 ≡ parts_of (term_at b id.0) = ap parts_of node in
    let many = length-map ids (λ i. i.0) in
    let inside = h.0 in
    let few = h.1 in
    let rest : IsFed b (reverse old) (n + 1 + length ids - parts_of (term_at b id.0) + 1) =
    (let k : n + 1 ≡ n + 1 + length ids - parts_of (term_at b id.0) + 1 = omega (arith, parts, many) in subst (IsFed b (reverse old)) k h.2) in
    let w = app_lighter b id.0 head.0 (map (λ i. i.0) ids) e some in
    let z : weight_of_all (term_weight b) (head.0 ∷ map (λ (i : TermId). i.0) ids) ≡ term_weight b head.0 + weight_of_all (term_weight b) (map (λ (i : TermId). i.0) ids) = refl in
    let v = visits_toil b depth ids in
    let u = weight_append (toil_of b) (visits_at depth ids) (Task.Build id ∷ reverse old) in (
      subst (λ y. IsFed b y n) (sym all) (
        omega (arith, inside, l),
        omega (arith, few, l),
        visits_fed b id.0 depth inside few ids a (Task.Build id ∷ reverse old) (n + 1) ((inside, omega (arith, parts), omega (arith, parts, many)), rest),
      ),
      subst (λ y. toil b y < toil b (Task.Visit id depth ∷ reverse old)) (sym all) (omega (arith, w, z, v, u)),
    )

-- a node was built of its parts
pub fed_built : (b d : Nodes) → Extends b d → (id : TermId) (ts : List Task) (n k : ℕ) → k ≡ n - parts_of (term_at b id.0) + 1 → IsFed b
    (Task.Build id ∷ reverse ts) n → GoesFed b d (Task.Build id) ts ts k
fed_built b d x id ts n k e h =
    let q = toil_later b d x (reverse ts) (n - parts_of (term_at b id.0) + 1) h.1 in
    (subst (IsFed d (reverse ts)) (sym e) (fed_later b d x (reverse ts) (n - parts_of (term_at b id.0) + 1) h.1), omega (arith, q))

-- the first task
pub fed_begins : (b : Nodes) (id : TermId) (tasks : List Task) (made : List TermId) → id.0 < length b.terms → length b.terms < 2 ^ 62 → tasks ≡
    Task.Visit id 0 ∷ [] → made ≡ [] → IsFed b (reverse tasks) (length made)
fed_begins b id tasks made l f p q = subst (λ y. IsFed b (reverse y) (length made)) (sym p) (subst (λ y. IsFed b (Task.Visit id 0 ∷ []) (length y)) (sym q) (l, omega (arith, l, f), refl))

-- what is none of these is an atom
pub atom_node : (x : TermNode) → ((i : ℕ) → x ≡ Index i → ⊥) → ((u : TermId) → x ≡ Abs u → ⊥) → ((h : TermId) (us : _) → x ≡ App h us → ⊥) → IsAtomNode (term_shape x)
atom_node (Index i) f g h = absurd (f i refl)
atom_node (Const k ids) f g h = tt
atom_node (Int z) f g h = tt
atom_node (Text s) f g h = tt
atom_node (Eigen k) f g h = tt
atom_node (Logic y l) f g h = tt
atom_node (Param k t) f g h = tt
atom_node (Abs u) f g h = absurd (g u refl)
atom_node (App u us) f g h = absurd (h u us refl)

-- what a node takes and leaves
pub none_taken : (n : ℕ) (made : List TermId) → made ≡ [] → 1 ≤ n → n ≤ length made → ⊥
none_taken n made e p q = let z = ap length e in omega (arith, z, p, q)

pub one_taken : (b : Nodes) (i body : ℕ) (made mid made' : List TermId) (u v : TermId) → abs_node body ≡ term_at b i → made ≡ mid ++ u ∷ [] → made' ≡
    mid ++ v ∷ [] → length made' ≡ length made - parts_of (term_at b i) + 1
one_taken b i body made mid made' u v n p q =
    let k : 1 ≡ parts_of (term_at b i) = ap parts_of n in
    let x = ap length p ∙ length_push_suc mid u in
    let y = ap length q ∙ length_push_suc mid v in
    omega (arith, k, x, y)

pub more_taken : (b : Nodes) (i head : ℕ) (parts args made front mid made' : List TermId) (u v : TermId) → app_node head (map (λ i. i.0) parts) ≡
    term_at b i → length args ≡ length parts → made ≡ front ++ args → front ≡ mid ++ u ∷ [] → made' ≡ mid ++ v ∷ [] →
    length made' ≡ length made - parts_of (term_at b i) + 1
more_taken b i head parts args made front mid made' u v n c m p q =
    let k : length (map (λ (i : TermId). i.0) parts) + 1 ≡ parts_of (term_at b i) = ap parts_of n in
    let j = length-map parts (λ i. i.0) in
    let w = ap length m ∙ length-append front args in
    let x = ap length p ∙ length_push_suc mid u in
    let y = ap length q ∙ length_push_suc mid v in
    omega (arith, k, j, w, x, y, c)

-- so many are there
pub enough_parts : (b : Nodes) (i head : ℕ) (parts : List TermId) (n : ℕ) → app_node head (map (λ i. i.0) parts) ≡ term_at b i → parts_of (term_at b i) ≤ n → length parts + 1 ≤ n
enough_parts b i head parts n e l =
    let k : length (map (λ (i : TermId). i.0) parts) + 1 ≡ parts_of (term_at b i) = ap parts_of e in
    let j = length-map parts (λ i. i.0) in
    omega (arith, k, j, l)

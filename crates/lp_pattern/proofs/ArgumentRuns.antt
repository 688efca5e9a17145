-- The arguments that are to come to indices, on the stack, and the test of a whole argument and of all arguments.
use Rattle.std.proofs.Common.{◌≡◌, ℕ, suc, ◌+◌, ◌<◌, List, [], ◌∷◌, ◌++◌, map, drop, get_or, length, ◌∙◌, refl, sym, ap, subst as transport, arith, Bool, true, false, Option, Some, None, if◌then◌else◌}
use Rattle.std.specs.Prelude.{option_map, All, ◌&&◌}
use Rattle.std.proofs.lemmas.List.Elements.{All-head, All-tail}
use Rattle.std.proofs.lemmas.List.{append-nil, drop_more}
use Rattle.lp_calculus.specs.Term.{Term, index, atom, abs, app, apply, constant, integer, text, eigen, logic, param}
use Rattle.lp_calculus.specs.Convert.{steps}
use Rattle.lp_calculus.specs.Normal.{eta_normal}
use Rattle.lp_calculus.proofs.Sigma.{subst}
use Rattle.lp_term.specs.Nodes.{Nodes, Extends, tree}
use Rattle.lp_term.specs.declared.node.TermId.{TermId}
use Rattle.lp_term.specs.declared.reduce.TermRefusal.{TermRefusal}
use Rattle.lp_model.specs.Eigens.{beta_normal, eigen_of, as_eigen}
use Rattle.lp_model.specs.Look.{as_eigens, only_if, pattern_of, are_distinct, are_above, weak_step}
use Rattle.lp_model.specs.Pair.{Closing, closed}
use Rattle.lp_pattern.specs.declared.bindings.Bindings.{Bindings}
use Rattle.lp_pattern.specs.declared.look.Head.{Head}
use Rattle.lp_pattern.specs.declared.look.Looked.{Looked}
use Rattle.lp_pattern.specs.declared.patterns.Arguments.{Arguments}
use Rattle.lp_pattern.specs.declared.patterns.Name.{Name}
use Rattle.lp_pattern.specs.declared.patterns.Wanted.{Wanted}
use Rattle.lp_pattern.specs.Seen.{IsRigid, IsHead, IsLooked, IsReachedWithin}
use Rattle.lp_pattern.specs.Stripping.{opens, IsNoAbstraction, stop, HasForm, HasNoForm, Comes, is_name, name_term, eigen_past, is_at, AllFormed, AllCome, IsNamed, IsTaken, read_at, IsAlone, IsEigen, HasNoEigen, IsPattern, HasNoPattern}
use Rattle.lp_pattern.specs.Under.{IsReading, under}
use Rattle.lp_unify_laws.proofs.MoreSteps.Scans.{Below, below_map}
use Rattle.lp_pattern.proofs.Compares.{from_bind, from_map}
use Rattle.lp_pattern.proofs.BetaForms.{beta_behind, beta_named, leaf_form}
use Rattle.lp_pattern.proofs.Naming.{IsLeaf}
use Rattle.lp_pattern.proofs.Opening.{opens_leaves, read_reached, read_kept}
use Rattle.lp_pattern.proofs.Stacks.{under_kept}
use Rattle.lp_pattern.proofs.Stripped.{by_form, comes_to_none, found_at, not_all, comes_if, comes_only, comes_never, leaf_eta}
use Rattle.lp_pattern.proofs.ArgumentForms.{whole_is, top_leaf, stripped_count, stripped_none}

-- one of them
pub taken : (m place n : ℕ) (t : Term) (b : Nodes) (c : Closing) (name : Term) (is : Bool) (old new ws : List Wanted) → is ≡ is_at place n name → new ≡ old ++ ws → IsNamed m t b c name n ws → IsTaken m t place b c is old new
taken m place n t b c name true old new ws e q k = (ws, q, k.formed, (λ a. comes_if m n place t b c name ws k (sym e) a), (λ a. comes_only m n place t b c name ws k a))
taken m place n t b c name false old new ws e q k = λ a. comes_never m n place t b c name ws k (sym e) a

-- stacks
formed_join : (m : ℕ) (b : Nodes) (c : Closing) (xs ys : List Wanted) → AllFormed m b c xs → AllFormed m b c ys → AllFormed m b c (xs ++ ys)
formed_join m b c [] ys a e = e
formed_join m b c (x ∷ xs) ys a e = (a.0, formed_join m b c xs ys a.1 e)

formed_split : (m : ℕ) (b : Nodes) (c : Closing) (xs ys : List Wanted) → AllFormed m b c (xs ++ ys) → AllFormed m b c xs × AllFormed m b c ys
formed_split m b c [] ys a = (tt, a)
formed_split m b c (x ∷ xs) ys a = let w = formed_split m b c xs ys a.1 in ((a.0, w.0), w.1)

come_join : (m : ℕ) (b : Nodes) (c : Closing) (xs ys : List Wanted) → AllCome m b c xs → AllCome m b c ys → AllCome m b c (xs ++ ys)
come_join m b c [] ys a e = e
come_join m b c (x ∷ xs) ys a e = (a.0, come_join m b c xs ys a.1 e)

come_split : (m : ℕ) (b : Nodes) (c : Closing) (xs ys : List Wanted) → AllCome m b c (xs ++ ys) → AllCome m b c xs × AllCome m b c ys
come_split m b c [] ys a = (tt, a)
come_split m b c (x ∷ xs) ys a = let w = come_split m b c xs ys a.1 in ((a.0, w.0), w.1)

formed_kept : (m : ℕ) (b d : Nodes) (c : Closing) (ws : List Wanted) → Extends b d → All (λ w. w.term.0 < length b.terms) ws → AllFormed m b c ws → AllFormed m d c ws
formed_kept m b d c [] e k a = tt
formed_kept m b d c (w ∷ ws) e k a = (
  transport (HasForm m) (sym (under_kept b d c w.term e (All-head (λ w. w.term.0 < length b.terms) w ws k))) a.0,
  formed_kept m b d c ws e (All-tail (λ w. w.term.0 < length b.terms) w ws k) a.1,
)

come_kept : (m : ℕ) (b d : Nodes) (c : Closing) (ws : List Wanted) → Extends b d → All (λ w. w.term.0 < length b.terms) ws → AllCome m b c ws → AllCome m d c ws
come_kept m b d c [] e k a = tt
come_kept m b d c (w ∷ ws) e k a = (
  transport (λ t. Comes m t (index w.place)) (sym (under_kept b d c w.term e (All-head (λ w. w.term.0 < length b.terms) w ws k))) a.0,
  come_kept m b d c ws e (All-tail (λ w. w.term.0 < length b.terms) w ws k) a.1,
)

come_back : (m : ℕ) (b d : Nodes) (c : Closing) (ws : List Wanted) → Extends b d → All (λ w. w.term.0 < length b.terms) ws → AllCome m d c ws → AllCome m b c ws
come_back m b d c [] e k a = tt
come_back m b d c (w ∷ ws) e k a = (
  transport (λ t. Comes m t (index w.place)) (under_kept b d c w.term e (All-head (λ w. w.term.0 < length b.terms) w ws k)) a.0,
  come_back m b d c ws e (All-tail (λ w. w.term.0 < length b.terms) w ws k) a.1,
)

-- what is known while arguments are left
abbrev pub Left : ℕ → Nodes → Closing → List Wanted → (o found : Option ℕ) → Type 0
Left m b c ws o found = AllFormed m b c ws × (AllCome m b c ws → o ≡ found) × ((AllCome m b c ws → ⊥) → o ≡ None)

pub left_start : (m n : ℕ) (b d : Nodes) (c : Closing) (l k : ℕ) (t : TermId) (o found : Option ℕ) (name : Name) (ws items : List Wanted) → as_eigen m (read_at b c l k t) ≡ Some o → IsNamed m (under b c t) d c (name_term name) n ws →
    items ≡ [] ++ ws → found ≡ eigen_past n (opens l k) (name_term name) → Left m d c items o found
left_start m n b d c l k t o found name ws items e h q f =
    transport (λ x. Left m d c x o found) (sym q) (
      h.formed,
      (λ a. found_at (opens l k) (opens_leaves l k) m n (under b c t) d c (name_term name) ws o e (is_name_term name) h a ∙ sym f),
      (λ a. not_all (opens l k) (opens_leaves l k) m n (under b c t) d c (name_term name) ws o e h a),
    )
  where
    is_name_term : (n : Name) → is_name (name_term n) ≡ true
    is_name_term (Name.Eigen k) = refl
    is_name_term (Name.Index i) = refl

pub left_none : (m : ℕ) (b : Nodes) (c : Closing) (items : List Wanted) (o found : Option ℕ) → items ≡ [] → Left m b c items o found → o ≡ found
left_none m b c items o found q h = (transport (λ x. Left m b c x o found) q h).1 tt

pub left_form : (m : ℕ) (b : Nodes) (c : Closing) (items rest : List Wanted) (w : Wanted) (o found : Option ℕ) → items ≡ rest ++ w ∷ [] → Left m b c items o found → HasForm m (under b c w.term)
left_form m b c items rest w o found q h = (formed_split m b c rest (w ∷ []) (transport (AllFormed m b c) q h.0)).1.0

pub left_fails : (m : ℕ) (b d : Nodes) (c : Closing) (items rest new : List Wanted) (w : Wanted) (is : Bool) (o found : Option ℕ) → items ≡ rest ++ w ∷ [] → Left m b c items o found → is ≡ false →
    IsTaken m (under b c w.term) w.place d c is rest new → o ≡ None
left_fails m b d c items rest new w is o found q h e t =
    let x : Comes m (under b c w.term) (index w.place) → ⊥ = transport (λ y. IsTaken m (under b c w.term) w.place d c y rest new) e t in
    h.2 (λ a. x (come_split m b c rest (w ∷ []) (transport (AllCome m b c) q a)).1.0)

pub left_goes : (m : ℕ) (b d : Nodes) (c : Closing) (items rest new : List Wanted) (w : Wanted) (is : Bool) (o found : Option ℕ) → Extends b d → All (λ w. w.term.0 < length b.terms) rest → items ≡ rest ++ w ∷ [] → Left m b c items o found →
    is ≡ true → IsTaken m (under b c w.term) w.place d c is rest new → Left m d c new o found
left_goes m b d c items rest new w is o found x k q h e t =
    let y : IsTaken m (under b c w.term) w.place d c true rest new = transport (λ y. IsTaken m (under b c w.term) w.place d c y rest new) e t in
    let f = formed_split m b c rest (w ∷ []) (transport (AllFormed m b c) q h.0) in
    transport (λ l. Left m d c l o found) (sym y.1) (
      formed_join m d c rest y.0 (formed_kept m b d c rest x k f.0) y.2,
      (λ a. let s = come_split m d c rest y.0 a in h.1 (transport (AllCome m b c) (sym q) (come_join m b c rest (w ∷ []) (come_back m b d c rest x k s.0) (y.3 s.1, tt)))),
      (λ a. h.2 (λ z. let s = come_split m b c rest (w ∷ []) (transport (AllCome m b c) q z) in a (come_join m d c rest y.0 (come_kept m b d c rest x k s.0) (y.4 s.1.0)))),
    )

-- refusals
pub no_form_no_eigen : (m l k : ℕ) (b : Nodes) (c : Closing) (t : TermId) (e : TermRefusal) → HasNoForm m (under b c t) e → HasNoEigen m (read_at b c l k t) e
no_form_no_eigen m l k b c t (TermRefusal.Deep n) h = ap (option_map (λ s. eigen_of (eta_normal s))) (beta_named (opens l k) (opens_leaves l k) m (under b c t) ∙ ap (option_map (subst (opens l k))) h)
no_form_no_eigen m l k b c t TermRefusal.Memory h = tt

pub one_no_form : (m : ℕ) (a t : Term) (e : TermRefusal) → ((o : Option ℕ) → as_eigen m a ≡ Some o → HasForm m t) → HasNoForm m t e → HasNoEigen m a e
one_no_form m a t (TermRefusal.Deep n) f h = go (as_eigen m a) refl
  where
    go : (o : Option (Option ℕ)) → as_eigen m a ≡ o → o ≡ None
    go None q = refl
    go (Some p) q = absurd (let w = f p q in let x : None ≡ Some w.0 = sym h ∙ w.1 in cc)
one_no_form m a t TermRefusal.Memory f h = tt

-- an argument that was looked at
eigen_behind : (k m : ℕ) (t s : Term) → steps weak_step k t ≡ Some s → Below (as_eigen m t) (as_eigen m s)
eigen_behind k m t s e = below_map (beta_normal m t) (beta_normal m s) (λ x. eigen_of (eta_normal x)) (beta_behind k m t s e)

pub eigen_later : (m l k limit : ℕ) (b d : Nodes) (c : Closing) (t s : TermId) (o : Option ℕ) → IsReachedWithin limit (under b c t) (under d c s) → IsEigen m (read_at d c l k s) o → IsEigen m (read_at b c l k t) o
eigen_later m l k limit b d c t s o w h = λ p e. h p (eigen_behind w.0 m (read_at b c l k t) (read_at d c l k s) (read_reached b d c l k w.0 t s w.2) p e)

pub no_eigen_later : (m l k limit : ℕ) (b d : Nodes) (c : Closing) (t s : TermId) (e : TermRefusal) → IsReachedWithin limit (under b c t) (under d c s) → HasNoEigen m (read_at d c l k s) e → HasNoEigen m (read_at b c l k t) e
no_eigen_later m l k limit b d c t s (TermRefusal.Deep n) w h = go (as_eigen m (read_at b c l k t)) refl
  where
    go : (o : Option (Option ℕ)) → as_eigen m (read_at b c l k t) ≡ o → o ≡ None
    go None q = refl
    go (Some p) q = absurd (let x : None ≡ Some p = sym h ∙ eigen_behind w.0 m (read_at b c l k t) (read_at d c l k s) (read_reached b d c l k w.0 t s w.2) p q in cc)
no_eigen_later m l k limit b d c t s TermRefusal.Memory w h = tt

pub named_none : (m l k : ℕ) (b : Nodes) (c : Closing) (t : TermId) → (HasForm m (under b c t) → (x : Term) → is_name x ≡ true → Comes m (under b c t) x → ⊥) → IsEigen m (read_at b c l k t) None
named_none m l k b c t h = λ p e. let w = by_form (opens l k) (opens_leaves l k) m (under b c t) p e in comes_to_none (opens l k) (opens_leaves l k) m (under b c t) p e (h (w.0, w.1))

pub formed_by : (m l k : ℕ) (b : Nodes) (c : Closing) (t : TermId) (o : Option ℕ) → as_eigen m (read_at b c l k t) ≡ Some o → HasForm m (under b c t)
formed_by m l k b c t o e = let w = by_form (opens l k) (opens_leaves l k) m (under b c t) o e in (w.0, w.1)

pub variable_none : (m l k limit : ℕ) (b d : Nodes) (s : Bindings) (c : Closing) (t : TermId) (r : Looked) (x y : ℕ) → IsReading d s c → IsLooked d s r → r.head ≡ Head.Variable x y → IsReachedWithin limit (under b c t) (under d c r.whole) →
    IsEigen m (read_at b c l k t) None
variable_none m l k limit b d s c t r x y i h q w =
    let v : IsHead d s (Head.Variable x y) (tree d r.top.0) r.arguments.items = transport (λ z. IsHead d s z (tree d r.top.0) r.arguments.items) q h.head in
    named_none m l k b c t (λ f z n a. stripped_none m 0 b d s c t r h i (transport IsNoAbstraction (sym q) tt) (stop w.0 w.2) (ap is_name v.0) z n a)

-- a head alone
rigid_eigen : (c : Closing) (σ : ℕ → Term) (t : Term) → IsRigid t → eigen_of (subst σ (closed c t)) ≡ eigen_of (subst σ t)
rigid_eigen c σ (index i) h = refl
rigid_eigen c σ (atom (constant k us)) h = refl
rigid_eigen c σ (atom (integer z)) h = refl
rigid_eigen c σ (atom (text s)) h = refl
rigid_eigen c σ (atom (eigen k)) h = refl
rigid_eigen c σ (atom (logic x l)) h = absurd h
rigid_eigen c σ (atom (param k u)) h = refl
rigid_eigen c σ (abs b) h = absurd h
rigid_eigen c σ (app t u) h = absurd h

abbrev alone_of : Nodes → (ℕ → Term) → TermId → List TermId → Option ℕ
alone_of b σ top args = elim args [ [] ↦ eigen_of (subst σ (tree b top.0)) | t ∷ ts ↦ None ]

pub rigid_eigen_is : (m l k limit : ℕ) (b d : Nodes) (s : Bindings) (c : Closing) (t : TermId) (r : Looked) (o : Option ℕ) → IsReading d s c → IsLooked d s r → r.head ≡ Head.Rigid → IsReachedWithin limit (under b c t) (under d c r.whole) →
    IsAlone d r (opens l k) o → IsEigen m (read_at b c l k t) o
rigid_eigen_is m l k limit b d s c t r o i h q w a = go r.arguments.items refl
  where
    rigid : IsRigid (tree d r.top.0)
    rigid = transport (λ z. IsHead d s z (tree d r.top.0) r.arguments.items) q h.head

    no_abs : IsNoAbstraction r.head
    no_abs = transport IsNoAbstraction (sym q) tt

    leaf : IsLeaf (under d c r.top)
    leaf = top_leaf d s c r i h no_abs

    go : (ids : List TermId) → r.arguments.items ≡ ids → IsEigen m (read_at b c l k t) o
    go [] z = λ p e.
        let f = by_form (opens l k) (opens_leaves l k) m (under b c t) p e in
        let top : steps weak_step w.0 (under b c t) ≡ Some (under d c r.top) = w.2 ∙ ap (λ y. Some y) (whole_is d s c r h ∙ ap (λ y. apply (under d c r.top) (map (under d c) y)) z) in
        let g : f.0 ≡ under d c r.top = leaf_form m (under d c r.top) f.0 leaf (beta_behind w.0 m (under b c t) (under d c r.top) top f.0 f.1) in
        f.2 ∙ ap (λ y. eigen_of (subst (opens l k) (eta_normal y))) g ∙ ap (λ y. eigen_of (subst (opens l k) y)) (leaf_eta (under d c r.top) leaf) ∙ rigid_eigen c (opens l k) (tree d r.top.0) rigid ∙
        sym (a ∙ ap (alone_of d (opens l k) r.top) z)
    go (u ∷ us) z =
        transport (IsEigen m (read_at b c l k t)) (sym (a ∙ ap (alone_of d (opens l k) r.top) z))
        (named_none m l k b c t (λ f y n x. stripped_count m 0 b d s c t r h i no_abs (stop w.0 w.2) (λ e. let g : suc (length us) ≡ 0 = sym (ap length z) ∙ e in absurd (omega (arith, g))) y n x))

-- all arguments
abbrev pub Eigens : ℕ → List Term → (done : List ℕ) → (rest : List Term) → Type 0
Eigens m all done rest = (o : Option (List ℕ)) → as_eigens m all ≡ Some o → (p : Option (List ℕ)) × (as_eigens m rest ≡ Some p) × (o ≡ option_map (λ ks. done ++ ks) p)

same_option : (p : Option (List ℕ)) → p ≡ option_map (λ ks. [] ++ ks) p
same_option None = refl
same_option (Some ks) = refl

pub eigens_start : (m : ℕ) (all : List Term) → Eigens m all [] all
eigens_start m all o e = (o, e, same_option o)

abbrev after : ℕ → List Term → Option ℕ → Option (Option (List ℕ))
after m ts o = elim o [ None ↦ Some None | Some k ↦ option_map (option_map (λ ks. k ∷ ks)) (as_eigens m ts) ]

one_further : (done : List ℕ) (k : ℕ) (p : Option (List ℕ)) → option_map (λ ks. done ++ ks) (option_map (λ ks. k ∷ ks) p) ≡ option_map (λ ks. (done ++ k ∷ []) ++ ks) p
one_further done k None = refl
one_further done k (Some ks) = ap (λ x. Some x) (assoc done)
  where
    assoc : (xs : List ℕ) → xs ++ (k ∷ ks) ≡ (xs ++ k ∷ []) ++ ks
    assoc [] = refl
    assoc (x ∷ xs) = ap (λ l. x ∷ l) (assoc xs)

pub eigens_next : (m : ℕ) (all : List Term) (done : List ℕ) (t : Term) (rest : List Term) (k : ℕ) → Eigens m all done (t ∷ rest) → IsEigen m t (Some k) → Eigens m all (done ++ k ∷ []) rest
eigens_next m all done t rest k h i o e =
    let w = h o e in
    let x = from_bind (after m rest) (as_eigen m t) w.0 w.1 in
    let y = from_map (option_map (λ ks. k ∷ ks)) (as_eigens m rest) w.0 (ap (after m rest) (sym (i x.0 x.1)) ∙ x.2) in
    (y.0, y.1, w.2 ∙ ap (option_map (λ ks. done ++ ks)) y.2 ∙ one_further done k y.0)

pub eigens_none : (m l : ℕ) (all : List Term) (done : List ℕ) (t : Term) (rest : List Term) → Eigens m all done (t ∷ rest) → IsEigen m t None → IsPattern m l all None
eigens_none m l all done t rest h i p e =
    let z = from_map (only_if (λ ks. are_distinct ks && are_above l ks)) (as_eigens m all) p e in
    let w = h z.0 z.1 in
    let x = from_bind (after m rest) (as_eigen m t) w.0 w.1 in
    let q : Some None ≡ Some w.0 = ap (after m rest) (sym (i x.0 x.1)) ∙ x.2 in
    let r : None ≡ w.0 = cc in
    z.2 ∙ ap (only_if (λ ks. are_distinct ks && are_above l ks)) (w.2 ∙ ap (option_map (λ ks. done ++ ks)) (sym r))

pub eigens_deep : (m l : ℕ) (all : List Term) (done : List ℕ) (t : Term) (rest : List Term) (e : TermRefusal) → Eigens m all done (t ∷ rest) → HasNoEigen m t e → HasNoPattern m l all e
eigens_deep m l all done t rest (TermRefusal.Deep n) h d = go (as_eigens m all) refl
  where
    go : (o : Option (Option (List ℕ))) → as_eigens m all ≡ o → option_map (only_if (λ ks. are_distinct ks && are_above l ks)) o ≡ None
    go None q = refl
    go (Some p) q = absurd (let w = h p q in let x = from_bind (after m rest) (as_eigen m t) w.0 w.1 in let y : None ≡ Some x.0 = sym d ∙ x.1 in cc)
eigens_deep m l all done t rest TermRefusal.Memory h d = tt

abbrev tested : ℕ → List ℕ → Bool → Option (List ℕ)
tested l ks b = if b then Some ks else None

eigens_all : (m l : ℕ) (all : List Term) (done : List ℕ) (p : Option (List ℕ)) → Eigens m all done [] → pattern_of m l all ≡ Some p → p ≡ tested l done (are_distinct done && are_above l done)
eigens_all m l all done p h e =
    let z = from_map (only_if (λ ks. are_distinct ks && are_above l ks)) (as_eigens m all) p e in
    let w = h z.0 z.1 in
    let q : Some (Some []) ≡ Some w.0 = w.1 in
    let r : Some [] ≡ w.0 = cc in
    z.2 ∙ ap (only_if (λ ks. are_distinct ks && are_above l ks)) (w.2 ∙ ap (option_map (λ ks. done ++ ks)) (sym r) ∙ ap (λ x. Some x) (append-nil done))

pub eigens_pattern : (m l : ℕ) (all : List Term) (a : Arguments) (t : Bool) → Eigens m all a.eigens.items [] → t ≡ (are_distinct a.eigens.items && are_above l a.eigens.items) → t ≡ true → IsPattern m l all (Some a)
eigens_pattern m l all a t h q e p x = eigens_all m l all a.eigens.items p h x ∙ ap (tested l a.eigens.items) (sym q ∙ e)

pub eigens_other : (m l : ℕ) (all : List Term) (done : List ℕ) (t : Bool) → Eigens m all done [] → t ≡ (are_distinct done && are_above l done) → t ≡ false → IsPattern m l all None
eigens_other m l all done t h q e p x = eigens_all m l all done p h x ∙ ap (tested l done) (sym q ∙ e)

-- the next argument
module _ (b₀ b₁ : Nodes) (c : Closing) (l k m level : ℕ) (args : List TermId) (place : ℕ) (d : TermId) (done : List ℕ) (x : Extends b₀ b₁) (a : All (λ t. t.0 < length b₀.terms) args) (p : place < length args)
    (h : Eigens m (map (read_at b₀ c l k) args) done (map (read_at b₀ c l k) (drop place args))) where
  at_next : Eigens m (map (read_at b₀ c l k) args) done (read_at b₀ c l k (get_or args place d) ∷ map (read_at b₀ c l k) (drop (place + 1) args))
  at_next = transport (λ ts. Eigens m (map (read_at b₀ c l k) args) done (map (read_at b₀ c l k) ts)) (drop_more args place d p) h

  same_next : read_at b₁ c l k (get_or args place d) ≡ read_at b₀ c l k (get_or args place d)
  same_next = read_kept b₀ b₁ c l k (get_or args place d) x (a place d p)

  pub deep_at : (e : TermRefusal) → HasNoEigen m (read_at b₁ c l k (get_or args place d)) e → HasNoPattern m level (map (read_at b₀ c l k) args) e
  deep_at e y =
      eigens_deep m level (map (read_at b₀ c l k) args) done (read_at b₀ c l k (get_or args place d)) (map (read_at b₀ c l k) (drop (place + 1) args)) e at_next (transport (λ t. HasNoEigen m t e) same_next y)

  pub none_at : IsEigen m (read_at b₁ c l k (get_or args place d)) None → IsPattern m level (map (read_at b₀ c l k) args) None
  none_at y =
      eigens_none m level (map (read_at b₀ c l k) args) done (read_at b₀ c l k (get_or args place d)) (map (read_at b₀ c l k) (drop (place + 1) args)) at_next (transport (λ t. IsEigen m t None) same_next y)

  pub next_at : (e : ℕ) → IsEigen m (read_at b₁ c l k (get_or args place d)) (Some e) → Eigens m (map (read_at b₀ c l k) args) (done ++ e ∷ []) (map (read_at b₀ c l k) (drop (place + 1) args))
  next_at e y =
      eigens_next m (map (read_at b₀ c l k) args) done (read_at b₀ c l k (get_or args place d)) (map (read_at b₀ c l k) (drop (place + 1) args)) e at_next (transport (λ t. IsEigen m t (Some e)) same_next y)

pub at_eigen : (m : ℕ) (t : Term) (o p : Option ℕ) → o ≡ p → IsEigen m t o → IsEigen m t p
at_eigen m t o p q h = transport (IsEigen m t) q h

pub pushed_eigens : (m : ℕ) (all rest : List Term) (new done : List ℕ) → new ≡ done → Eigens m all done rest → Eigens m all new rest
pushed_eigens m all rest new done q h = transport (λ ks. Eigens m all ks rest) (sym q) h

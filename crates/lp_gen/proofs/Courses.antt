-- A task for a term gives way to the tasks for its parts.
use Rattle.std.proofs.Common.{◌≡◌, ◌∙◌, ◌≢◌, ℕ, suc, ◌+◌, ◌-◌, ◌^◌, List, [], ◌∷◌, ◌++◌, append_assoc, map, length, reverse, take, Bor, ℤ, zero, ◌<◌, ◌≤◌, get_or, set, true, Option, Some, None, Vec, Global, ap, refl, sym, subst, arith}
use Rattle.std.specs.Prelude.{min, nat_eq, if◌then◌else◌, option_map, slice_get}
use Rattle.indexmap.specs.IndexMap.{get}
use Rattle.std.proofs.lemmas.Bool.{le-leb}
use Rattle.std.proofs.lemmas.Option.{slice_get-map}
use Rattle.std.proofs.lemmas.List.{append-nil, map-append, length-append, reverse-append}
use Rattle.lp_calculus.specs.Types.{Ty}
use Rattle.lp_calculus.specs.Term.{Term, index, atom, abs, app, apply}
use Rattle.lp_calculus.specs.Typing.{o_type}
use Rattle.lp_term.specs.Nodes.{Nodes, tree, type_tree, node_tree}
use Rattle.lp_term.specs.Node.{TermBelow}
use Rattle.lp_term.specs.Shapes.{term_shape}
use Rattle.lp_term.specs.Spine.{IsNoApplication}
use Rattle.lp_term.specs.declared.node.TermId.{TermId}
use Rattle.lp_term.specs.declared.node.TermNode.{TermNode}
use Rattle.lp_term.specs.declared.node.TermNode.TheVariants as node
use Rattle.lp_term.specs.declared.node.TypeId.{TypeId}
use Rattle.lp_gen.specs.declared.environment.Environment.{Environment}
use Rattle.lp_gen.specs.declared.environment.Variable.{Variable}
use Rattle.lp_gen.specs.declared.standard.Function.{Function}
use Rattle.lp_gen.specs.declared.types.TypeView.{TypeView}
use Rattle.lp_gen.specs.declared.types.TypeView.TheVariants.{Proposition}
use Rattle.lp_gen.specs.declared.term_steps.TermStep.{TermStep}
use Rattle.lp_gen.specs.declared.term_steps.TermStep.TheVariants as step
use Rattle.lp_gen.specs.declared.listing.Lists.{Lists}
use Rattle.lp_gen.specs.declared.listing.Task.{Task}
use Rattle.lp_gen.specs.declared.listing.Task.TheVariants as on
use Rattle.lp_gen.specs.Steps.{from_of, to_of, Step, make_constant, make_index, apply_last, abstract_last, Seen, Around, level_below, level_in, marked, set_level, Listed, one_step, level_listed, bound_listed, index_listed, head_type, Headed, as_head, with_argument, applied, listed, headed}
use Rattle.lp_gen.specs.inner.Reading.{read}
use Rattle.lp_gen.specs.inner.Listing.{plain_step, seen, around_of}
use Rattle.lp_gen.specs.inner.Listing.{node_listed, term_function, read_function, with_arguments}
use Rattle.lp_gen.specs.inner.Tasks.{Course, course, behind, with_step, all_but_first, without_arguments, of_head, act, done, Adds}
use Rattle.lp_gen.proofs.TypeWorks.{map_length}

pub done_push : (K : ℕ → List Ty → Ty) (b : Nodes) (ts : List Task) (t : Task) (w : Course) → done K b (ts ++ t ∷ []) w ≡ done K b ts (act K b t w)
done_push K b [] t w = refl
done_push K b (x ∷ ts) t w = ap (act K b x) (done_push K b ts t w)

-- the last task is taken off
pub done_popped : (K : ℕ → List Ty → Ty) (b : Nodes) (all ts : List Task) (t : Task) (w : Course) → all ≡ ts ++ t ∷ [] → done K b all w ≡ done K b ts (act K b t w)
done_popped K b all ts t w e = ap (λ l. done K b l w) e ∙ done_push K b ts t w

last_two : (K : ℕ → List Ty → Ty) (b : Nodes) (old mid new : List Task) (x y : Task) (w : Course) → mid ≡ old ++ x ∷ [] → new ≡ mid ++ y ∷ [] → done K b new w ≡ done K b old (act K b x (act K b y w))
last_two K b old mid new x y w m n = done_popped K b new mid y w n ∙ done_popped K b mid old x (act K b y w) m

reverse_last : {A : Type 0} (xs : List A) (x : A) → reverse (xs ++ x ∷ []) ≡ x ∷ reverse xs
reverse_last xs x = reverse-append xs (x ∷ [])

reverse_twice : {A : Type 0} (xs : List A) → reverse (reverse xs) ≡ xs
reverse_twice [] = refl
reverse_twice (x ∷ xs) = ap reverse (reverse-append (x ∷ []) xs) ∙ reverse_last (reverse xs) x ∙ ap (λ l. x ∷ l) (reverse_twice xs)

-- an abstraction, below which one index more is bound
pub visits_abstraction : (K : ℕ → List Ty → Ty) (b : Nodes) (old mid new : List Task) (body term : TermId) (from to of : TypeView) (w v : Course) → mid ≡ old ++ on.Abstract from ∷ [] →
    new ≡ mid ++ on.Visit body to ∷ [] → abs (tree b body.0) ≡ tree b term.0 → read b from ≡ from_of (read b of) → read b to ≡ to_of (read b of) →
    v ≡ record { bound = read b from ∷ w.bound; steps = w.steps; around = w.around } → done K b new v ≡ done K b old (act K b (on.Visit term of) w)
visits_abstraction K b old mid new body term from to of w v m n t f g e =
    let l = listed K (from_of (read b of) ∷ w.bound) w.around (to_of (read b of)) (tree b body.0) in
    ap (done K b new) e ∙ last_two K b old mid new (on.Abstract from) (on.Visit body to) (record { bound = read b from ∷ w.bound; steps = w.steps; around = w.around }) m n
    ∙ ap (done K b old) ((λ i. act K b (on.Abstract from) (behind (record { bound = f i ∷ w.bound; steps = w.steps; around = w.around }) (listed K (f i ∷ w.bound) w.around (g i) (tree b body.0))))
    ∙ (λ i. record { bound = w.bound; steps = append_assoc w.steps l.steps (abstract_last (f i) ∷ []) i; around = l.around })
    ∙ ap (λ u. behind w (listed K w.bound w.around (read b of) u)) t)

-- arguments behind a head

headed_apply : (K : ℕ → List Ty → Ty) (C : List Ty) (a : Around) (t : Term) (ts : List Term) → headed K C a (apply t ts) ≡ with_arguments K C (headed K C a t) ts
headed_apply K C a t [] = refl
headed_apply K C a t (u ∷ us) = headed_apply K C a (app t u) us

listed_apply : (K : ℕ → List Ty → Ty) (C : List Ty) (a : Around) (T : Ty) (t u : Term) (us : List Term) → listed K C a T (apply t (u ∷ us)) ≡ applied (headed K C a (apply t (u ∷ us)))
listed_apply K C a T t u [] = refl
listed_apply K C a T t u (v ∷ vs) = listed_apply K C a T (app t u) v vs

headed_base : (K : ℕ → List Ty → Ty) (C : List Ty) (a : Around) (t : Term) → IsNoApplication t → headed K C a t ≡ as_head (head_type K C a t) (listed K C a o_type t)
headed_base K C a (index i) n = refl
headed_base K C a (atom s) n = refl
headed_base K C a (abs b) n = refl
headed_base K C a (app t u) n = absurd n

abbrev front : List Step → ℕ → Headed → Headed
front S n h = record { steps = S ++ h.steps; around = h.around; function = h.function; count = n + h.count }

argument_front : (S : List Step) (n : ℕ) (h : Headed) (l : Listed) → with_argument (front S n h) l ≡ front S n (with_argument h l)
argument_front S n h l =
    let c : n + h.count + 1 ≡ n + (h.count + 1) = omega arith in
    λ i. record { steps = append_assoc S h.steps l.steps i; around = l.around; function = to_of h.function; count = c i }

with_front : (K : ℕ → List Ty → Ty) (C : List Ty) (S : List Step) (n : ℕ) (h : Headed) (ts : List Term) → with_arguments K C (front S n h) ts ≡ front S n (with_arguments K C h ts)
with_front K C S n h [] = refl
with_front K C S n h (t ∷ ts) =
    let l = listed K C h.around (from_of h.function) t in
    ap (λ g. with_arguments K C g ts) (argument_front S n h l) ∙ with_front K C S n (with_argument h l) ts

with_count : (K : ℕ → List Ty → Ty) (C : List Ty) (h : Headed) (ts : List Term) → (with_arguments K C h ts).count ≡ h.count + length ts
with_count K C h [] = omega arith
with_count K C h (t ∷ ts) = let r = with_count K C (with_argument h (listed K C h.around (from_of h.function) t)) ts in omega (arith, r)

abbrev begins : Around → Ty → Headed
begins a T = record { steps = []; around = a; function = T; count = 0 }

head_front : (T : Ty) (l : Listed) → as_head T l ≡ front l.steps 0 (begins l.around T)
head_front T l = λ i. record { steps = sym (append-nil l.steps) i; around = l.around; function = T; count = 0 }

-- a head on arguments, from what is listed of both
spine_listed : (K : ℕ → List Ty → Ty) (w : Course) (V : Ty) (h u : Term) (us : List Term) → IsNoApplication h →
    with_step (behind (behind w (listed K w.bound w.around o_type h))
    (of_head (with_arguments K w.bound (begins (listed K w.bound w.around o_type h).around (head_type K w.bound w.around h)) (u ∷ us)))) (apply_last (length (u ∷ us)))
    ≡ behind w (listed K w.bound w.around V (apply h (u ∷ us)))
spine_listed K w V h u us none =
    let C = w.bound in
    let l = listed K C w.around o_type h in
    let T = head_type K C w.around h in
    let all = with_arguments K C (begins l.around T) (u ∷ us) in
    let count : all.count ≡ length (u ∷ us) = with_count K C (begins l.around T) (u ∷ us) ∙ (let z : 0 + length (u ∷ us) ≡ length (u ∷ us) = omega arith in z) in
    let zero_count : all.count ≡ 0 + all.count = omega arith in
    let same : headed K C w.around (apply h (u ∷ us)) ≡ front l.steps 0 all =
    headed_apply K C w.around h (u ∷ us) ∙ ap (λ g. with_arguments K C g (u ∷ us)) (headed_base K C w.around h none ∙ head_front T l) ∙ with_front K C l.steps 0 (begins l.around T) (u ∷ us) in
    (λ i. record { bound = C; steps = ((w.steps ++ l.steps) ++ all.steps) ++ apply_last (sym count i) ∷ []; around = all.around })
    ∙ (λ i. record { bound = C; steps = append_assoc (w.steps ++ l.steps) all.steps (apply_last all.count ∷ []) i; around = all.around })
    ∙ (λ i. record { bound = C; steps = append_assoc w.steps l.steps (all.steps ++ apply_last all.count ∷ []) i; around = all.around })
    ∙ (λ i. record { bound = C; steps = w.steps ++ sym (append_assoc l.steps all.steps (apply_last (zero_count i) ∷ [])) i; around = all.around })
    ∙ ap (λ g. behind w (applied g)) (sym same)
    ∙ ap (behind w) (sym (listed_apply K C w.around V h u us))

pub visits_application : (K : ℕ → List Ty → Ty) (b : Nodes) (old mid third new : List Task) (head term : TermId) (args : List TermId) (vec : Vec TermId Global) (n : ℕ) (f : Function) (of : TypeView)
    (w : Course) → mid ≡ old ++ on.Apply n ∷ [] → third ≡ mid ++ on.Args vec f ∷ [] → new ≡ third ++ on.Visit head Proposition ∷ [] → vec.items ≡ reverse args → n ≡ length args →
    (args ≡ [] → ⊥) → IsNoApplication (tree b head.0) → apply (tree b head.0) (map (λ t. tree b t.0) args) ≡ tree b term.0 → read_function b f ≡ head_type K w.bound w.around (tree b head.0) →
    done K b new w ≡ done K b old (act K b (on.Visit term of) w)
visits_application K b old mid third new head term [] vec n f of w m t e v c some none is r = absurd (some refl)
visits_application K b old mid third new head term (x ∷ xs) vec n f of w m t e v c some none is r =
    let g : TermId → Term = λ t. tree b t.0 in
    let back : reverse vec.items ≡ x ∷ xs = ap reverse v ∙ reverse_twice (x ∷ xs) in
    let count : n ≡ length (map g (x ∷ xs)) = c ∙ sym (map_length g (x ∷ xs)) in
    let l = listed K w.bound w.around o_type (tree b head.0) in
    done_popped K b new third (on.Visit head Proposition) w e
    ∙ last_two K b old mid third (on.Apply n) (on.Args vec f) (behind w l) m t
    ∙ ap (done K b old) ((λ i. with_step (behind (behind w l) (of_head (with_arguments K w.bound (begins l.around (r i)) (map g (back i))))) (apply_last (count i)))
    ∙ spine_listed K w (read b of) (tree b head.0) (g x) (map g xs) none
    ∙ ap (λ u. behind w (listed K w.bound w.around (read b of) u)) is)

-- the arguments that wait

pub no_arguments : (K : ℕ → List Ty → Ty) (b : Nodes) (work : List Task) (ids : Vec TermId Global) (f : Function) (w : Course) → ids.items ≡ [] → done
    K b work w ≡ done K b work (act K b (on.Args ids f) w)
no_arguments K b work ids f w e =
    ap (done K b work) (sym (ap (λ l. behind w (of_head (with_arguments K w.bound (without_arguments w (read_function b f)) (map (λ t. tree b t.0) (reverse l))))) e
    ∙ (λ i. record { bound = w.bound; steps = append-nil w.steps i; around = w.around })))

pub next_argument : (K : ℕ → List Ty → Ty) (b : Nodes) (old mid new : List Task) (ids rest : Vec TermId Global) (first : TermId) (f g : Function) (of : TypeView) (w : Course) →
    ids.items ≡ rest.items ++ first ∷ [] → mid ≡ old ++ on.Args rest g ∷ [] → new ≡ mid ++ on.Visit first of ∷ [] → read b of ≡ from_of
    (read_function b f) → read_function b g ≡ to_of (read_function b f) →
    done K b new w ≡ done K b old (act K b (on.Args ids f) w)
next_argument K b old mid new ids rest first f g of w e m n p q =
    let tr : TermId → Term = λ t. tree b t.0 in
    let F = read_function b f in
    let l = listed K w.bound w.around (from_of F) (tr first) in
    let ts = map tr (reverse rest.items) in
    let all = with_arguments K w.bound (begins l.around (to_of F)) ts in
    let one : with_argument (without_arguments w F) l ≡ front l.steps 1 (begins l.around (to_of F)) = λ i. record
    { steps = sym (append-nil l.steps) i; around = l.around; function = to_of F; count = 1 } in
    last_two K b old mid new (on.Args rest g) (on.Visit first of) w m n
    ∙ ap (done K b old) ((λ i. behind (behind w (listed K w.bound w.around (p i) (tr first)))
    (of_head (with_arguments K w.bound (begins (listed K w.bound w.around (p i) (tr first)).around (q i)) ts)))
    ∙ (λ i. record { bound = w.bound; steps = append_assoc w.steps l.steps all.steps i; around = all.around })
    ∙ ap (λ h. behind w (of_head h)) (sym (ap (λ h. with_arguments K w.bound h ts) one ∙ with_front K w.bound l.steps 1 (begins l.around (to_of F)) ts))
    ∙ ap (λ l. behind w (of_head (with_arguments K w.bound (without_arguments w F) (map tr l)))) (sym (ap reverse e ∙ reverse_last rest.items first)))

-- a term without parts

pub mapped_types : (b : Nodes) (ids : List TypeId) → map (type_tree b) (map (λ t. t.0) ids) ≡ map (λ t. type_tree b t.0) ids
mapped_types b [] = refl
mapped_types b (t ∷ ts) = ap (λ l. type_tree b t.0 ∷ l) (mapped_types b ts)

leaf_is : (K : ℕ → List Ty → Ty) (C : List Ty) (a : Around) (V : Ty) (b : Nodes) (n : TermNode) → ((body : TermId) → n ≡ node.Abs body → ⊥) →
    ((f : TermId) (ids : Bor (List TermId)) → n ≡ node.App f ids → ⊥) → listed K C a V (node_tree b (term_shape n)) ≡ node_listed b C a n
leaf_is K C a V b (node.Index i) x y = refl
leaf_is K C a V b (node.Const c ids) x y = ap (λ l. one_step a (make_constant c l)) (mapped_types b ids.now)
leaf_is K C a V b (node.Int z) x y = refl
leaf_is K C a V b (node.Text s) x y = refl
leaf_is K C a V b (node.Eigen k) x y = refl
leaf_is K C a V b (node.Logic i l) x y = refl
leaf_is K C a V b (node.Param k t) x y = refl
leaf_is K C a V b (node.Abs body) x y = absurd (x body refl)
leaf_is K C a V b (node.App f ids) x y = absurd (y f ids refl)

pub visits_leaf : (K : ℕ → List Ty → Ty) (b : Nodes) (work : List Task) (n : TermNode) (term : TermId) (of : TypeView) (old new : Environment) (before after : Lists) →
    ((body : TermId) → n ≡ node.Abs body → ⊥) → ((f : TermId) (ids : Bor (List TermId)) → n ≡ node.App f ids → ⊥) → node_tree b (term_shape n) ≡ tree b term.0 →
    after.bound.items ≡ before.bound.items → Adds b old new before.steps.items after.steps.items (node_listed b (map (read b) (reverse before.bound.items)) (around_of b old) n) →
    done K b work (course b new after) ≡ done K b work (act K b (on.Visit term of) (course b old before))
visits_leaf K b work n term of old new before after x y t same adds =
    let a = around_of b old in
    let C = map (read b) (reverse before.bound.items) in
    ap (done K b work) ((λ i. record { bound = map (read b) (reverse (same i)); steps = adds.steps i; around = adds.around i })
    ∙ ap (behind (course b old before)) (sym (leaf_is K C a (read b of) b n x y) ∙ ap (listed K C a (read b of)) t))

pub other_listed : (b : Nodes) (C : List Ty) (a : Around) (n : TermNode) → ((i : ℕ) → n ≡ node.Index i → ⊥) → ((c : ℕ) (ids : Bor (List TypeId)) → n ≡ node.Const c ids → ⊥) →
    ((z : ℤ) → n ≡ node.Int z → ⊥) → ((s : Bor (List ℕ)) → n ≡ node.Text s → ⊥) → node_listed b C a n ≡ index_listed C a 0
other_listed b C a (node.Index i) p q r s = absurd (p i refl)
other_listed b C a (node.Const c ids) p q r s = absurd (q c ids refl)
other_listed b C a (node.Int z) p q r s = absurd (r z refl)
other_listed b C a (node.Text t) p q r s = absurd (s t refl)
other_listed b C a (node.Eigen k) p q r s = refl
other_listed b C a (node.Logic i l) p q r s = refl
other_listed b C a (node.Param k t) p q r s = refl
other_listed b C a (node.Abs body) p q r s = refl
other_listed b C a (node.App f ids) p q r s = refl

-- what is read of a head that is no constant, and of one that is no index

applied_function : (K : ℕ → List Ty → Ty) (t u : Term) (ts : List Term) → o_type ≡ term_function K (apply (app t u) ts)
applied_function K t u [] = refl
applied_function K t u (v ∷ vs) = applied_function K (app t u) v vs

applied_head : (K : ℕ → List Ty → Ty) (C : List Ty) (a : Around) (t u : Term) (ts : List Term) → term_function K (apply (app t u) ts) ≡ head_type K C a (apply (app t u) ts)
applied_head K C a t u [] = refl
applied_head K C a t u (v ∷ vs) = applied_head K C a (app t u) v vs

no_function : (K : ℕ → List Ty → Ty) (b : Nodes) (f : ℕ) (is : List ℕ) → is ≢ [] → o_type ≡ term_function K (apply (tree b f) (map (tree b) is))
no_function K b f [] some = absurd (some refl)
no_function K b f (i ∷ is) some = applied_function K (tree b f) (tree b i) (map (tree b) is)

no_head : (K : ℕ → List Ty → Ty) (C : List Ty) (a : Around) (b : Nodes) (f : ℕ) (is : List ℕ) → is ≢ [] →
    term_function K (apply (tree b f) (map (tree b) is)) ≡ head_type K C a (apply (tree b f) (map (tree b) is))
no_head K C a b f [] some = absurd (some refl)
no_head K C a b f (i ∷ is) some = applied_head K C a (tree b f) (tree b i) (map (tree b) is)

pub other_function : (K : ℕ → List Ty → Ty) (b : Nodes) (m k : ℕ) (n : TermNode) → ((c : ℕ) (ids : Bor (List TypeId)) → n ≡ node.Const c ids → ⊥) → TermBelow m k (term_shape n) →
    o_type ≡ term_function K (node_tree b (term_shape n))
other_function K b m k (node.Index i) x low = refl
other_function K b m k (node.Const c ids) x low = absurd (x c ids refl)
other_function K b m k (node.Int z) x low = refl
other_function K b m k (node.Text s) x low = refl
other_function K b m k (node.Eigen j) x low = refl
other_function K b m k (node.Logic i l) x low = refl
other_function K b m k (node.Param j t) x low = refl
other_function K b m k (node.Abs body) x low = refl
other_function K b m k (node.App f ids) x low = no_function K b f.0 (map (λ t. t.0) ids.now) low.2

pub other_head : (K : ℕ → List Ty → Ty) (C : List Ty) (a : Around) (b : Nodes) (m k : ℕ) (n : TermNode) → ((i : ℕ) → n ≡ node.Index i → ⊥) → TermBelow m k (term_shape n) →
    term_function K (node_tree b (term_shape n)) ≡ head_type K C a (node_tree b (term_shape n))
other_head K C a b m k (node.Index i) x low = absurd (x i refl)
other_head K C a b m k (node.Const c ids) x low = refl
other_head K C a b m k (node.Int z) x low = refl
other_head K C a b m k (node.Text s) x low = refl
other_head K C a b m k (node.Eigen j) x low = refl
other_head K C a b m k (node.Logic i l) x low = refl
other_head K C a b m k (node.Param j t) x low = refl
other_head K C a b m k (node.Abs body) x low = refl
other_head K C a b m k (node.App f ids) x low = no_head K C a b f.0 (map (λ t. t.0) ids.now) low.2

-- steps that are added

pub adds_one : (b : Nodes) (e : Environment) (before after : List TermStep) (s : TermStep) (l : Listed) → after ≡ before ++ s ∷ [] → l ≡ one_step (around_of b e) (plain_step b s) →
    Adds b e e before after l
adds_one b e before after s l a is = record {
  steps = ap (map (plain_step b)) a ∙ map-append (plain_step b) before (s ∷ []) ∙ ap (λ (l : Listed). map (plain_step b) before ++ l.steps) (sym is);
  around = ap (λ (l : Listed). l.around) (sym is);
}

pub level_is : (b : Nodes) (e : Environment) (i : ℕ) (r : Option ℕ) → r ≡ level_below (min (e.base + length e.own.items) (2 ^ 64 - 1)) i → level_in (around_of b e) i ≡ r
level_is b e i r q = ap (λ n. level_below (min (e.base + n) (2 ^ 64 - 1)) i) (map_length (seen b) e.own.items) ∙ sym q

-- an index that is bound, and one that is not

pub index_bound : (b : Nodes) (a : Around) (bound : List TypeView) (i : ℕ) (V : TypeView) → slice_get (reverse bound) i ≡ Some V →
    index_listed (map (read b) (reverse bound)) a i ≡ one_step a (make_index i (read b V))
index_bound b a bound i V e = ap (bound_listed (map (read b) (reverse bound)) a i) (slice_get-map (read b) (reverse bound) i ∙ ap (option_map (read b)) e)

length_reverse : {A : Type 0} (xs : List A) → length (reverse xs) ≡ length xs
length_reverse [] = refl
length_reverse (x ∷ xs) = ap length (reverse-append (x ∷ []) xs) ∙ (let p = length-append (reverse xs) (x ∷ []) in let q = length_reverse xs in omega (arith, p, q))

pub index_outer : (b : Nodes) (a : Around) (bound : List TypeView) (i k : ℕ) → slice_get (reverse bound) i ≡ None → k ≡ i - length bound →
    level_listed a (level_in a k) ≡ index_listed (map (read b) (reverse bound)) a i
index_outer b a bound i k e q =
    let C = map (read b) (reverse bound) in
    let l : length C ≡ length bound = map_length (read b) (reverse bound) ∙ length_reverse bound in
    ap (λ k. level_listed a (level_in a k)) (q ∙ ap (λ n. i - n) (sym l)) ∙ ap (bound_listed C a i) (sym (slice_get-map (read b) (reverse bound) i ∙ ap (option_map (read b)) e))

-- the types of bound indices

pub bound_pushed : (b : Nodes) (e : Environment) (old : Lists) (new : Vec TypeView Global) (V : TypeView) → new.items ≡ old.bound.items ++ V ∷ [] →
    course b e (record { bound = new; steps = old.steps }) ≡ record { bound = read b V ∷ map (read b) (reverse old.bound.items); steps = map (plain_step b) old.steps.items; around = around_of b e }
bound_pushed b e old new V p =
    λ i. record { bound = (ap (λ l. map (read b) (reverse l)) p ∙ ap (map (read b)) (reverse_last old.bound.items V)) i; steps = map (plain_step b) old.steps.items; around = around_of b e }

all_but_last : {A : Type 0} (xs : List A) → reverse (take (length xs - 1) xs) ≡ all_but_first (reverse xs)
all_but_last {A} xs = subst (λ l. reverse (take (length l - 1) l) ≡ all_but_first (reverse l)) (reverse_twice xs) (go (reverse xs))
  where
    take_front : (us vs : List A) → take (length us) (us ++ vs) ≡ us
    take_front [] vs = refl
    take_front (u ∷ us) vs = ap (λ l. u ∷ l) (take_front us vs)

    go : (ys : List A) → reverse (take (length (reverse ys) - 1) (reverse ys)) ≡ all_but_first (reverse (reverse ys))
    go [] = refl
    go (y ∷ ys) =
        let front = ap (λ l. reverse (take (length l - 1) l)) (reverse-append (y ∷ []) ys) in
        let size : length (reverse ys ++ y ∷ []) - 1 ≡ length (reverse ys) = let p = length-append (reverse ys) (y ∷ []) in omega (arith, p) in
        front ∙ ap (λ k. reverse (take k (reverse ys ++ y ∷ []))) size ∙ ap reverse (take_front (reverse ys) (y ∷ [])) ∙ reverse_twice ys ∙ ap all_but_first (sym (reverse_twice (y ∷ ys)))

first_mapped : {A B : Type 0} (f : A → B) (xs : List A) → map f (all_but_first xs) ≡ all_but_first (map f xs)
first_mapped f [] = refl
first_mapped f (x ∷ xs) = refl

pub applies_task : (K : ℕ → List Ty → Ty) (b : Nodes) (work : List Task) (e : Environment) (old : Lists) (new : Vec TermStep Global) (n : ℕ) → new.items ≡ old.steps.items ++ step.Apply n ∷ [] →
    done K b work (course b e (record { bound = old.bound; steps = new })) ≡ done K b work (act K b (on.Apply n) (course b e old))
applies_task K b work e old new n p =
    ap (done K b work) (λ i. record {
      bound = map (read b) (reverse old.bound.items);
      steps = (ap (map (plain_step b)) p ∙ map-append (plain_step b) old.steps.items (step.Apply n ∷ [])) i;
      around = around_of b e;
    })

pub abstracts_task : (K : ℕ → List Ty → Ty) (b : Nodes) (work : List Task) (e : Environment) (old : Lists) (bound : Vec TypeView Global) (new : Vec TermStep Global) (V : TypeView) →
    bound.items ≡ take (length old.bound.items - 1) old.bound.items → new.items ≡ old.steps.items ++ step.Abstract V ∷ [] →
    done K b work (course b e (record { bound = bound; steps = new })) ≡ done K b work (act K b (on.Abstract V) (course b e old))
abstracts_task K b work e old bound new V q p =
    ap (done K b work) (λ i. record {
      bound = (ap (λ l. map (read b) (reverse l)) q ∙ ap (map (read b)) (all_but_last old.bound.items) ∙ first_mapped (read b) (reverse old.bound.items)) i;
      steps = (ap (map (plain_step b)) p ∙ map-append (plain_step b) old.steps.items (step.Abstract V ∷ [])) i;
      around = around_of b e;
    })

-- the first task and the end

pub task_begins : (K : ℕ → List Ty → Ty) (b : Nodes) (e : Environment) (lists : Lists) (none work : List Task) (t : Task) → lists.bound.items ≡ [] → lists.steps.items ≡ [] → none ≡ [] →
    work ≡ none ++ t ∷ [] → done K b work (course b e lists) ≡ act K b t (record { bound = []; steps = []; around = around_of b e })
task_begins K b e lists none work t p q r s =
    ap (λ l. done K b l (course b e lists)) (s ∙ ap (λ l. l ++ t ∷ []) r)
    ∙ (λ i. act K b t (record { bound = map (read b) (reverse (p i)); steps = map (plain_step b) (q i); around = around_of b e }))

pub tasks_done : (K : ℕ → List Ty → Ty) (b : Nodes) (old new : Environment) (lists : Lists) (work : List Task) (term : TermId) (of : TypeView) → work ≡ [] →
    done K b work (course b new lists) ≡ act K b (on.Visit term of) (record { bound = []; steps = []; around = around_of b old }) →
    Adds b old new [] lists.steps.items (listed K [] (around_of b old) (read b of) (tree b term.0))
tasks_done K b old new lists work term of none e =
    let all = ap (λ l. done K b l (course b new lists)) (sym none) ∙ e in
    record { steps = ap (λ (w : Course). w.steps) all; around = ap (λ (w : Course). w.around) all }

-- a variable is set in the list of variables

pub marked_past : (vs : List Seen) (i : ℕ) → length vs ≤ i → marked vs i ≡ vs
marked_past [] i l = refl
marked_past (v ∷ vs) zero l = absurd (omega (arith, l))
marked_past (v ∷ vs) (suc i) l = ap (λ l. v ∷ l) (marked_past vs i (omega (arith, l)))

abbrev made_set : Variable → Variable
made_set v = record { register = v.register; of = v.of; is_set = true }

pub marked_set : (b : Nodes) (xs : List Variable) (i : ℕ) (v : Variable) → i < length xs → v ≡ get_or xs i v → map (seen b) (set xs i (made_set v)) ≡ marked (map (seen b) xs) i
marked_set b [] i v l e = absurd (omega (arith, l))
marked_set b (x ∷ xs) zero v l e = ap (λ (w : Variable). seen b (made_set w) ∷ map (seen b) xs) e
marked_set b (x ∷ xs) (suc i) v l e = ap (λ l. seen b x ∷ l) (marked_set b xs i v (omega (arith, l)) e)

pub set_own : (b : Nodes) (e : Environment) (l : ℕ) (own : List Variable) → e.base ≤ l → map (seen b) own ≡ marked (map (seen b) e.own.items) (l - e.base) →
    ◌≡◌ {A = Around} (record { own = map (seen b) own; base = e.base; captured = λ l. option_map (seen b) (get nat_eq e.captured.now l) }) (set_level (around_of b e) l)
set_own b e l own le p =
    (λ i. record { own = p i; base = e.base; captured = λ l. option_map (seen b) (get nat_eq e.captured.now l) })
    ∙ ap (λ t. if t then record {
      own = marked (map (seen b) e.own.items) (l - e.base);
      base = e.base;
      captured = λ l. option_map (seen b)
          (get nat_eq e.captured.now l);
    } else around_of b e) (sym (le-leb e.base l le))

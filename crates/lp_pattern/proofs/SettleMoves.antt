-- What each function of settling does to the tasks that are left and to what was made.
use Rattle.std.proofs.Common.{◌≡◌, ℕ, zero, suc, ◌+◌, ◌-◌, ◌<◌, ◌≤◌, if◌then◌else◌, List, [], ◌∷◌, ◌++◌, map, reverse, length, ◌∙◌, refl, sym, ap, subst as transport, arith, true, false, Some, None}
use Rattle.std.proofs.lemmas.Bool.Decides.{nat_tests}
use Rattle.std.specs.Prelude.{All, nat_lt}
use Rattle.std.proofs.lemmas.List.{reverse-append, reverse-reverse, map-append, length-map, length-reverse}
use Rattle.std.proofs.lemmas.List.Elements.{All-nil, All-head, All-tail, All-cons, All-push}
use Rattle.lp_calculus.specs.Term.{Term, index, atom, abs, app, apply, constant, integer, text, eigen, logic, param}
use Rattle.lp_calculus.proofs.Sigma.{subst}
use Rattle.lp_term.specs.Node.{TermBelow}
use Rattle.lp_term.specs.Shapes.{term_shape}
use Rattle.lp_term.specs.declared.node.TermNode.{TermNode}
use Rattle.lp_term.specs.Nodes.{Nodes, Extends, tree, node_tree}
use Rattle.lp_term.specs.Spine.{abstractions}
use Rattle.lp_term.specs.declared.node.TermId.{TermId}
use Rattle.lp_term.proofs.Openings.{all_reverse}
use Rattle.lp_term.proofs.Trees.{extends-trans, extends_same}
use Rattle.lp_model.specs.Look.{are_distinct}
use Rattle.lp_model.specs.Pair.{Closing, closed}
use Rattle.lp_model.specs.Scan.{settle}
use Rattle.lp_calculus.specs.Fill.{abstracted}
use Rattle.lp_lemmas.proofs.Elements.{All_popped}
use Rattle.lp_lemmas.proofs.Lists.{map_reverse, cons_head}
use Rattle.lp_pattern.proofs.Stacks.{unders_kept}
use Rattle.lp_pattern.specs.declared.bindings.Bindings.{Bindings}
use Rattle.lp_pattern.specs.declared.look.Head.{Head}
use Rattle.lp_pattern.specs.declared.look.Looked.{Looked}
use Rattle.lp_pattern.specs.declared.patterns.Arguments.{Arguments}
use Rattle.lp_pattern.specs.declared.opened.Opened.{Opened}
use Rattle.lp_pattern.specs.declared.settle.Application.{Application}
use Rattle.lp_pattern.specs.declared.settle.Task.{Task}
use Rattle.lp_pattern.specs.Seen.{IsRigid, IsLooked, IsReachedWithin}
use Rattle.lp_pattern.specs.Settling.{Settles, indexed_in, eigens_in, Ends, IsLeft, Moves, visit_tasks, IsHeadIn, IsPushed}
use Rattle.lp_pattern.specs.Stripping.{opens, IsShut, IsPattern, read_at}
use Rattle.lp_pattern.specs.Under.{IsReading, under}
use Rattle.lp_pattern.proofs.Indices.{abstracted_is}
use Rattle.lp_pattern.proofs.Looking.{closed_apply}
use Rattle.lp_pattern.proofs.Names.{kind, node_kind, kind_of}
use Rattle.lp_pattern.proofs.Opening.{read_none, body_closed}
use Rattle.lp_pattern.proofs.SettleSteps.{known_kept, ends_kept, visit_later, body_ends, rigid_ends, open_ends, pattern_ends, last_made, next_task, pushed_tasks, abstraction_ends, abstraction_stands}
use Rattle.lp_pattern.proofs.TopSettles.{settled_in}
use Rattle.lp_pattern.proofs.Walking.{reading_kept}

left_at : (m : ℕ) (b d : Nodes) (c : Closing) (cs : List ℕ) (ts us : List Task) (made : List TermId) (r : Term) → Extends b d → All (λ t. t.0 < length b.terms) made → reverse ts ≡ us → Ends m d c cs us (map (under b c) (reverse made)) r →
    IsLeft m d c cs ts made r
left_at m b d c cs ts us made r e a q h = record {
  known = known_kept b d made e a;
  ends = transport (λ l. Ends m d c cs l (map (under d c) (reverse made)) r) (sym q)
      (transport (λ l. Ends m d c cs us l r) (sym (unders_kept b d c (reverse made) e (all_reverse (λ t. t.0 < length b.terms) made a))) h);
}

first_task : (m : ℕ) (b : Nodes) (c : Closing) (cs : List ℕ) (old : List Task) (t : Task) (made : List TermId) (r : Term) → IsLeft m b c cs (old ++ t ∷ []) made r → Ends m b c cs (t ∷ reverse old) (map (under b c) (reverse made)) r
first_task m b c cs old t made r w = transport (λ l. Ends m b c cs l (map (under b c) (reverse made)) r) (next_task old t) w.ends

-- visits
pub body_moves : (b : Nodes) (s : Bindings) (cs : List ℕ) (o inner : Opened) (q : Looked) (body : TermId) (old mid new : List Task) (made : List TermId) → IsLooked b s q → q.head ≡ Head.Abstraction body → inner.level ≡ o.level →
    inner.depth ≡ suc o.depth → mid ≡ old ++ Task.Abstract q.whole body ∷ [] → new ≡ mid ++ Task.Visit body inner ∷ [] → Moves b b s cs (old ++ Task.Visit q.whole o ∷ []) made new made
body_moves b s cs o inner q body old mid new made k h x y e f = λ c i j m r w.
    left_at m b b c cs new (Task.Visit body inner ∷ Task.Abstract q.whole body ∷ reverse old) made r (extends_same b) w.known
    (ap reverse f ∙ next_task mid (Task.Visit body inner) ∙ ap (λ l. Task.Visit body inner ∷ l) (ap reverse e ∙ next_task old (Task.Abstract q.whole body)))
    (body_ends m b s c cs o inner q body x y (reverse old) (map (under b c) (reverse made)) r j k h (first_task m b c cs old (Task.Visit q.whole o) made r w))

pub rigid_moves : (b d : Nodes) (s : Bindings) (cs : List ℕ) (o : Opened) (q : Looked) (head : TermId) (old new : List Task) (made : List TermId) → Extends b d → IsLooked b s q → q.head ≡ Head.Rigid → head.0 < length d.terms →
    IsHeadIn b d cs o.level o.depth q.top head → IsPushed q head o old new → Moves b d s cs (old ++ Task.Visit q.whole o ∷ []) made new made
rigid_moves b d s cs o q head old new made e k h l x p = λ c i j m r w.
    left_at m b d c cs new (visit_tasks o q.arguments.items ++ Task.Apply p.0 ∷ reverse old) made r e w.known (pushed_tasks old new (visit_tasks o q.arguments.items) (Task.Apply p.0) p.5)
    (rigid_ends m b d s c cs o q head p.0 (reverse old) (map (under b c) (reverse made)) r e k h l x p.1 p.2 p.3 p.4 (first_task m b c cs old (Task.Visit q.whole o) made r w))

pub open_moves : (b d : Nodes) (s : Bindings) (cs : List ℕ) (o : Opened) (q : Looked) (x n : ℕ) (old new : List Task) (made : List TermId) → Extends b d → IsLooked b s q → q.head ≡ Head.Variable x n →
    ((c : Closing) → IsReading b s c → IsShut c → (m : ℕ) → IsPattern m n (map (read_at b c o.level o.depth) q.arguments.items) None) → IsPushed q q.top o old new → Moves b d s cs (old ++ Task.Visit q.whole o ∷ []) made new made
open_moves b d s cs o q x n old new made e k h f p = λ c i j m r w.
    left_at m b d c cs new (visit_tasks o q.arguments.items ++ Task.Apply p.0 ∷ reverse old) made r e w.known (pushed_tasks old new (visit_tasks o q.arguments.items) (Task.Apply p.0) p.5)
    (open_ends m b d s c cs o q x n p.0 (reverse old) (map (under b c) (reverse made)) r e i k h (f c i j m) p.1 p.2 p.3 p.4 (first_task m b c cs old (Task.Visit q.whole o) made r w))

-- one more was made
one_made : (m : ℕ) (b d : Nodes) (c : Closing) (cs : List ℕ) (ts : List Task) (old new : List TermId) (id : TermId) (r : Term) → Extends b d → All (λ t. t.0 < length b.terms) old → id.0 < length d.terms → new ≡ old ++ id ∷ [] →
    Ends m d c cs (reverse ts) (under d c id ∷ map (under b c) (reverse old)) r → IsLeft m d c cs ts new r
one_made m b d c cs ts old new id r e a l q h = record {
  known = transport (All (λ t. t.0 < length d.terms)) (sym q) (All-push (λ t. t.0 < length d.terms) old id (known_kept b d old e a) l);
  ends = transport (λ x. Ends m d c cs (reverse ts) x r)
      (ap (λ x. under d c id ∷ x) (sym (unders_kept b d c (reverse old) e (all_reverse (λ t. t.0 < length b.terms) old a))) ∙ sym (last_made d c new old id q)) h;
}

pub pattern_moves : (b d f : Nodes) (s : Bindings) (cs : List ℕ) (o : Opened) (q : Looked) (x n : ℕ) (a : Arguments) (id : TermId) (old : List Task) (made new : List TermId) → Extends b d → Extends d f → IsLooked b s q →
    q.head ≡ Head.Variable x n → ((c : Closing) → IsReading b s c → IsShut c → (m : ℕ) → IsPattern m n (map (read_at b c o.level o.depth) q.arguments.items) (Some a)) → id.0 < length f.terms →
    tree f id.0 ≡ apply (tree d q.top.0) (eigens_in cs o.level o.depth a.eigens.items) → new ≡ made ++ id ∷ [] → Moves b f s cs (old ++ Task.Visit q.whole o ∷ []) made old new
pattern_moves b d f s cs o q x n a id old made new e g k h p l t z = λ c i j m r w.
    one_made m b f c cs old made new id r (extends-trans b d f e g) w.known l z
    (pattern_ends m b d f s c cs o q x n a id (reverse old) (map (under b c) (reverse made)) r e g i k h (p c i j m) t (first_task m b c cs old (Task.Visit q.whole o) made r w))

pub visit_moves : (b d f : Nodes) (s : Bindings) (cs : List ℕ) (o : Opened) (limit : ℕ) (term : TermId) (q : Looked) (old new : List Task) (made made' : List TermId) → Extends b d → IsLooked d s q →
    ((c : Closing) → IsReading b s c → IsReachedWithin limit (under b c term) (under d c q.whole)) → Moves d f s cs (old ++ Task.Visit q.whole o ∷ []) made new made' →
    Moves b f s cs (old ++ Task.Visit term o ∷ []) made new made'
visit_moves b d f s cs o limit term q old new made made' e k x g = λ c i j m r w.
    g c (reading_kept b d s c e i) j m r
    (left_at m b d c cs (old ++ Task.Visit q.whole o ∷ []) (Task.Visit q.whole o ∷ reverse old) made r e w.known (next_task old (Task.Visit q.whole o))
    (visit_later m limit b d c cs term q.whole o (reverse old) (map (under b c) (reverse made)) r e k.known (x c i) (first_task m b c cs old (Task.Visit term o) made r w)))

-- an abstraction
pub abstraction_moves : (b d : Nodes) (s : Bindings) (cs : List ℕ) (old body id put : TermId) (ts : List Task) (made mid new : List TermId) → Extends b d → made ≡ mid ++ id ∷ [] → put.0 < length d.terms →
    tree d put.0 ≡ abs (tree b id.0) → new ≡ mid ++ put ∷ [] → Moves b d s cs (ts ++ Task.Abstract old body ∷ []) made ts new
abstraction_moves b d s cs old body id put ts made mid new e q l t z = λ c i j m r w.
    let k = All_popped (λ t. t.0 < length b.terms) made mid id q w.known in
    one_made m b d c cs ts mid new put r e k.0 l z
    (abstraction_ends m b d c cs old body id put (reverse ts) mid (map (under b c) (reverse mid)) r e (ap (closed c) t ∙ ap abs (body_closed c j (tree b id.0)))
    (transport (λ x. Ends m b c cs (Task.Abstract old body ∷ reverse ts) x r) (last_made b c made mid id q) (first_task m b c cs ts (Task.Abstract old body) made r w)))

pub abstraction_stays : (b : Nodes) (s : Bindings) (cs : List ℕ) (old body id : TermId) (ts : List Task) (made mid new : List TermId) → made ≡ mid ++ id ∷ [] → id.0 ≡ body.0 → new ≡ mid ++ old ∷ [] →
    Moves b b s cs (ts ++ Task.Abstract old body ∷ []) made ts new
abstraction_stays b s cs old body id ts made mid new q y z = λ c i j m r w.
    let k = All_popped (λ t. t.0 < length b.terms) made mid id q w.known in
    let h = transport (λ x. Ends m b c cs (Task.Abstract old body ∷ reverse ts) x r) (last_made b c made mid id q) (first_task m b c cs ts (Task.Abstract old body) made r w) in
    one_made m b b c cs ts mid new old r (extends_same b) k.0 h.2 z
    (abstraction_ends m b b c cs old body id old (reverse ts) mid (map (under b c) (reverse mid)) r (extends_same b) (abstraction_stands m b c cs old body id (reverse ts) (map (under b c) (reverse mid)) r y h) h)

-- a head on arguments
split_same : (xs xs' ys ys' : List Term) → length xs ≡ length xs' → xs ++ ys ≡ xs' ++ ys' → (xs ≡ xs') × (ys ≡ ys')
split_same [] [] ys ys' l e = (refl, e)
split_same [] (x' ∷ xs') ys ys' l e = absurd (omega (arith, l))
split_same (x ∷ xs) [] ys ys' l e = absurd (omega (arith, l))
split_same (x ∷ xs) (x' ∷ xs') ys ys' l e =
    let h : x ≡ x' = cc in
    let t : xs ++ ys ≡ xs' ++ ys' = cc in
    let k : length xs ≡ length xs' = omega (arith, l) in
    let w = split_same xs xs' ys ys' k t in
    ((λ i. h i ∷ w.0 i), w.1)

-- what was popped is what the arguments have become
record Popped (b : Nodes) (c : Closing) (us vs : List Term) (ids mid : List TermId) : Type 0 where
  values : us ≡ map (under b c) ids
  rest : vs ≡ map (under b c) (reverse mid)

popped_values : (b : Nodes) (c : Closing) (us rest : List Term) (made mid ids : List TermId) (n : ℕ) → made ≡ mid ++ ids → length ids ≡ n → length us ≡ n → map (under b c) (reverse made) ≡ reverse us ++ rest → Popped b c us rest ids mid
popped_values b c us rest made mid ids n q l k e =
    let z : reverse (map (under b c) ids) ++ map (under b c) (reverse mid) ≡ reverse us ++ rest =
    ap (λ x. x ++ map (under b c) (reverse mid)) (sym (map_reverse (under b c) ids)) ∙ sym (map-append (under b c) (reverse ids) (reverse mid)) ∙
    ap (map (under b c)) (sym (ap reverse q ∙ reverse-append mid ids)) ∙ e in
    let y : length (reverse (map (under b c) ids)) ≡ length (reverse us) =
    length-reverse (map (under b c) ids) ∙ length-map ids (under b c) ∙ l ∙ sym k ∙ sym (length-reverse us) in
    let w = split_same (reverse (map (under b c) ids)) (reverse us) (map (under b c) (reverse mid)) rest y z in
    record { values = sym (reverse-reverse us) ∙ ap reverse (sym w.0) ∙ reverse-reverse (map (under b c) ids); rest = sym w.1 }

map_after : (c : Closing) (b : Nodes) (ids : List TermId) → map (closed c) (map (λ t. tree b t.0) ids) ≡ map (under b c) ids
map_after c b [] = refl
map_after c b (t ∷ ids) = ap (λ l. under b c t ∷ l) (map_after c b ids)

front_known : (n : ℕ) (xs ys : List TermId) → All (λ t. t.0 < n) (xs ++ ys) → All (λ t. t.0 < n) xs
front_known n [] ys a = All-nil (λ t. t.0 < n)
front_known n (x ∷ xs) ys a = All-cons (λ t. t.0 < n) x xs (All-head (λ t. t.0 < n) x (xs ++ ys) a) (front_known n xs ys (All-tail (λ t. t.0 < n) x (xs ++ ys) a))

pub application_moves : (b d : Nodes) (s : Bindings) (cs : List ℕ) (a : Application) (put : TermId) (ts : List Task) (made mid ids new : List TermId) → Extends b d → made ≡ mid ++ ids → length ids ≡ length a.arguments.items → put.0 < length d.terms →
    tree d put.0 ≡ apply (tree b a.head.0) (map (λ t. tree b t.0) ids) → new ≡ mid ++ put ∷ [] → Moves b d s cs (ts ++ Task.Apply a ∷ []) made ts new
application_moves b d s cs a put ts made mid ids new e q n l t z = λ c i j m r w.
    let h = first_task m b c cs ts (Task.Apply a) made r w in
    let p = popped_values b c h.0 h.1 made mid ids (length a.arguments.items) q n h.4 h.3 in
    one_made m b d c cs ts mid new put r e (front_known (length b.terms) mid ids (transport (All (λ t. t.0 < length b.terms)) q w.known)) l z
    (ends_kept m b d c cs (reverse ts) (under d c put ∷ map (under b c) (reverse mid)) r e
    (transport (λ x. Ends m b c cs (reverse ts) x r)
    (λ i. (ap (apply (under b c a.head)) p.values ∙ sym (ap (closed c) t ∙ closed_apply c (map (λ t. tree b t.0) ids) (tree b a.head.0) ∙ ap (apply (under b c a.head)) (map_after c b ids))) i ∷ p.rest i)
    h.5))

pub application_stays : (b : Nodes) (s : Bindings) (cs : List ℕ) (a : Application) (ts : List Task) (made mid ids new : List TermId) → made ≡ mid ++ ids → length ids ≡ length a.arguments.items → a.is_new ≡ false →
    ids ≡ a.arguments.items → new ≡ mid ++ a.old ∷ [] → Moves b b s cs (ts ++ Task.Apply a ∷ []) made ts new
application_stays b s cs a ts made mid ids new q n f y z = λ c i j m r w.
    let h = first_task m b c cs ts (Task.Apply a) made r w in
    let p = popped_values b c h.0 h.1 made mid ids (length a.arguments.items) q n h.4 h.3 in
    one_made m b b c cs ts mid new a.old r (extends_same b) (front_known (length b.terms) mid ids (transport (All (λ t. t.0 < length b.terms)) q w.known)) h.2.old z
    (transport (λ x. Ends m b c cs (reverse ts) x r)
    (λ i. (ap (apply (under b c a.head)) (p.values ∙ ap (map (under b c)) y) ∙ sym (h.2.stands f)) i ∷ p.rest i)
    h.5)

-- the start and the end of settling
pub settle_starts : (b : Nodes) (c : Closing) (cs : List ℕ) (term : TermId) (o : Opened) (tasks : List Task) (made : List TermId) (n : ℕ) (v : Term) → term.0 < length b.terms → o.depth ≡ 0 → tasks ≡ Task.Visit term o ∷ [] → made ≡ [] →
    settle n o.level (under b c term) ≡ Some v → IsLeft n b c cs tasks made (indexed_in cs o.level 0 v)
settle_starts b c cs term o tasks made n v l d q z e = record {
  known = transport (All (λ t. t.0 < length b.terms)) (sym z) (All-nil (λ t. t.0 < length b.terms));
  ends = transport (λ ts. Ends n b c cs (reverse ts) (map (under b c) (reverse made)) (indexed_in cs o.level 0 v)) (sym q) (
    v,
    l,
    level_only (o.level + o.depth) (omega (arith, d)) (λ i. (read_none b c o.level term ∙ refl) i),
    (map (under b c) (reverse made), ap (λ k. indexed_in cs o.level k v ∷ map (under b c) (reverse made)) d),
  );
}
  where
    level_only : (k : ℕ) → k ≡ o.level → read_at b c o.level 0 term ≡ under b c term → Settles n k (read_at b c o.level o.depth term) v
    level_only k p r = transport (λ j. Settles n j (read_at b c o.level o.depth term) v) (sym p)
        (transport (λ x. Settles n o.level x v) (sym r ∙ ap (λ j. read_at b c o.level j term) (sym d)) (settled_in n o.level (under b c term) v e))

closed_abstractions : (c : Closing) → IsShut c → (n : ℕ) (t : Term) → closed c (abstractions n t) ≡ abstractions n (closed c t)
closed_abstractions c h zero t = refl
closed_abstractions c h (suc n) t = closed_abstractions c h n (abs t) ∙ ap (abstractions n) (ap abs (body_closed c h t))

pub settle_ends : (m : ℕ) (b d : Nodes) (c : Closing) (cs : List ℕ) (l : ℕ) (tasks : List Task) (made rest : List TermId) (body id : TermId) (v : Term) (n : ℕ) → IsShut c → are_distinct cs ≡ true → tasks ≡ [] → made ≡ rest ++ body ∷ [] →
    n ≡ length cs → tree d id.0 ≡ abstractions n (tree b body.0) → IsLeft m b c cs tasks made (indexed_in cs l 0 v) → under d c id ≡ abstracted cs v
settle_ends m b d c cs l tasks made rest body id v n h e z q k t w =
    let x = transport (λ ts. Ends m b c cs (reverse ts) (map (under b c) (reverse made)) (indexed_in cs l 0 v)) z w.ends in
    let y : under b c body ≡ indexed_in cs l 0 v = cons_head (under b c body) (indexed_in cs l 0 v) (map (under b c) (reverse rest)) x.0 (sym (last_made b c made rest body q) ∙ x.1) in
    ap (closed c) t ∙ closed_abstractions c h n (tree b body.0) ∙ (λ i. abstractions (k i) (y i)) ∙ sym (abstracted_is cs l v e)

pub settle_begins : (b : Nodes) (c : Closing) (cs : List ℕ) (term : TermId) (o : Opened) (p : ℕ) (tasks : List Task) (made : List TermId) (n : ℕ) (v : Term) → term.0 < length b.terms → o.level ≡ p → o.depth ≡ 0 → tasks ≡ Task.Visit term o ∷ [] →
    made ≡ [] → settle n p (under b c term) ≡ Some v → IsLeft n b c cs tasks made (indexed_in cs p 0 v)
settle_begins b c cs term o p tasks made n v l x d q z e =
    transport (λ k. IsLeft n b c cs tasks made (indexed_in cs k 0 v)) x
    (settle_starts b c cs term o tasks made n v l d q z (transport (λ k. settle n k (under b c term) ≡ Some v) (sym x) e))

pub settle_goes : (m : ℕ) (a b d : Nodes) (s : Bindings) (c : Closing) (cs : List ℕ) (p : ℕ) (tasks rest new : List Task) (task : Task) (made made' : List TermId) (v : Term) → Extends a b → IsReading a s c → IsShut c → tasks ≡ rest ++ task ∷ [] →
    IsLeft m b c cs tasks made (indexed_in cs p 0 v) → Moves b d s cs (rest ++ task ∷ []) made new made' → IsLeft m d c cs new made' (indexed_in cs p 0 v)
settle_goes m a b d s c cs p tasks rest new task made made' v e i h q w g =
    g c (reading_kept a b s c e i) h m (indexed_in cs p 0 v) (transport (λ l. IsLeft m b c cs l made (indexed_in cs p 0 v)) q w)

-- a rigid head for which no abstraction stands
plain_rigid : (c : Closing) (cs : List ℕ) (l d : ℕ) (t : Term) → IsRigid t → (kind t ≡ 0 → ⊥) → (kind t ≡ 4 → ⊥) → closed c t ≡ indexed_in cs l d (subst (opens l d) (closed c t))
plain_rigid c cs l d (index i) h f g = absurd (f refl)
plain_rigid c cs l d (atom (constant j us)) h f g = refl
plain_rigid c cs l d (atom (integer z)) h f g = refl
plain_rigid c cs l d (atom (text x)) h f g = refl
plain_rigid c cs l d (atom (eigen j)) h f g = absurd (g refl)
plain_rigid c cs l d (atom (logic x m)) h f g = absurd h
plain_rigid c cs l d (atom (param j u)) h f g = refl
plain_rigid c cs l d (abs b) h f g = absurd h
plain_rigid c cs l d (app t u) h f g = absurd h

opens_past : (l d place : ℕ) → d ≤ place → opens l d place ≡ index (place - d)
opens_past l d place h =
    let past : nat_lt place d ≡ false = grind (arith, nat_tests, h) in
    ap (λ x. if x then atom (eigen (l + (d - place))) else index (place - d)) past

-- a loose index
pub loose_head : (b e : Nodes) (c : Closing) (cs : List ℕ) (l d place : ℕ) (head made : TermId) → tree b head.0 ≡ index place → tree e made.0 ≡ index (place - d) → d ≤ place →
    under e c made ≡ indexed_in cs l d (read_at b c l d head)
loose_head b e c cs l d place head made q h n =
    ap (closed c) h ∙ ap (indexed_in cs l d) (sym (opens_past l d place n)) ∙ sym (ap (λ t. indexed_in cs l d (subst (opens l d) (closed c t))) q)

pub other_head : (b : Nodes) (n m : ℕ) (c : Closing) (cs : List ℕ) (l d : ℕ) (t : Term) (x : TermNode) → TermBelow n m (term_shape x) → node_tree b (term_shape x) ≡ t → (node_kind x ≡ 0 → ⊥) → (node_kind x ≡ 4 → ⊥) → IsRigid t →
    closed c t ≡ indexed_in cs l d (subst (opens l d) (closed c t))
other_head b n m c cs l d t x h e f g i =
    plain_rigid c cs l d t i (λ q. f (sym (kind_of b n m x h) ∙ ap kind e ∙ q)) (λ q. g (sym (kind_of b n m x h) ∙ ap kind e ∙ q))

-- The tasks of settling: what the tasks that a task leads to come to is what it came to.
use Rattle.std.proofs.Common.{◌≡◌, ℕ, suc, ◌+◌, ◌<◌, List, [], ◌∷◌, ◌++◌, map, reverse, length, ◌∙◌, refl, sym, ap, subst as transport, arith, false, Option, Some, None}
use Rattle.std.specs.Prelude.{All}
use Rattle.std.proofs.lemmas.List.{reverse-append, reverse-reverse, append_assoc}
use Rattle.std.proofs.lemmas.List.Elements.{All-head, All-tail, All-weaker}
use Rattle.lp_calculus.specs.Term.{Term, atom, abs, apply, substitute, eigen, logic}
use Rattle.lp_calculus.specs.Convert.{steps}
use Rattle.lp_calculus.specs.Fill.{at_eigens, abstraction}
use Rattle.lp_calculus.proofs.Sigma.{up, subst}
use Rattle.lp_term.specs.Nodes.{Nodes, Extends, tree}
use Rattle.lp_term.specs.declared.node.TermId.{TermId}
use Rattle.lp_term.proofs.Trees.{extends-trans}
use Rattle.lp_model.specs.Look.{Look, an_abs, rigid, flexible, looked, pattern_of, weak_step}
use Rattle.lp_model.specs.Patterns.{eigens}
use Rattle.lp_model.specs.Pair.{Closing, closed}
use Rattle.lp_lemmas.proofs.Lists.{cons_head}
use Rattle.lp_pattern.specs.declared.bindings.Bindings.{Bindings}
use Rattle.lp_pattern.specs.declared.look.Head.{Head}
use Rattle.lp_pattern.specs.declared.look.Looked.{Looked}
use Rattle.lp_pattern.specs.declared.patterns.Arguments.{Arguments}
use Rattle.lp_pattern.specs.declared.opened.Opened.{Opened}
use Rattle.lp_pattern.specs.declared.settle.Application.{Application}
use Rattle.lp_pattern.specs.declared.settle.Task.{Task}
use Rattle.lp_pattern.specs.Seen.{IsHead, IsLooked, IsReachedWithin}
use Rattle.lp_pattern.specs.Settling.{Settles, settles_abs, settles_rigid, settles_pattern, settles_open, SettleAll, settle_more, index_in, eigen_or, indexed_in, eigens_in, IsApplication, Ends, visit_tasks, IsHeadIn}
use Rattle.lp_pattern.specs.Stripping.{opens, IsShut, IsPattern, read_at}
use Rattle.lp_pattern.specs.TopLooks.{top_look}
use Rattle.lp_pattern.specs.Under.{ValueIs, IsReading, under}
use Rattle.lp_pattern.proofs.ArgumentForms.{abstraction_whole, whole_is}
use Rattle.lp_pattern.proofs.Indices.{indexed_abs}
use Rattle.lp_pattern.proofs.Looking.{closed_apply}
use Rattle.lp_unify_laws.proofs.MoreSteps.Scans.{below_map}
use Rattle.lp_pattern.proofs.Opening.{SeenAt, read_kept, read_reached, rigid_at, variable_at, abstraction_at, opened_once, top_of}
use Rattle.lp_pattern.proofs.Renewing.{fill_apply}
use Rattle.lp_pattern.proofs.Scannings.{top_behind}
use Rattle.lp_pattern.proofs.Stacks.{under_kept, unders_kept}
use Rattle.lp_pattern.proofs.Walking.{reading_kept, looked_stays}

-- a term is settled as what the look at it finds
abbrev Sees : ℕ → Term → Look → Type 0
Sees m t v = (w : Look) → top_look m t ≡ Some w → w ≡ v

seen_there : (m : ℕ) (t : Term) (v : Look) → SeenAt t v → Sees m t v
seen_there m t v h w e = top_of m 0 t t w e refl h.ended ∙ h.look

abs_body : (b c : Term) → an_abs b ≡ an_abs c → b ≡ c
abs_body b c e = cc

rigid_head : (h g : Term) (ts us : List Term) → rigid h ts ≡ rigid g us → h ≡ g
rigid_head h g ts us e = cc

rigid_rest : (h g : Term) (ts us : List Term) → rigid h ts ≡ rigid g us → ts ≡ us
rigid_rest h g ts us e = cc

flexible_id : (x l y m : ℕ) (ts us : List Term) → flexible x l ts ≡ flexible y m us → x ≡ y
flexible_id x l y m ts us e = cc

flexible_level : (x l y m : ℕ) (ts us : List Term) → flexible x l ts ≡ flexible y m us → l ≡ m
flexible_level x l y m ts us e = cc

flexible_rest : (x l y m : ℕ) (ts us : List Term) → flexible x l ts ≡ flexible y m us → ts ≡ us
flexible_rest x l y m ts us e = cc

record Body (m k : ℕ) (b v : Term) : Type 0 where
  value : Term
  settles : Settles m (suc k) (substitute (atom (eigen (suc k))) b) value
  is : v ≡ abstraction (suc k) value

as_body : (m k : ℕ) (t v b : Term) → Sees m t (an_abs b) → Settles m k t v → Body m k b v
as_body m k t v b h (settles_abs a u e s q) =
    record { value = u; settles = transport (λ x. Settles m (suc k) (substitute (atom (eigen (suc k))) x) u) (abs_body a b (h (an_abs a) e)) s; is = q }
as_body m k t v b h (settles_rigid g ts us e s q) = absurd (let z : rigid g ts ≡ an_abs b = h (rigid g ts) e in cc)
as_body m k t v b h (settles_pattern y l ts ks e p q) = absurd (let z : flexible y l ts ≡ an_abs b = h (flexible y l ts) e in cc)
as_body m k t v b h (settles_open y l ts us e p s q) = absurd (let z : flexible y l ts ≡ an_abs b = h (flexible y l ts) e in cc)

record OnArguments (m k : ℕ) (g : Term) (ts : List Term) (v : Term) : Type 0 where
  values : List Term
  settled : SettleAll m k ts values
  is : v ≡ apply g values

as_rigid : (m k : ℕ) (t v g : Term) (ts : List Term) → Sees m t (rigid g ts) → Settles m k t v → OnArguments m k g ts v
as_rigid m k t v g ts h (settles_abs a u e s q) = absurd (let z : an_abs a ≡ rigid g ts = h (an_abs a) e in cc)
as_rigid m k t v g ts h (settles_rigid f is us e s q) =
    let z : rigid f is ≡ rigid g ts = h (rigid f is) e in
    record { values = us; settled = transport (λ l. SettleAll m k l us) (rigid_rest f g is ts z) s; is = q ∙ ap (λ x. apply x us) (rigid_head f g is ts z) }
as_rigid m k t v g ts h (settles_pattern y l is ks e p q) = absurd (let z : flexible y l is ≡ rigid g ts = h (flexible y l is) e in cc)
as_rigid m k t v g ts h (settles_open y l is us e p s q) = absurd (let z : flexible y l is ≡ rigid g ts = h (flexible y l is) e in cc)

-- what the definition says of the arguments is this
abbrev Says : ℕ → ℕ → List Term → Option (List ℕ) → Type 0
Says m l ts o = (p : Option (List ℕ)) → pattern_of m l ts ≡ Some p → p ≡ o

says_at : (m l n : ℕ) (ts us : List Term) (o p : Option (List ℕ)) → l ≡ n → ts ≡ us → Says m n us o → pattern_of m l ts ≡ Some p → p ≡ o
says_at m l n ts us o p e q h r = h p ((λ i. pattern_of m (sym e i) (sym q i)) ∙ r)

as_open : (m k : ℕ) (t v : Term) (x n : ℕ) (ts : List Term) → Sees m t (flexible x n ts) → Says m n ts None → Settles m k t v → OnArguments m k (atom (logic x n)) ts v
as_open m k t v x n ts h o (settles_abs a u e s q) = absurd (let z : an_abs a ≡ flexible x n ts = h (an_abs a) e in cc)
as_open m k t v x n ts h o (settles_rigid f is us e s q) = absurd (let z : rigid f is ≡ flexible x n ts = h (rigid f is) e in cc)
as_open m k t v x n ts h o (settles_pattern y l is ks e p q) =
    absurd (let z = h (flexible y l is) e in let w : Some ks ≡ None = says_at m l n is ts None (Some ks) (flexible_level y l x n is ts z) (flexible_rest y l x n is ts z) o p in cc)
as_open m k t v x n ts h o (settles_open y l is us e p s q) =
    let z = h (flexible y l is) e in record {
      values = us;
      settled = transport (λ r. SettleAll m k r us) (flexible_rest y l x n is ts z) s;
      is = q ∙ (λ i. apply (atom (logic (flexible_id y l x n is ts z i) (flexible_level y l x n is ts z i))) us);
    }

as_pattern : (m k : ℕ) (t v : Term) (x n : ℕ) (ts : List Term) (ks : List ℕ) → Sees m t (flexible x n ts) → Says m n ts (Some ks) → Settles m k t v → v ≡ apply (atom (logic x n)) (eigens ks)
as_pattern m k t v x n ts ks h o (settles_abs a u e s q) = absurd (let z : an_abs a ≡ flexible x n ts = h (an_abs a) e in cc)
as_pattern m k t v x n ts ks h o (settles_rigid f is us e s q) = absurd (let z : rigid f is ≡ flexible x n ts = h (rigid f is) e in cc)
as_pattern m k t v x n ts ks h o (settles_pattern y l is js e p q) =
    let z = h (flexible y l is) e in
    let w : Some js ≡ Some ks = says_at m l n is ts (Some ks) (Some js) (flexible_level y l x n is ts z) (flexible_rest y l x n is ts z) o p in
    let j : js ≡ ks = cc in
    q ∙ (λ i. apply (atom (logic (flexible_id y l x n is ts z i) (flexible_level y l x n is ts z i))) (eigens (j i)))
as_pattern m k t v x n ts ks h o (settles_open y l is us e p s q) =
    absurd (let z = h (flexible y l is) e in let w : None ≡ Some ks = says_at m l n is ts (Some ks) None (flexible_level y l x n is ts z) (flexible_rest y l x n is ts z) o p in cc)

-- so many steps later
settles_later : (m k j : ℕ) (t s v : Term) → steps weak_step j t ≡ Some s → Settles m k t v → Settles m k s v
settles_later m k j t s v h (settles_abs a u e r q) = settles_abs a u (below_map _ _ (λ x. looked x []) (top_behind j m t s h) (an_abs a) e) r q
settles_later m k j t s v h (settles_rigid f is us e r q) = settles_rigid f is us (below_map _ _ (λ x. looked x []) (top_behind j m t s h) (rigid f is) e) r q
settles_later m k j t s v h (settles_pattern y l is ks e p q) = settles_pattern y l is ks (below_map _ _ (λ x. looked x []) (top_behind j m t s h) (flexible y l is) e) p q
settles_later m k j t s v h (settles_open y l is us e p r q) = settles_open y l is us (below_map _ _ (λ x. looked x []) (top_behind j m t s h) (flexible y l is) e) p r q

-- a bank that has grown
pub known_kept : (b d : Nodes) (ids : List TermId) → Extends b d → All (λ t. t.0 < length b.terms) ids → All (λ t. t.0 < length d.terms) ids
known_kept b d ids e a = All-weaker (λ t. t.0 < length b.terms) (λ t. t.0 < length d.terms) (λ t l. omega (arith, l, e.more_terms)) ids a

application_kept : (b d : Nodes) (c : Closing) (a : Application) → Extends b d → IsApplication b c a → IsApplication d c a
application_kept b d c a e h = record {
  old = omega (arith, h.old, e.more_terms);
  head = omega (arith, h.head, e.more_terms);
  arguments = known_kept b d a.arguments.items e h.arguments;
  stands = λ n. under_kept b d c a.old e h.old ∙ h.stands n ∙ (λ i. apply (sym (under_kept b d c a.head e h.head) i) (sym (unders_kept b d c a.arguments.items e h.arguments) i));
}

pub ends_kept : (m : ℕ) (b d : Nodes) (c : Closing) (cs : List ℕ) (ts : List Task) (made : List Term) (r : Term) → Extends b d → Ends m b c cs ts made r → Ends m d c cs ts made r
ends_kept m b d c cs [] made r e h = h
ends_kept m b d c cs (Task.Visit t o ∷ ts) made r e h = (
  h.0,
  omega (arith, h.1, e.more_terms),
  transport (λ x. Settles m (o.level + o.depth) x h.0) (sym (read_kept b d c o.level o.depth t e h.1)) h.2,
  ends_kept m b d c cs ts (indexed_in cs o.level o.depth h.0 ∷ made) r e h.3,
)
ends_kept m b d c cs (Task.Abstract old body ∷ ts) made r e h = (
  h.0,
  h.1,
  omega (arith, h.2, e.more_terms),
  omega (arith, h.3, e.more_terms),
  under_kept b d c old e h.2 ∙ h.4 ∙ ap abs (sym (under_kept b d c body e h.3)),
  h.5,
  ends_kept m b d c cs ts (abs h.0 ∷ h.1) r e h.6,
)
ends_kept m b d c cs (Task.Apply a ∷ ts) made r e h = (
  h.0,
  h.1,
  application_kept b d c a e h.2,
  h.3,
  h.4,
  transport (λ x. Ends m d c cs ts (apply x h.0 ∷ h.1) r) (sym (under_kept b d c a.head e h.2.head)) (ends_kept m b d c cs ts (apply (under b c a.head) h.0 ∷ h.1) r e h.5),
)

-- a visit
pub visit_later : (m limit : ℕ) (b d : Nodes) (c : Closing) (cs : List ℕ) (t s : TermId) (o : Opened) (ts : List Task) (made : List Term) (r : Term) → Extends b d → s.0 < length d.terms →
    IsReachedWithin limit (under b c t) (under d c s) → Ends m b c cs (Task.Visit t o ∷ ts) made r → Ends m d c cs (Task.Visit s o ∷ ts) made r
visit_later m limit b d c cs t s o ts made r e l w h = (
  h.0,
  l,
  settles_later m (o.level + o.depth) w.0 (read_at b c o.level o.depth t) (read_at d c o.level o.depth s) h.0 (read_reached b d c o.level o.depth w.0 t s w.2) h.2,
  ends_kept m b d c cs ts (indexed_in cs o.level o.depth h.0 ∷ made) r e h.3,
)

-- of an abstraction
body_read : (m l d j : ℕ) (b : Nodes) (c : Closing) (body : TermId) (u : Term) → j ≡ l + suc d → Settles m (suc (l + d)) (substitute (atom (eigen (suc (l + d)))) (subst (up (opens l d)) (under b c body))) u →
    Settles m (l + suc d) (read_at b c l (suc d) body) u
body_read m l d j b c body u q s =
    let z : suc (l + d) ≡ l + suc d = omega arith in
    transport (λ n. Settles m n (read_at b c l (suc d) body) u) z (transport (λ x. Settles m (suc (l + d)) x u) (opened_once l d (l + d) (under b c body) refl) s)

-- a body is left to be visited, below so many abstractions
abbrev BodyEnds : (m : ℕ) → Nodes → Closing → List ℕ → (old body : TermId) → List Task → List Term → Term → (level depth : ℕ) → Type 0
BodyEnds m b c cs old body ts made r l d = (v : Term) × (body.0 < length b.terms) × Settles m (l + d) (read_at b c l d body) v × Ends m b c cs (Task.Abstract old body ∷ ts) (indexed_in cs l d v ∷ made) r

pub body_ends : (m : ℕ) (b : Nodes) (s : Bindings) (c : Closing) (cs : List ℕ) (o inner : Opened) (q : Looked) (body : TermId) → inner.level ≡ o.level → inner.depth ≡ suc o.depth → (ts : List Task) (made : List Term) (r : Term) → IsShut c → IsLooked b s q →
    q.head ≡ Head.Abstraction body → Ends m b c cs (Task.Visit q.whole o ∷ ts) made r → Ends m b c cs (Task.Visit body inner ∷ Task.Abstract q.whole body ∷ ts) made r
body_ends m b s c cs o inner q body x y ts made r i k e h =
    let w = as_body m (o.level + o.depth) (read_at b c o.level o.depth q.whole) h.0 (subst (up (opens o.level o.depth)) (under b c body)) (seen_there m _ _ (abstraction_at b s c o.level o.depth q body i k e)) h.2 in
    let n : IsHead b s (Head.Abstraction body) (tree b q.top.0) q.arguments.items = transport (λ z. IsHead b s z (tree b q.top.0) q.arguments.items) e k.head in
    let at : BodyEnds m b c cs q.whole body ts made r o.level (suc o.depth) = (
      w.value,
      n.1,
      body_read m o.level o.depth _ b c body w.value refl w.settles,
      (
        indexed_in cs o.level (suc o.depth) w.value,
        made,
        k.known,
        n.1,
        abstraction_whole b s c q body i k e,
        refl,
        transport (λ z. Ends m b c cs ts (z ∷ made) r) (ap (indexed_in cs o.level o.depth) w.is ∙ indexed_abs cs o.level o.depth w.value) h.3,
      ),
    ) in
    transport (λ l. BodyEnds m b c cs q.whole body ts made r l inner.depth) (sym x) (transport (λ d. BodyEnds m b c cs q.whole body ts made r o.level d) (sym y) at)

-- of a head on arguments
reverse_more : (f : Term → Term) (v : Term) (vs made : List Term) → reverse (map f (v ∷ vs)) ++ made ≡ reverse (map f vs) ++ (f v ∷ made)
reverse_more f v vs made = ap (λ l. l ++ made) (reverse-append (f v ∷ []) (map f vs)) ∙ append_assoc (reverse (map f vs)) (f v ∷ []) made

arguments_end : (m : ℕ) (b : Nodes) (c : Closing) (cs : List ℕ) (o : Opened) (ids : List TermId) (us : List Term) (ts : List Task) (made : List Term) (r : Term) → All (λ t. t.0 < length b.terms) ids →
    SettleAll m (o.level + o.depth) (map (read_at b c o.level o.depth) ids) us → Ends m b c cs ts (reverse (map (indexed_in cs o.level o.depth) us) ++ made) r → Ends m b c cs (visit_tasks o ids ++ ts) made r
arguments_end m b c cs o [] [] ts made r a s h = h
arguments_end m b c cs o [] (u ∷ us) ts made r a s h = absurd (elim s [ ])
arguments_end m b c cs o (t ∷ ids) [] ts made r a s h = absurd (elim s [ ])
arguments_end m b c cs o (t ∷ ids) (u ∷ us) ts made r a (settle_more x y) h = (
  u,
  All-head (λ t. t.0 < length b.terms) t ids a,
  x,
  arguments_end m b c cs o ids us ts (indexed_in cs o.level o.depth u ∷ made) r (All-tail (λ t. t.0 < length b.terms) t ids a) y
      (transport (λ l. Ends m b c cs ts l r) (reverse_more (indexed_in cs o.level o.depth) u us made) h),
)

as_many : (m k : ℕ) (ids : List TermId) (f : TermId → Term) (g : Term → Term) (us : List Term) → SettleAll m k (map f ids) us → length (map g us) ≡ length ids
as_many m k [] f g [] s = refl
as_many m k [] f g (u ∷ us) s = absurd (elim s [ ])
as_many m k (t ∷ ids) f g [] s = absurd (elim s [ ])
as_many m k (t ∷ ids) f g (u ∷ us) (settle_more x y) = ap suc (as_many m k ids f g us y)

application_ends : (m : ℕ) (b : Nodes) (c : Closing) (cs : List ℕ) (o : Opened) (ids : List TermId) (h v : Term) (a : Application) (ts : List Task) (made : List Term) (r : Term) → All (λ t. t.0 < length b.terms) ids →
    a.arguments.items ≡ ids → IsApplication b c a → under b c a.head ≡ indexed_in cs o.level o.depth h → OnArguments m (o.level + o.depth) h (map (read_at b c o.level o.depth) ids) v →
    Ends m b c cs ts (indexed_in cs o.level o.depth v ∷ made) r → Ends m b c cs (visit_tasks o ids ++ Task.Apply a ∷ ts) made r
application_ends m b c cs o ids h v a ts made r k q i e w x =
    arguments_end m b c cs o ids w.values (Task.Apply a ∷ ts) made r k w.settled (
      map (indexed_in cs o.level o.depth) w.values,
      made,
      i,
      refl,
      as_many m (o.level + o.depth) ids (read_at b c o.level o.depth) (indexed_in cs o.level o.depth) w.values w.settled ∙ ap length (sym q),
      transport (λ y. Ends m b c cs ts (y ∷ made) r)
          (ap (indexed_in cs o.level o.depth) w.is ∙ fill_apply (at_eigens (λ j. eigen_or j (index_in cs o.level o.depth j))) w.values h ∙
          ap (λ y. apply y (map (indexed_in cs o.level o.depth) w.values)) (sym e))
          x,
    )

pushed_application : (b : Nodes) (s : Bindings) (c : Closing) (q : Looked) (head : TermId) (a : Application) → IsLooked b s q → head.0 < length b.terms → a.old ≡ q.whole → (a.is_new ≡ false → head.0 ≡ q.top.0) →
    a.head ≡ head → a.arguments.items ≡ q.arguments.items → IsApplication b c a
pushed_application b s c q head a k l e n h g = record {
  old = transport (λ t. t.0 < length b.terms) (sym e) k.known;
  head = transport (λ t. t.0 < length b.terms) (sym h) l;
  arguments = transport (All (λ t. t.0 < length b.terms)) (sym g) k.arguments;
  stands = λ f. ap (under b c) e ∙ whole_is b s c q k ∙
      (λ i. apply ((ap (λ j. closed c (tree b j)) (sym (n f)) ∙ ap (under b c) (sym h)) i) (map (under b c) (sym g i)));
}

-- of a rigid head
pub rigid_ends : (m : ℕ) (b d : Nodes) (s : Bindings) (c : Closing) (cs : List ℕ) (o : Opened) (q : Looked) (head : TermId) (a : Application) (ts : List Task) (made : List Term) (r : Term) → Extends b d → IsLooked b s q →
    q.head ≡ Head.Rigid → head.0 < length d.terms → IsHeadIn b d cs o.level o.depth q.top head → a.old ≡ q.whole → (a.is_new ≡ false → head.0 ≡ q.top.0) → a.head ≡ head → a.arguments.items ≡ q.arguments.items →
    Ends m b c cs (Task.Visit q.whole o ∷ ts) made r → Ends m d c cs (visit_tasks o q.arguments.items ++ Task.Apply a ∷ ts) made r
rigid_ends m b d s c cs o q head a ts made r e k h l x y n z g w =
    let j = looked_stays b d s q e k in
    let v = ends_kept m b d c cs (Task.Visit q.whole o ∷ ts) made r e w in
    application_ends m d c cs o q.arguments.items (read_at d c o.level o.depth q.top) v.0 a ts made r j.arguments g (pushed_application d s c q head a j l y n z g)
    (ap (under d c) z ∙ x c ∙ ap (indexed_in cs o.level o.depth) (sym (read_kept b d c o.level o.depth q.top e k.top)))
    (as_rigid m (o.level + o.depth) (read_at d c o.level o.depth q.whole) v.0 (read_at d c o.level o.depth q.top) (map (read_at d c o.level o.depth) q.arguments.items)
    (seen_there m _ _ (rigid_at d s c o.level o.depth q j h)) v.2)
    v.3

-- of a variable
pub top_variable : (b : Nodes) (s : Bindings) (c : Closing) (q : Looked) (x n : ℕ) → IsReading b s c → IsLooked b s q → q.head ≡ Head.Variable x n → under b c q.top ≡ atom (logic x n)
top_variable b s c q x n i k h =
    let w : IsHead b s (Head.Variable x n) (tree b q.top.0) q.arguments.items = transport (λ y. IsHead b s y (tree b q.top.0) q.arguments.items) h k.head in
    let v : ValueIs b c x None = transport (ValueIs b c x) w.1 (i.terms x) in
    ap (closed c) w.0 ∙ v n

pub open_ends : (m : ℕ) (b d : Nodes) (s : Bindings) (c : Closing) (cs : List ℕ) (o : Opened) (q : Looked) (x n : ℕ) (a : Application) (ts : List Task) (made : List Term) (r : Term) → Extends b d → IsReading b s c → IsLooked b s q →
    q.head ≡ Head.Variable x n → IsPattern m n (map (read_at b c o.level o.depth) q.arguments.items) None → a.old ≡ q.whole → (a.is_new ≡ false → q.top.0 ≡ q.top.0) → a.head ≡ q.top → a.arguments.items ≡ q.arguments.items →
    Ends m b c cs (Task.Visit q.whole o ∷ ts) made r → Ends m d c cs (visit_tasks o q.arguments.items ++ Task.Apply a ∷ ts) made r
open_ends m b d s c cs o q x n a ts made r e i k h p y f z g w =
    ends_kept m b d c cs (visit_tasks o q.arguments.items ++ Task.Apply a ∷ ts) made r e
    (application_ends m b c cs o q.arguments.items (atom (logic x n)) w.0 a ts made r k.arguments g (pushed_application b s c q q.top a k k.top y f z g)
    (ap (under b c) z ∙ top_variable b s c q x n i k h)
    (as_open m (o.level + o.depth) (read_at b c o.level o.depth q.whole) w.0 x n (map (read_at b c o.level o.depth) q.arguments.items) (seen_there m _ _ (variable_at b s c o.level o.depth q x n i k h)) p w.2)
    w.3)

-- a pattern
eigens_closed : (c : Closing) (cs : List ℕ) (l d : ℕ) (ks : List ℕ) → map (closed c) (eigens_in cs l d ks) ≡ map (indexed_in cs l d) (eigens ks)
eigens_closed c cs l d [] = refl
eigens_closed c cs l d (k ∷ ks) = λ i. one (index_in cs l d k) i ∷ eigens_closed c cs l d ks i
  where
    one : (p : Option ℕ) → closed c (eigen_or k p) ≡ eigen_or k p
    one None = refl
    one (Some j) = refl

pub pattern_ends : (m : ℕ) (b d f : Nodes) (s : Bindings) (c : Closing) (cs : List ℕ) (o : Opened) (q : Looked) (x n : ℕ) (a : Arguments) (id : TermId) (ts : List Task) (made : List Term) (r : Term) → Extends b d → Extends d f →
    IsReading b s c → IsLooked b s q → q.head ≡ Head.Variable x n → IsPattern m n (map (read_at b c o.level o.depth) q.arguments.items) (Some a) → tree f id.0 ≡ apply (tree d q.top.0) (eigens_in cs o.level o.depth a.eigens.items) →
    Ends m b c cs (Task.Visit q.whole o ∷ ts) made r → Ends m f c cs ts (under f c id ∷ made) r
pattern_ends m b d f s c cs o q x n a id ts made r e g i k h p t w =
    let j = looked_stays b d s q e k in
    let v = as_pattern m (o.level + o.depth) (read_at b c o.level o.depth q.whole) w.0 x n (map (read_at b c o.level o.depth) q.arguments.items) a.eigens.items (seen_there m _ _ (variable_at b s c o.level o.depth q x n i k h)) p w.2 in
    let y : under f c id ≡ apply (atom (logic x n)) (map (indexed_in cs o.level o.depth) (eigens a.eigens.items)) =
    ap (closed c) t ∙ closed_apply c (eigens_in cs o.level o.depth a.eigens.items) (tree d q.top.0) ∙
    (λ z. apply (top_variable d s c q x n (reading_kept b d s c e i) j h z) (eigens_closed c cs o.level o.depth a.eigens.items z)) in
    let z : indexed_in cs o.level o.depth w.0 ≡ apply (atom (logic x n)) (map (indexed_in cs o.level o.depth) (eigens a.eigens.items)) =
    ap (indexed_in cs o.level o.depth) v ∙ fill_apply (at_eigens (λ j. eigen_or j (index_in cs o.level o.depth j))) (eigens a.eigens.items) (atom (logic x n)) in
    transport (λ u. Ends m f c cs ts (u ∷ made) r) (z ∙ sym y) (ends_kept m b f c cs ts (indexed_in cs o.level o.depth w.0 ∷ made) r (extends-trans b d f e g) w.3)

-- the numbers of what was made
pub last_made : (b : Nodes) (c : Closing) (old new : List TermId) (t : TermId) → old ≡ new ++ t ∷ [] → map (under b c) (reverse old) ≡ under b c t ∷ map (under b c) (reverse new)
last_made b c old new t e = ap (λ l. map (under b c) (reverse l)) e ∙ ap (map (under b c)) (reverse-append new (t ∷ []))

pub next_task : (ts : List Task) (t : Task) → reverse (ts ++ t ∷ []) ≡ t ∷ reverse ts
next_task ts t = reverse-append ts (t ∷ [])

pub pushed_tasks : (old new more : List Task) (t : Task) → new ≡ (old ++ t ∷ []) ++ reverse more → reverse new ≡ more ++ t ∷ reverse old
pushed_tasks old new more t e =
    ap reverse e ∙ reverse-append (old ++ t ∷ []) (reverse more) ∙ (λ i. reverse-reverse more i ++ next_task old t i)

rests_same : (x y : Term) (xs ys : List Term) → x ∷ xs ≡ y ∷ ys → xs ≡ ys
rests_same x y xs ys e = cc

-- an abstraction is put on its body
pub abstraction_ends : (m : ℕ) (b d : Nodes) (c : Closing) (cs : List ℕ) (old body id made : TermId) (ts : List Task) (ids : List TermId) (rest : List Term) (r : Term) → Extends b d → under d c made ≡ abs (under b c id) →
    Ends m b c cs (Task.Abstract old body ∷ ts) (under b c id ∷ rest) r → Ends m d c cs ts (under d c made ∷ rest) r
abstraction_ends m b d c cs old body id made ts ids rest r e q h =
    ends_kept m b d c cs ts (under d c made ∷ rest) r e
    (transport (λ l. Ends m b c cs ts l r)
    (λ i. (ap abs (sym (cons_head (under b c id) h.0 rest h.1 h.5)) ∙ sym q) i ∷ sym (rests_same (under b c id) h.0 rest h.1 h.5) i)
    h.6)

pub abstraction_stands : (m : ℕ) (b : Nodes) (c : Closing) (cs : List ℕ) (old body id : TermId) (ts : List Task) (rest : List Term) (r : Term) → id.0 ≡ body.0 →
    Ends m b c cs (Task.Abstract old body ∷ ts) (under b c id ∷ rest) r → under b c old ≡ abs (under b c id)
abstraction_stands m b c cs old body id ts rest r q h = h.4 ∙ ap (λ j. abs (closed c (tree b j))) (sym q)

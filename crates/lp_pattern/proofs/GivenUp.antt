-- Settling and pruning stop for want of steps only where the definition gives nothing in as many.
use Rattle.std.proofs.Common.{◌≡◌, ℕ, zero, suc, ◌+◌, ◌<◌, ◌≤◌, List, [], ◌∷◌, ◌++◌, map, reverse, ◌∙◌, refl, sym, ap, subst as transport, arith, false, Option, Some, None}
use Rattle.std.specs.Prelude.{IsSome, option_map}
use Rattle.std.proofs.lemmas.List.{reverse-append}
use Rattle.lp_calculus.specs.Term.{Term}
use Rattle.lp_calculus.specs.Convert.{steps}
use Rattle.lp_calculus.proofs.Sigma.{subst}
use Rattle.lp_term.specs.Nodes.{Nodes, Extends}
use Rattle.lp_term.specs.declared.node.TermId.{TermId}
use Rattle.lp_term.specs.declared.reduce.TermRefusal.{TermRefusal}
use Rattle.lp_term.proofs.Frames.{some_of}
use Rattle.lp_model.specs.Look.{Look, an_abs, rigid, flexible, looked, pattern_of, weak_step}
use Rattle.lp_model.specs.Pair.{Closing}
use Rattle.lp_model.specs.Scan.{Side, Pruned, Scanned, whole, prune}
use Rattle.lp_pattern.specs.declared.bindings.Bindings.{Bindings}
use Rattle.lp_pattern.specs.declared.fault.PatternRefusal.{PatternRefusal}
use Rattle.lp_pattern.specs.declared.fault.PatternRefusal.TheVariants.{Deep}
use Rattle.lp_pattern.specs.declared.fault.PatternRefusal.TheVariants as refusal
use Rattle.lp_pattern.specs.declared.look.Head.{Head}
use Rattle.lp_pattern.specs.declared.look.Looked.{Looked}
use Rattle.lp_pattern.specs.declared.opened.Opened.{Opened}
use Rattle.lp_pattern.specs.declared.scan.Visit.{Visit}
use Rattle.lp_pattern.specs.declared.settle.Task.{Task}
use Rattle.lp_pattern.specs.Passing.{outer, Passed, outer_of, outers_of}
use Rattle.lp_pattern.specs.Pruning.{Start, IsPruning, StopsPruning, visit_at}
use Rattle.lp_pattern.specs.Refusing.{IsOfTerm, IsNoFailure, IsGivenUp, IsNothing}
use Rattle.lp_pattern.specs.Seen.{IsLooked, IsReachedWithin, IsDeepWhere}
use Rattle.lp_pattern.specs.Settling.{Settles, settles_abs, settles_rigid, settles_pattern, settles_open, Ends, IsLeft, StopsSettling}
use Rattle.lp_pattern.specs.Stripping.{opens, IsShut, HasNoPattern, read_at}
use Rattle.lp_pattern.specs.TopLooks.{top_look}
use Rattle.lp_pattern.specs.Under.{IsReading, under}
use Rattle.lp_pattern.specs.Visiting.{Part, scan_parts}
use Rattle.lp_pattern.proofs.Naming.{steps_named, weak_named}
use Rattle.lp_pattern.proofs.Opening.{SeenAt, opens_leaves, variable_at, top_of}
use Rattle.lp_pattern.proofs.PruneMoves.{look_prunes}
use Rattle.lp_pattern.proofs.PruneSteps.{turn_of, found_left}
use Rattle.lp_pattern.proofs.SettleMoves.{visit_moves}
use Rattle.lp_pattern.proofs.SettleSteps.{next_task}
use Rattle.lp_pattern.proofs.VisitSteps.{far_none, no_first, no_pattern}
use Rattle.lp_pattern.proofs.Walking.{reading_kept}

pub no_memory : (limit : ℕ) (e : PatternRefusal) (A : Type 0) → e ≡ refusal.Memory → IsGivenUp limit e A
no_memory limit e A i = transport (λ x. IsGivenUp limit x A) (sym i) tt

pub given_before : (limit : ℕ) (e : PatternRefusal) (A B : Type 0) → (A → B) → IsGivenUp limit e B → IsGivenUp limit e A
given_before limit refusal.Fails A B f h = h
given_before limit Deep A B f h = λ l a. h l (f a)
given_before limit refusal.Memory A B f h = tt

pub nothing_given : {A : Type 0} (limit : ℕ) (e : PatternRefusal) (o : Option A) → IsNoFailure e → ((x : A) → o ≡ Some x → IsGivenUp limit e (o ≡ Some x)) → IsNothing limit e o
nothing_given limit refusal.Fails o f h = f
nothing_given {A} limit Deep o f h = λ l. go o refl l
  where
    go : (p : Option A) → o ≡ p → limit ≤ 1000000 → o ≡ None
    go None q l = q
    go (Some x) q l = absurd (h x q l q)
nothing_given limit refusal.Memory o f h = tt

-- a head that is too far
top_far : (n : ℕ) (t s : Term) → n ≤ 1000000 → steps weak_step 1000001 t ≡ Some s → top_look n t ≡ None
top_far n t s l e = ap (option_map (λ x. looked x [])) (far_none 1000001 n t s (omega (arith, l)) e)

read_far : (n : ℕ) (b : Nodes) (c : Closing) (l k : ℕ) (t : TermId) → n ≤ 1000000 → IsSome (steps weak_step 1000001 (under b c t)) → top_look n (read_at b c l k t) ≡ None
read_far n b c l k t m h =
    let w = some_of (steps weak_step 1000001 (under b c t)) h in
    top_far n (read_at b c l k t) (subst (opens l k) w.0) m (steps_named weak_step (opens l k) (weak_named (opens l k) (opens_leaves l k)) 1000001 (under b c t) w.0 w.1)

-- settling

none_settles : (m k : ℕ) (t v : Term) → top_look m t ≡ None → Settles m k t v → ⊥
none_settles m k t v h (settles_abs b u e s q) = let z : None ≡ Some (an_abs b) = sym h ∙ e in absurd (cc)
none_settles m k t v h (settles_rigid g ts us e s q) = let z : None ≡ Some (rigid g ts) = sym h ∙ e in absurd (cc)
none_settles m k t v h (settles_pattern y l ts ks e p q) = let z : None ≡ Some (flexible y l ts) = sym h ∙ e in absurd (cc)
none_settles m k t v h (settles_open y l ts us e p s q) = let z : None ≡ Some (flexible y l ts) = sym h ∙ e in absurd (cc)

found_at : (m : ℕ) (t : Term) (v w : Look) → SeenAt t v → top_look m t ≡ Some w → w ≡ v
found_at m t v w h e = top_of m 0 t t w e refl h.ended ∙ h.look

same_pattern : (m x n y l : ℕ) (ts us : List Term) (o : Option (List ℕ)) → flexible y l us ≡ flexible x n ts → pattern_of m n ts ≡ None → pattern_of m l us ≡ Some o → ⊥
same_pattern m x n y l ts us o z h p =
    let a : l ≡ n = cc in
    let b : us ≡ ts = cc in
    let q : None ≡ Some o = sym h ∙ (λ i. pattern_of m (sym a i) (sym b i)) ∙ p in
    absurd (cc)

no_pattern_settles : (m k x n : ℕ) (t v : Term) (ts : List Term) → SeenAt t (flexible x n ts) → pattern_of m n ts ≡ None → Settles m k t v → ⊥
no_pattern_settles m k x n t v ts h p (settles_abs b u e s q) = let z : an_abs b ≡ flexible x n ts = found_at m t (flexible x n ts) (an_abs b) h e in absurd (cc)
no_pattern_settles m k x n t v ts h p (settles_rigid g us vs e s q) = let z : rigid g us ≡ flexible x n ts = found_at m t (flexible x n ts) (rigid g us) h e in absurd (cc)
no_pattern_settles m k x n t v ts h p (settles_pattern y l us ks e r q) = same_pattern m x n y l ts us (Some ks) (found_at m t (flexible x n ts) (flexible y l us) h e) p r
no_pattern_settles m k x n t v ts h p (settles_open y l us vs e r s q) = same_pattern m x n y l ts us None (found_at m t (flexible x n ts) (flexible y l us) h e) p r

next_visit : (m : ℕ) (b : Nodes) (c : Closing) (cs : List ℕ) (t : TermId) (o : Opened) (old : List Task) (made : List TermId) (r : Term) → IsLeft m b c cs (old ++ Task.Visit t o ∷ []) made r →
    (v : Term) × Settles m (o.level + o.depth) (read_at b c o.level o.depth t) v
next_visit m b c cs t o old made r w =
    let h : Ends m b c cs (Task.Visit t o ∷ reverse old) (map (under b c) (reverse made)) r = transport (λ l. Ends m b c cs l (map (under b c) (reverse made)) r) (next_task old (Task.Visit t o)) w.ends in
    (h.0, h.2)

pub settle_far : (b : Nodes) (c : Closing) (cs : List ℕ) (t : TermId) (o : Opened) (old : List Task) (made : List TermId) (m : ℕ) (r : Term) (e : TermRefusal) (y : PatternRefusal) → IsOfTerm e y → IsDeepWhere 1000000 (under b c t) e →
    IsGivenUp m y (IsLeft m b c cs (old ++ Task.Visit t o ∷ []) made r)
settle_far b c cs t o old made m r (TermRefusal.Deep j) y i d =
    transport (λ x. IsGivenUp m x (IsLeft m b c cs (old ++ Task.Visit t o ∷ []) made r)) (sym i)
    (λ l w. let h = next_visit m b c cs t o old made r w in none_settles m (o.level + o.depth) (read_at b c o.level o.depth t) h.0 (read_far m b c o.level o.depth t l d) h.1)
settle_far b c cs t o old made m r TermRefusal.Memory y i d = no_memory m y (IsLeft m b c cs (old ++ Task.Visit t o ∷ []) made r) i

pub settle_open_far : (b : Nodes) (s : Bindings) (c : Closing) (cs : List ℕ) (q : Looked) (x n : ℕ) (o : Opened) (old : List Task) (made : List TermId) (m : ℕ) (r : Term) (e : TermRefusal) (y : PatternRefusal) → IsReading b s c → IsLooked b s q →
    q.head ≡ Head.Variable x n → IsOfTerm e y → (m ≤ 1000000 → HasNoPattern m n (map (read_at b c o.level o.depth) q.arguments.items) e) → IsGivenUp m y (IsLeft m b c cs (old ++ Task.Visit q.whole o ∷ []) made r)
settle_open_far b s c cs q x n o old made m r (TermRefusal.Deep j) y k z h i d =
    transport (λ x. IsGivenUp m x (IsLeft m b c cs (old ++ Task.Visit q.whole o ∷ []) made r)) (sym i)
    (λ l w.
    let g = next_visit m b c cs q.whole o old made r w in
    no_pattern_settles m (o.level + o.depth) x n (read_at b c o.level o.depth q.whole) g.0 (map (read_at b c o.level o.depth) q.arguments.items) (variable_at b s c o.level o.depth q x n k z h) (d l) g.1)
settle_open_far b s c cs q x n o old made m r TermRefusal.Memory y k z h i d = no_memory m y (IsLeft m b c cs (old ++ Task.Visit q.whole o ∷ []) made r) i

pub settle_seen : (b d : Nodes) (s : Bindings) (cs : List ℕ) (t : TermId) (q : Looked) (o : Opened) (old : List Task) (made : List TermId) (y : PatternRefusal) → Extends b d → IsLooked d s q →
    ((c : Closing) → IsReading b s c → IsReachedWithin 1000000 (under b c t) (under d c q.whole)) → StopsSettling y d s cs (old ++ Task.Visit q.whole o ∷ []) made → StopsSettling y b s cs (old ++ Task.Visit t o ∷ []) made
settle_seen b d s cs t q o old made y e k x h = λ c i j m r.
    given_before m y (IsLeft m b c cs (old ++ Task.Visit t o ∷ []) made r) (IsLeft m d c cs (old ++ Task.Visit q.whole o ∷ []) made r)
    (visit_moves b d d s cs o 1000000 t q old (old ++ Task.Visit q.whole o ∷ []) made made e k x (λ c i j m r w. w) c i j m r)
    (h c (reading_kept b d s c e i) j m r)

-- pruning

-- the scan of what is left
record Scans (most : ℕ) (s : Side) (qs : List Part) : Type 0 where
  turns : ℕ
  few : turns < most
  outcome : Scanned
  is : scan_parts turns turns s qs ≡ Some outcome

left_scanned : (s : Side) (o : Start) (most : ℕ) (b : Nodes) (bs : Bindings) (next : ℕ) (term : TermId) (left : List Visit) (v : Visit) (r : Pruned) → (h : IsPruning s o most b bs next term (left ++ v ∷ []) r) →
    Scans most s (outer_of b h.closing v ∷ outers_of b h.closing left)
left_scanned s o most b bs next term left v r h = go h.turns refl h.rest
  where
    front : Passed s (outer s.pair (under b h.closing term) ∷ []) (outer_of b h.closing v ∷ outers_of b h.closing left)
    front = transport (Passed s (outer s.pair (under b h.closing term) ∷ [])) (ap (map (outer_of b h.closing)) (reverse-append left (v ∷ []))) h.passed

    go : (n : ℕ) → n ≡ h.turns → prune n s next (under b h.closing term) ≡ Some h.now → Scans most s (outer_of b h.closing v ∷ outers_of b h.closing left)
    go zero i e = absurd (cc)
    go (suc m) i e =
        let w = turn_of m s next (under b h.closing term) h.now e in
        let f = found_left m s (under b h.closing term) w.units w.patterns (outer_of b h.closing v ∷ outers_of b h.closing left) w.is front in
        record { turns = m; few = omega (arith, i, h.few); outcome = whole f.units false f.patterns; is = f.is }

no_scan : (o : Option Scanned) (r : Scanned) → o ≡ None → o ≡ Some r → ⊥
no_scan o r e f = let q : None ≡ Some r = sym e ∙ f in absurd (cc)

pub prune_far : (s : Side) (o : Start) (most : ℕ) (b : Nodes) (bs : Bindings) (next : ℕ) (term : TermId) (left : List Visit) (v : Visit) (r : Pruned) (e : TermRefusal) (y : PatternRefusal) → IsOfTerm e y →
    ((c : Closing) → IsReading b bs c → IsDeepWhere 1000000 (under b c v.term) e) → IsGivenUp most y (IsPruning s o most b bs next term (left ++ v ∷ []) r)
prune_far s o most b bs next term left v r (TermRefusal.Deep j) y i d =
    transport (λ x. IsGivenUp most x (IsPruning s o most b bs next term (left ++ v ∷ []) r)) (sym i)
    (λ l h.
    let w = left_scanned s o most b bs next term left v r h in
    no_scan _ w.outcome (no_first w.turns w.turns s (outer_of b h.closing v) (outers_of b h.closing left) (read_far w.turns b h.closing v.opened.level v.opened.depth v.term (omega (arith, l, w.few)) (d h.closing h.reading))) w.is)
prune_far s o most b bs next term left v r TermRefusal.Memory y i d = no_memory most y (IsPruning s o most b bs next term (left ++ v ∷ []) r) i

pub prune_open_far : (s : Side) (o : Start) (most : ℕ) (b : Nodes) (bs : Bindings) (next : ℕ) (term : TermId) (left : List Visit) (v : Visit) (q : Looked) (x n : ℕ) (r : Pruned) (e : TermRefusal) (y : PatternRefusal) → IsLooked b bs q → q.head ≡ Head.Variable x n →
    IsOfTerm e y → ((c : Closing) → IsReading b bs c → IsShut c → (m : ℕ) → m ≤ 1000000 → HasNoPattern m n (map (read_at b c v.opened.level v.opened.depth) q.arguments.items) e) →
    IsGivenUp most y (IsPruning s o most b bs next term (left ++ visit_at v q.whole ∷ []) r)
prune_open_far s o most b bs next term left v q x n r (TermRefusal.Deep j) y k g i d =
    transport (λ x. IsGivenUp most x (IsPruning s o most b bs next term (left ++ visit_at v q.whole ∷ []) r)) (sym i)
    (λ l h.
    let w = left_scanned s o most b bs next term left (visit_at v q.whole) r h in
    no_pattern w.turns w.turns s (outer_of b h.closing (visit_at v q.whole)) (outers_of b h.closing left) 0 (read_at b h.closing v.opened.level v.opened.depth q.whole) x n (map (read_at b h.closing v.opened.level v.opened.depth) q.arguments.items) refl
    (variable_at b bs h.closing v.opened.level v.opened.depth q x n h.reading k g) (d h.closing h.reading h.shut w.turns (omega (arith, l, w.few))) w.outcome w.is)
prune_open_far s o most b bs next term left v q x n r TermRefusal.Memory y k g i d = no_memory most y (IsPruning s o most b bs next term (left ++ visit_at v q.whole ∷ []) r) i

pub prune_seen : (s : Side) (b d : Nodes) (bs : Bindings) (next : ℕ) (left : List Visit) (v : Visit) (q : Looked) (y : PatternRefusal) → Extends b d → IsLooked d bs q →
    ((c : Closing) → IsReading b bs c → IsReachedWithin 1000000 (under b c v.term) (under d c q.whole)) → StopsPruning y s d bs next (left ++ visit_at v q.whole ∷ []) → StopsPruning y s b bs next (left ++ v ∷ [])
prune_seen s b d bs next left v q y e k x h = λ l o most term r.
    given_before most y (IsPruning s o most b bs next term (left ++ v ∷ []) r) (IsPruning s o most d bs next term (left ++ visit_at v q.whole ∷ []) r)
    (look_prunes s b d bs next 1000000 left v q e k x l o most term r) (h l o most term r)

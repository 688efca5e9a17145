-- What each visit of pruning does to what is left.
use Rattle.std.proofs.Common.{◌≡◌, ℕ, zero, suc, ◌+◌, ◌<◌, ◌≤◌, List, [], ◌∷◌, ◌++◌, map, reverse, length, ◌∙◌, refl, sym, ap, subst as transport, arith, Bool, true, false, Option, Some, None, nat_eq, ◌-◌, if◌then◌else◌}
use Rattle.std.specs.Prelude.{All, ◌&&◌, nat_lt, min}
use Rattle.std.proofs.lemmas.Bool.Decides.{nat_tests}
use Rattle.std.proofs.lemmas.List.{reverse-append, reverse-reverse, map-append, append_assoc}
use Rattle.std.proofs.lemmas.List.Elements.{All-nil, All-head, All-tail, All-cons, All-push, All-weaker}
use Rattle.lp_calculus.specs.Term.{Term, index, atom, abs, app, apply, substitute, constant, integer, text, eigen, logic, param}
use Rattle.lp_calculus.specs.Convert.{steps}
use Rattle.lp_calculus.specs.Fill.{Within, close, at_variables}
use Rattle.lp_calculus.proofs.Fills.{within_fill, within_more}
use Rattle.lp_calculus.proofs.Sigma.{up, subst}
use Rattle.lp_term.specs.Nodes.{Nodes, Extends, tree}
use Rattle.lp_term.specs.declared.node.TermId.{TermId}
use Rattle.lp_term.proofs.Openings.{all_reverse}
use Rattle.lp_model.specs.Look.{flexible, pattern_of, weak_step}
use Rattle.lp_model.specs.Pair.{Closing, closed}
use Rattle.lp_model.specs.Scan.{Side, Pattern, pattern, fits, Pruned, prune, renewal}
use Rattle.lp_lemmas.proofs.Elements.{All_popped}
use Rattle.lp_pattern.specs.declared.bindings.Bindings.{Bindings}
use Rattle.lp_pattern.specs.declared.look.Head.{Head}
use Rattle.lp_pattern.specs.declared.look.Looked.{Looked}
use Rattle.lp_pattern.specs.declared.patterns.Arguments.{Arguments}
use Rattle.lp_pattern.specs.declared.scan.Visit.{Visit}
use Rattle.lp_pattern.specs.Behind.{at_number, with_value, HasLevel}
use Rattle.lp_pattern.specs.Cleaning.{IsClean}
use Rattle.lp_pattern.specs.Passing.{outer, outers, Passed, pass_none, pass_steps, pass_abs, pass_rigid, pass_clean, outer_of, outers_of}
use Rattle.lp_pattern.specs.Pruning.{Start, IsPruning, Prunes, visit_at}
use Rattle.lp_pattern.specs.Putting.{Known}
use Rattle.lp_pattern.specs.Turning.{IsOpenReading}
use Rattle.lp_pattern.specs.Scanning.{Binds, visits, all_fit}
use Rattle.lp_pattern.specs.Seen.{IsRigid, IsHead, IsLooked, IsReachedWithin}
use Rattle.lp_pattern.specs.Stripping.{opens, IsShut, IsPattern, read_at}
use Rattle.lp_pattern.specs.Under.{IsReading, under}
use Rattle.lp_pattern.specs.Visiting.{Part, IsVisitOf}
use Rattle.lp_pattern.proofs.ArgumentForms.{abstraction_whole}
use Rattle.lp_pattern.proofs.BoundOnce.{put_none, put_then, IsOneBinding, once_put, once_read, fresh_once}
use Rattle.lp_pattern.proofs.Opening.{SeenAt, read_none, read_kept, read_reached, read_whole, variable_at, opened_once, top_of}
use Rattle.lp_pattern.proofs.Passings.{Split, split_first, passed_put, left_put}
use Rattle.lp_pattern.proofs.PruneSteps.{passed_within, Fresh, levels_with, turn_of, found_left, own_pattern, renewed_there, pattern_known, fresh_renewal, fresh_known, old_known, level_known}
use Rattle.lp_pattern.proofs.ReadingsBehind.{closed_valued, put_valued}
use Rattle.lp_pattern.proofs.Refits.{Any, scanned_clean, open_clean, renewal_stands}
use Rattle.lp_pattern.proofs.Scannings.{visits_kept, pushed_known}
use Rattle.lp_pattern.proofs.SettleSteps.{top_variable}
use Rattle.lp_pattern.proofs.Stacks.{under_kept}
use Rattle.lp_pattern.proofs.Walking.{reading_kept}

-- what is left, the last one first
last_left : (b : Nodes) (c : Closing) (left : List Visit) (v : Visit) → outers_of b c (left ++ v ∷ []) ≡ outer_of b c v ∷ outers_of b c left
last_left b c left v = ap (map (outer_of b c)) (reverse-append left (v ∷ []))

pub outers_same : (b d : Nodes) (c : Closing) (n : ℕ) (vs : List Visit) → Extends b d → All (IsVisitOf (length b.terms) n) vs → map (outer_of d c) vs ≡ map (outer_of b c) vs
outers_same b d c n [] e a = refl
outers_same b d c n (v ∷ vs) e a =
    λ i. outer (v.opened.level + v.opened.depth) (read_kept b d c v.opened.level v.opened.depth v.term e (All-head (IsVisitOf (length b.terms) n) v vs a).0 i) ∷
    outers_same b d c n vs e (All-tail (IsVisitOf (length b.terms) n) v vs a) i

abbrev pub pruning_kept : (s : Side) (o : Start) (most : ℕ) (b d : Nodes) (bs : Bindings) (next : ℕ) (term : TermId) (left : List Visit) (r : Pruned) → Extends b d → IsPruning s o most b bs next term left r → IsPruning s o most d bs next term left r
pruning_kept s o most b d bs next term left r e h =
    let u = under_kept b d h.closing term e h.whole in record {
      closing = h.closing;
      levels = h.levels;
      turns = h.turns;
      few = h.few;
      reading = reading_kept b d bs h.closing e h.reading;
      shut = h.shut;
      still = h.still;
      known = transport (Within (Known h.levels next) 0) (sym u) h.known;
      unbound = h.unbound;
      whole = omega (arith, h.whole, e.more_terms);
      inside = visits_kept b d s.pair left e h.inside;
      passed = transport (Passed s (outer s.pair (under d h.closing term) ∷ [])) (sym (outers_same b d h.closing s.pair (reverse left) e (all_reverse (IsVisitOf (length b.terms) s.pair) left h.inside)))
          (transport (λ t. Passed s (outer s.pair t ∷ []) (outers_of b h.closing left)) (sym u) h.passed);
      now = h.now;
      rest = ap (prune h.turns s next) u ∙ h.rest;
      same = h.same;
      last = h.last;
      made = h.made;
      all = h.all;
      behind = h.behind;
    }

-- another list of what is left
abbrev moved : (s : Side) (o : Start) (most : ℕ) (b : Nodes) (bs : Bindings) (next : ℕ) (term : TermId) (left left' : List Visit) (r : Pruned) → (h : IsPruning s o most b bs next term left r) → All (IsVisitOf (length b.terms) s.pair) left' →
    Passed s (outer s.pair (under b h.closing term) ∷ []) (outers_of b h.closing left') → IsPruning s o most b bs next term left' r
moved s o most b bs next term left left' r h a p = record {
  closing = h.closing;
  levels = h.levels;
  turns = h.turns;
  few = h.few;
  reading = h.reading;
  shut = h.shut;
  still = h.still;
  known = h.known;
  unbound = h.unbound;
  whole = h.whole;
  inside = a;
  passed = p;
  now = h.now;
  rest = h.rest;
  same = h.same;
  last = h.last;
  made = h.made;
  all = h.all;
  behind = h.behind;
}

front_passed : (s : Side) (o : Start) (most : ℕ) (b : Nodes) (bs : Bindings) (next : ℕ) (term : TermId) (left : List Visit) (v : Visit) (r : Pruned) → (h : IsPruning s o most b bs next term (left ++ v ∷ []) r) →
    Passed s (outer s.pair (under b h.closing term) ∷ []) (outer_of b h.closing v ∷ outers_of b h.closing left)
front_passed s o most b bs next term left v r h = transport (Passed s (outer s.pair (under b h.closing term) ∷ [])) (last_left b h.closing left v) h.passed

-- a look
pub look_prunes : (s : Side) (b d : Nodes) (bs : Bindings) (next limit : ℕ) (left : List Visit) (v : Visit) (q : Looked) → Extends b d → IsLooked d bs q → ((c : Closing) → IsReading b bs c → IsReachedWithin limit (under b c v.term) (under d c q.whole)) →
    Prunes s b d bs bs next next (left ++ v ∷ []) (left ++ visit_at v q.whole ∷ [])
look_prunes s b d bs next limit left v q e k x l o most term r h =
    let g = pruning_kept s o most b d bs next term (left ++ v ∷ []) r e h in
    let a = All_popped (IsVisitOf (length b.terms) s.pair) (left ++ v ∷ []) left v refl h.inside in
    let w = x h.closing h.reading in
    moved s o most d bs next term (left ++ v ∷ []) (left ++ visit_at v q.whole ∷ []) r g
    (All-push (IsVisitOf (length d.terms) s.pair) left (visit_at v q.whole) (visits_kept b d s.pair left e a.0) (k.known, a.1.1))
    (pass_steps (v.opened.level + v.opened.depth) w.0 (read_at d h.closing v.opened.level v.opened.depth v.term) (read_at d h.closing v.opened.level v.opened.depth q.whole) (outers_of d h.closing left) (front_passed s o most d bs next term left v r g)
    (ap (steps weak_step w.0) (read_kept b d h.closing v.opened.level v.opened.depth v.term e a.1.0) ∙ read_reached b d h.closing v.opened.level v.opened.depth w.0 v.term q.whole w.2) (last_left d h.closing left (visit_at v q.whole)))

-- an abstraction
abstraction_read : (b : Nodes) (s : Bindings) (c : Closing) (l k : ℕ) (r : Looked) (body : TermId) → IsShut c → IsLooked b s r → r.head ≡ Head.Abstraction body → read_at b c l k r.whole ≡ abs (subst (up (opens l k)) (under b c body))
abstraction_read b s c l k r body h i q = ap (subst (opens l k)) (abstraction_whole b s c r body h i q)

pub body_prunes : (s : Side) (b : Nodes) (bs : Bindings) (next : ℕ) (left left' : List Visit) (v inner : Visit) (q : Looked) (body : TermId) → IsLooked b bs q → q.head ≡ Head.Abstraction body → inner.term ≡ body → inner.opened.level ≡ v.opened.level →
    inner.opened.depth ≡ suc v.opened.depth → left' ≡ left ++ inner ∷ [] → Prunes s b b bs bs next next (left ++ visit_at v q.whole ∷ []) left'
body_prunes s b bs next left left' v inner q body k g e x y z l o most term r h =
    let a = All_popped (IsVisitOf (length b.terms) s.pair) (left ++ visit_at v q.whole ∷ []) left (visit_at v q.whole) refl h.inside in
    let n : IsHead b bs (Head.Abstraction body) (tree b q.top.0) q.arguments.items = transport (λ y. IsHead b bs y (tree b q.top.0) q.arguments.items) g k.head in
    let last_is : inner.opened.level + inner.opened.depth ≡ suc (v.opened.level + v.opened.depth) = omega (arith, x, y) in
    let term_is : read_at b h.closing inner.opened.level inner.opened.depth inner.term ≡ substitute (atom (eigen (suc (v.opened.level + v.opened.depth)))) (subst (up (opens v.opened.level v.opened.depth)) (under b h.closing body)) =
    (λ j. read_at b h.closing (x j) (y j) (e j)) ∙ sym (opened_once v.opened.level v.opened.depth (v.opened.level + v.opened.depth) (under b h.closing body) refl) in
    moved s o most b bs next term (left ++ visit_at v q.whole ∷ []) left' r h
    (transport (All (IsVisitOf (length b.terms) s.pair)) (sym z) (All-push (IsVisitOf (length b.terms) s.pair) left inner a.0 (transport (λ t. t.0 < length b.terms) (sym e) n.1, x ∙ a.1.1)))
    (pass_abs (v.opened.level + v.opened.depth) 0 (read_at b h.closing v.opened.level v.opened.depth q.whole) (subst (up (opens v.opened.level v.opened.depth)) (under b h.closing body)) (outers_of b h.closing left)
    (front_passed s o most b bs next term left (visit_at v q.whole) r h)
    (ap (λ t. Some t) (abstraction_read b bs h.closing v.opened.level v.opened.depth q body h.shut k g))
    (ap (outers_of b h.closing) z ∙ last_left b h.closing left inner ∙ (λ j. outer (last_is j) (term_is j) ∷ outers_of b h.closing left)))

-- a rigid head
rigid_read : (c : Closing) (l k : ℕ) (t : Term) → IsRigid t → IsRigid (subst (opens l k) (closed c t))
rigid_read c l k (index i) h = go (nat_lt i k)
  where
    go : (b : Bool) → IsRigid (if b then atom (eigen (l + (k - i))) else index (i - k))
    go true = tt
    go false = tt
rigid_read c l k (atom (constant j us)) h = tt
rigid_read c l k (atom (integer z)) h = tt
rigid_read c l k (atom (text s)) h = tt
rigid_read c l k (atom (eigen j)) h = tt
rigid_read c l k (atom (logic x m)) h = absurd h
rigid_read c l k (atom (param j u)) h = tt
rigid_read c l k (abs b) h = absurd h
rigid_read c l k (app t u) h = absurd h

outers_visited : (b : Nodes) (c : Closing) (v : Visit) (ids : List TermId) → map (outer_of b c) (visits v false ids) ≡ outers (v.opened.level + v.opened.depth) (map (read_at b c v.opened.level v.opened.depth) ids)
outers_visited b c v [] = refl
outers_visited b c v (t ∷ ids) = ap (λ l. outer (v.opened.level + v.opened.depth) (read_at b c v.opened.level v.opened.depth t) ∷ l) (outers_visited b c v ids)

outers_pushed : (b : Nodes) (c : Closing) (v : Visit) (ids : List TermId) (left left' : List Visit) → left' ≡ left ++ reverse (visits v false ids) →
    outers_of b c left' ≡ outers (v.opened.level + v.opened.depth) (map (read_at b c v.opened.level v.opened.depth) ids) ++ outers_of b c left
outers_pushed b c v ids left left' q =
    ap (outers_of b c) q ∙ ap (map (outer_of b c)) (reverse-append left (reverse (visits v false ids)) ∙ ap (λ l. l ++ reverse left) (reverse-reverse (visits v false ids))) ∙
    map-append (outer_of b c) (visits v false ids) (reverse left) ∙ ap (λ l. l ++ outers_of b c left) (outers_visited b c v ids)

pub rigid_prunes : (s : Side) (b : Nodes) (bs : Bindings) (next : ℕ) (left left' : List Visit) (v : Visit) (q : Looked) → IsLooked b bs q → q.head ≡ Head.Rigid → left' ≡ left ++ reverse (visits v false q.arguments.items) →
    Prunes s b b bs bs next next (left ++ visit_at v q.whole ∷ []) left'
rigid_prunes s b bs next left left' v q k g z l o most term r h =
    let a = All_popped (IsVisitOf (length b.terms) s.pair) (left ++ visit_at v q.whole ∷ []) left (visit_at v q.whole) refl h.inside in
    let i : IsRigid (tree b q.top.0) = transport (λ y. IsHead b bs y (tree b q.top.0) q.arguments.items) g k.head in
    moved s o most b bs next term (left ++ visit_at v q.whole ∷ []) left' r h (pushed_known (length b.terms) s.pair v false q.arguments.items left left' a.1.1 k.arguments a.0 z)
    (pass_rigid (v.opened.level + v.opened.depth) 0 (read_at b h.closing v.opened.level v.opened.depth q.whole) (read_at b h.closing v.opened.level v.opened.depth q.top)
    (map (read_at b h.closing v.opened.level v.opened.depth) q.arguments.items) (outers_of b h.closing left) (front_passed s o most b bs next term left (visit_at v q.whole) r h)
    (ap (λ t. Some t) (read_whole b bs h.closing v.opened.level v.opened.depth q k)) (rigid_read h.closing v.opened.level v.opened.depth (tree b q.top.0) i) (outers_pushed b h.closing v q.arguments.items left left' z))

-- one binding more
-- a variable
any_part : (lv : ℕ → ℕ) (next : ℕ) (s : Side) (T : Term) (k : ℕ) (t : Term) (qs : List Part) → Passed s (outer s.pair T ∷ []) (outer k t ∷ qs) → Within (Known lv next) 0 T → Within Any 0 t
any_part lv next s T k t qs p w = within_more (Known lv next) Any 0 0 (λ a h. tt) (omega arith) t (passed_within (Known lv next) (λ j. tt) s p (w, tt)).0

-- the scan of the part at hand
at_hand : (m : ℕ) (s : Side) (next k : ℕ) (T t : Term) (qs : List Part) (r : Pruned) → prune (suc m) s next T ≡ Some r → Passed s (outer s.pair T ∷ []) (outer k t ∷ qs) → (ys : List Pattern) × Split m m s (outer k t) qs ys
at_hand m s next k T t qs r e p =
    let w = turn_of m s next T r e in
    let y = found_left m s T w.units w.patterns (outer k t ∷ qs) w.is p in
    (y.patterns, split_first m m s (outer k t) qs y.units y.patterns y.is)

fit_one : (s : Side) (p : Pattern) → fits s p ≡ true → (fits s p && true) ≡ true
fit_one s p e = ap (λ b. b && true) e

module _ (s : Side) (o : Start) (most : ℕ) (b : Nodes) (bs : Bindings) (next x l : ℕ) (left : List Visit) (v : Visit) (q : Looked) (looked : IsLooked b bs q) (head : q.head ≡ Head.Variable x l) (term : TermId) (r : Pruned)
    (h : IsPruning s o most b bs next term (left ++ visit_at v q.whole ∷ []) r) where
  abbrev level : ℕ
  level = v.opened.level + v.opened.depth

  abbrev part : Term
  part = read_at b h.closing v.opened.level v.opened.depth q.whole

  abbrev arguments : List Term
  arguments = map (read_at b h.closing v.opened.level v.opened.depth) q.arguments.items

  abbrev whole_term : Term
  whole_term = under b h.closing term

  known_left : All (IsVisitOf (length b.terms) s.pair) left × IsVisitOf (length b.terms) s.pair (visit_at v q.whole)
  known_left = All_popped (IsVisitOf (length b.terms) s.pair) (left ++ visit_at v q.whole ∷ []) left (visit_at v q.whole) refl h.inside

  here : Passed s (outer s.pair whole_term ∷ []) (outer level part ∷ outers_of b h.closing left)
  here = front_passed s o most b bs next term left (visit_at v q.whole) r h

  sees : SeenAt part (flexible x l arguments)
  sees = variable_at b bs h.closing v.opened.level v.opened.depth q x l h.reading looked head

  high : s.pair ≤ level
  high = let z = known_left.1.1 in omega (arith, z)

  left_out : IsClean s 0 part → IsPruning s o most b bs next term left r
  left_out c = moved s o most b bs next term (left ++ visit_at v q.whole ∷ []) left r h known_left.0 (pass_clean level part here high c)

  pub fit_there : (ks : List ℕ) → ((m : ℕ) (o : Option (List ℕ)) → pattern_of m l arguments ≡ Some o → o ≡ Some ks) → fits s (pattern x l ks) ≡ true → IsPruning s o most b bs next term left r
  fit_there ks p f = go h.turns h.rest
    where
      go : (n : ℕ) → prune n s next whole_term ≡ Some h.now → IsPruning s o most b bs next term left r
      go zero e = absurd (cc)
      go (suc m) e =
          let z = at_hand m s next level whole_term part (outers_of b h.closing left) h.now e here in
          let own = own_pattern m m s level 0 x l z.1.units part part arguments ks z.1.own refl sees (p m) z.1.is in
          left_out (scanned_clean m m s false level part z.1.units z.1.own (any_part h.levels next s whole_term level part (outers_of b h.closing left) here h.known) z.1.is (ap (all_fit s) own ∙ fit_one s (pattern x l ks) f))

  pub open_there : ((m : ℕ) (o : Option (List ℕ)) → pattern_of m l arguments ≡ Some o → o ≡ None) → IsPruning s o most b bs next term left r
  open_there p = go h.turns h.rest
    where
      go : (n : ℕ) → prune n s next whole_term ≡ Some h.now → IsPruning s o most b bs next term left r
      go zero e = absurd (cc)
      go (suc m) e =
          let z = at_hand m s next level whole_term part (outers_of b h.closing left) h.now e here in
          left_out
          (open_clean m m s level z.1.units x l part arguments z.1.own (any_part h.levels next s whole_term level part (outers_of b h.closing left) here h.known) (λ w i. top_of m 0 part part w i refl sees.ended ∙ sees.look) (p m) z.1.is)

  -- the pattern does not fit
  part_is : part ≡ apply (atom (logic x l)) arguments
  part_is =
      read_whole b bs h.closing v.opened.level v.opened.depth q looked ∙
      ap (λ t. apply (subst (opens v.opened.level v.opened.depth) t) arguments) (top_variable b bs h.closing q x l h.reading looked head)

  module _ (d : Nodes) (bs' : Bindings) (left' : List Visit) (ks : List ℕ) (grown : Extends b d) (below : s.id < next) (value : Binds d bs bs' x (renewal s next (pattern x l ks)).value) (types : bs'.types ≡ bs.types)
      (pushed : left' ≡ left ++ visit_at v q.whole ∷ []) where
    abbrev new_value : Term
    new_value = (renewal s next (pattern x l ks)).value

    abbrev new_closing : Closing
    new_closing = with_value x new_value h.closing

    variable : (x < next) × (l ≡ h.levels x)
    variable = pattern_known h.levels next level 0 x l s whole_term part part arguments (outers_of b h.closing left) here h.known refl part_is

    fresh : Within (Fresh next (min s.level l)) 0 new_value
    fresh = fresh_renewal s next (pattern x l ks)

    whole_is : under d new_closing term ≡ close (at_number x new_value) whole_term
    whole_is = closed_valued x new_value h.closing (tree d term.0) ∙ ap (λ t. close (at_number x new_value) (closed h.closing t)) (grown.same_terms term.0 h.whole)

    value_known : Within (Known (levels_with h.levels next (min s.level l)) (suc next)) 0 new_value
    value_known = within_more (Fresh next (min s.level l)) (Known (levels_with h.levels next (min s.level l)) (suc next)) 0 0 (fresh_known h.levels next (min s.level l)) (omega arith) new_value fresh

    no_side : nat_eq next s.id ≡ false
    no_side = let z = below in grind (arith, nat_tests)

    open_reading : IsOpenReading b bs next h.closing
    open_reading = record { reading = h.reading; shut = h.shut; still = h.still; unbound = h.unbound }

    renewed_once : IsOneBinding h.levels (levels_with h.levels next (min s.level l)) next (suc next) h.closing b d bs bs' x l new_value value.0
    renewed_once = fresh_once h.levels next (min s.level l) h.closing b d bs bs' x l new_value grown open_reading value types fresh variable.0 variable.1

    read_there : IsOpenReading d bs' (suc next) new_closing
    read_there = once_read h.levels (levels_with h.levels next (min s.level l)) next (suc next) h.closing b d bs bs' x l new_value value.0 renewed_once open_reading

    passed_there : Passed s (outer s.pair (under d new_closing term) ∷ []) (outers_of d new_closing left')
    passed_there =
        transport (λ t. Passed s (outer s.pair t ∷ []) (outers_of d new_closing left')) (sym whole_is)
        (transport (Passed s (outer s.pair (close (at_number x new_value) whole_term) ∷ []))
        (sym (ap (outers_of d new_closing) pushed ∙
        left_put b d h.closing x new_value (Fresh next (min s.level l)) (left ++ visit_at v q.whole ∷ []) grown fresh
        (All-weaker (IsVisitOf (length b.terms) s.pair) (λ a. a.term.0 < length b.terms) (λ a p. p.0) (left ++ visit_at v q.whole ∷ []) h.inside)))
        (passed_put s x new_value (renewal_stands s next (pattern x l ks) no_side) h.passed))

    pub renew_there : ((m : ℕ) (o : Option (List ℕ)) → pattern_of m l arguments ≡ Some o → o ≡ Some ks) → fits s (pattern x l ks) ≡ false → IsPruning s o most d bs' (suc next) term left' r
    renew_there p f = go h.turns refl h.rest
      where
        go : (n : ℕ) → n ≡ h.turns → prune n s next whole_term ≡ Some h.now → IsPruning s o most d bs' (suc next) term left' r
        go zero i e = absurd (cc)
        go (suc m) i e =
            let w = renewed_there m s next level 0 x l whole_term part part arguments ks (outers_of b h.closing left) h.now e here refl sees (p m) f in record {
              closing = new_closing;
              levels = levels_with h.levels next (min s.level l);
              turns = m;
              few = omega (arith, i, h.few);
              reading = read_there.reading;
              shut = read_there.shut;
              still = read_there.still;
              known = transport (Within (Known (levels_with h.levels next (min s.level l)) (suc next)) 0) (sym whole_is)
                  (within_fill (Known h.levels next) (Known (levels_with h.levels next (min s.level l)) (suc next)) (at_variables (at_number x new_value)) 0 (old_known h.levels next (min s.level l) x new_value value_known) whole_term h.known);
              unbound = read_there.unbound;
              whole = omega (arith, h.whole, grown.more_terms);
              inside = transport (All (IsVisitOf (length d.terms) s.pair)) (sym pushed) (visits_kept b d s.pair (left ++ visit_at v q.whole ∷ []) grown h.inside);
              passed = passed_there;
              now = w.behind;
              rest = ap (prune m s (suc next))
                  (whole_is ∙ sym (put_valued x l new_value 0 whole_term (within_more (Known h.levels next) (HasLevel x l) 0 0 (level_known h.levels next x l variable.1) (omega arith) whole_term h.known))) ∙ w.is;
              same = sym (ap (λ c. c.term) w.led) ∙ h.same;
              last = sym (ap (λ c. c.next) w.led) ∙ h.last;
              made = h.made ++ renewal s next (pattern x l ks) ∷ [];
              all = h.all ∙ ap (λ c. h.made ++ c.bindings) w.led ∙ sym (append_assoc h.made (renewal s next (pattern x l ks) ∷ []) w.behind.bindings);
              behind = put_then o.levels h.levels (levels_with h.levels next (min s.level l)) o.next next (suc next) o.closing h.closing new_closing o.bindings bs bs' h.made (renewal s next (pattern x l ks) ∷ []) h.behind
                  (once_put h.levels (levels_with h.levels next (min s.level l)) next (suc next) h.closing b d bs bs' x l new_value value.0 renewed_once);
            }

-- the visits of a variable
pub fit_prunes : (s : Side) (b d : Nodes) (bs : Bindings) (next x l : ℕ) (left : List Visit) (v : Visit) (q : Looked) (a : Arguments) → Extends b d → IsLooked b bs q → q.head ≡ Head.Variable x l →
    ((c : Closing) → IsReading b bs c → IsShut c → (m : ℕ) → IsPattern m l (map (read_at b c v.opened.level v.opened.depth) q.arguments.items) (Some a)) → fits s (pattern x l a.eigens.items) ≡ true →
    Prunes s b d bs bs next next (left ++ visit_at v q.whole ∷ []) left
fit_prunes s b d bs next x l left v q a e k g p f i o most term r h =
    pruning_kept s o most b d bs next term left r e (fit_there s o most b bs next x l left v q k g term r h a.eigens.items (λ m. p h.closing h.reading h.shut m) f)

pub open_prunes : (s : Side) (b d : Nodes) (bs : Bindings) (next x l : ℕ) (left : List Visit) (v : Visit) (q : Looked) → Extends b d → IsLooked b bs q → q.head ≡ Head.Variable x l →
    ((c : Closing) → IsReading b bs c → IsShut c → (m : ℕ) → IsPattern m l (map (read_at b c v.opened.level v.opened.depth) q.arguments.items) None) → Prunes s b d bs bs next next (left ++ visit_at v q.whole ∷ []) left
open_prunes s b d bs next x l left v q e k g p i o most term r h =
    pruning_kept s o most b d bs next term left r e (open_there s o most b bs next x l left v q k g term r h (λ m. p h.closing h.reading h.shut m))

pub renew_prunes : (s : Side) (b d : Nodes) (bs bs' : Bindings) (next next' x l : ℕ) (left left' : List Visit) (v : Visit) (q : Looked) (a : Arguments) → Extends b d → IsLooked b bs q → q.head ≡ Head.Variable x l →
    ((c : Closing) → IsReading b bs c → IsShut c → (m : ℕ) → IsPattern m l (map (read_at b c v.opened.level v.opened.depth) q.arguments.items) (Some a)) → fits s (pattern x l a.eigens.items) ≡ false → next' ≡ suc next →
    Binds d bs bs' x (renewal s next (pattern x l a.eigens.items)).value → bs'.types ≡ bs.types → left' ≡ left ++ visit_at v q.whole ∷ [] → Prunes s b d bs bs' next next' (left ++ visit_at v q.whole ∷ []) left'
renew_prunes s b d bs bs' next next' x l left left' v q a e k g p f n w t z i o most term r h =
    transport (λ j. IsPruning s o most d bs' j term left' r) (sym n)
    (renew_there s o most b bs next x l left v q k g term r h d bs' left' a.eigens.items e i w t z (λ m. p h.closing h.reading h.shut m) f)

pub prunes_then : (s : Side) (b d f : Nodes) (bs bs' bs'' : Bindings) (next next' next'' : ℕ) (left left' left'' : List Visit) → next ≤ next' → Prunes s b d bs bs' next next' left left' → Prunes s d f bs' bs'' next' next'' left' left'' →
    Prunes s b f bs bs'' next next'' left left''
prunes_then s b d f bs bs' bs'' next next' next'' left left' left'' l g k i o most term r h = k (omega (arith, i, l)) o most term r (g i o most term r h)

-- the start
pub pruning_starts : (s : Side) (b : Nodes) (bs : Bindings) (next : ℕ) (term : TermId) (left : List Visit) (v : Visit) (c : Closing) (levels : ℕ → ℕ) (n : ℕ) (r : Pruned) → left ≡ v ∷ [] → v.term ≡ term → v.opened.level ≡ s.pair → v.opened.depth ≡ 0 →
    term.0 < length b.terms → IsOpenReading b bs next c → Within (Known levels next) 0 (under b c term) → prune n s next (under b c term) ≡ Some r →
    IsPruning s (record { closing = c; levels = levels; next = next; bindings = bs }) n b bs next term left r
pruning_starts s b bs next term left v c levels n r z t x y i h w e = record {
  closing = c;
  levels = levels;
  turns = n;
  few = omega arith;
  reading = h.reading;
  shut = h.shut;
  still = h.still;
  known = w;
  unbound = h.unbound;
  whole = i;
  inside = transport (All (IsVisitOf (length b.terms) s.pair)) (sym z) (All-cons (IsVisitOf (length b.terms) s.pair) v [] (transport (λ a. a.0 < length b.terms) (sym t) i, x) (All-nil (IsVisitOf (length b.terms) s.pair)));
  passed = transport (Passed s (outer s.pair (under b c term) ∷ [])) (sym (ap (outers_of b c) z ∙ (λ j. outer (last_is j) (term_is j) ∷ []))) pass_none;
  now = r;
  rest = e;
  same = refl;
  last = refl;
  made = [];
  all = refl;
  behind = put_none levels next c bs;
}
  where
    last_is : v.opened.level + v.opened.depth ≡ s.pair
    last_is = omega (arith, x, y)

    term_is : read_at b c v.opened.level v.opened.depth v.term ≡ under b c term
    term_is = (λ j. read_at b c v.opened.level (y j) (t j)) ∙ read_none b c v.opened.level term

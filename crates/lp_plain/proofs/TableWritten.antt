-- What the goals and clauses of a table are is written, where the table's are.
use Rattle.std.proofs.Common.{◌≡◌, ℕ, zero, suc, ◌+◌, ◌-◌, ◌<◌, ◌≤◌, Bool, true, false, List, [], ◌∷◌, ◌++◌, map, length, refl, sym, ◌∙◌, subst, arith, nat_lt, if◌then◌else◌, Some, inl, inr}
use Rattle.std.specs.Prelude.{All, slice_get}
use Rattle.std.proofs.lemmas.Bool.{ltb-true}
use Rattle.std.proofs.lemmas.Bool.Decides.{nat_tests}
use Rattle.lp_lemmas.proofs.Booleans.{and_true_left}
use Rattle.std.proofs.lemmas.List.Elements.{All-head, All-tail}
use Rattle.lp_calculus.specs.Term.{Term, index, atom, abs, app, constant, integer, text, eigen, logic, param}
use Rattle.lp_calculus.specs.Spine.{arguments, arguments_and, head_of}
use Rattle.lp_calculus.specs.Types.{Ty}
use Rattle.lp_term.specs.Nodes.{Nodes, tree}
use Rattle.lp_term.specs.declared.node.TermId.{TermId}
use Rattle.lp_model.specs.Flat.{Written, Goal, Atomic, Cut, Either, Exists, Forall, Assume, Not, Goals, no_goals, goals, Clause, clause, Clauses, no_clauses, clauses, collect_goal, collect_goals, collect_clauses, loose_in, under_all, written_in_clauses, written_in_goals}
use Rattle.lp_plain.specs.declared.head.HeadPair.{HeadPair}
use Rattle.lp_plain.specs.declared.table.Flat.{Flat}
use Rattle.lp_plain.specs.declared.table.Rule.{Rule}
use Rattle.lp_plain.specs.declared.table.Span.{Span}
use Rattle.lp_plain.specs.Heads.{is_first, pair_in, pair_places}
use Rattle.lp_plain.specs.Resuming.{AllTerms, AllOfGoal, AllOfGoals, AllOfClause, AllOfClauses}
use Rattle.lp_plain.specs.Tables.{AreGoals, AreRules, IsGoal, IsHeadOf, IsList, IsRule, Never, Shown}
use Rattle.lp_plain.specs.Written.{IsWritten}
use Rattle.lp_plain.specs.WrittenTable.{IsWrittenHead, WrittenFlat, WrittenGoals, WrittenList, WrittenRule, WrittenRules, a_choice, a_cut, a_goal, a_list, a_not, a_rule, a_some, an_all, an_assume, an_atom, more_rules, no_goal, no_rule, own_and}
use Rattle.lp_plain.proofs.OwnValues.{one_read}
use Rattle.lp_plain.proofs.TrialParts.{AllAre}

-- how many binders there are
pub own_many : (n : ℕ) (bs : List Bool) → length (own_and n bs) ≡ n + length bs
own_many zero bs = omega arith
own_many (suc n) bs = let q = own_many n bs in omega (arith, q)

-- what is written in goals: the loose indices are below the depth

abbrev AllBelow : ℕ → List ℕ → Type 0
AllBelow d [] = Unit {0}
AllBelow d (i ∷ is) = (i < d) × AllBelow d is

both_below : (d : ℕ) (is js : List ℕ) → AllBelow d is → AllBelow d js → AllBelow d (is ++ js)
both_below d [] js h k = k
both_below d (i ∷ is) js h k = (h.0, both_below d is js h.1 k)

under_suc : (vs : List Ty) (e : ℕ) → under_all suc vs e ≡ length vs + e
under_suc [] e = omega arith
under_suc (v ∷ vs) e = let q = under_suc vs e in omega (arith, q)

module _ (ar : ℕ → ℕ) (k d : ℕ) where
  loose_below : (e n : ℕ) → n ≡ e + d → (t : Term) → IsWritten ar k n t → AllBelow d (loose_in e t)
  loose_below e n q (index i) w = go (nat_lt i e) refl
    where
      go : (b : Bool) → nat_lt i e ≡ b → AllBelow d (if b then [] else (i - e) ∷ [])
      go true p = tt
      go false p = ((let l : i < n = w in let m : e ≤ i = grind (arith, nat_tests, p) in omega (arith, q, l, m)), tt)
  loose_below e n q (atom a) w = tt
  loose_below e n q (abs b) w = loose_below (suc e) (suc n) (omega (arith, q)) b w
  loose_below e n q (app t u) w = both_below d (loose_in e t) (loose_in e u) (loose_below e n q t w.0) (loose_below e n q u w.1)

  mutual
    goal_below : (e n : ℕ) → n ≡ e + d → (g : Goal) → AllOfGoal (IsWritten ar k) n g → AllBelow d (collect_goal loose_in e g)
    goal_below e n q (Atomic t) w = loose_below e n q t w
    goal_below e n q Cut w = tt
    goal_below e n q (Either gs hs) w = both_below d (collect_goals loose_in e gs) (collect_goals loose_in e hs) (goals_below e n q gs w.0) (goals_below e n q hs w.1)
    goal_below e n q (Exists T gs) w = goals_below (suc e) (suc n) (omega (arith, q)) gs w
    goal_below e n q (Forall T gs) w = goals_below (suc e) (suc n) (omega (arith, q)) gs w
    goal_below e n q (Assume v cs gs) w = both_below d (collect_clauses loose_in e cs) (collect_goals loose_in e gs) (clauses_below e n q cs w.1) (goals_below e n q gs w.2)
    goal_below e n q (Not v gs) w = goals_below e n q gs w.1

    goals_below : (e n : ℕ) → n ≡ e + d → (gs : Goals) → AllOfGoals (IsWritten ar k) n gs → AllBelow d (collect_goals loose_in e gs)
    goals_below e n q no_goals w = tt
    goals_below e n q (goals g gs) w = both_below d (collect_goal loose_in e g) (collect_goals loose_in e gs) (goal_below e n q g w.0) (goals_below e n q gs w.1)

    clauses_below : (e n : ℕ) → n ≡ e + d → (cs : Clauses) → AllOfClauses (IsWritten ar k) n cs → AllBelow d (collect_clauses loose_in e cs)
    clauses_below e n q no_clauses w = tt
    clauses_below e n q (clauses (clause j vs h b) cs) w =
        let p : length vs + n ≡ under_all suc vs e + d = (let r = under_suc vs e in omega (arith, q, r)) in
        both_below d (loose_in (under_all suc vs e) h ++ collect_goals loose_in (under_all suc vs e) b) (collect_clauses loose_in e cs)
        (both_below d (loose_in (under_all suc vs e) h) (collect_goals loose_in (under_all suc vs e) b)
        (loose_below (under_all suc vs e) (length vs + n) p h w.0.0) (goals_below (under_all suc vs e) (length vs + n) p b w.0.1))
        (clauses_below e n q cs w.1)

  indices_written : (is : List ℕ) → AllBelow d is → AllTerms (IsWritten ar k) d (map index is)
  indices_written [] h = tt
  indices_written (i ∷ is) h = (h.0, indices_written is h.1)

  said_of_clauses : (v : Written) (cs : Clauses) → v ≡ written_in_clauses cs → AllOfClauses (IsWritten ar k) d cs → AllTerms (IsWritten ar k) d v.terms
  said_of_clauses v cs e w = subst (λ x. AllTerms (IsWritten ar k) d x.terms) (sym e) (indices_written (collect_clauses loose_in 0 cs) (clauses_below 0 d (omega arith) cs w))

  said_of_goals : (v : Written) (gs : Goals) → v ≡ written_in_goals gs → AllOfGoals (IsWritten ar k) d gs → AllTerms (IsWritten ar k) d v.terms
  said_of_goals v gs e w = subst (λ x. AllTerms (IsWritten ar k) d x.terms) (sym e) (indices_written (collect_goals loose_in 0 gs) (goals_below 0 d (omega arith) gs w))

-- the head of a clause

first_written : (ar : ℕ → ℕ) (k n d : ℕ) (h : Term) (es : List Term) → is_first n h es ≡ true → IsWritten ar k (n + d) h
first_written ar k n d (index i) es e = let l = ltb-true i n (and_true_left (nat_lt i n) _ e) in omega (arith, l)
first_written ar k n d (atom a) es e = absurd (cc)
first_written ar k n d (abs b) es e = absurd (cc)
first_written ar k n d (app t u) es e = absurd (cc)

abbrev pub AllPairs : (Term → Type 0) → List (ℕ × Term) → Type 0
AllPairs Q [] = Unit {0}
AllPairs Q (p ∷ ps) = Q p.1 × AllPairs Q ps

places_written : (ar : ℕ → ℕ) (k n d p : ℕ) (es hs : List Term) → AllPairs (IsWritten ar k (n + d)) (pair_places n p es hs) → AllAre (IsWritten ar k (n + d)) hs
places_written ar k n d p es [] w = tt
places_written ar k n d p es (h ∷ hs) w = go (is_first n h es) refl (λ v. places_written ar k n d (suc p) (h ∷ es) hs v) w
  where
    go : (b : Bool) → is_first n h es ≡ b → (AllPairs (IsWritten ar k (n + d)) (pair_places n (suc p) (h ∷ es) hs) → AllAre (IsWritten ar k (n + d)) hs) →
        AllPairs (IsWritten ar k (n + d)) ((if b then [] else (p, h) ∷ []) ++ pair_places n (suc p) (h ∷ es) hs) → AllAre (IsWritten ar k (n + d)) (h ∷ hs)
    go true e f v = (first_written ar k n d h es e, f v)
    go false e f v = (v.0, f v.1)

pairs_written : (b : Nodes) (ar : ℕ → ℕ) (k n : ℕ) (ps : List HeadPair) → All (λ p. IsWritten ar k n (tree b p.term.0)) ps → AllPairs (IsWritten ar k n) (map (pair_in b) ps)
pairs_written b ar k n [] a = tt
pairs_written b ar k n (p ∷ ps) a = (
  All-head (λ (p : HeadPair). IsWritten ar k n (tree b p.term.0)) p ps a,
  pairs_written b ar k n ps
      (All-tail (λ (p : HeadPair). IsWritten ar k n (tree b p.term.0)) p ps a),
)

spine_written : (ar : ℕ → ℕ) (k n : ℕ) (h : Term) (more : List Term) → IsWritten ar k n (head_of h) → AllAre (IsWritten ar k n) (arguments_and h more)
    → IsWritten ar k n h × AllAre (IsWritten ar k n) more
spine_written ar k n (index i) more w a = (w, a)
spine_written ar k n (atom x) more w a = (w, a)
spine_written ar k n (abs b) more w a = (w, a)
spine_written ar k n (app f t) more w a = let r = spine_written ar k n f (t ∷ more) w a in ((r.0, r.1.0), r.1.1)

pub got_below : (bs : List Bool) (i : ℕ) (x : Bool) → slice_get bs i ≡ Some x → i < length bs
got_below [] i x e = absurd (cc)
got_below (b ∷ bs) zero x e = omega arith
got_below (b ∷ bs) (suc i) x e = let q = got_below bs i x e in omega (arith, q)

head_written : (ar : ℕ → ℕ) (k n : ℕ) (bs : List Bool) (t : Term) → IsWrittenHead ar k n bs t → IsWritten ar k (n + length bs) t
head_written ar k n bs (index i) w = let l = got_below bs (i - n) true w.1 in let m = w.0 in omega (arith, l, m)
head_written ar k n bs (atom (constant c ts)) w = w
head_written ar k n bs (atom (integer z)) w = absurd w
head_written ar k n bs (atom (text s)) w = absurd w
head_written ar k n bs (atom (eigen j)) w = absurd w
head_written ar k n bs (atom (logic x l)) w = absurd w
head_written ar k n bs (atom (param j t)) w = absurd w
head_written ar k n bs (abs b) w = absurd w
head_written ar k n bs (app t u) w = absurd w

pub whole_head : (b : Nodes) (ar : ℕ → ℕ) (k n : ℕ) (bs : List Bool) (r : Rule) (h : Term) → IsHeadOf b n r h → IsWrittenHead ar k n bs
    (tree b r.head.0) → All (λ p. IsWritten ar k (n + length bs) (tree b p.term.0)) r.pairs.items → IsWritten ar k (n + length bs) h
whole_head b ar k n bs r h H w a =
    (spine_written ar k (n + length bs) h [] (head_written ar k n bs (head_of h) (subst (IsWrittenHead ar k n bs) H.head w))
    (places_written ar k n (length bs) 0 [] (arguments h) (subst (AllPairs (IsWritten ar k (n + length bs))) H.pairs (pairs_written b ar k (n + length bs) r.pairs.items a)))).0

-- from the first to behind the last
goals_bound : (b : Nodes) (t : Shown) (from to : ℕ) (gs : Goals) → AreGoals b Never t from to gs → from ≤ to
goals_bound b t from to no_goals h = omega (arith, h)
goals_bound b t from to (goals g gs) h = let q = goals_bound b t (suc from) to gs h.3 in omega (arith, q)

rules_bound : (b : Nodes) (t : Shown) (from to : ℕ) (cs : Clauses) → AreRules b Never t from to cs → from ≤ to
rules_bound b t from to no_clauses h = omega (arith, h)
rules_bound b t from to (clauses c cs) h = let q = rules_bound b t (suc from) to cs h.1 in omega (arith, q)

module _ (b : Nodes) (t : Shown) (ar : ℕ → ℕ) (k : ℕ) where
  pub atom_of : {bs : List Bool} {f : Flat} → WrittenFlat b t ar k bs f → (i : TermId) → f ≡ Flat.Atom i → IsWritten ar k (length bs) (tree b i.0)
  atom_of {bs} (an_atom u e h) i q = subst (λ (x : TermId). IsWritten ar k (length bs) (tree b x.0)) (let z : Flat.Atom u ≡ Flat.Atom i = sym e ∙ q in cc) h
  atom_of {bs} (a_cut e) i q = absurd (let z : Flat.Atom i ≡ _ = sym q ∙ e in cc)
  atom_of {bs} (a_choice l r e h j) i q = absurd (let z : Flat.Atom i ≡ _ = sym q ∙ e in cc)
  atom_of {bs} (a_some l e h) i q = absurd (let z : Flat.Atom i ≡ _ = sym q ∙ e in cc)
  atom_of {bs} (an_all l e h) i q = absurd (let z : Flat.Atom i ≡ _ = sym q ∙ e in cc)
  atom_of {bs} (an_assume s l n e h j) i q = absurd (let z : Flat.Atom i ≡ _ = sym q ∙ e in cc)
  atom_of {bs} (a_not l n e h) i q = absurd (let z : Flat.Atom i ≡ _ = sym q ∙ e in cc)

  pub sides_of : {bs : List Bool} {f : Flat} → WrittenFlat b t ar k bs f → (x y : ℕ) → f ≡ Flat.Either x y → WrittenList b t ar k bs x × WrittenList b t ar k bs y
  sides_of {bs} (an_atom u e h) x y q = absurd (let z : Flat.Either x y ≡ _ = sym q ∙ e in cc)
  sides_of {bs} (a_cut e) x y q = absurd (let z : Flat.Either x y ≡ _ = sym q ∙ e in cc)
  sides_of {bs} (a_choice l r e h j) x y q = (let z : Flat.Either l r ≡ Flat.Either x y = sym e ∙ q in let p : l ≡ x = cc in let o : r ≡ y = cc in
      (subst (λ (i : ℕ). WrittenList b t ar k bs i) p h, subst (λ (i : ℕ). WrittenList b t ar k bs i) o j))
  sides_of {bs} (a_some l e h) x y q = absurd (let z : Flat.Either x y ≡ _ = sym q ∙ e in cc)
  sides_of {bs} (an_all l e h) x y q = absurd (let z : Flat.Either x y ≡ _ = sym q ∙ e in cc)
  sides_of {bs} (an_assume s l n e h j) x y q = absurd (let z : Flat.Either x y ≡ _ = sym q ∙ e in cc)
  sides_of {bs} (a_not l n e h) x y q = absurd (let z : Flat.Either x y ≡ _ = sym q ∙ e in cc)

  pub some_of : {bs : List Bool} {f : Flat} → WrittenFlat b t ar k bs f → (x : ℕ) → f ≡ Flat.Some x → WrittenList b t ar k (false ∷ bs) x
  some_of {bs} (an_atom u e h) x q = absurd (let z : Flat.Some x ≡ _ = sym q ∙ e in cc)
  some_of {bs} (a_cut e) x q = absurd (let z : Flat.Some x ≡ _ = sym q ∙ e in cc)
  some_of {bs} (a_choice l r e h j) x q = absurd (let z : Flat.Some x ≡ _ = sym q ∙ e in cc)
  some_of {bs} (a_some l e h) x q = (let z : Flat.Some l ≡ Flat.Some x = sym e ∙ q in let p : l ≡ x = cc in subst (λ (i : ℕ). WrittenList b t ar k (false ∷ bs) i) p h)
  some_of {bs} (an_all l e h) x q = absurd (let z : Flat.Some x ≡ _ = sym q ∙ e in cc)
  some_of {bs} (an_assume s l n e h j) x q = absurd (let z : Flat.Some x ≡ _ = sym q ∙ e in cc)
  some_of {bs} (a_not l n e h) x q = absurd (let z : Flat.Some x ≡ _ = sym q ∙ e in cc)

  pub all_of : {bs : List Bool} {f : Flat} → WrittenFlat b t ar k bs f → (x : ℕ) → f ≡ Flat.All x → WrittenList b t ar k (true ∷ bs) x
  all_of {bs} (an_atom u e h) x q = absurd (let z : Flat.All x ≡ _ = sym q ∙ e in cc)
  all_of {bs} (a_cut e) x q = absurd (let z : Flat.All x ≡ _ = sym q ∙ e in cc)
  all_of {bs} (a_choice l r e h j) x q = absurd (let z : Flat.All x ≡ _ = sym q ∙ e in cc)
  all_of {bs} (a_some l e h) x q = absurd (let z : Flat.All x ≡ _ = sym q ∙ e in cc)
  all_of {bs} (an_all l e h) x q = (let z : Flat.All l ≡ Flat.All x = sym e ∙ q in let p : l ≡ x = cc in subst (λ (i : ℕ). WrittenList b t ar k (true ∷ bs) i) p h)
  all_of {bs} (an_assume s l n e h j) x q = absurd (let z : Flat.All x ≡ _ = sym q ∙ e in cc)
  all_of {bs} (a_not l n e h) x q = absurd (let z : Flat.All x ≡ _ = sym q ∙ e in cc)

  pub assumed_of : {bs : List Bool} {f : Flat} → WrittenFlat b t ar k bs f → (x : Span) (y v : ℕ) → f ≡ Flat.Assume x y v → WrittenRules b t ar k bs x.from x.to × WrittenList b t ar k bs y
  assumed_of {bs} (an_atom u e h) x y v q = absurd (let z : Flat.Assume x y v ≡ _ = sym q ∙ e in cc)
  assumed_of {bs} (a_cut e) x y v q = absurd (let z : Flat.Assume x y v ≡ _ = sym q ∙ e in cc)
  assumed_of {bs} (a_choice l r e h j) x y v q = absurd (let z : Flat.Assume x y v ≡ _ = sym q ∙ e in cc)
  assumed_of {bs} (a_some l e h) x y v q = absurd (let z : Flat.Assume x y v ≡ _ = sym q ∙ e in cc)
  assumed_of {bs} (an_all l e h) x y v q = absurd (let z : Flat.Assume x y v ≡ _ = sym q ∙ e in cc)
  assumed_of {bs} (an_assume s l n e h j) x y v q = (let z : Flat.Assume s l n ≡ Flat.Assume x y v = sym e ∙ q in let p : s ≡ x = cc in let o : l ≡
      y = cc in (subst (λ (i : Span). WrittenRules b t ar k bs i.from i.to) p h, subst (λ (i : ℕ). WrittenList b t ar k bs i) o j))
  assumed_of {bs} (a_not l n e h) x y v q = absurd (let z : Flat.Assume x y v ≡ _ = sym q ∙ e in cc)

  pub denied_of : {bs : List Bool} {f : Flat} → WrittenFlat b t ar k bs f → (x y : ℕ) → f ≡ Flat.Not x y → WrittenList b t ar k bs x
  denied_of {bs} (an_atom u e h) x y q = absurd (let z : Flat.Not x y ≡ _ = sym q ∙ e in cc)
  denied_of {bs} (a_cut e) x y q = absurd (let z : Flat.Not x y ≡ _ = sym q ∙ e in cc)
  denied_of {bs} (a_choice l r e h j) x y q = absurd (let z : Flat.Not x y ≡ _ = sym q ∙ e in cc)
  denied_of {bs} (a_some l e h) x y q = absurd (let z : Flat.Not x y ≡ _ = sym q ∙ e in cc)
  denied_of {bs} (an_all l e h) x y q = absurd (let z : Flat.Not x y ≡ _ = sym q ∙ e in cc)
  denied_of {bs} (an_assume s l n e h j) x y q = absurd (let z : Flat.Not x y ≡ _ = sym q ∙ e in cc)
  denied_of {bs} (a_not l n e h) x y q = (let z : Flat.Not l n ≡ Flat.Not x y = sym e ∙ q in let p : l ≡ x = cc in subst (λ (i : ℕ). WrittenList b t ar k bs i) p h)

  -- a list that is written is there
  pub list_span : (bs : List Bool) (n : ℕ) → WrittenList b t ar k bs n → (s : Span) × (slice_get t.lists n ≡ Some s)
  list_span bs n (a_list s e g) = (s, e)

  -- the goals of a list, the first of some goals and the others, a clause of some and the others
  pub list_goals : (bs : List Bool) (n : ℕ) (s : Span) → WrittenList b t ar k bs n → slice_get t.lists n ≡ Some s → WrittenGoals b t ar k bs s.from s.to
  list_goals bs n s (a_list x e w) q = subst (λ i. WrittenGoals b t ar k bs i.from i.to) (one_read t.lists n x s e q) w

  pub first_of : (bs : List Bool) (from to : ℕ) (f : Flat) → WrittenGoals b t ar k bs from to → slice_get t.goals from ≡ Some f → suc from ≤ to →
      WrittenFlat b t ar k bs f × WrittenGoals b t ar k bs (suc from) to
  first_of bs from to f (no_goal e) q l = absurd (omega (arith, e, l))
  first_of bs from to f (a_goal x e w ws) q l = (subst (WrittenFlat b t ar k bs) (one_read t.goals from x f e q) w, ws)

  pub first_rule_of : (bs : List Bool) (from to : ℕ) → WrittenRules b t ar k bs from to → suc from ≤ to →
      ((r : Rule) × (slice_get t.rules from ≡ Some r) × (r.type_vars ≡ 0)) × WrittenRule b t ar k bs from × WrittenRules b t ar k bs (suc from) to
  first_rule_of bs from to (no_rule e) l = absurd (omega (arith, e, l))
  first_rule_of bs from to (more_rules r e z w ws) l = ((r, e, z), w, ws)

  listed_is : (bs : List Bool) (n : ℕ) (gs : Goals) → ((from to : ℕ) → WrittenGoals b t ar k bs from to → AreGoals b Never t from to gs → AllOfGoals (IsWritten ar k) (length bs) gs) →
      WrittenList b t ar k bs n → IsList b Never t n gs → AllOfGoals (IsWritten ar k) (length bs) gs
  listed_is bs n gs f w (inl h) = absurd h
  listed_is bs n gs f w (inr h) = f h.0.from h.0.to (list_goals bs n h.0 w h.1) h.2

  mutual
    goal_is : (bs : List Bool) (f : Flat) (g : Goal) → WrittenFlat b t ar k bs f → IsGoal b Never t f g → AllOfGoal (IsWritten ar k) (length bs) g
    goal_is bs f (Atomic u) w h = subst (IsWritten ar k (length bs)) h.2 (atom_of w h.0 h.1)
    goal_is bs f Cut w h = tt
    goal_is bs f (Either gs hs) w h = let s = sides_of w h.0 h.1 h.2 in (listed_is bs h.0 gs (λ i j. goals_are bs i j gs) s.0 h.3, listed_is bs h.1 hs (λ i j. goals_are bs i j hs) s.1 h.4)
    goal_is bs f (Exists T gs) w h = listed_is (false ∷ bs) h.0 gs (λ i j. goals_are (false ∷ bs) i j gs) (some_of w h.0 h.1) h.2
    goal_is bs f (Forall T gs) w h = listed_is (true ∷ bs) h.0 gs (λ i j. goals_are (true ∷ bs) i j gs) (all_of w h.0 h.1) h.2
    goal_is bs f (Assume v cs gs) w h =
        let s = assumed_of w h.0 h.1 h.2 h.3 in
        let c = rules_are bs h.0.from h.0.to cs s.0 h.5 in
        (said_of_clauses ar k (length bs) v cs h.4 c, c, listed_is bs h.1 gs (λ i j. goals_are bs i j gs) s.1 h.6)
    goal_is bs f (Not v gs) w h =
        let g = listed_is bs h.0 gs (λ i j. goals_are bs i j gs) (denied_of w h.0 h.1 h.2) h.4 in
        (said_of_goals ar k (length bs) v gs h.3 g, g)

    pub goals_are : (bs : List Bool) (from to : ℕ) (gs : Goals) → WrittenGoals b t ar k bs from to → AreGoals b Never t from to gs → AllOfGoals (IsWritten ar k) (length bs) gs
    goals_are bs from to no_goals w h = tt
    goals_are bs from to (goals g gs) w h =
        let s = first_of bs from to h.0 w h.1 (goals_bound b t (suc from) to gs h.3) in
        (goal_is bs h.0 g s.0 h.2, goals_are bs (suc from) to gs s.1 h.3)

    pub rule_is : (bs : List Bool) (i : ℕ) (c : Clause) → WrittenRule b t ar k bs i → IsRule b Never t i c → AllOfClause (IsWritten ar k) (length bs) c
    rule_is bs i (clause n vs h body) (a_rule x e wh wp wl) q =
        let r = q.0 in
        let same = one_read t.rules i x r e q.1 in
        let many : length r.slots.items ≡ length vs = q.3.count in
        let hd = subst (λ j. IsWrittenHead ar k j bs (tree b r.head.0)) many (subst (λ y. IsWrittenHead ar k (length y.slots.items) bs (tree b y.head.0)) same wh) in
        let ps = subst (λ j. All (λ p. IsWritten ar k (j + length bs) (tree b p.term.0)) r.pairs.items) many
        (subst (λ y. All (λ p. IsWritten ar k (length y.slots.items + length bs) (tree b p.term.0)) y.pairs.items) same wp) in
        let wb = subst (λ j. WrittenList b t ar k (own_and j bs) r.body) many (subst (λ y. WrittenList b t ar k (own_and (length y.slots.items) bs) y.body) same wl) in (
          whole_head b ar k (length vs) bs r h q.3 hd ps,
          subst (λ j. AllOfGoals (IsWritten ar k) j body) (own_many (length vs) bs)
              (listed_is (own_and (length vs) bs) r.body body (λ i j. goals_are (own_and (length vs) bs) i j body) wb q.4),
        )

    rules_are : (bs : List Bool) (from to : ℕ) (cs : Clauses) → WrittenRules b t ar k bs from to → AreRules b Never t from to cs → AllOfClauses (IsWritten ar k) (length bs) cs
    rules_are bs from to no_clauses w h = tt
    rules_are bs from to (clauses c cs) w h =
        let s = first_rule_of bs from to w (rules_bound b t (suc from) to cs h.1) in
        (rule_is bs from c s.1 h.0, rules_are bs (suc from) to cs s.2 h.1)

-- What the numbers of a table mean they mean in a table that has grown, and when lists that were to come have their goals.
use Rattle.std.proofs.Common.{◌≡◌, ℕ, zero, suc, ◌+◌, ◌-◌, ◌<◌, ◌≤◌, List, [], ◌∷◌, ◌++◌, map, length, take, drop, inl, inr, refl, sym, ap, ◌∙◌, subst, arith, append-nil, append_assoc, Some, None, Bor, Vec, Global, add-one, get_or}
use Rattle.std.specs.Prelude.{slice_get, set}
use Rattle.std.proofs.Math.Seq.{take-append_seam}
use Rattle.std.proofs.lemmas.List.{length-append, length-take-le, length-drop, length-set, take_all, drop_all, drop-append-le}
use Rattle.lp_lemmas.proofs.Lists.{get_append, get_push}
use Rattle.lp_calculus.specs.Types.{Ty}
use Rattle.lp_calculus.specs.Term.{Term, apply}
use Rattle.lp_term.specs.Nodes.{Nodes, tree}
use Rattle.lp_term.specs.Spine.{IsNoApplication}
use Rattle.lp_term.specs.declared.node.TermId.{TermId}
use Rattle.lp_model.specs.declared.clause.Goal.{Goal as CodeGoal}
use Rattle.lp_model.specs.declared.clause.Clause.{Clause as CodeClause}
use Rattle.lp_model.specs.Flat.{Goal, Atomic, Cut, Either, Exists, Forall, Assume, Not, Goals, no_goals, goals, Clause, clause, Clauses, no_clauses, clauses, assuming, denied, collect_goals, collect_clauses}
use Rattle.lp_model.specs.Search.{first_key}
use Rattle.lp_model.specs.Flattened.{goal_of, goals_of, clause_of, clauses_of}
use Rattle.lp_pattern.specs.Growing.{GoesOn}
use Rattle.lp_pattern.proofs.Keeps.{goes_on_same, goes_on_then}
use Rattle.lp_plain.specs.declared.free.Free.{Free}
use Rattle.lp_plain.specs.declared.table.Flat.{Flat}
use Rattle.lp_plain.specs.declared.table.Rule.{Rule}
use Rattle.lp_plain.specs.declared.table.Span.{Span}
use Rattle.lp_plain.specs.declared.table.Table.{Table}
use Rattle.lp_plain.specs.Collected.{AreCollected}
use Rattle.lp_plain.specs.Heads.{IsKey, slot_place, pair_places, pair_in, trees_of}
use Rattle.lp_plain.specs.Tables.{Shown, shown, IsHeadOf, IsNumbered, IsGoal, IsList, AreGoals, IsRule, AreRules, Never}
use Rattle.lp_plain.specs.inner.Looking.{weight_of_all}
use Rattle.lp_plain.specs.inner.Collecting.{goal_weight, goals_weight, clause_weight, clauses_weight}
use Rattle.lp_plain.specs.inner.Tabling.{Late, Meaning, Coming, up_to, unlisted, LeadsTo, list_weight, IsPut, AreFilled}
use Rattle.lp_plain.proofs.Looks.{weight_append}
use Rattle.lp_plain.proofs.Spines.{spine_head, spine_arguments}

pub got_on : {A : Type 0} (xs ys : List A) (i : ℕ) (x : A) → GoesOn xs ys → slice_get xs i ≡ Some x → slice_get ys i ≡ Some x
got_on xs ys i x g e = subst (λ l. slice_get l i ≡ Some x) (sym g.1) (get_append xs g.0 i x e)

numbered_on : (xs ys : List Free) (n : ℕ) (f : (ℕ → Term → List ℕ) → List ℕ) → GoesOn xs ys → IsNumbered xs n f → IsNumbered ys n f
numbered_on xs ys n f g e = (e.0, got_on xs ys n e.0 g e.1, e.2)

module _ (b : Nodes) (c c' : ℕ → Goals → Type 0) (t t' : Shown) (l : LeadsTo b c c' t t') where
  listed_on : (n : ℕ) (gs : Goals) → ((i j : ℕ) → AreGoals b c t i j gs → AreGoals b c' t' i j gs) → IsList b c t n gs → IsList b c' t' n gs
  listed_on n gs f (inl h) = l.comes n gs h
  listed_on n gs f (inr h) = inr (h.0, got_on t.lists t'.lists n h.0 l.lists h.1, f h.0.from h.0.to h.2)

  mutual
    pub goal_on : (f : Flat) (g : Goal) → IsGoal b c t f g → IsGoal b c' t' f g
    goal_on f (Atomic u) h = h
    goal_on f Cut h = h
    goal_on f (Either gs hs) h = (h.0, h.1, h.2, listed_on h.0 gs (λ i j. goals_on i j gs) h.3, listed_on h.1 hs (λ i j. goals_on i j hs) h.4)
    goal_on f (Exists T gs) h = (h.0, h.1, listed_on h.0 gs (λ i j. goals_on i j gs) h.2)
    goal_on f (Forall T gs) h = (h.0, h.1, listed_on h.0 gs (λ i j. goals_on i j gs) h.2)
    goal_on f (Assume w cs gs) h =
        (h.0, h.1, h.2, h.3, h.4, rules_on h.0.from h.0.to cs h.5, listed_on h.1 gs (λ i j. goals_on i j gs) h.6, numbered_on t.frees t'.frees h.2 (λ f. collect_clauses f 0 cs) l.frees h.7)
    goal_on f (Not w gs) h = (h.0, h.1, h.2, h.3, listed_on h.0 gs (λ i j. goals_on i j gs) h.4, numbered_on t.frees t'.frees h.1 (λ f. collect_goals f 0 gs) l.frees h.5)

    pub goals_on : (from to : ℕ) (gs : Goals) → AreGoals b c t from to gs → AreGoals b c' t' from to gs
    goals_on from to no_goals h = h
    goals_on from to (goals g gs) h = (h.0, got_on t.goals t'.goals from h.0 l.goals h.1, goal_on h.0 g h.2, goals_on (suc from) to gs h.3)

    pub rule_on : (i : ℕ) (k : Clause) → IsRule b c t i k → IsRule b c' t' i k
    rule_on i (clause n vs h body) r = (r.0, got_on t.rules t'.rules i r.0 l.rules r.1, r.2, r.3, listed_on r.0.body body (λ i j. goals_on i j body) r.4)

    pub rules_on : (from to : ℕ) (ks : Clauses) → AreRules b c t from to ks → AreRules b c' t' from to ks
    rules_on from to no_clauses h = h
    rules_on from to (clauses k ks) h = (rule_on from k h.0, rules_on (suc from) to ks h.1)

  pub list_on : (n : ℕ) (gs : Goals) → IsList b c t n gs → IsList b c' t' n gs
  list_on n gs = listed_on n gs (λ i j. goals_on i j gs)

pub leads_same : (b : Nodes) (c : ℕ → Goals → Type 0) (t : Shown) → LeadsTo b c c t t
leads_same b c t = record { goals = goes_on_same t.goals; lists = goes_on_same t.lists; rules = goes_on_same t.rules; frees = goes_on_same t.frees; comes = λ n gs h. inl h }

pub leads_then : (b : Nodes) (c d e : ℕ → Goals → Type 0) (t u v : Shown) → LeadsTo b c d t u → LeadsTo b d e u v → LeadsTo b c e t v
leads_then b c d e t u v p q = record {
  goals = goes_on_then t.goals u.goals v.goals p.goals q.goals;
  lists = goes_on_then t.lists u.lists v.lists p.lists q.lists;
  rules = goes_on_then t.rules u.rules v.rules p.rules q.rules;
  frees = goes_on_then t.frees u.frees v.frees p.frees q.frees;
  comes = λ n gs h. list_on b d e u v q n gs (p.comes n gs h);
}

-- the lists that are to come

got_behind : {A : Type 0} (xs ys : List A) (i k : ℕ) (x : A) → k ≡ length xs + i → slice_get ys i ≡ Some x → slice_get (xs ++ ys) k ≡ Some x
got_behind [] ys i k x h e = let q : k ≡ i = omega (arith, h) in subst (λ j. slice_get ys j ≡ Some x) (sym q) e
got_behind (z ∷ zs) ys i zero x h e = absurd (omega (arith, h))
got_behind (z ∷ zs) ys i (suc k) x h e = got_behind zs ys i k x (omega (arith, h)) e

coming_front : (b : Nodes) (from : ℕ) (ws more : Late) (n : ℕ) (gs : Goals) → Coming b from ws n gs → Coming b from (ws ++ more) n gs
coming_front b from ws more n gs h = (h.0, h.1, h.2, get_append ws more h.0 h.1 h.3, h.4)

coming_behind : (b : Nodes) (from at : ℕ) (ws more : Late) (n : ℕ) (gs : Goals) → at ≡ from + length ws → Coming b at more n gs → Coming b from (ws ++ more) n gs
coming_behind b from at ws more n gs e h = (length ws + h.0, h.1, (let q = h.2 in omega (arith, q, e)), got_behind ws more h.0 (length ws + h.0) h.1 refl h.3, h.4)

-- what is put

pub put_nothing : (b : Nodes) (t : Table) (l : Late) (w : ℕ) (S : Meaning) → 0 < w → S (Coming b (length t.lists.items) []) (unlisted t) → IsPut b t t l l w S
put_nothing b t l w S p s = record {
  more = [];
  spans = [];
  left = sym (append-nil l);
  lists = sym (append-nil t.lists.items);
  count = refl;
  goals = goes_on_same t.goals.items;
  rules = goes_on_same t.rules.items;
  frees = goes_on_same t.frees.items;
  lighter = p;
  means = s;
}

-- a list that is to come
pub put_list : (b : Nodes) (old new : Table) (l m : Late) (g : Bor (List CodeGoal)) (s : Span) → new.goals ≡ old.goals → new.rules ≡ old.rules → new.frees ≡ old.frees → new.lists.items ≡ old.lists.items ++ s ∷ [] → m ≡ l ++ g ∷ [] →
    (n : ℕ) → n ≡ length old.lists.items → IsPut b old new l m (suc (goals_weight (goals_of b g.now))) (λ c t. IsList b c t n (goals_of b g.now))
put_list b old new l m g s eg er ef el em n e = record {
  more = g ∷ [];
  spans = s ∷ [];
  left = em;
  lists = el;
  count = refl;
  goals = subst (λ v. GoesOn old.goals.items v.items) (sym eg) (goes_on_same old.goals.items);
  rules = subst (λ v. GoesOn old.rules.items v.items) (sym er) (goes_on_same old.rules.items);
  frees = subst (λ v. GoesOn old.frees.items v.items) (sym ef) (goes_on_same old.frees.items);
  lighter = (let z : weight_of_all (list_weight b) (g ∷ []) ≡ goals_weight (goals_of b g.now) + 0 = refl in omega (arith, z));
  means = inl (0, g, omega (arith, e), refl, refl);
}

-- one behind the other
pub put_then : (b : Nodes) (t0 t1 t2 : Table) (l0 l1 l2 : Late) (w1 w2 w : ℕ) (Q R S : Meaning) (p : IsPut b t0 t1 l0 l1 w1 Q) (q : IsPut b t1 t2 l1 l2 w2 R) → w1 + w2 ≤ suc w →
    ((c : ℕ → Goals → Type 0) (t : Shown) → LeadsTo b (Coming b (length t0.lists.items) p.more) c (unlisted t1) t → LeadsTo b (Coming b (length t1.lists.items) q.more) c (unlisted t2) t → t ≡ unlisted t2 → S c t) →
    IsPut b t0 t2 l0 l2 w S
put_then b t0 t1 t2 l0 l1 l2 w1 w2 w Q R S p q l h =
    let c0 = p.count in
    let e1 = ap length p.lists ∙ length-append t0.lists.items p.spans in
    let c : length (p.spans ++ q.spans) ≡ length (p.more ++ q.more) = length-append p.spans q.spans ∙ ap (λ n. n + length q.spans) p.count ∙ ap (λ n. length p.more + n) q.count ∙ sym (length-append p.more q.more) in
    record {
      more = p.more ++ q.more;
      spans = p.spans ++ q.spans;
      left = q.left ∙ ap (λ l. l ++ q.more) p.left ∙ append_assoc l0 p.more q.more;
      lists = q.lists ∙ ap (λ l. l ++ q.spans) p.lists ∙ append_assoc t0.lists.items p.spans q.spans;
      count = c;
      goals = goes_on_then t0.goals.items t1.goals.items t2.goals.items p.goals q.goals;
      rules = goes_on_then t0.rules.items t1.rules.items t2.rules.items p.rules q.rules;
      frees = goes_on_then t0.frees.items t1.frees.items t2.frees.items p.frees q.frees;
      lighter = (let z = weight_append (list_weight b) p.more q.more in let x = p.lighter in let y = q.lighter in omega (arith, z, x, y, l));
      means = h (Coming b (length t0.lists.items) (p.more ++ q.more)) (unlisted t2)
          (record { goals = q.goals; lists = goes_on_same []; rules = q.rules; frees = q.frees; comes = λ n gs k. inl (coming_front b (length t0.lists.items) p.more q.more n gs k) })
          (record {
            goals = goes_on_same t2.goals.items;
            lists = goes_on_same [];
            rules = goes_on_same t2.rules.items;
            frees = goes_on_same t2.frees.items;
            comes = λ n gs k. inl (coming_behind b (length t0.lists.items) (length t1.lists.items) p.more q.more n gs (omega (arith, e1, c0)) k);
          })
          refl;
    }

-- and goals, clauses and what is written behind it
pub put_behind : (b : Nodes) (t0 t1 t2 : Table) (l0 l1 : Late) (w v : ℕ) (Q S : Meaning) (p : IsPut b t0 t1 l0 l1 w Q) → t2.lists ≡ t1.lists → GoesOn t1.goals.items t2.goals.items → GoesOn t1.rules.items t2.rules.items →
    GoesOn t1.frees.items t2.frees.items → w ≤ v → (LeadsTo b (Coming b (length t0.lists.items) p.more) (Coming b (length t0.lists.items) p.more) (unlisted t1) (unlisted t2) → S (Coming b (length t0.lists.items) p.more) (unlisted t2)) → IsPut b t0 t2 l0 l1 v S
put_behind b t0 t1 t2 l0 l1 w v Q S p el eg er ef l h = record {
  more = p.more;
  spans = p.spans;
  left = p.left;
  lists = ap (λ v. v.items) el ∙ p.lists;
  count = p.count;
  goals = goes_on_then t0.goals.items t1.goals.items t2.goals.items p.goals eg;
  rules = goes_on_then t0.rules.items t1.rules.items t2.rules.items p.rules er;
  frees = goes_on_then t0.frees.items t1.frees.items t2.frees.items p.frees ef;
  lighter = (let x = p.lighter in omega (arith, x, l));
  means = h (record { goals = eg; lists = goes_on_same []; rules = er; frees = ef; comes = λ n gs k. inl k });
}

-- one goal, and one clause more

pub goals_more : (b : Nodes) (c : ℕ → Goals → Type 0) (t : Shown) (from at : ℕ) (gs : List CodeGoal) (g : CodeGoal) (f : Flat) → AreGoals b c t from at (goals_of b gs) → slice_get t.goals at ≡ Some f → IsGoal b c t f (goal_of b g) → AreGoals b c t from (suc at) (goals_of b (gs ++ g ∷ []))
goals_more b c t from at [] g f h e i = (f, subst (λ n. slice_get t.goals n ≡ Some f) (sym h) e, i, ap suc h)
goals_more b c t from at (x ∷ gs) g f h e i = (h.0, h.1, h.2, goals_more b c t (suc from) at gs g f h.3 e i)

pub goals_weigh_more : (b : Nodes) (gs : List CodeGoal) (g : CodeGoal) → goals_weight (goals_of b (gs ++ g ∷ [])) ≡ goals_weight (goals_of b gs) + goal_weight (goal_of b g)
goals_weigh_more b [] g = omega arith
goals_weigh_more b (x ∷ gs) g = let e = goals_weigh_more b gs g in omega (arith, e)

pub rules_more : (b : Nodes) (c : ℕ → Goals → Type 0) (t : Shown) (from at : ℕ) (ks : List CodeClause) (k : CodeClause) → AreRules b c t from at (clauses_of b ks) → IsRule b c t at (clause_of b k) → AreRules b c t from (suc at) (clauses_of b (ks ++ k ∷ []))
rules_more b c t from at [] k h i = (subst (λ n. IsRule b c t n (clause_of b k)) (sym h) i, ap suc h)
rules_more b c t from at (x ∷ ks) k h i = (h.0, rules_more b c t (suc from) at ks k h.1 i)

pub clauses_weigh_more : (b : Nodes) (ks : List CodeClause) (k : CodeClause) → clauses_weight (clauses_of b (ks ++ k ∷ [])) ≡ clauses_weight (clauses_of b ks) + clause_weight (clause_of b k)
clauses_weigh_more b [] k = omega arith
clauses_weigh_more b (x ∷ ks) k = let e = clauses_weigh_more b ks k in omega (arith, e)

-- lists that get their goals

take_set : {A : Type 0} (xs ys : List A) (i : ℕ) (x : A) → i < length xs → take (suc i) (set (xs ++ ys) i x) ≡ take i xs ++ x ∷ []
take_set [] ys i x l = absurd (omega (arith, l))
take_set (z ∷ zs) ys zero x l = refl
take_set (z ∷ zs) ys (suc i) x l = ap (λ k. z ∷ k) (take_set zs ys i x (omega (arith, l)))

-- the first of the lists that are to come has its goals
module _ (b : Nodes) (t u v : Table) (at : ℕ) (g : Bor (List CodeGoal)) (rest l0 l1 : Late) (w : ℕ) (s : Span)
    (p : IsPut b t u l0 l1 w (λ c t. AreGoals b c t s.from s.to (goals_of b g.now))) (eg : v.goals ≡ u.goals) (er : v.rules ≡ u.rules) (ef : v.frees ≡ u.frees)
    (el : v.lists.items ≡ set u.lists.items at s) (count : length t.lists.items ≡ at + suc (length rest)) where
  filled_lists : take (suc at) v.lists.items ≡ take at t.lists.items ++ s ∷ []
  filled_lists = ap (take (suc at)) (el ∙ ap (λ l. set l at s) p.lists) ∙ take_set t.lists.items p.spans at s (omega (arith, count))

  moved : LeadsTo b (Coming b (length t.lists.items) p.more) (Coming b (suc at) (rest ++ p.more)) (unlisted u) (up_to (suc at) v)
  moved = record {
    goals = subst (λ x. GoesOn u.goals.items x.items) (sym eg) (goes_on_same u.goals.items);
    lists = (take (suc at) v.lists.items, refl);
    rules = subst (λ x. GoesOn u.rules.items x.items) (sym er) (goes_on_same u.rules.items);
    frees = subst (λ x. GoesOn u.frees.items x.items) (sym ef) (goes_on_same u.frees.items);
    comes = λ n gs k. inl (coming_behind b (suc at) (length t.lists.items) rest p.more n gs (omega (arith, count)) k);
  }

  got_span : slice_get (take (suc at) v.lists.items) at ≡ Some s
  got_span =
      let l : length (take at t.lists.items) ≡ at = length-take-le at t.lists.items (omega (arith, count)) in
      subst (λ x. slice_get x at ≡ Some s) (sym filled_lists) (got_behind (take at t.lists.items) (s ∷ []) 0 at s (omega (arith, l)) refl)

  come : (n : ℕ) (gs : Goals) (k : ℕ) (x : Bor (List CodeGoal)) → n ≡ at + k → slice_get (g ∷ rest) k ≡ Some x → goals_of b x.now ≡ gs → IsList b (Coming b (suc at) (rest ++ p.more)) (up_to (suc at) v) n gs
  come n gs zero x e h i =
      let q : g ≡ x = cc in
      let r : n ≡ at = omega (arith, e) in
      inr (
        s,
        subst (λ m. slice_get (take (suc at) v.lists.items) m ≡ Some s) (sym r) got_span,
        subst (λ y. AreGoals b (Coming b (suc at) (rest ++ p.more)) (up_to (suc at) v) s.from s.to y) (ap (λ y. goals_of b y.now) q ∙ i) (goals_on b _ _ _ _ moved s.from s.to (goals_of b g.now) p.means),
      )
  come n gs (suc k) x e h i = inl (k, x, omega (arith, e), get_append rest p.more k x h, i)

  pub filled_first : LeadsTo b (Coming b at (g ∷ rest)) (Coming b (suc at) (rest ++ p.more)) (up_to at t) (up_to (suc at) v)
  filled_first = record {
    goals = subst (λ x. GoesOn t.goals.items x.items) (sym eg) p.goals;
    lists = (s ∷ [], filled_lists);
    rules = subst (λ x. GoesOn t.rules.items x.items) (sym er) p.rules;
    frees = subst (λ x. GoesOn t.frees.items x.items) (sym ef) p.frees;
    comes = λ n gs h. come n gs h.0 h.1 h.2 h.3 h.4;
  }

pub filled_begins : (b : Nodes) (first : ℕ) (t : Table) (ws : Late) → length t.lists.items ≡ first + length ws → AreFilled b first t t ws ws 0
filled_begins b first t ws e = record {
  within = omega arith;
  count = e;
  leads =
      (let z : first + 0 ≡ first = omega arith in
      subst (λ n. LeadsTo b (Coming b first ws) (Coming b n ws) (up_to first t) (up_to n t)) (sym z) (leads_same b (Coming b first ws) (up_to first t)));
}

module _ (b : Nodes) (first done : ℕ) (t0 t u v : Table) (ws l0 l1 : Late) (g : Bor (List CodeGoal)) (s : Span) (f : AreFilled b first t0 t ws l0 done) (lt : done < length l0)
    (got : drop done l0 ≡ g ∷ drop (done + 1) l0) (p : IsPut b t u l0 l1 (goals_weight (goals_of b g.now)) (λ c t. AreGoals b c t s.from s.to (goals_of b g.now))) where
  left_over : drop (done + 1) l0 ++ p.more ≡ drop (done + 1) l1
  left_over = sym (drop-append-le (done + 1) l0 p.more (omega (arith, lt))) ∙ ap (drop (done + 1)) (sym p.left)

  pub filled_lighter : weight_of_all (list_weight b) (drop (done + 1) l1) < weight_of_all (list_weight b) (drop done l0)
  filled_lighter =
      let x = ap (weight_of_all (list_weight b)) got in
      let y = ap (weight_of_all (list_weight b)) (sym left_over) ∙ weight_append (list_weight b) (drop (done + 1) l0) p.more in
      let z = p.lighter in
      omega (arith, x, y, z)

  more_counted : length l1 ≡ length l0 + length p.more
  more_counted = ap length p.left ∙ length-append l0 p.more

  pub filled_more : v.goals ≡ u.goals → v.rules ≡ u.rules → v.frees ≡ u.frees → v.lists.items ≡ set u.lists.items (first + done) s → AreFilled b first t0 v ws l1 (done + 1)
  filled_more eg er ef el =
      let fc = f.count in
      let pc = p.count in
      let at : length (drop (done + 1) l0) ≡ length l0 - (done + 1) = length-drop (done + 1) l0 in
      let c : length t.lists.items ≡ (first + done) + suc (length (drop (done + 1) l0)) = omega (arith, fc, at, lt) in
      let n : suc (first + done) ≡ first + (done + 1) = omega arith in
      let q = filled_first b t u v (first + done) g (drop (done + 1) l0) l0 l1 (goals_weight (goals_of b g.now)) s p eg er ef el c in
      let m = more_counted in
      let k : length v.lists.items ≡ length u.lists.items = ap length el ∙ length-set u.lists.items (first + done) s in
      let j = ap length p.lists ∙ length-append t.lists.items p.spans in
      record {
        within = omega (arith, lt, m);
        count = omega (arith, k, j, pc, fc, m);
        leads = leads_then b _ _ _ _ _ _ f.leads (subst (λ i. LeadsTo b (Coming b (first + done) (drop done l0)) (Coming b i (drop (done + 1) l1)) (up_to (first + done) t) (up_to i v)) n
            (subst (λ y. LeadsTo b (Coming b (first + done) (drop done l0)) (Coming b (suc (first + done)) y) (up_to (first + done) t) (up_to (suc (first + done)) v)) left_over
            (subst (λ y. LeadsTo b (Coming b (first + done) y) (Coming b (suc (first + done)) (drop (done + 1) l0 ++ p.more)) (up_to (first + done) t) (up_to (suc (first + done)) v)) (sym got) q)));
      }

none_comes : (b : Nodes) (from : ℕ) (ws : Late) (n : ℕ) (gs : Goals) → ws ≡ [] → Coming b from ws n gs → ⊥
none_comes b from [] n gs e h = let q = h.3 in cc
none_comes b from (w ∷ ws) n gs e h = absurd (let q : length (w ∷ ws) ≡ 0 = ap length e in omega (arith, q))

pub filled_ends : (b : Nodes) (first done : ℕ) (t0 t : Table) (ws l : Late) → AreFilled b first t0 t ws l done → length l ≤ done → LeadsTo b (Coming b first ws) Never (up_to first t0) (shown t)
filled_ends b first done t0 t ws l f h =
    let c = f.count in
    leads_then b _ _ _ _ _ _ f.leads (record {
      goals = goes_on_same t.goals.items;
      lists = ([], sym (take_all (first + done) t.lists.items (omega (arith, c, h))) ∙ sym (append-nil (take (first + done) t.lists.items)));
      rules = goes_on_same t.rules.items;
      frees = goes_on_same t.frees.items;
      comes = λ n gs k. absurd (none_comes b (first + done) (drop done l) n gs (drop_all done l h) k);
    })

pub put_counted : (b : Nodes) (t0 t1 : Table) (ws : Late) (w first : ℕ) (Q : Meaning) (p : IsPut b t0 t1 [] ws w Q) → first ≡ length t0.lists.items → length t1.lists.items ≡ first + length ws
put_counted b t0 t1 ws w first Q p e =
    let c = p.count in
    let x = ap length p.lists ∙ length-append t0.lists.items p.spans in
    let y = ap length p.left in
    omega (arith, c, x, y, e)

-- lists that were put, and all that come with them
module _ (b : Nodes) (t0 t1 t2 : Table) (ws : Late) (w : ℕ) (Q : Meaning) (p : IsPut b t0 t1 [] ws w Q) (first : ℕ) (e : first ≡ length t0.lists.items)
    (f : LeadsTo b (Coming b first ws) Never (up_to first t1) (shown t2)) where
  pub all_filled : LeadsTo b (Coming b (length t0.lists.items) p.more) Never (unlisted t1) (shown t2)
  all_filled =
      subst (λ n. LeadsTo b (Coming b n p.more) Never (unlisted t1) (shown t2)) e
      (subst (λ l. LeadsTo b (Coming b first l) Never (unlisted t1) (shown t2)) p.left
      (leads_then b (Coming b first ws) (Coming b first ws) Never (unlisted t1) (up_to first t1) (shown t2)
      (record { goals = goes_on_same t1.goals.items; lists = (take first t1.lists.items, refl); rules = goes_on_same t1.rules.items; frees = goes_on_same t1.frees.items; comes = λ n gs h. inl h }) f))

  seam : take first t1.lists.items ≡ t0.lists.items
  seam = ap (λ n. take n t1.lists.items) e ∙ ap (take (length t0.lists.items)) p.lists ∙ take-append_seam t0.lists.items p.spans

  pub all_kept : LeadsTo b Never Never (shown t0) (shown t2)
  all_kept = leads_then b Never (Coming b first ws) Never (shown t0) (up_to first t1) (shown t2) (record {
    goals = p.goals;
    lists = ([], seam ∙ sym (append-nil t0.lists.items));
    rules = p.rules;
    frees = p.frees;
    comes = λ n gs h. absurd h;
  }) f

-- the goals and clauses of the code

pub put_as : (b : Nodes) (t0 t1 : Table) (l0 l1 : Late) (w v : ℕ) (Q S : Meaning) (p : IsPut b t0 t1 l0 l1 w Q) → w ≤ v →
    ((c : ℕ → Goals → Type 0) (t : Shown) → Q c t → S c t) → IsPut b t0 t1 l0 l1 v S
put_as b t0 t1 l0 l1 w v Q S p l h = record {
  more = p.more;
  spans = p.spans;
  left = p.left;
  lists = p.lists;
  count = p.count;
  goals = p.goals;
  rules = p.rules;
  frees = p.frees;
  lighter = (let x = p.lighter in omega (arith, x, l));
  means = h _ _ p.means;
}

goes_on_by : {A : Type 0} (u v : Vec A Global) → v ≡ u → GoesOn u.items v.items
goes_on_by u v e = subst (λ x. GoesOn u.items x.items) (sym e) (goes_on_same u.items)

pub is_head_of : (b : Nodes) (vars : ℕ) (r : Rule) (h : Term) (args : List TermId) → IsNoApplication (tree b r.head.0) → apply (tree b r.head.0) (trees_of b args) ≡ h → length r.slots.items ≡ vars →
    ((k : ℕ) → k < vars → get_or r.slots.items k None ≡ slot_place k 0 [] (trees_of b args)) → map (pair_in b) r.pairs.items ≡ pair_places vars 0 [] (trees_of b args) → IsKey b r.key (first_key (trees_of b args)) → IsHeadOf b vars r h
is_head_of b vars r h args n e c s p k =
    let q = spine_arguments (tree b r.head.0) h (trees_of b args) n e in
    record {
      head = spine_head (tree b r.head.0) h (trees_of b args) n e;
      count = c;
      slots = λ i l. s i l ∙ ap (slot_place i 0 []) q;
      pairs = p ∙ ap (pair_places vars 0 []) q;
      key = subst (λ l. IsKey b r.key (first_key l)) q k;
    }

pub rule_put : (b : Nodes) (t0 t1 t2 : Table) (l0 l1 : Late) (gs : Goals) (n : ℕ) (vs : List Ty) (h : Term) (r : Rule) (k : Clause) → k ≡ clause n vs h gs →
    IsPut b t0 t1 l0 l1 (suc (goals_weight gs)) (λ c t. IsList b c t r.body gs) → t1.rules ≡ t0.rules → t2.goals ≡ t1.goals → t2.lists ≡ t1.lists → t2.frees ≡ t1.frees → t2.rules.items ≡ t1.rules.items ++ r ∷ [] → r.type_vars ≡ n →
    IsHeadOf b (length vs) r h → IsPut b t0 t2 l0 l1 (clause_weight k) (λ c t. IsRule b c t (length t0.rules.items) k)
rule_put b t0 t1 t2 l0 l1 gs n vs h r k e p e1 eg el ef er tv hd =
    let got : slice_get t2.rules.items (length t0.rules.items) ≡ Some r = ap (λ l. slice_get l (length t0.rules.items)) er ∙ ap (λ v. slice_get (t1.rules.items ++ r ∷ []) (length v.items)) (sym e1) ∙ get_push t1.rules.items r in
    subst (λ k. IsPut b t0 t2 l0 l1 (clause_weight k) (λ c t. IsRule b c t (length t0.rules.items) k)) (sym e)
    (put_behind b t0 t1 t2 l0 l1 (suc (goals_weight gs)) (clause_weight (clause n vs h gs)) (λ c t. IsList b c t r.body gs) (λ c t. IsRule b c t (length t0.rules.items) (clause n vs h gs)) p el
    (goes_on_by t1.goals t2.goals eg) (r ∷ [], er) (goes_on_by t1.frees t2.frees ef) (omega arith) (λ m. (r, got, tv, hd, list_on b _ _ _ _ m r.body gs p.means)))

pub either_put : (b : Nodes) (t0 t1 t2 : Table) (l0 l1 l2 : Late) (gs hs : Goals) (l r : ℕ) → IsPut b t0 t1 l0 l1 (suc (goals_weight gs)) (λ c t. IsList b c t l gs) → IsPut b t1 t2 l1 l2 (suc (goals_weight hs)) (λ c t. IsList b c t r hs) →
    IsPut b t0 t2 l0 l2 (goal_weight (Either gs hs)) (λ c t. IsGoal b c t (Flat.Either l r) (Either gs hs))
either_put b t0 t1 t2 l0 l1 l2 gs hs l r p q =
    put_then b t0 t1 t2 l0 l1 l2 (suc (goals_weight gs)) (suc (goals_weight hs)) (goal_weight (Either gs hs)) (λ c t. IsList b c t l gs) (λ c t. IsList b c t r hs) (λ c t. IsGoal b c t (Flat.Either l r) (Either gs hs)) p q (omega arith)
    (λ c t m n e. (l, r, refl, list_on b _ _ _ _ m l gs p.means, list_on b _ _ _ _ n r hs q.means))

pub assume_put : (b : Nodes) (t0 t1 t2 t3 : Table) (l0 l1 l2 : Late) (cs : Clauses) (gs : Goals) (s : Span) (l n : ℕ) (f : Free) → IsPut b t0 t1 l0 l1 (clauses_weight cs) (λ c t. AreRules b c t s.from s.to cs) →
    IsPut b t1 t2 l1 l2 (suc (goals_weight gs)) (λ c t. IsList b c t l gs) → t3.goals ≡ t2.goals → t3.lists ≡ t2.lists → t3.rules ≡ t2.rules → t3.frees.items ≡ t2.frees.items ++ f ∷ [] → slice_get t3.frees.items n ≡ Some f →
    AreCollected f (λ collect. collect_clauses collect 0 cs) → IsPut b t0 t3 l0 l2 (goal_weight (assuming cs gs)) (λ c t. IsGoal b c t (Flat.Assume s l n) (assuming cs gs))
assume_put b t0 t1 t2 t3 l0 l1 l2 cs gs s l n f p q eg el er ef got a =
    let w = goal_weight (assuming cs gs) in
    let r : IsPut b t0 t2 l0 l2 w (λ c t. AreRules b c t s.from s.to cs × IsList b c t l gs) =
    put_then b t0 t1 t2 l0 l1 l2 (clauses_weight cs) (suc (goals_weight gs)) w (λ c t. AreRules b c t s.from s.to cs) (λ c t. IsList b c t l gs) (λ c t. AreRules b c t s.from s.to cs × IsList b c t l gs) p q (omega arith)
    (λ c t m n e. (rules_on b _ _ _ _ m s.from s.to cs p.means, list_on b _ _ _ _ n l gs q.means)) in
    put_behind b t0 t2 t3 l0 l2 w w (λ c t. AreRules b c t s.from s.to cs × IsList b c t l gs) (λ c t. IsGoal b c t (Flat.Assume s l n) (assuming cs gs)) r el (goes_on_by t2.goals t3.goals eg) (goes_on_by t2.rules t3.rules er) (f ∷ [], ef) (omega arith)
    (λ m. (s, l, n, refl, refl, rules_on b _ _ _ _ m s.from s.to cs r.means.0, list_on b _ _ _ _ m l gs r.means.1, (f, got, a)))

pub not_put : (b : Nodes) (t0 t1 t2 : Table) (l0 l1 : Late) (gs : Goals) (l n : ℕ) (f : Free) → IsPut b t0 t1 l0 l1 (suc (goals_weight gs)) (λ c t. IsList b c t l gs) →
    t2.goals ≡ t1.goals → t2.lists ≡ t1.lists → t2.rules ≡ t1.rules → t2.frees.items ≡ t1.frees.items ++ f ∷ [] → slice_get t2.frees.items n ≡ Some f → AreCollected f (λ collect. collect_goals collect 0 gs) →
    IsPut b t0 t2 l0 l1 (goal_weight (denied gs)) (λ c t. IsGoal b c t (Flat.Not l n) (denied gs))
not_put b t0 t1 t2 l0 l1 gs l n f p eg el er ef got a =
    put_behind b t0 t1 t2 l0 l1 (suc (goals_weight gs)) (goal_weight (denied gs)) (λ c t. IsList b c t l gs) (λ c t. IsGoal b c t (Flat.Not l n) (denied gs)) p el (goes_on_by t1.goals t2.goals eg) (goes_on_by t1.rules t2.rules er) (f ∷ [], ef)
    (omega arith) (λ m. (l, n, refl, refl, list_on b _ _ _ _ m l gs p.means, (f, got, a)))

-- in loops

pub goals_put : (b : Nodes) (t0 t1 t2 t3 : Table) (l0 l1 l2 : Late) (from : ℕ) (gs : List CodeGoal) (g : CodeGoal) (f : Flat) → IsPut b t0 t1 l0 l1 (goals_weight (goals_of b gs)) (λ c t. AreGoals b c t from (length t1.goals.items) (goals_of b gs)) →
    IsPut b t1 t2 l1 l2 (goal_weight (goal_of b g)) (λ c t. IsGoal b c t f (goal_of b g)) → t2.goals ≡ t1.goals → t3.lists ≡ t2.lists → t3.rules ≡ t2.rules → t3.frees ≡ t2.frees → t3.goals.items ≡ t2.goals.items ++ f ∷ [] →
    IsPut b t0 t3 l0 l2 (goals_weight (goals_of b (gs ++ g ∷ []))) (λ c t. AreGoals b c t from (length t3.goals.items) (goals_of b (gs ++ g ∷ [])))
goals_put b t0 t1 t2 t3 l0 l1 l2 from gs g f p q same el er ef eg =
    let w = goals_weight (goals_of b (gs ++ g ∷ [])) in
    let e = goals_weigh_more b gs g in
    let n : length t3.goals.items ≡ suc (length t1.goals.items) = ap length eg ∙ length-append t2.goals.items (f ∷ []) ∙ ap (λ v. length v.items + 1) same ∙ add-one (length t1.goals.items) in
    let got : slice_get t3.goals.items (length t1.goals.items) ≡ Some f = ap (λ l. slice_get l (length t1.goals.items)) eg ∙ ap (λ v. slice_get (t2.goals.items ++ f ∷ []) (length v.items)) (sym same) ∙ get_push t2.goals.items f in
    let r : IsPut b t0 t2 l0 l2 w (λ c t. AreGoals b c t from (length t1.goals.items) (goals_of b gs) × IsGoal b c t f (goal_of b g)) =
    put_then b t0 t1 t2 l0 l1 l2 (goals_weight (goals_of b gs)) (goal_weight (goal_of b g)) w (λ c t. AreGoals b c t from (length t1.goals.items) (goals_of b gs)) (λ c t. IsGoal b c t f (goal_of b g))
    (λ c t. AreGoals b c t from (length t1.goals.items) (goals_of b gs) × IsGoal b c t f (goal_of b g)) p q (omega (arith, e))
    (λ c t m n e. (goals_on b _ _ _ _ m from (length t1.goals.items) (goals_of b gs) p.means, goal_on b _ _ _ _ n f (goal_of b g) q.means)) in
    subst (λ k. IsPut b t0 t3 l0 l2 w (λ c t. AreGoals b c t from k (goals_of b (gs ++ g ∷ [])))) (sym n)
    (put_behind b t0 t2 t3 l0 l2 w w (λ c t. AreGoals b c t from (length t1.goals.items) (goals_of b gs) × IsGoal b c t f (goal_of b g)) (λ c t. AreGoals b c t from (suc (length t1.goals.items)) (goals_of b (gs ++ g ∷ []))) r el (f ∷ [], eg)
    (goes_on_by t2.rules t3.rules er) (goes_on_by t2.frees t3.frees ef) (omega arith)
    (λ m. goals_more b _ (unlisted t3) from (length t1.goals.items) gs g f (goals_on b _ _ _ _ m from (length t1.goals.items) (goals_of b gs) r.means.0) got (goal_on b _ _ _ _ m f (goal_of b g) r.means.1)))

pub clauses_put : (b : Nodes) (t0 t1 t2 : Table) (l0 l1 l2 : Late) (from : ℕ) (ks : List CodeClause) (k : CodeClause) →
    IsPut b t0 t1 l0 l1 (clauses_weight (clauses_of b ks)) (λ c t. AreRules b c t from (length t1.rules.items) (clauses_of b ks)) → IsPut b t1 t2 l1 l2 (clause_weight (clause_of b k)) (λ c t. IsRule b c t (length t1.rules.items) (clause_of b k)) →
    length t2.rules.items ≡ suc (length t1.rules.items) → IsPut b t0 t2 l0 l2 (clauses_weight (clauses_of b (ks ++ k ∷ []))) (λ c t. AreRules b c t from (length t2.rules.items) (clauses_of b (ks ++ k ∷ [])))
clauses_put b t0 t1 t2 l0 l1 l2 from ks k p q n =
    let e = clauses_weigh_more b ks k in
    subst (λ i. IsPut b t0 t2 l0 l2 (clauses_weight (clauses_of b (ks ++ k ∷ []))) (λ c t. AreRules b c t from i (clauses_of b (ks ++ k ∷ [])))) (sym n)
    (put_then b t0 t1 t2 l0 l1 l2 (clauses_weight (clauses_of b ks)) (clause_weight (clause_of b k)) (clauses_weight (clauses_of b (ks ++ k ∷ []))) (λ c t. AreRules b c t from (length t1.rules.items) (clauses_of b ks))
    (λ c t. IsRule b c t (length t1.rules.items) (clause_of b k)) (λ c t. AreRules b c t from (suc (length t1.rules.items)) (clauses_of b (ks ++ k ∷ []))) p q (omega (arith, e))
    (λ c t m n e. rules_more b c t from (length t1.rules.items) ks k (rules_on b _ _ _ _ m from (length t1.rules.items) (clauses_of b ks) p.means) (rule_on b _ _ _ _ n (length t1.rules.items) (clause_of b k) q.means)))

pub goals_done : (b : Nodes) (t0 t1 : Table) (l0 l1 : Late) (all done rest : List CodeGoal) (n m i j : ℕ) → IsPut b t0 t1 l0 l1 (goals_weight (goals_of b done)) (λ c t. AreGoals b c t n m (goals_of b done)) → all ≡ done ++ rest → rest ≡ [] →
    i ≡ n → j ≡ m → IsPut b t0 t1 l0 l1 (goals_weight (goals_of b all)) (λ c t. AreGoals b c t i j (goals_of b all))
goals_done b t0 t1 l0 l1 all done rest n m i j p e z a d =
    let q : done ≡ all = sym (e ∙ ap (λ l. done ++ l) z ∙ append-nil done) in
    subst (λ l. IsPut b t0 t1 l0 l1 (goals_weight (goals_of b l)) (λ c t. AreGoals b c t i j (goals_of b l))) q
    (subst (λ k. IsPut b t0 t1 l0 l1 (goals_weight (goals_of b done)) (λ c t. AreGoals b c t i k (goals_of b done))) (sym d)
    (subst (λ k. IsPut b t0 t1 l0 l1 (goals_weight (goals_of b done)) (λ c t. AreGoals b c t k m (goals_of b done))) (sym a) p))

pub clauses_done : (b : Nodes) (t0 t1 : Table) (l0 l1 : Late) (all done rest : List CodeClause) (n m i j : ℕ) → IsPut b t0 t1 l0 l1 (clauses_weight (clauses_of b done)) (λ c t. AreRules b c t n m (clauses_of b done)) → all ≡ done ++ rest → rest ≡ [] →
    i ≡ n → j ≡ m → IsPut b t0 t1 l0 l1 (clauses_weight (clauses_of b all)) (λ c t. AreRules b c t i j (clauses_of b all))
clauses_done b t0 t1 l0 l1 all done rest n m i j p e z a d =
    let q : done ≡ all = sym (e ∙ ap (λ l. done ++ l) z ∙ append-nil done) in
    subst (λ l. IsPut b t0 t1 l0 l1 (clauses_weight (clauses_of b l)) (λ c t. AreRules b c t i j (clauses_of b l))) q
    (subst (λ k. IsPut b t0 t1 l0 l1 (clauses_weight (clauses_of b done)) (λ c t. AreRules b c t i k (clauses_of b done))) (sym d)
    (subst (λ k. IsPut b t0 t1 l0 l1 (clauses_weight (clauses_of b done)) (λ c t. AreRules b c t k m (clauses_of b done))) (sym a) p))

pub goal_put : (b : Nodes) (t0 t1 : Table) (l0 l1 : Late) (f : Flat) (g h : Goal) → g ≡ h → IsPut b t0 t1 l0 l1 (goal_weight h) (λ c t. IsGoal b c t f h) → IsPut b t0 t1 l0 l1 (goal_weight g) (λ c t. IsGoal b c t f g)
goal_put b t0 t1 l0 l1 f g h e p = subst (λ x. IsPut b t0 t1 l0 l1 (goal_weight x) (λ c t. IsGoal b c t f x)) (sym e) p

pub put_first : (b : Nodes) (t0 t1 : Table) (l0 l1 : Late) (w : ℕ) (Q : Meaning) → l0 ≡ [] → IsPut b t0 t1 l0 l1 w Q → IsPut b t0 t1 [] l1 w Q
put_first b t0 t1 l0 l1 w Q e p = subst (λ l. IsPut b t0 t1 l l1 w Q) e p

-- The clauses of a program are put into the table, formula by formula, while the bank grows.
use Rattle.std.proofs.Common.{◌≡◌, ℕ, suc, ◌<◌, ◌≤◌, List, [], ◌∷◌, ◌++◌, map, length, take, inl, inr, refl, sym, ap, ◌∙◌, subst, arith, Option, Some}
use Rattle.std.specs.Prelude.{All, slice_get}
use Rattle.std.proofs.lemmas.List.Elements.{All-cons, All-head, All-tail, All-weaker}
use Rattle.lp_lemmas.proofs.Elements.{All_empty, All_pushed}
use Rattle.lp_lemmas.proofs.Lists.{get_map, get_from_map, take_suc}
use Rattle.lp_calculus.specs.Typing.{Scheme}
use Rattle.lp_calculus.specs.Term.{Term}
use Rattle.lp_term.specs.Nodes.{Nodes, Extends}
use Rattle.lp_term.proofs.Trees.{extends_same, extends-trans}
use Rattle.lp_model.specs.declared.clause.Clause.{Clause as CodeClause}
use Rattle.lp_model.specs.declared.program.ClauseFormula.{ClauseFormula}
use Rattle.lp_model.specs.Flat.{Goal, Atomic, Cut, Either, Exists, Forall, Assume, Not, Goals, no_goals, goals, Clause, clause, Clauses, no_clauses, clauses}
use Rattle.lp_model.specs.Flatten.{flatten}
use Rattle.lp_model.specs.Flattened.{clauses_of}
use Rattle.lp_model.specs.Readings.{formula_of}
use Rattle.lp_plain.specs.declared.table.Flat.{Flat}
use Rattle.lp_plain.specs.declared.table.Rule.{Rule}
use Rattle.lp_plain.specs.declared.table.Span.{Span}
use Rattle.lp_plain.specs.declared.table.Table.{Table}
use Rattle.lp_plain.specs.Candidates.{AreInOrder, unlinked}
use Rattle.lp_plain.specs.Starts.{AreFormulasIn, AreFlat, AreProgramOf}
use Rattle.lp_plain.specs.Tables.{shown, IsHeadOf, IsGoal, IsListOf, AreGoals, IsRule, AreRules, AreClausesOf, Never}
use Rattle.lp_plain.specs.Within.{IsFlatIn, IsRuleIn, IsTableIn}
use Rattle.lp_plain.specs.inner.Programs.{ArePut}
use Rattle.lp_plain.specs.inner.Tabling.{LeadsTo}
use Rattle.lp_plain.proofs.Later.{rules_later}
use Rattle.lp_plain.proofs.Tabled.{rules_on}
use Rattle.lp_plain.proofs.Within.{all_at, longer_list}

pub empty_within : (n : ℕ) (t : Table) → t.goals.items ≡ [] → t.rules.items ≡ [] → IsTableIn n t
empty_within n t g r = record { goals = All_empty (IsFlatIn n) t.goals.items g; rules = All_empty (IsRuleIn n) t.rules.items r }

-- clauses list by list

pub program_on : (b d : Nodes) (t u : Table) → ((s : Span) (cs : Clauses) → AreClausesOf b t s cs → AreClausesOf d u s cs) → (ss : List Span)
    (css : List Clauses) → AreProgramOf b t ss css → AreProgramOf d u ss css
program_on b d t u f [] [] p = p
program_on b d t u f [] (cs ∷ css) p = p
program_on b d t u f (s ∷ ss) [] p = p
program_on b d t u f (s ∷ ss) (cs ∷ css) p = (f s cs p.0, program_on b d t u f ss css p.1)

program_push : (b : Nodes) (t : Table) (ss : List Span) (css : List Clauses) (s : Span) (cs : Clauses) → AreProgramOf b t ss css → AreClausesOf b t s
    cs → AreProgramOf b t (ss ++ s ∷ []) (css ++ cs ∷ [])
program_push b t [] [] s cs p h = (h, tt)
program_push b t [] (ds ∷ css) s cs p h = absurd p
program_push b t (r ∷ ss) [] s cs p h = absurd p
program_push b t (r ∷ ss) (ds ∷ css) s cs p h = (p.0, program_push b t ss css s cs p.1 h)

-- the last of those that are there
record EndsIn (d : ℕ → Option Scheme) (b : Nodes) (fs : List ClauseFormula) (f : ClauseFormula) (css : List Clauses) : Type 0 where
  pub front : List Clauses
  pub last : Clauses
  pub whole : css ≡ front ++ last ∷ []
  pub fronts : AreFlat d b fs front
  pub is_last : (n : ℕ) × (flatten n d (formula_of b f) ≡ Some last)

ends_in : (d : ℕ → Option Scheme) (b : Nodes) (fs : List ClauseFormula) (f : ClauseFormula) (css : List Clauses) → AreFlat d b (fs ++ f ∷ []) css → EndsIn d b fs f css
ends_in d b [] f [] h = absurd h
ends_in d b [] f (cs ∷ []) h = record { front = []; last = cs; whole = refl; fronts = tt; is_last = h.0 }
ends_in d b [] f (cs ∷ ds ∷ css) h = absurd h.1
ends_in d b (g ∷ fs) f [] h = absurd h
ends_in d b (g ∷ fs) f (cs ∷ css) h =
    let r = ends_in d b fs f css h.1 in
    record { front = cs ∷ r.front; last = r.last; whole = ap (λ l. cs ∷ l) r.whole; fronts = (h.0, r.fronts); is_last = r.is_last }

-- a span behind those that there are
ordered_more : (low n : ℕ) (ss : List Span) (s : Span) → AreInOrder low ss → All (λ (r : Span). r.to ≤ n) ss → low ≤ n → n ≤ s.from → s.from ≤ s.to → AreInOrder low (ss ++ s ∷ [])
ordered_more low n [] s h a l m f = (omega (arith, l, m), f, tt)
ordered_more low n (r ∷ ss) s h a l m f =
    (h.0, h.1, ordered_more r.to n ss s h.2 (All-tail (λ (q : Span). q.to ≤ n) r ss a) (All-head (λ (q : Span). q.to ≤ n) r ss a) m f)

-- nothing is put yet
pub none_put : (fs : List ClauseFormula) (b : Nodes) (t : Table) (spans : List Span) → spans ≡ [] → ArePut fs b b t t spans 0
none_put fs b t spans e = record {
  kept = extends_same b;
  order = subst (AreInOrder 0) (sym e) tt;
  ends = All_empty (λ (s : Span). s.to ≤ length t.rules.items) spans e;
  within = λ i. i;
  spans_are = λ i f d css h. subst (λ ss. AreProgramOf b t ss css) (sym e) (go d css h);
}
  where
    go : (d : ℕ → Option Scheme) (css : List Clauses) → AreFlat d b [] css → AreProgramOf b t [] css
    go d [] h = tt
    go d (cs ∷ css) h = absurd h

-- the clauses of one formula more
module _ (fs : List ClauseFormula) (a b d : Nodes) (t u v : Table) (spans spans' : List Span) (k k' : ℕ) (f : ClauseFormula) (cs : List CodeClause)
    (s : Span) (p : ArePut fs a b t u spans k) (x : Extends b d) (got : slice_get fs k ≡ Some f)
    (flat : (n : ℕ) (e : ℕ → Option Scheme) (g : Clauses) (later : Nodes) → flatten n e (formula_of b f) ≡ Some g → Extends d later → clauses_of later cs ≡ g)
    (inside : IsTableIn (length b.terms) u → IsTableIn (length d.terms) v) (means : AreClausesOf d v s (clauses_of d cs))
    (leads : LeadsTo d Never Never (shown u) (shown v)) (more : spans' ≡ spans ++ s ∷ []) (next : k' ≡ suc k) (end : s.to ≤ length v.rules.items)
    (behind : length u.rules.items ≤ s.from) (forth : s.from ≤ s.to)
  where
    same_formula : f.formula.0 < length a.terms → formula_of b f ≡ formula_of a f
    same_formula l = ap (λ z. record { type_vars = f.type_vars; formula = z }) (p.kept.same_terms f.formula.0 l)

    older : (css : List Clauses) → IsTableIn (length b.terms) u → AreProgramOf b u spans css → AreProgramOf d v spans css
    older css i h = program_on b d u v (λ r gs c. rules_on d Never Never (shown u) (shown v) leads r.from r.to gs (rules_later b d x u i r.from r.to gs c)) spans css h

    spans_more : IsTableIn (length a.terms) t → AreFormulasIn a fs → (e : ℕ → Option Scheme) (css : List Clauses) → AreFlat e a (take k' fs) css → AreProgramOf d v spans' css
    spans_more i j e css h =
        let r = ends_in e a (take k fs) f css (subst (λ l. AreFlat e a l css) (ap (λ m. take m fs) next ∙ take_suc fs k f got) h) in
        let l : f.formula.0 < length a.terms = all_at (λ (g : ClauseFormula). g.formula.0 < length a.terms) fs k f got j in
        let q : clauses_of d cs ≡ r.last = flat r.is_last.0 e r.last d (ap (flatten r.is_last.0 e) (same_formula l) ∙ r.is_last.1) (extends_same d) in
        subst (λ ss. AreProgramOf d v ss css) (sym more)
        (subst (AreProgramOf d v (spans ++ s ∷ [])) (sym r.whole) (program_push d v spans r.front s r.last
        (older r.front (p.within i) (p.spans_are i j e r.front r.fronts)) (subst (AreClausesOf d v s) q means)))

    ends_more : All (λ s. s.to ≤ length v.rules.items) spans'
    ends_more =
        let l = longer_list u.rules.items v.rules.items leads.rules in
        All_pushed (λ (s : Span). s.to ≤ length v.rules.items) spans' spans s more (All-weaker (λ (s : Span). s.to ≤ length u.rules.items)
        (λ (s : Span). s.to ≤ length v.rules.items) (λ r h. omega (arith, h, l)) spans p.ends) end

    pub one_put : ArePut fs a d t v spans' k'
    one_put = record {
      kept = extends-trans a b d p.kept x;
      order = subst (AreInOrder 0) (sym more)
          (ordered_more 0 (length u.rules.items) spans s p.order p.ends (omega arith) behind forth);
      ends = ends_more;
      within = λ i. inside
          (p.within i);
      spans_are = spans_more;
    }

-- clauses whose links are others

rule_relinked : (b : Nodes) (n : ℕ) (r q : Rule) (h : Term) → unlinked q ≡ unlinked r → IsHeadOf b n r h → IsHeadOf b n q h
rule_relinked b n r q h e k = again (subst (λ z. IsHeadOf b n z h) (sym e) (record { head = k.head; count = k.count; slots = k.slots; pairs = k.pairs; key = k.key }))
  where
    again : IsHeadOf b n (unlinked q) h → IsHeadOf b n q h
    again w = record { head = w.head; count = w.count; slots = w.slots; pairs = w.pairs; key = w.key }

module _ (b : Nodes) (t u : Table) (eg : u.goals ≡ t.goals) (el : u.lists ≡ t.lists) (ef : u.frees ≡ t.frees) (er : map unlinked u.rules.items ≡ map unlinked t.rules.items) where
  rule_there : (i : ℕ) (r : Rule) → slice_get t.rules.items i ≡ Some r → (q : Rule) × (slice_get u.rules.items i ≡ Some q) × (unlinked r ≡ unlinked q)
  rule_there i r e = get_from_map unlinked u.rules.items i (unlinked r) (subst (λ l. slice_get l i ≡ Some (unlinked r)) (sym er) (get_map unlinked t.rules.items i r e))

  listed : (n : ℕ) (gs : Goals) → ((from to : ℕ) → AreGoals b Never (shown t) from to gs → AreGoals b Never (shown u) from to gs) → IsListOf b t n gs → IsListOf b u n gs
  listed n gs f (inl h) = absurd h
  listed n gs f (inr h) = inr (h.0, subst (λ v. slice_get v.items n ≡ Some h.0) (sym el) h.1, f h.0.from h.0.to h.2)

  mutual
    goal_relinked : (f : Flat) (g : Goal) → IsGoal b Never (shown t) f g → IsGoal b Never (shown u) f g
    goal_relinked f (Atomic t) h = h
    goal_relinked f Cut h = h
    goal_relinked f (Either gs hs) h = (h.0, h.1, h.2, listed h.0 gs (λ i j. goals_relinked i j gs) h.3, listed h.1 hs (λ i j. goals_relinked i j hs) h.4)
    goal_relinked f (Exists T gs) h = (h.0, h.1, listed h.0 gs (λ i j. goals_relinked i j gs) h.2)
    goal_relinked f (Forall T gs) h = (h.0, h.1, listed h.0 gs (λ i j. goals_relinked i j gs) h.2)
    goal_relinked f (Assume w cs gs) h = (
      h.0,
      h.1,
      h.2,
      h.3,
      h.4,
      rules_relinked h.0.from h.0.to cs h.5,
      listed h.1 gs (λ i j. goals_relinked i j gs) h.6,
      (h.7.0, subst (λ v. slice_get v.items h.2 ≡ Some h.7.0) (sym ef) h.7.1, h.7.2),
    )
    goal_relinked f (Not w gs) h = (h.0, h.1, h.2, h.3, listed h.0 gs (λ i j. goals_relinked i j gs) h.4, (h.5.0, subst (λ v. slice_get v.items h.1 ≡ Some h.5.0) (sym ef) h.5.1, h.5.2))

    goals_relinked : (from to : ℕ) (gs : Goals) → AreGoals b Never (shown t) from to gs → AreGoals b Never (shown u) from to gs
    goals_relinked from to no_goals h = h
    goals_relinked from to (goals g gs) h = (h.0, subst (λ v. slice_get v.items from ≡ Some h.0) (sym eg) h.1, goal_relinked h.0 g h.2, goals_relinked (suc from) to gs h.3)

    clause_relinked : (i : ℕ) (c : Clause) → IsRule b Never (shown t) i c → IsRule b Never (shown u) i c
    clause_relinked i (clause n vs h body) r =
        let q = rule_there i r.0 r.1 in
        let e = q.2 in (
          q.0,
          q.1,
          sym (ap (λ z. z.type_vars) e) ∙ r.2,
          rule_relinked b (length vs) r.0 q.0 h (sym e) r.3,
          subst (λ z. IsListOf b u z body)
              (ap (λ z. z.body) e) (listed r.0.body body (λ i j. goals_relinked i j body) r.4),
        )

    pub rules_relinked : (from to : ℕ) (cs : Clauses) → AreRules b Never (shown t) from to cs → AreRules b Never (shown u) from to cs
    rules_relinked from to no_clauses h = h
    rules_relinked from to (clauses c cs) h = (clause_relinked from c h.0, rules_relinked (suc from) to cs h.1)

rules_inside : (n : ℕ) (rs qs : List Rule) → map unlinked qs ≡ map unlinked rs → All (IsRuleIn n) rs → All (IsRuleIn n) qs
rules_inside n [] [] e a = a
rules_inside n [] (q ∷ qs) e a = absurd (let z = ap length e in omega (arith, z))
rules_inside n (r ∷ rs) [] e a = absurd (let z = ap length e in omega (arith, z))
rules_inside n (r ∷ rs) (q ∷ qs) e a =
    let h : unlinked q ≡ unlinked r = cc in
    let t : map unlinked qs ≡ map unlinked rs = cc in
    All-cons (IsRuleIn n) q qs (go r q h (All-head (IsRuleIn n) r rs a)) (rules_inside n rs qs t (All-tail (IsRuleIn n) r rs a))
  where
    again : (q : Rule) → IsRuleIn n (unlinked q) → IsRuleIn n q
    again q w = record { head = w.head; pairs = w.pairs; key = w.key }

    go : (r q : Rule) → unlinked q ≡ unlinked r → IsRuleIn n r → IsRuleIn n q
    go r q h k = again q (subst (IsRuleIn n) (sym h) (record { head = k.head; pairs = k.pairs; key = k.key }))

pub table_relinked : (n : ℕ) (t u : Table) → u.goals ≡ t.goals → map unlinked u.rules.items ≡ map unlinked t.rules.items → IsTableIn n t → IsTableIn n u
table_relinked n t u eg er h = record { goals = subst (λ v. All (IsFlatIn n) v.items) (sym eg) h.goals; rules = rules_inside n t.rules.items u.rules.items er h.rules }

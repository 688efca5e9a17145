-- Goals and clauses that are written are so in the table.
use Rattle.std.proofs.Common.{◌≡◌, ℕ, zero, suc, ◌+◌, Bool, true, false, List, [], ◌∷◌, ◌++◌, map, length, sym, ◌∙◌, subst, arith, if◌then◌else◌, Some, inl, inr}
use Rattle.std.specs.Prelude.{All, slice_get}
use Rattle.std.proofs.lemmas.List.Elements.{All-cons, All-nil}
use Rattle.lp_calculus.specs.Term.{Term, index, atom, abs, app}
use Rattle.lp_calculus.specs.Spine.{arguments, arguments_and}
use Rattle.lp_lemmas.proofs.Elements.{All_empty}
use Rattle.lp_term.specs.Nodes.{Nodes, tree}
use Rattle.lp_term.specs.declared.node.TermId.{TermId}
use Rattle.lp_model.specs.Flat.{Goal, Atomic, Cut, Either, Exists, Forall, Assume, Not, Goals, no_goals, goals, Clause, clause, Clauses, no_clauses, clauses}
use Rattle.lp_plain.specs.declared.candidates.Candidate.{Candidate}
use Rattle.lp_plain.specs.declared.frame.Frame.{Frame}
use Rattle.lp_plain.specs.declared.head.HeadPair.{HeadPair}
use Rattle.lp_plain.specs.declared.machine.Machine.{Machine}
use Rattle.lp_plain.specs.declared.table.Flat.{Flat}
use Rattle.lp_plain.specs.declared.table.Rule.{Rule}
use Rattle.lp_plain.specs.Followed.{IsClauseWritten}
use Rattle.lp_plain.specs.Heads.{is_first, pair_in, pair_places}
use Rattle.lp_plain.specs.Scopes.{blocks_of}
use Rattle.lp_plain.specs.Tables.{AreGoals, AreRules, IsGoal, IsList, IsRule, Never, Shown, shown}
use Rattle.lp_plain.specs.Written.{IsWritten}
use Rattle.lp_plain.specs.WrittenGoals.{ClauseWritten, ClausesWritten, GoalWritten, GoalsWritten, HasNoTypes, IsProgramClause}
use Rattle.lp_plain.specs.WrittenSearch.{AreOlder, IsWrittenAt, IsWrittenSearch}
use Rattle.lp_plain.specs.WrittenTable.{HaveBinders, IsWrittenClause, IsWrittenHead, IsWrittenTodo, WrittenFlat, WrittenGoals, WrittenList, WrittenRule, WrittenRules, a_choice, a_cut, a_goal, a_list, a_not, a_rule, a_some, an_all, an_assume, an_atom, more_rules, no_goal, no_rule, own_and}
use Rattle.lp_plain.proofs.TableWritten.{AllPairs, own_many}
use Rattle.lp_plain.proofs.TrialParts.{AllAre}

-- the arguments of a head, and the pairs that its table has of them

arguments_written : (ar : ℕ → ℕ) (k n : ℕ) (h : Term) (more : List Term) → IsWritten ar k n h → AllAre (IsWritten ar k n) more → AllAre (IsWritten ar k n) (arguments_and h more)
arguments_written ar k n (index i) more w a = a
arguments_written ar k n (atom x) more w a = a
arguments_written ar k n (abs b) more w a = a
arguments_written ar k n (app f t) more w a = arguments_written ar k n f (t ∷ more) w.0 (w.1, a)

places_put : (Q : Term → Type 0) (n p : ℕ) (es hs : List Term) → AllAre Q hs → AllPairs Q (pair_places n p es hs)
places_put Q n p es [] a = tt
places_put Q n p es (h ∷ hs) a = go (is_first n h es) (places_put Q n (suc p) (h ∷ es) hs a.1)
  where
    go : (b : Bool) → AllPairs Q (pair_places n (suc p) (h ∷ es) hs) → AllPairs Q ((if b then [] else (p, h) ∷ []) ++ pair_places n (suc p) (h ∷ es) hs)
    go true r = r
    go false r = (a.0, r)

pairs_put : (b : Nodes) (Q : Term → Type 0) (ps : List HeadPair) → AllPairs Q (map (pair_in b) ps) → All (λ p. Q (tree b p.term.0)) ps
pairs_put b Q [] a = All-nil (λ (p : HeadPair). Q (tree b p.term.0))
pairs_put b Q (p ∷ ps) a = All-cons (λ (p : HeadPair). Q (tree b p.term.0)) p ps a.0 (pairs_put b Q ps a.1)

module _ (b : Nodes) (t : Shown) (ar : ℕ → ℕ) (k : ℕ) where
  listed_put : (bs : List Bool) (n : ℕ) (gs : Goals) → ((from to : ℕ) → GoalsWritten ar k bs gs → AreGoals b Never t from to gs → WrittenGoals b t ar
      k bs from to) → GoalsWritten ar k bs gs → IsList b Never t n gs → WrittenList b t ar k bs n
  listed_put bs n gs f w (inl h) = absurd h
  listed_put bs n gs f w (inr h) = a_list h.0 h.1 (f h.0.from h.0.to w h.2)

  rule_there : (i : ℕ) (c : Clause) → HasNoTypes c → IsRule b Never t i c → (r : Rule) × (slice_get t.rules i ≡ Some r) × (r.type_vars ≡ 0)
  rule_there i (clause n vs h body) z q = (q.0, q.1, q.2 ∙ z)

  mutual
    goal_put : (bs : List Bool) (f : Flat) (g : Goal) → GoalWritten ar k bs g → IsGoal b Never t f g → WrittenFlat b t ar k bs f
    goal_put bs f (Atomic u) w h = an_atom h.0 h.1 (subst (IsWritten ar k (length bs)) (sym h.2) w)
    goal_put bs f Cut w h = a_cut h
    goal_put bs f (Either gs hs) w h = a_choice h.0 h.1 h.2 (listed_put bs h.0 gs (λ i j. goals_put bs i j gs) w.0 h.3) (listed_put bs h.1 hs (λ i j. goals_put bs i j hs) w.1 h.4)
    goal_put bs f (Exists T gs) w h = a_some h.0 h.1 (listed_put (false ∷ bs) h.0 gs (λ i j. goals_put (false ∷ bs) i j gs) w h.2)
    goal_put bs f (Forall T gs) w h = an_all h.0 h.1 (listed_put (true ∷ bs) h.0 gs (λ i j. goals_put (true ∷ bs) i j gs) w h.2)
    goal_put bs f (Assume v cs gs) w h = an_assume h.0 h.1 h.2 h.3 (rules_put bs h.0.from h.0.to cs w.0 h.5) (listed_put bs h.1 gs (λ i j. goals_put bs i j gs) w.1 h.6)
    goal_put bs f (Not v gs) w h = a_not h.0 h.1 h.2 (listed_put bs h.0 gs (λ i j. goals_put bs i j gs) w h.4)

    goals_put : (bs : List Bool) (from to : ℕ) (gs : Goals) → GoalsWritten ar k bs gs → AreGoals b Never t from to gs → WrittenGoals b t ar k bs from to
    goals_put bs from to no_goals w h = no_goal h
    goals_put bs from to (goals g gs) w h = a_goal h.0 h.1 (goal_put bs h.0 g w.0 h.2) (goals_put bs (suc from) to gs w.1 h.3)

    pub rule_put : (bs : List Bool) (i : ℕ) (c : Clause) → ClauseWritten ar k bs c → IsRule b Never t i c → WrittenRule b t ar k bs i
    rule_put bs i (clause n vs h body) w q =
        let r = q.0 in
        let H = q.3 in
        let ps = pairs_put b (IsWritten ar k (length vs + length bs)) r.pairs.items
        (subst (AllPairs (IsWritten ar k (length vs + length bs))) (sym H.pairs)
        (places_put (IsWritten ar k (length vs + length bs)) (length vs) 0 [] (arguments h)
        (arguments_written ar k (length vs + length bs) h [] w.1 tt))) in
        a_rule r q.1
        (subst (λ j. IsWrittenHead ar k j bs (tree b r.head.0)) (sym H.count) (subst (IsWrittenHead ar k (length vs) bs) (sym H.head) w.0))
        (subst (λ j. All (λ p. IsWritten ar k (j + length bs) (tree b p.term.0)) r.pairs.items) (sym H.count) ps)
        (subst (λ j. WrittenList b t ar k (own_and j bs) r.body) (sym H.count) (listed_put (own_and (length vs) bs) r.body body (λ i j. goals_put (own_and (length vs) bs) i j body) w.2 q.4))

    rules_put : (bs : List Bool) (from to : ℕ) (cs : Clauses) → ClausesWritten ar k bs cs → AreRules b Never t from to cs → WrittenRules b t ar k bs from to
    rules_put bs from to no_clauses w h = no_rule h
    rules_put bs from to (clauses c cs) w h =
        let r = rule_there from c w.0 h.0 in
        more_rules r.0 r.1 r.2 (rule_put bs from c w.1 h.0) (rules_put bs (suc from) to cs w.2 h.1)

  -- a list
  pub list_put : (bs : List Bool) (n : ℕ) (gs : Goals) → GoalsWritten ar k bs gs → IsList b Never t n gs → WrittenList b t ar k bs n
  list_put bs n gs w h = listed_put bs n gs (λ i j. goals_put bs i j gs) w h

-- a clause of the program
pub clause_put : (m : Machine) (ar : ℕ → ℕ) (i : ℕ) (c : Clause) → IsProgramClause ar c → IsRule m.bank Never (shown m.table) i c → IsClauseWritten m ar (Candidate.Program i) c
clause_put m ar i (clause n vs h body) w q = (rule_put m.bank (shown m.table) ar n [] i (clause n vs h body) w.0 q, w.1)

-- variables that no `pi` of goals binds
no_true : (n i : ℕ) → slice_get (own_and n []) i ≡ Some true → ⊥
no_true zero i e = absurd (cc)
no_true (suc n) zero e = absurd (cc)
no_true (suc n) (suc i) e = no_true n i e

pub own_binders_are : (b : Nodes) (n : ℕ) (ws : List TermId) → length ws ≡ n → HaveBinders b (own_and n []) ws
own_binders_are b n ws e = record { many = (let q = own_many n [] in omega (arith, e, q)); eigens = λ i q. absurd (no_true n i q) }

-- a search begins without frames, assumptions and alternatives
pub first_written : (m : Machine) → m.frames.items ≡ [] → m.assumptions.items ≡ [] → m.choices.items ≡ [] → (ar : ℕ → ℕ) → IsWrittenSearch m ar
first_written m f a c ar = record {
  at_work = record {
    goals = All_empty (λ (x : Frame). IsWrittenTodo m.bank (shown m.table) ar (blocks_of m.scopes) x.place.values.scope x.todo) m.frames.items f;
    clauses = All_empty (IsWrittenClause m.bank (shown m.table) ar (blocks_of m.scopes)) m.assumptions.items a;
  };
  alternatives = All_empty (IsWrittenAt m ar) m.choices.items c;
  older = subst AreOlder (sym c) tt;
}

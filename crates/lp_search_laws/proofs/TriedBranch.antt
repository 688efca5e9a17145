-- The branch that a try makes, before unification: its goals are typed once the types of the heads are one.
use Rattle.std.proofs.Common.{◌≡◌, ℕ, ◌+◌, List, [], ◌∷◌, ◌++◌, map, length, refl, sym, subst as transport, arith, inl, inr}
use Rattle.lp_unify_laws.specs.TypesBelow.{AreTypesBelow}
use Rattle.lp_calculus.specs.Types.{Ty, instance}
use Rattle.lp_calculus.specs.Term.{Term}
use Rattle.lp_calculus.specs.Instance.{instance_term}
use Rattle.lp_calculus.specs.Typing.{o_type}
use Rattle.lp_lemmas.specs.Each.{EachOf}
use Rattle.lp_calculus.specs.Spine.{head_of}
use Rattle.lp_model.specs.Types.{TypeBinding}
use Rattle.lp_model.specs.Pair.{Pair}
use Rattle.lp_model.specs.Rule.{type_pairs}
use Rattle.lp_standard.specs.Schemes.{IsStandard}
use Rattle.lp_model.specs.Flat.{Written, Goal, Goals, no_goals, goals, Clause, clause, goal_list, type_goals, instantiate_goals, formula_of_goal, formula_of_goals, formula_of_clause}
use Rattle.lp_model.specs.Branch.{Entry, Branch, entries}
use Rattle.lp_model.specs.Search.{renewed}
use Rattle.lp_model.specs.Proofs.{Declared}
use Rattle.lp_model.specs.Answers.{Query, Variable, PairTyping, AreTypedPairs, AreTypedValues, IsWellFormed}
use Rattle.lp_unify_laws.specs.TypeSolutions.{Unifies}
use Rattle.lp_unify_laws.specs.Solutions.{instance_variable, IsMore}
use Rattle.lp_unify_laws.proofs.Scopes.{in_scope, typed_grows, scope_grows, prefix_none}
use Rattle.lp_proof_laws.proofs.Uniform.Roots.{connective}
use Rattle.lp_search_laws.specs.Holds.{IsTyped}
use Rattle.lp_search_laws.specs.Branches.{AreTypedEntries, IsGoal, AreGoals, IsAssumable, ArePlainEntries, IsPlainVariable, IsProgramTyped, IsTypedTry, BranchTyping, with_atom, answer_of}
use Rattle.lp_search_laws.specs.Written.{AreWrittenGoals, IsWrittenClause, IsWrittenEntry}
use Rattle.lp_search_laws.specs.Behind.{types_of, IsTypedAt, AreEntriesAt, IsBranchWith}
use Rattle.lp_search_laws.specs.Tries.{new_variables, tried_values, tried_typing, tried_branch_of}
use Rattle.lp_search_laws.proofs.Opened.{goals_instantiate}
use Rattle.lp_search_laws.proofs.TypedParts.{both_typed, typed_wider, goals_each}
use Rattle.lp_search_laws.proofs.Fronts.{plain_append}
use Rattle.lp_search_laws.proofs.Entries.{entries_at}
use Rattle.lp_search_laws.proofs.MatchTyped.{body_typed}
use Rattle.lp_search_laws.proofs.TryMatches as tries
use Rattle.lp_search_laws.proofs.TryMatches.{any_each}
use Rattle.lp_search_laws.proofs.Written.{goals_each as written_each, instantiated_goals, typed_goals, list_entries}
use Rattle.lp_search_laws.proofs.MoreTypes.{types_more, assumable_more, entries_more, variables_more, pairs_more, values_more}

-- over more variables
values_wider : (d : Declared) (V W : List Variable) → IsMore V W → (ts : List Term) (Ts : List Ty) → AreTypedValues d V ts Ts → AreTypedValues d W ts Ts
values_wider d V W m [] [] h = tt
values_wider d V W m [] (T ∷ Ts) h = absurd h
values_wider d V W m (t ∷ ts) [] h = absurd h
values_wider d V W m (t ∷ ts) (T ∷ Ts) h =
    (record { typed = typed_grows (in_scope d [] V) (in_scope d [] W) (scope_grows d [] [] V W (prefix_none []) m) [] t T h.0.typed; outermost = h.0.outermost; positive = h.0.positive }, values_wider d V W m ts Ts h.1)

pairs_wider : (d : Declared) (V W : List Variable) → IsMore V W → (ts : List PairTyping) (ps : List Pair) → AreTypedPairs d V ts ps → AreTypedPairs d W ts ps
pairs_wider d V W m [] [] h = tt
pairs_wider d V W m [] (p ∷ ps) h = absurd h
pairs_wider d V W m (t ∷ ts) [] h = absurd h
pairs_wider d V W m (t ∷ ts) (p ∷ ps) h =
    let x = h.0 in
    let l = typed_wider d t.eigens t.eigens V W (prefix_none t.eigens) m p.left t.type (record { typed = x.left; scoped = x.left_scoped }) in
    let r = typed_wider d t.eigens t.eigens V W (prefix_none t.eigens) m p.right t.type (record { typed = x.right; scoped = x.right_scoped }) in
    (record { level = x.level; left = l.typed; right = r.typed; left_scoped = l.scoped; right_scoped = r.scoped }, pairs_wider d V W m ts ps h.1)

clauses_wider : (d : Declared) (E : List Ty) (V W : List Variable) → IsMore V W → (A : List Clause) → EachOf (λ c. IsTyped d E V (formula_of_clause c) o_type) A → EachOf (λ c. IsTyped d E W (formula_of_clause c) o_type) A
clauses_wider d E V W m [] h = tt
clauses_wider d E V W m (c ∷ A) h = (typed_wider d E E V W (prefix_none E) m (formula_of_clause c) o_type h.0, clauses_wider d E V W m A h.1)

entries_wider : (d : Declared) (V W : List Variable) → IsMore V W → (Es : List (List Ty)) (es : List Entry) → AreTypedEntries d V Es es → AreTypedEntries d W Es es
entries_wider d V W m [] [] h = tt
entries_wider d V W m [] (e ∷ es) h = absurd h
entries_wider d V W m (E ∷ Es) [] h = absurd h
entries_wider d V W m (E ∷ Es) (e ∷ es) h =
    (record { level = h.0.level; goal = typed_wider d E E V W (prefix_none E) m (formula_of_goal e.goal) o_type h.0.goal; assumed = clauses_wider d E V W m e.assumed h.0.assumed }, entries_wider d V W m Es es h.1)

-- entries at types
at_append : (d : Declared) (V : List Variable) (ts : List TypeBinding) (Fs Es : List (List Ty)) (fs es : List Entry) → AreEntriesAt d V ts Fs fs → AreEntriesAt d V ts Es es → AreEntriesAt d V ts (Fs ++ Es) (fs ++ es)
at_append d V ts [] Es [] es h k = k
at_append d V ts [] Es (f ∷ fs) es h k = absurd h
at_append d V ts (F ∷ Fs) Es [] es h k = absurd h
at_append d V ts (F ∷ Fs) Es (f ∷ fs) es h k = (h.0, at_append d V ts Fs Es fs es h.1 k)

goals_at : (d : Declared) → IsStandard d → (E : List Ty) (V : List Variable) (ts : List TypeBinding) (gs : Goals) → IsTypedAt d E V ts (formula_of_goals gs) → EachOf (λ g. IsTypedAt d E V ts (formula_of_goal g)) (goal_list gs)
goals_at d std E V ts no_goals h = tt
goals_at d std E V ts (goals g no_goals) h = (h, tt)
goals_at d std E V ts (goals g (goals x gs)) h =
    let r = both_typed d (map (instance (types_of ts)) E) (map (instance_variable (types_of ts)) V) 0 (instance_term (types_of ts) (formula_of_goal g)) (instance_term (types_of ts) (formula_of_goals (goals x gs))) (connective d std 0 (omega arith)) h in
    (r.0, goals_at d std E V ts (goals x gs) r.1)

new_entries : (d : Declared) (E : List Ty) (V : List Variable) (ts : List TypeBinding) (A : List Clause) (W : Written) (level mark : ℕ) → length E ≡
    level → EachOf (λ k. IsTypedAt d E V ts (formula_of_clause k)) A → (gs : List Goal) → EachOf (λ g. IsTypedAt d E V ts (formula_of_goal g)) gs →
    AreEntriesAt d V ts (map (λ g. E) gs) (entries gs A W level mark)
new_entries d E V ts A W level mark l a [] h = tt
new_entries d E V ts A W level mark l a (g ∷ gs) h = (record { level = l; goal = h.0; assumed = a }, new_entries d E V ts A W level mark l a gs h.1)

new_plain : (j : ℕ) (E : List Ty) (A : List Clause) (W : Written) (level mark : ℕ) → AreTypesBelow j E → EachOf (IsAssumable j) A → (gs : List Goal) → EachOf (IsGoal j []) gs → ArePlainEntries j (map (λ g. E) gs) (entries gs A W level mark)
new_plain j E A W level mark e a [] h = tt
new_plain j E A W level mark e a (g ∷ gs) h = (record { eigens = e; goal = h.0; assumed = a }, new_plain j E A W level mark e a gs h.1)

each_append : {A : Type 0} (X : A → Type 0) (xs ys : List A) → EachOf X xs → EachOf X ys → EachOf X (xs ++ ys)
each_append X [] ys h k = k
each_append X (x ∷ xs) ys h k = (h.0, each_append X xs ys h.1 k)

module _ (n : ℕ) (d : Declared) (std : IsStandard d) (P : List Clause) (program : EachOf (IsProgramTyped d) P) (q : Query) (y : BranchTyping) (k : ℕ)
    (vs : List Ty) (h : Term) (g : Goals) (t : Term) (e : Entry) (b : Branch) (mark : ℕ) (w : IsTypedTry n d P q y (clause k vs h g) t e b)
    (E : List Ty) (Es : List (List Ty)) (is : y.eigens ≡ E ∷ Es) where
  abbrev ρ : ℕ → Ty
  ρ = renewed k b.next_type

  abbrev j : ℕ
  j = b.next_type + k

  abbrev V : List Variable
  V = y.answer.variables

  abbrev N : List Variable
  N = new_variables E (map (instance ρ) vs)

  abbrev head : Term
  head = instance_term ρ h

  abbrev values : ℕ → Term
  values = tried_values V e.level head t

  abbrev body : Goals
  body = instantiate_goals values (type_goals ρ g)

  abbrev here_typing : BranchTyping
  here_typing = tried_typing y E Es k vs h g t e b

  abbrev here : Branch
  here = tried_branch_of V k vs h g t e b mark

  more : IsMore V (V ++ N)
  more = record { more = N; is = refl }

  old : AreTypedEntries d (V ++ N) (E ∷ Es) (with_atom e t ∷ b.goals)
  old = entries_wider d V (V ++ N) more (E ∷ Es) (with_atom e t ∷ b.goals) (tries.entries n d std P program q y k vs h g t e b w E Es is)

  at_types : (ts : List TypeBinding) → Unifies (types_of ts) (type_pairs (head_of t) (head_of head)) → AreEntriesAt d (V ++ N) ts here_typing.eigens here.goals
  at_types ts u =
      let o = entries_at d (V ++ N) ts (E ∷ Es) (with_atom e t ∷ b.goals) old in
      let f = tries.entries n d std P program q y k vs h g t e b w E Es is in
      let r = body_typed d E V e.level f.0.level (map (instance ρ) vs) head (formula_of_goals (type_goals ρ g)) t (tries.try_matches n d std P program q y k vs h g t e b w E Es is) (types_of ts) u in
      let s = transport (IsTypedAt d E (V ++ N) ts) (sym (goals_instantiate values (type_goals ρ g))) r in
      at_append d (V ++ N) ts (map (λ x. E) (goal_list body)) Es (entries (goal_list body) e.assumed e.written e.level mark) b.goals
      (new_entries d E (V ++ N) ts e.assumed e.written e.level mark f.0.level o.0.assumed (goal_list body) (goals_at d std E (V ++ N) ts body s)) o.1

  answer : IsWellFormed d q here_typing.answer (answer_of here)
  answer = record {
    variables = tries.long n d std P program q y k vs h g t e b w E Es is;
    types = w.branch.answer.types;
    values = values_wider d V (V ++ N) more b.values _ w.branch.answer.values;
    pairs = pairs_wider d V (V ++ N) more y.answer.pairs b.pairs w.branch.answer.pairs;
  }

  body_written : AreWrittenGoals g
  body_written = elim w.stands [
    | inl i ↦ (any_each (IsProgramTyped d) (clause k vs h g) P i program).written
    | inr i ↦ any_each IsWrittenClause (clause k vs h g) e.assumed i w.branch.written.0.place.clauses
  ]

  -- what is plain in the clause's own part is given
  pub tried_branch : AreGoals j [] body → EachOf (IsPlainVariable j) N → IsBranchWith n d q (type_pairs (head_of t) (head_of head)) (tried_typing y E Es k vs h g t e b) (tried_branch_of y.answer.variables k vs h g t e b mark)
  tried_branch goals_plain variables_plain =
      let p = tries.plain n d std P program q y k vs h g t e b w E Es is in
      record {
        answer = answer;
        entries = at_types;
        variables = each_append (IsPlainVariable j) V N (variables_more b.next_type j (omega arith) V w.branch.variables) variables_plain;
        types = types_more b.next_type j (omega arith) b.types w.branch.types;
        values = values_more b.next_type j (omega arith) b.values w.branch.values;
        pairs = pairs_more b.next_type j (omega arith) b.pairs w.branch.pairs;
        goals = plain_append j (map (λ x. E) (goal_list body)) Es (entries (goal_list body) e.assumed e.written e.level mark) b.goals
            (new_plain j E e.assumed e.written e.level mark (types_more b.next_type j (omega arith) E p.0.eigens) (assumable_more b.next_type j (omega arith) e.assumed p.0.assumed) (goal_list body) (goals_each j [] body goals_plain))
            (entries_more b.next_type j (omega arith) Es b.goals p.1);
        written = each_append IsWrittenEntry (entries (goal_list body) e.assumed e.written e.level mark) b.goals
            (list_entries (goal_list body) e.assumed e.written e.level mark (written_each body (instantiated_goals values (type_goals ρ g) (typed_goals ρ g body_written))) w.branch.written.0.place) w.branch.written.1;
        stuck = w.branch.stuck;
      }

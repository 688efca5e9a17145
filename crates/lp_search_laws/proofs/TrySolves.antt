-- A try: a clause serves for its goal, and the goals behind it are provable, exactly where some closing of the try's branch solves the types of the
-- heads and the pairs of the arguments, and each goal of the branch is provable.
use Rattle.lp_proof_laws.proofs.Uniform.Settings.{IsSetting}
use Rattle.std.proofs.Common.{◌≡◌, ℕ, ◌+◌, ◌<◌, List, [], ◌∷◌, ◌++◌, map, length, ◌∙◌, refl, sym, ap, subst as transport, false, inl, inr}
use Rattle.lp_calculus.specs.Types.{Ty, instance}
use Rattle.lp_calculus.specs.Term.{Term}
use Rattle.lp_calculus.specs.Convert.{Converts}
use Rattle.lp_calculus.specs.Fill.{Within, close}
use Rattle.lp_calculus.specs.Instance.{instance_term}
use Rattle.lp_calculus.specs.Typing.{o_type}
use Rattle.lp_calculus.specs.Closed.{IsClosedType}
use Rattle.lp_calculus.proofs.Steps.{converts_on, converts_is}
use Rattle.lp_lemmas.specs.Each.{EachOf}
use Rattle.lp_calculus.specs.Spine.{head_of, arguments}
use Rattle.lp_model.specs.Index.{instantiate}
use Rattle.lp_model.specs.Rule.{type_pairs}
use Rattle.lp_model.specs.Pair.{Pair, Closing, closed, SolvesAll}
use Rattle.lp_model.specs.Search.{renewed, pairs_of}
use Rattle.lp_model.specs.Proofs.{Declared, IsFormula, IsWitness, Leaves, ProvableBy}
use Rattle.lp_model.specs.Flat.{Written, Goal, Goals, Clause, clause, goal_list, instantiate_goals, type_goals, formula_of_goal, formula_of_goals, formula_of_clause}
use Rattle.lp_model.specs.Branch.{Entry, Branch, entries}
use Rattle.lp_model.specs.Answers.{Query, Instance, Variable, PairTyping, AreTypedPairs, AreTypedValues, Closes}
use Rattle.lp_unify_laws.specs.TypeSolutions.{Unifies}
use Rattle.lp_unify_laws.proofs.Scopes.{got_before}
use Rattle.lp_unify_laws.proofs.TypedBindings.{IsAtomOf}
use Rattle.lp_search_laws.specs.Holds.{IsTyped}
use Rattle.lp_search_laws.specs.Clauses.{with_own, Applies, IsServing, sentence_of, clauses_at}
use Rattle.lp_search_laws.specs.Branches.{IsPlainTerm, IsClause, IsAssumable, IsProgramTyped, AreTypedEntries, ArePlainEntries, IsPlainVariable, IsPlainPair, AreProved, BranchTyping, with_atom, IsTypedTry, AreServed, SolvesTry}
use Rattle.lp_search_laws.specs.Behind.{SolvesWith}
use Rattle.lp_search_laws.specs.Tries.{new_variables, IsMatch, tried_values, tried_typing, tried_branch_of}
use Rattle.lp_search_laws.proofs.Opened.{goals_instantiate}
use Rattle.lp_search_laws.proofs.Goals.{goals_in_turn}
use Rattle.lp_search_laws.proofs.Fronts.{each_at, proved_append, entries_hold, hold_entries}
use Rattle.lp_search_laws.proofs.ClosedTerms.{atoms_of, same_closed}
use Rattle.lp_search_laws.proofs.Entries.{formulas}
use Rattle.lp_search_laws.proofs.Matching.{closes_front, body_formula, match_solved, match_applies}
use Rattle.lp_search_laws.proofs.PlainTypes.{agree_type, agree_list, agree_term, IsBelow, plain_below, goal_below, clause_below}
use Rattle.lp_search_laws.proofs.ResumedTypes.{value_scoped}
use Rattle.lp_search_laws.proofs.Resumed.{IsSame, AreSame, same_assumed, same_proved, convert_first, plain_closes}
use Rattle.lp_search_laws.proofs.TryMatches.{any_each, try_matches}
use Rattle.lp_search_laws.proofs.TrySolved.{with_types, with_old, with_new, with_closed, types_given, given_long, given_closed, given_type, MayHave, renewed_types, same_clause, applies_on, applies_back}

split_entries : (L : Leaves) (d : Declared) (P : List Clause) (c : Closing) (E : List Ty) (Es : List (List Ty)) (A : List Clause) (W : Written)
    (level mark : ℕ) (gs : List Goal) (es : List Entry) → AreProved L d P c (each_at E gs ++ Es) (entries gs A W level mark ++ es) → AreProved L d P c
    (each_at E gs) (entries gs A W level mark) × AreProved L d P c Es es
split_entries L d P c E Es A W l m [] es h = (tt, h)
split_entries L d P c E Es A W l m (g ∷ gs) es h = let r = split_entries _ d P c E Es A W l m gs es h.1 in ((h.0, r.0), r.1)

agree_closes : (d : Declared) (j : ℕ) (V : List Variable) (c z : Closing) → EachOf (IsPlainVariable j) V → z.terms ≡ c.terms → ((i : ℕ) → i < j → z.types i ≡ c.types i) → ((i : ℕ) → IsClosedType (z.types i)) → Closes d V c → Closes d V z
agree_closes d j V c z p e a t h = record {
  types = t;
  terms = λ x v i.
      let w = plain_closes d j V p x v i in
      transport (λ σ. IsWitness d (map (instance z.types) v.scope) (σ x (length v.scope)) (instance z.types v.type)) (sym e)
      (transport (λ X. IsWitness d X (c.terms x (length v.scope)) (instance z.types v.type)) (sym (agree_list j z.types c.types a v.scope w.scope))
      (transport (λ T. IsWitness d (map (instance c.types) v.scope) (c.terms x (length v.scope)) T) (sym (agree_type j z.types c.types a v.type w.type)) (h.terms x v i)));
}

-- two closings that give the same to terms over V with types below j
abbrev GivesSame : Declared → (j : ℕ) → List Variable → Closing → Closing → Type 0
GivesSame d j V c z = (E : List Ty) (n : ℕ) (t : Term) → Within (IsAtomOf d E V) n t → IsBelow j t → closed c t ≡ closed z t

solved_too : (d : Declared) (j : ℕ) (V : List Variable) (c z : Closing) → GivesSame d j V c z → (qs : List PairTyping) (ps : List Pair) → AreTypedPairs d V qs ps → EachOf (IsPlainPair j) ps → SolvesAll c ps → SolvesAll z ps
solved_too d j V c z f qs [] t p s = tt
solved_too d j V c z f [] (x ∷ ps) t p s = absurd t
solved_too d j V c z f (q ∷ qs) (x ∷ ps) t p s = (
  converts_on (converts_is (sym (f q.eigens 0 x.left (atoms_of d q.eigens V [] x.left q.type t.0.left t.0.left_scoped) (plain_below j x.left p.0.left))))
      (converts_on s.0 (converts_is (f q.eigens 0 x.right (atoms_of d q.eigens V [] x.right q.type t.0.right t.0.right_scoped) (plain_below j x.right p.0.right)))),
  solved_too d j V c z f qs ps t.1 p.1 s.1,
)

values_same : (d : Declared) (j : ℕ) (V : List Variable) (c z : Closing) → GivesSame d j V c z → (us : List Term) (Ts : List Ty) → AreTypedValues d V us Ts → EachOf (IsPlainTerm j) us → EachOf (λ u. Converts (closed z u) (closed c u)) us
values_same d j V c z f [] Ts t p = tt
values_same d j V c z f (u ∷ us) [] t p = absurd t
values_same d j V c z f (u ∷ us) (T ∷ Ts) t p = (converts_is (sym (f [] 0 u (atoms_of d [] V [] u T t.0.typed (value_scoped d V u T t.0.typed t.0.outermost)) (plain_below j u p.0))), values_same d j V c z f us Ts t.1 p.1)

clauses_same : (d : Declared) (j : ℕ) (V : List Variable) (c z : Closing) → GivesSame d j V c z → (E : List Ty) (A : List Clause) → EachOf (λ x. IsTyped d E V (formula_of_clause x) o_type) A → EachOf (IsAssumable j) A → EachOf (IsSame c z) (formulas A)
clauses_same d j V c z f E [] t p = tt
clauses_same d j V c z f E (x ∷ A) t p = (f E 0 (formula_of_clause x) (atoms_of d E V [] (formula_of_clause x) o_type t.0.typed t.0.scoped) (clause_below j [] x p.0.1), clauses_same d j V c z f E A t.1 p.1)

entries_same : (d : Declared) (j : ℕ) (V : List Variable) (c z : Closing) → ((i : ℕ) → i < j → c.types i ≡ z.types i) → GivesSame d j V c z → (Es : List (List Ty)) (es : List Entry) → AreTypedEntries d V Es es → ArePlainEntries j Es es → AreSame c z Es es
entries_same d j V c z a f [] [] t p = tt
entries_same d j V c z a f [] (e ∷ es) t p = tt
entries_same d j V c z a f (E ∷ Es) [] t p = tt
entries_same d j V c z a f (E ∷ Es) (e ∷ es) t p = (
  (agree_list j c.types z.types a E p.0.eigens, f E 0 (formula_of_goal e.goal) (atoms_of d E V [] (formula_of_goal e.goal) o_type t.0.goal.typed t.0.goal.scoped) (goal_below j [] e.goal p.0.goal), clauses_same d j V c z f E e.assumed t.0.assumed p.0.assumed),
  entries_same d j V c z a f Es es t.1 p.1,
)

module _ {L : Leaves} (n : ℕ) (d : Declared) (std : IsSetting L d) (P : List Clause) (program : EachOf (IsProgramTyped d) P) (q : Query)
    (y : BranchTyping) (k : ℕ) (vs : List Ty) (h : Term) (g : Goals) (t : Term) (e : Entry) (b : Branch) (mark : ℕ)
    (w : IsTypedTry n d P q y (clause k vs h g) t e b) (E : List Ty) (Es : List (List Ty)) (is : y.eigens ≡ E ∷ Es) where
  abbrev V : List Variable
  V = y.answer.variables

  abbrev j : ℕ
  j = b.next_type

  abbrev ρ : ℕ → Ty
  ρ = renewed k b.next_type

  abbrev c : Clause
  c = clause k vs h g

  abbrev vs' : List Ty
  vs' = map (instance ρ) vs

  abbrev h' : Term
  h' = instance_term ρ h

  abbrev g' : Goals
  g' = type_goals ρ g

  abbrev σ : ℕ → Term
  σ = tried_values V e.level h' t

  abbrev gl : List Goal
  gl = goal_list (instantiate_goals σ g')

  typed : AreTypedEntries d V (E ∷ Es) (with_atom e t ∷ b.goals)
  typed = transport (λ Fs. AreTypedEntries d V Fs (with_atom e t ∷ b.goals)) is w.branch.entries

  plain : ArePlainEntries b.next_type (E ∷ Es) (with_atom e t ∷ b.goals)
  plain = transport (λ Fs. ArePlainEntries b.next_type Fs (with_atom e t ∷ b.goals)) is w.branch.goals

  matches : IsMatch d E V vs' h' (formula_of_goals g') t
  matches = try_matches n d std.standard P program q y k vs h g t e b w E Es is

  form : (M : ℕ) × ((i : ℕ) → i < M → MayHave k b.next_type i) × IsClause M [] c
  form = elim w.stands [
    | inl i ↦ (k, (λ i l. inl l), (any_each (IsProgramTyped d) c P i program).form)
    | inr i ↦ let o = any_each (IsAssumable b.next_type) c e.assumed i plain.0.assumed in (b.next_type, (λ i l. inr (o.0, l)), o.1)
  ]

  formula : (z : Closing) → Closes d (V ++ new_variables E vs') z → Unifies z.types (type_pairs (head_of t) (head_of h')) → IsFormula d (map (instance z.types) E) (closed z (formula_of_goals (instantiate_goals σ g')))
  formula z cl u = transport (λ x. IsFormula d (map (instance z.types) E) (closed z x)) (sym (goals_instantiate σ g')) (body_formula d E V e.level typed.0.level vs' h' (formula_of_goals g') t matches z cl u)

  pub try_gives : (i : Instance) → SolvesWith L d P q i (tried_typing y E Es k vs h g t e b) (tried_branch_of y.answer.variables k vs h g t e b mark) (type_pairs (head_of t) (head_of h')) (pairs_of σ e.level [] (arguments h') (arguments t)) → SolvesTry L d P q i y (clause k vs h g) t e b
  try_gives i s =
      let z = s.branch.answer.closing in
      let N = new_variables E vs' in
      let cl' = s.branch.answer.closes in
      let cl = closes_front d V N z cl' in
      let F = map (instance z.types) E in
      let R = clauses_at P e.assumed z in
      let x = split_entries _ d P z E Es e.assumed e.written e.level mark gl b.goals s.branch.proved in
      let each = hold_entries _ d P z E e.assumed e.written e.level mark gl x.0 in
      let p = transport (λ u. ProvableBy L d F R (closed z u)) (goals_instantiate σ g') ((goals_in_turn d std F R z (instantiate_goals σ g') (formula z cl' s.types)).1 each) in
      let a = match_applies d E V R e.level vs' h' g' t z typed.0.level matches (record { closes = cl'; types = s.types; pairs = s.pairs; goals = p }) in
      let f = λ (l : ℕ). z.types (b.next_type + l) in
      let ts = types_given k f in
      let m = form.2 in
      let same = same_clause form.0 z (with_own k ts z) ρ vs h g (map (λ v. false) vs ++ []) refl (λ l r. renewed_types k b.next_type z.types ts z (λ l r. sym (given_type k f l r)) (λ l r. refl) l (form.1 l r)) m.0 m.2 m.3 in
      let serving : IsServing L d F R z k vs h g (closed z t) = record { types = ts; long = given_long k f; types_closed = given_closed k f (λ l. cl.types (b.next_type + l)); applies = applies_back d F R z (with_own k ts z) ρ vs h g (closed z t) same a } in
      record {
        query = s.branch.query;
        answer = record { closing = z; closes = cl; solves = s.branch.answer.solves; types = s.branch.answer.types; values = s.branch.answer.values };
        served = transport (λ Fs. AreServed L d P z Fs c t e b.goals) (sym is) (serving, x.1);
      }

  pub try_keeps : (i : Instance) → SolvesTry L d P q i y (clause k vs h g) t e b → SolvesWith L d P q i (tried_typing y E Es k vs h g t e b) (tried_branch_of y.answer.variables k vs h g t e b mark) (type_pairs (head_of t) (head_of h')) (pairs_of σ e.level [] (arguments h') (arguments t))
  try_keeps i s =
      let c0 = s.answer.closing in
      let sv = transport (λ Fs. AreServed L d P c0 Fs c t e b.goals) is s.served in
      let ts = sv.0.types in
      let c1 = with_types b.next_type ts c0 in
      let F0 = map (instance c0.types) E in
      let R0 = clauses_at P e.assumed c0 in
      let agrees = with_old b.next_type ts c0 in
      let cl1 = agree_closes d b.next_type V c0 c1 w.branch.variables refl agrees (with_closed b.next_type ts c0 sv.0.types_closed s.answer.closes.types) s.answer.closes in
      let below = λ (u : Term) (r : IsBelow b.next_type u). ap (close c0.terms) (agree_term b.next_type c1.types c0.types agrees u r) in
      let m = form.2 in
      let same = same_clause form.0 c1 (with_own k ts c0) ρ vs h g (map (λ v. false) vs ++ []) refl (λ l r. renewed_types k b.next_type c1.types ts c0 (λ l r. with_new b.next_type ts c0 l) agrees l (form.1 l r)) m.0 m.2 m.3 in
      let a0 = applies_on d F0 R0 c1 (with_own k ts c0) ρ vs h g (closed c0 t) (closed c1 t) same (sym (below t (plain_below b.next_type t plain.0.goal))) sv.0.applies in
      let a1 = transport (λ F. Applies L d F R0 c1 vs' h' g' (closed c1 t)) (sym (agree_list b.next_type c1.types c0.types agrees E plain.0.eigens)) a0 in
      let r = match_solved d E V R0 e.level vs' h' g' t c1 matches cl1 a1 in
      let z = r.0 in
      let on = r.1 in
      let sm = r.2 in
      let gives : GivesSame d b.next_type V c0 z = λ X l u x p. sym (same_closed d X V c1 z on.types (λ v u e. on.terms v (length u.scope) (got_before V v u e)) l u x ∙ below u p) in
      let types : (l : ℕ) → l < b.next_type → c0.types l ≡ z.types l = λ l p. sym (ap (λ f. f l) on.types ∙ agrees l p) in
      let same_clauses : R0 ≡ clauses_at P e.assumed z = ap (λ X. map sentence_of P ++ X) (same_assumed c0 z e.assumed (clauses_same d b.next_type V c0 z gives E e.assumed typed.0.assumed plain.0.assumed)) in
      let F = map (instance z.types) E in
      let R = clauses_at P e.assumed z in
      let p = transport (λ u. ProvableBy L d F R (closed z u)) (sym (goals_instantiate σ g')) (transport (λ X. ProvableBy L d F X (closed z (instantiate σ (formula_of_goals g')))) same_clauses sm.goals) in
      let each = (goals_in_turn d std F R z (instantiate_goals σ g') (formula z sm.closes sm.types)).0 p in
      let rest = same_proved _ d P c0 z Es b.goals (entries_same d b.next_type V c0 z types gives Es b.goals typed.1 plain.1) sv.1 in
      record {
        branch = record {
          query = s.query;
          answer = record {
            closing = z;
            closes = sm.closes;
            solves = solved_too d b.next_type V c0 z gives y.answer.pairs b.pairs w.branch.answer.pairs w.branch.pairs s.answer.solves;
            types = sym (agree_list b.next_type c0.types z.types types b.types w.branch.types) ∙ s.answer.types;
            values = convert_first (closed c0) (closed z) b.values i.values (values_same d b.next_type V c0 z gives b.values _ w.branch.answer.values w.branch.values) s.answer.values;
          };
          proved = proved_append _ d P z (each_at E gl) Es (entries gl e.assumed e.written e.level mark) b.goals (entries_hold _ d P z E e.assumed e.written e.level mark gl each) rest;
        };
        types = sm.types;
        pairs = sm.pairs;
      }

-- What a flattened goal at the front of a branch leaves.
use Rattle.lp_proof_laws.proofs.Uniform.Settings.{IsSetting}
use Rattle.std.proofs.Common.{◌≡◌, ℕ, suc, List, [], ◌∷◌, ◌++◌, map, length, Some, ◌∙◌, refl, sym, ap, subst as transport, arith, inl, inr, true, false}
use Rattle.std.specs.Prelude.{slice_get}
use Rattle.lp_calculus.specs.Types.{Ty, instance}
use Rattle.lp_calculus.specs.Term.{Term, abs, atom, substitute, eigen, logic}
use Rattle.lp_calculus.specs.Typing.{o_type, Typed}
use Rattle.lp_calculus.proofs.Sigma.{instead}
use Rattle.lp_model.specs.Pair.{Closing, closed}
use Rattle.lp_model.specs.Flat.{Written, Goal, Cut, Either, Forall, Assume, Not, Goals, Clause, Clauses, goal_list, clause_list, instantiate_goals, formula_of_goal, formula_of_goals, formula_of_clause, formula_of_clauses, Exists}
use Rattle.lp_model.specs.Branch.{both_written, Entry, Branch, Go, Stop, entries}
use Rattle.lp_model.specs.declared.ending.Ending.TheVariants.{OpenNot}
use Rattle.lp_model.specs.Answers.{Query, Variable, AnswerTyping, over, type_of, IsPrefix}
use Rattle.lp_model.specs.Proofs.{Declared, Leaves}
use Rattle.lp_model.specs.Search.{has_no_pairs, has_variables, with_goals}
use Rattle.lp_proof_laws.proofs.Uniform.Heads.{denial_root_by}
use Rattle.lp_proof_laws.proofs.Uniform.Roots.{connective, pi_type, sigma_type}
use Rattle.lp_unify_laws.proofs.Scopes.{prefix_more, prefix_none, more_none, eigen_last, get_last, of_variable}
use Rattle.lp_unify_laws.proofs.TypedInstances.{length_map, map_append}
use Rattle.lp_search_laws.specs.Denials.{denied_branch}
use Rattle.lp_search_laws.specs.Holds.{Holds, IsTyped}
use Rattle.lp_search_laws.specs.Clauses.{clauses_at}
use Rattle.lp_search_laws.specs.Branches.{IsGoal, EntryHolds, BranchTyping, IsTypedBranch, no_query, going, stopping}
use Rattle.lp_search_laws.specs.Given.{bound_by}
use Rattle.lp_search_laws.proofs.Given.{put_nothing, put_variable, put_eigenconstant, entries_at}
use Rattle.lp_search_laws.specs.Views.{StandFor, DeniesTyped}
use Rattle.lp_search_laws.proofs.Connectives.{either_holds, pi_holds, implied_holds, sigma_holds}
use Rattle.lp_search_laws.proofs.Formed.{formula_at}
use Rattle.lp_search_laws.proofs.TypedParts.{both_typed, function_typed, opened_typed, typed_wider, clauses_typed, clauses_each, argument_typed}
use Rattle.lp_search_laws.proofs.Fronts.{each_at, Typings, Typed as IsTypedHere, branch_stays, stands_one, stands_two}
use Rattle.lp_search_laws.proofs.NewVariable.{stands_new, clauses_more, unused_new}
use Rattle.lp_search_laws.specs.Written.{IsWrittenGoal, IsWrittenPlace}
use Rattle.lp_search_laws.proofs.Written.{written_more}
use Rattle.lp_search_laws.proofs.FlatViews.{IsPlaceOf, place_of, goals_stand, goals_proved, opened_stand, opened_proved, next_place, assumed_proved}
use Rattle.lp_lemmas.proofs.Each.{each_append}
use Rattle.lp_search_laws.specs.Branches.{IsAssumable}
use Rattle.lp_model.specs.Proofs.{True, Fails}

module _ {L : Leaves} (n : ℕ) (d : Declared) (std : IsSetting L d) (P : List Clause) (q : Query) (z : AnswerTyping) (b : Branch) (E : List Ty) (Es : List (List Ty)) (e : Entry) (es : List Entry) (h : IsTypedHere n d P q z b E Es e es) where
  abbrev pub V : List Variable
  V = z.variables

  abbrev pub k : ℕ
  k = b.next_type

  pub written_place : IsWrittenPlace e.assumed e.written
  written_place = h.written.0.place

  pub written_as : (g : Goal) → e.goal ≡ g → IsWrittenGoal g
  written_as g i = transport IsWrittenGoal i h.written.0.goal

  pub place : IsPlaceOf d z.variables b.next_type E e.assumed e.level
  place = place_of d z.variables b.next_type E e h.entries.0 h.goals.0

  pub typed_as : (g : Goal) → e.goal ≡ g → IsTyped d E z.variables (formula_of_goal g) o_type
  typed_as g i = transport (λ x. IsTyped d E z.variables (formula_of_goal x) o_type) i h.entries.0.goal

  pub plain_as : (g : Goal) → e.goal ≡ g → IsGoal b.next_type [] g
  plain_as g i = transport (IsGoal b.next_type []) i h.goals.0.goal

  abbrev pub HoldsHere : Closing → Term → Type 0
  HoldsHere c t = Holds L d (map (instance c.types) E) (clauses_at P e.assumed c) c t

  -- the entry holds where its goal, as it is known, does
  pub by_goal : (g : Goal) → e.goal ≡ g → (c : Closing) (A : Type 0) → (HoldsHere c (formula_of_goal g) → A) × (A → HoldsHere c (formula_of_goal g)) → (EntryHolds L d P c E e → A) × (A → EntryHolds L d P c E e)
  by_goal g i c A r = ((λ p. r.0 (transport (λ x. HoldsHere c (formula_of_goal x)) i p)), (λ a. transport (λ x. HoldsHere c (formula_of_goal x)) (sym i) (r.1 a)))

  pub cut_stands : e.goal ≡ Cut → StandFor L n d P q (going (Typings n d P q z b E Es e es (E ∷ Es)) (with_goals b (e ∷ es))) (Go (with_goals b es) ∷ [])
  cut_stands i = stands_one n d P q z b E Es e es h [] [] (record { typed = tt; plain = tt; written = tt }) (put_nothing n e.goal E z.variables [] [] (ap (bound_by n) i) refl) (λ c l. by_goal Cut i c _ ((λ p. tt), (λ p. record { proof = True; holds = inr refl })))

  pub either_stands : (l r : Goals) → e.goal ≡ Either l r → StandFor L n d P q (going (Typings n d P q z b E Es e es (E ∷ Es))
      (with_goals b (e ∷ es))) (Go (with_goals b (entries (goal_list l) e.assumed e.written e.level e.mark ++ es)) ∷ Go
      (with_goals b (entries (goal_list r) e.assumed e.written e.level e.mark ++ es)) ∷ [])
  either_stands l r i =
      let t = both_typed d E V 1 (formula_of_goals l) (formula_of_goals r) (connective d std.standard 1 (omega arith)) (typed_as (Either l r) i) in
      let w = plain_as (Either l r) i in
      let v = written_as (Either l r) i in
      stands_two n d P q z b E Es e es h (each_at E (goal_list l)) (each_at E (goal_list r)) (entries (goal_list l) e.assumed e.written e.level e.mark) (entries (goal_list r) e.assumed e.written e.level e.mark)
      (goals_stand d std.standard V k E e.assumed e.written e.level e.mark place written_place l t.0 w.0 v.0)
      (goals_stand d std.standard V k E e.assumed e.written e.level e.mark place written_place r t.1 w.1 v.1)
      (put_nothing n e.goal E z.variables (entries (goal_list l) e.assumed e.written e.level e.mark) (each_at E (goal_list l)) (ap (bound_by n) i) (entries_at E (goal_list l) e.assumed e.written e.level e.mark))
      (put_nothing n e.goal E z.variables (entries (goal_list r) e.assumed e.written e.level e.mark) (each_at E (goal_list r)) (ap (bound_by n) i) (entries_at E (goal_list r) e.assumed e.written e.level e.mark))
      (λ c s.
      let o = either_holds d std (map (instance c.types) E) (clauses_at P e.assumed c) c (formula_of_goals l) (formula_of_goals r) (formula_at d V c s E _ (typed_as (Either l r) i)) in
      let a = goals_proved d std P V c s E e.assumed e.written e.level e.mark l t.0 in
      let b' = goals_proved d std P V c s E e.assumed e.written e.level e.mark r t.1 in
      by_goal (Either l r) i c _ (
        (λ p. elim (o.0 p) [ inl x ↦ inl (a.0 x) | inr x ↦ inr (b'.0 x) ]),
        (λ p. o.1 (elim p [ inl x ↦ inl (a.1 x) | inr x ↦ inr (b'.1 x) ])),
      ))

  pub forall_stands : (T : Ty) (gs : Goals) (f : ℕ → Term) → ((i : ℕ) → f i ≡ instead (atom (eigen (suc e.level))) i) → e.goal ≡ Forall T gs →
      StandFor L n d P q (going (Typings n d P q z b E Es e es (E ∷ Es)) (with_goals b (e ∷ es))) (Go (with_goals b (entries (goal_list (instantiate_goals f gs)) e.assumed e.written (suc e.level) e.mark ++ es)) ∷ [])
  forall_stands T gs f a i =
      let F = E ++ T ∷ [] in
      let u = atom (eigen (suc e.level)) in
      let w = plain_as (Forall T gs) i in
      let s = function_typed d E V 4 T (abs (formula_of_goals gs)) (pi_type d std.standard T) (typed_as (Forall T gs) i) in
      let s' = typed_wider d E F V V (prefix_more E (T ∷ [])) (more_none V) (abs (formula_of_goals gs)) _ s in
      let pl = next_place d V k E e.assumed e.level T (w.0, tt) place in
      let eig : IsTyped d F V u T = record {
        typed = transport (λ m. Typed (over d (E ++ T ∷ []) V) [] (atom (eigen (suc m))) T) h.entries.0.level (eigen_last E T);
        scoped = (let x : length (E ++ T ∷ []) ≡ suc e.level = pl.is_level in omega arith);
      } in
      let t = opened_typed d F V T (abs (formula_of_goals gs)) u s' eig in
      stands_one n d P q z b E Es e es h (each_at F (goal_list (instantiate_goals f gs))) (entries (goal_list (instantiate_goals f gs)) e.assumed e.written (suc e.level) e.mark)
      (opened_stand d std.standard V k F e.assumed e.written (suc e.level) e.mark pl written_place true u f a tt (λ x. tt) gs t w.1 (written_as (Forall T gs) i))
      (put_eigenconstant n e.goal E z.variables (entries (goal_list (instantiate_goals f gs)) e.assumed e.written (suc e.level) e.mark) (each_at F (goal_list (instantiate_goals f gs))) T (ap (bound_by n) i) (entries_at F (goal_list (instantiate_goals f gs)) e.assumed e.written (suc e.level) e.mark))
      (λ c l.
      let E' = map (instance c.types) E in
      let R = clauses_at P e.assumed c in
      let o = pi_holds d std E' R c T (abs (formula_of_goals gs)) (formula_at d V c l E _ (typed_as (Forall T gs) i)) in
      let r = opened_proved d std P V c l F e.assumed e.written (suc e.level) e.mark u f a gs t in
      let x : suc (length E') ≡ suc e.level = ap suc (length_map (instance c.types) E ∙ h.entries.0.level) in
      let y : map (instance c.types) F ≡ E' ++ instance c.types T ∷ [] = map_append (instance c.types) E (T ∷ []) in
      let m = transport (λ j. Holds L d (E' ++ instance c.types T ∷ []) R c (substitute (atom (eigen j)) (formula_of_goals gs))) x in
      let m' = transport (λ j. Holds L d (E' ++ instance c.types T ∷ []) R c (substitute (atom (eigen j)) (formula_of_goals gs))) (sym x) in
      by_goal (Forall T gs) i c _ (
        (λ p. r.0 (transport (λ G. Holds L d G R c (substitute u (formula_of_goals gs))) (sym y) (m (o.0 p)))),
        (λ p. o.1 (m' (transport (λ G. Holds L d G R c (substitute u (formula_of_goals gs))) y (r.1 p)))),
      ))

  -- behind a negated goal
  pub rest_typed : IsTypedBranch n d q (Typings n d P q z b E Es e es Es) (with_goals b es)
  rest_typed = branch_stays n d P q z b E Es e es h [] [] (record { typed = tt; plain = tt; written = tt })

  -- the search of a negated goal begins with its goals alone
  abbrev pub inner_branch : Goals → Branch
  inner_branch gs = record { next = b.next; next_type = b.next_type; goals = entries (goal_list gs) e.assumed e.written e.level 0; types = []; values = []; pairs = [] }

  abbrev pub inner_typing : Goals → BranchTyping
  inner_typing gs = record { answer = record { variables = z.variables; pairs = [] }; eigens = each_at E (goal_list gs) }

  pub inner_goals_typed : (ws : Written) (gs : Goals) → e.goal ≡ Not ws gs → IsTyped d E z.variables (formula_of_goals gs) o_type
  inner_goals_typed ws gs i = argument_typed d std.standard E z.variables (formula_of_goals gs) (typed_as (Not ws gs) i)

  pub inner_typed : (ws : Written) (gs : Goals) → e.goal ≡ Not ws gs → IsTypedBranch n d no_query (inner_typing gs) (inner_branch gs)
  inner_typed ws gs i =
      let m = goals_stand d std.standard z.variables b.next_type E e.assumed e.written e.level 0 place written_place gs (inner_goals_typed ws gs i) (plain_as (Not ws gs) i) (written_as (Not ws gs) i).1 in
      record {
        answer = record { variables = h.answer.variables; types = refl; values = tt; pairs = tt };
        entries = m.typed;
        variables = h.variables;
        types = tt;
        values = tt;
        pairs = tt;
        goals = m.plain;
        written = m.written;
        stuck = tt;
      }

  unfoldable pub denied_stands : (ws : Written) (gs : Goals) → e.goal ≡ Not ws gs → has_variables n (both_written ws e.written) ≡ Some false →
      DeniesTyped L n d P q (going (Typings n d P q z b E Es e es (E ∷ Es)) (with_goals b (e ∷ es))) (Go (inner_branch gs)) has_no_pairs
      (Go (with_goals b es) ∷ [])
  denied_stands ws gs i tested = record {
    variables = z.variables;
    eigens = E;
    next_type = b.next_type;
    goals = gs;
    own = ws;
    assumed = e.assumed;
    written = e.written;
    final = refl;
    origin = (written_as (Not ws gs) i).2;
    place = written_place;
    tested = tested;
    typed = inner_goals_typed ws gs i;
    assumed_typed = place.typed;
    is = λ j. Go (denied_branch (sym h.answer.variables j) b.next_type gs e.assumed e.written (sym h.entries.0.level j));
    begins = transport (λ m. IsTypedBranch n d no_query (inner_typing gs) (denied_branch m b.next_type gs e.assumed e.written (length E))) (sym h.answer.variables)
        (transport (λ m. IsTypedBranch n d no_query (inner_typing gs) (denied_branch b.next b.next_type gs e.assumed e.written m)) (sym h.entries.0.level) (inner_typed ws gs i));
    rest_typing = Typings n d P q z b E Es e es Es;
    rest = with_goals b es;
    goes_on = refl;
    after = rest_typed;
    given = inl (record { front = []; types = []; goals = refl; eigens = refl; put = put_nothing n e.goal E z.variables [] [] (ap (bound_by n) i) refl; pairs = refl; found = (refl, refl, refl) });
    keeps = λ j s.
        let c = s.answer.closing in
        let E' = map (instance c.types) E in
        let R = clauses_at P e.assumed c in
        let p = transport (λ x. HoldsHere c (formula_of_goal x)) i s.proved.0 in
        let l = denial_root_by L d std.standard E' R (closed c (formula_of_goals gs)) (formula_at d z.variables c s.answer.closes E (formula_of_goal (Not ws gs)) (typed_as (Not ws gs) i)) (std.converting R) p in
        record { closing = c; closes = s.answer.closes; leaf = l; rest = record { query = s.query; answer = s.answer; proved = s.proved.1 } };
    gives = λ leaf j s.
        let c = s.answer.closing in
        let f = leaf c s.answer.closes in
        record { query = s.query; answer = s.answer; proved = (transport (λ x. HoldsHere c (formula_of_goal x)) (sym i) (record { proof = Fails f.0; holds = (closed c (formula_of_goals gs), refl, f.1) }), s.proved) };
  }

  -- one in which a variable stands stops the search
  pub open_stands : StandFor L n d P q (going (Typings n d P q z b E Es e es (E ∷ Es)) (with_goals b (e ∷ es))) (Stop OpenNot ∷ [])
  open_stands = record {
    typed = stopping OpenNot (going (Typings n d P q z b E Es e es (E ∷ Es)) (with_goals b (e ∷ es))) ∷ [];
    is = refl;
    ok = ((λ x. cc), tt);
    given = (tt, tt);
    keeps = λ i s. inl s;
    gives = λ i s. elim s [ inl x ↦ x | inr x ↦ absurd x ];
  }

  pub assume_stands : (ws : Written) (cs : Clauses) (gs : Goals) → e.goal ≡ Assume ws cs gs → StandFor L n d P q
      (going (Typings n d P q z b E Es e es (E ∷ Es)) (with_goals b (e ∷ es))) (Go (with_goals b
      (entries (goal_list gs) (clause_list cs ++ e.assumed) (both_written ws e.written) e.level e.mark ++ es)) ∷ [])
  assume_stands ws cs gs i =
      let t = both_typed d E V 2 (formula_of_clauses cs) (formula_of_goals gs) (connective d std.standard 2 (omega arith)) (typed_as (Assume ws cs gs) i) in
      let w = plain_as (Assume ws cs gs) i in
      let v = written_as (Assume ws cs gs) i in
      let A = clause_list cs ++ e.assumed in
      let pl : IsPlaceOf d z.variables b.next_type E (clause_list cs ++ e.assumed) e.level = record {
        is_level = place.is_level;
        below = place.below;
        typed = each_append (λ c. IsTyped d E z.variables (formula_of_clause c) o_type) (clause_list cs) e.assumed (clauses_typed d std.standard E z.variables cs t.0) place.typed;
        plain = each_append (IsAssumable b.next_type) (clause_list cs) e.assumed (clauses_each b.next_type cs w.0) place.plain;
      } in
      stands_one n d P q z b E Es e es h (each_at E (goal_list gs)) (entries (goal_list gs) A (both_written ws e.written) e.level e.mark) (goals_stand d std.standard V k E A (both_written ws e.written) e.level e.mark pl (written_more written_place ws cs v.0 v.1 v.3) gs t.1 w.1 v.2)
      (put_nothing n e.goal E z.variables (entries (goal_list gs) A (both_written ws e.written) e.level e.mark) (each_at E (goal_list gs)) (ap (bound_by n) i) (entries_at E (goal_list gs) A (both_written ws e.written) e.level e.mark))
      (λ c l.
      let E' = map (instance c.types) E in
      let o = implied_holds d std E' (clauses_at P e.assumed c) c (formula_of_clauses cs) (formula_of_goals gs) (formula_at d V c l E _ (typed_as (Assume ws cs gs) i)) in
      let r = goals_proved d std P V c l E A (both_written ws e.written) e.level e.mark gs t.1 in
      let x = assumed_proved d std E' P e.assumed c cs (closed c (formula_of_goals gs)) (formula_at d V c l E (formula_of_clauses cs) t.0) in
      by_goal (Assume ws cs gs) i c _ ((λ p. r.0 (x.0 (o.0 p))), (λ p. o.1 (x.1 (r.1 p)))))

  -- the new variable of a goal that says that there is a term of type T
  module _ (T : Ty) where
    pub new_typed : IsTyped d E (z.variables ++ record { type = T; scope = E } ∷ []) (atom (logic b.next e.level)) T
    new_typed = record {
      typed = transport (λ m. type_of (slice_get (z.variables ++ record { type = T; scope = E } ∷ []) b.next) m ≡ Some T) h.entries.0.level
          (transport (λ m. type_of (slice_get (z.variables ++ record { type = T; scope = E } ∷ []) m) (length E) ≡ Some T) h.answer.variables
          (of_variable (z.variables ++ record { type = T; scope = E } ∷ []) (length z.variables) (record { type = T; scope = E })
          (get_last z.variables (record { type = T; scope = E }))));
      scoped = λ v i.
          let g = transport (λ m. slice_get (z.variables ++ record { type = T; scope = E } ∷ []) m ≡ Some (record { type = T; scope = E })) h.answer.variables (get_last z.variables (record { type = T; scope = E })) in
          let s : ◌≡◌ {A = Variable} (record { type = T; scope = E }) v = cc in
          transport (λ w. IsPrefix w.scope E) s (prefix_none E);
    }

    pub new_place : IsPlaceOf d (z.variables ++ record { type = T; scope = E } ∷ []) b.next_type E e.assumed e.level
    new_place = record { is_level = place.is_level; below = place.below; typed = clauses_more d E z.variables (z.variables ++ record { type = T; scope = E } ∷ []) (record { more = record { type = T; scope = E } ∷ []; is = refl }) e.assumed place.typed; plain = place.plain }

  pub exists_stands : (T : Ty) (gs : Goals) (f : ℕ → Term) → ((i : ℕ) → f i ≡ instead (atom (logic b.next e.level)) i) → e.goal ≡ Exists T gs →
      StandFor L n d P q (going (Typings n d P q z b E Es e es (E ∷ Es)) (with_goals b (e ∷ es)))
      (Go (record {
        next = suc b.next;
        next_type = b.next_type;
        goals = entries (goal_list (instantiate_goals f gs)) e.assumed e.written e.level
            e.mark ++ es;
        types = b.types;
        values = b.values;
        pairs = b.pairs;
      }) ∷ [])
  exists_stands T gs f a i =
      let u = atom (logic b.next e.level) in
      let X = z.variables ++ record { type = T; scope = E } ∷ [] in
      let w = plain_as (Exists T gs) i in
      let s = function_typed d E V 5 T (abs (formula_of_goals gs)) (sigma_type d std.standard T) (typed_as (Exists T gs) i) in
      let s' = typed_wider d E E V X (prefix_none E) (record { more = record { type = T; scope = E } ∷ []; is = refl }) (abs (formula_of_goals gs)) _ s in
      let t = opened_typed d E X T (abs (formula_of_goals gs)) u s' (new_typed T) in
      stands_new n d P q z b E Es e es h T w.0 (substitute u (formula_of_goals gs)) (each_at E (goal_list (instantiate_goals f gs))) (entries (goal_list (instantiate_goals f gs)) e.assumed e.written e.level e.mark)
      (opened_stand d std.standard X k E e.assumed e.written e.level e.mark (new_place T) written_place false u f a tt (λ x. absurd (cc)) gs t w.1 (written_as (Exists T gs) i))
      (put_variable n e.goal E z.variables (entries (goal_list (instantiate_goals f gs)) e.assumed e.written e.level e.mark) (each_at E (goal_list (instantiate_goals f gs))) T (ap (bound_by n) i) (entries_at E (goal_list (instantiate_goals f gs)) e.assumed e.written e.level e.mark))
      (λ c l. by_goal (Exists T gs) i c _ (sigma_holds d std (map (instance c.types) E) (clauses_at P e.assumed c) c b.next e.level T
      (abs (formula_of_goals gs)) (unused_new d E V b.next e.level (sym h.answer.variables) (abs (formula_of_goals gs)) _ s.typed)
      (formula_at d V c l E _ (typed_as (Exists T gs) i))))
      (λ c l. opened_proved d std P X c l E e.assumed e.written e.level e.mark u f a gs t)

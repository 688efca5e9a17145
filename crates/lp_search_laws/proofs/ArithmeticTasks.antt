-- What the search leaves of an arithmetic goal: `is` is as good as an equality, and a comparison is gone or there is nothing left.
use Rattle.lp_proof_laws.proofs.Uniform.Settings.{IsSetting}
use Rattle.std.proofs.Common.{◌≡◌, ℕ, zero, suc, ◌≤◌, List, [], ◌∷◌, map, refl, sym, ap, ◌∙◌, subst as transport, arith, inl, inr, Bool, true, false, Option, Some, None, if◌then◌else◌}
use Rattle.std.specs.Prelude.{ℤ}
use Rattle.lp_calculus.specs.Types.{Ty, instance, arrow}
use Rattle.lp_standard.specs.Positive.{IsPositiveAtom}
use Rattle.lp_calculus.specs.Term.{Term, constant}
use Rattle.lp_calculus.specs.Convert.{ReducesTo}
use Rattle.lp_calculus.specs.Fill.{Within}
use Rattle.lp_calculus.specs.Typing.{Typed, o_type, scheme_type}
use Rattle.lp_model.specs.Unify.{unit_limit}
use Rattle.lp_model.specs.declared.ending.Ending.TheVariants.{Arithmetic}
use Rattle.lp_model.specs.declared.ending.Fault.TheVariants.{NotClosed}
use Rattle.lp_model.specs.Look.{head_normal}
use Rattle.lp_model.specs.Pair.{Closing, closed}
use Rattle.lp_standard.specs.Connectives.{two, connective_of}
use Rattle.lp_standard.specs.Connectives as connective
use Rattle.lp_model.specs.Flat.{Atomic, Clause, formula_of_goal}
use Rattle.lp_model.specs.Flatten.{ClauseFormula}
use Rattle.lp_model.specs.Values.{Value, Number, Bytes, Outcome, Is, Faults, evaluate, term_of, ordered}
use Rattle.lp_model.specs.Proofs.{Declared, IsFormula, Leaves}
use Rattle.lp_model.specs.Answers.{Query, Variable, over, IsScopedAtom, Instance, AnswerTyping, Closes}
use Rattle.lp_model.specs.Branch.{Entry, Branch, Task, Go}
use Rattle.lp_model.specs.Search.{with_goals, equated, assigned, compared}
use Rattle.lp_unify_laws.proofs.Looks.{head_reduces}
use Rattle.lp_search_laws.specs.Holds.{Holds, IsTyped}
use Rattle.lp_search_laws.specs.Clauses.{clauses_at}
use Rattle.lp_search_laws.specs.Branches.{IsPlainTerm, IsGoal, BranchTyping, IsTypedBranch, SolvesBranch, with_atom, SolvesAs, TypedTask, going}
use Rattle.lp_search_laws.specs.Given.{bound_by, IsTypedFrom}
use Rattle.lp_search_laws.proofs.Given.{form_bound, put_nothing, order_form, same_start}
use Rattle.lp_search_laws.specs.Views.{StandFor}
use Rattle.lp_search_laws.proofs.Closed.{closed_reduces}
use Rattle.lp_search_laws.proofs.Connectives.{reduces_on, reduces_back}
use Rattle.lp_search_laws.proofs.FlatViews.{each_so}
use Rattle.lp_search_laws.proofs.Formed.{formula_at}
use Rattle.lp_search_laws.proofs.Standing.{stopped, lacked}
use Rattle.lp_search_laws.proofs.Tried.{typed_reduct, plain_reduct}
use Rattle.lp_search_laws.proofs.Expressions.{evaluated}
use Rattle.lp_search_laws.proofs.Computed.{over_type, arrows_same, value_typed, assigned_at, comparisons}

value_scoped : (V : List Variable) (E : List Ty) (v : Value) → Within (IsScopedAtom V E) 0 (term_of v)
value_scoped V E (Number z) = tt
value_scoped V E (Bytes s) = tt

value_plain : (k : ℕ) (v : Value) → IsPlainTerm k (term_of v)
value_plain k (Number z) = tt
value_plain k (Bytes s) = tt

module _ {L : Leaves} (n : ℕ) (d : Declared) (std : IsSetting L d) (P : List Clause) (q : Query) (z : AnswerTyping) (b : Branch) (E : List Ty) (Es : List (List Ty)) (e : Entry) (es : List Entry) (t u : Term) (is : e.goal ≡ Atomic t) (normal : head_normal n t ≡ Some u)
    (typed : IsTypedBranch n d q (record { answer = z; eigens = E ∷ Es }) (with_goals b (e ∷ es))) where
  abbrev typing : BranchTyping
  typing = record { answer = z; eigens = E ∷ Es }

  abbrev here : TypedTask
  here = going typing (with_goals b (e ∷ es))

  reduces : ReducesTo t u
  reduces = head_reduces n t u normal

  goal_typed : IsTyped d E z.variables t o_type
  goal_typed = transport (λ g. IsTyped d E z.variables (formula_of_goal g) o_type) is typed.entries.0.goal

  normal_typed : IsTyped d E z.variables u o_type
  normal_typed = typed_reduct d E z.variables t u o_type reduces goal_typed

  normal_plain : IsPlainTerm b.next_type u
  normal_plain = plain_reduct d E z.variables t u o_type b.next_type reduces goal_typed (transport (λ g. IsGoal b.next_type [] g) is typed.goals.0.goal)

  -- the entry holds where its head-normal goal does
  module _ (c : Closing) (closes : Closes d z.variables c) where
    abbrev F : List Ty
    F = map (instance c.types) E

    abbrev Q : List ClauseFormula
    Q = clauses_at P e.assumed c

    fine : IsFormula d F (closed c t)
    fine = formula_at d z.variables c closes E t goal_typed

    normal_fine : IsFormula d F (closed c u)
    normal_fine = formula_at d z.variables c closes E u normal_typed

    to_normal : Holds L d F Q c (formula_of_goal e.goal) → Holds L d F Q c u
    to_normal p = reduces_on d F Q fine (closed_reduces c reduces) (transport (λ g. Holds L d F Q c (formula_of_goal g)) is p)

    from_normal : Holds L d F Q c u → Holds L d F Q c (formula_of_goal e.goal)
    from_normal p = transport (λ g. Holds L d F Q c (formula_of_goal g)) (sym is) (reduces_back d F Q fine (closed_reduces c reduces) p)

  -- `is`
  is_at : (ts : List Ty) (l r : Term) → u ≡ two 9 ts l r → (T : Ty) × (ts ≡ T ∷ [])
  is_at ts l r shape =
      let y = (transport (λ w. IsTyped d E z.variables w o_type) shape normal_typed).typed in
      let o = over_type ts (arrow y.1.0 (arrow y.0 o_type)) (sym (ap (scheme_type ts) (std.standard.at 9 (omega arith))) ∙ y.1.1) in
      (o.0, o.1)

  module _ (T : Ty) (l r : Term) (shape : u ≡ two 9 (T ∷ []) l r) (v : Value) (value : evaluate n r ≡ Some (Is v)) where
    abbrev equal : Term
    equal = two 8 (T ∷ []) l (term_of v)

    abbrev branch_of : Branch
    branch_of = with_goals b (with_atom e equal ∷ es)

    equal_typed : IsTyped d E z.variables equal o_type
    equal_typed =
        let h = transport (λ w. IsTyped d E z.variables w o_type) shape normal_typed in
        let y = h.typed in
        let o = over_type (T ∷ []) (arrow y.1.0 (arrow y.0 o_type)) (sym (ap (scheme_type (T ∷ [])) (std.standard.at 9 (omega arith))) ∙ y.1.1) in
        let g : o.0 ≡ T = (let f = o.1 in cc) in
        let w = arrows_same y.1.0 y.0 o.0 o.2 in
        let tl = transport (Typed (over d E z.variables) [] l) (w.0 ∙ g) y.1.2 in
        let tr = transport (Typed (over d E z.variables) [] r) (w.1 ∙ g) y.2 in
        record {
          typed = (T, (T, ap (scheme_type (T ∷ [])) (std.standard.at 8 (omega arith)), tl), value_typed (over d E z.variables) [] r v T std.standard (evaluated n r v value) tr);
          scoped = ((tt, h.scoped.0.1), value_scoped z.variables E v);
        }

    equal_plain : IsPlainTerm b.next_type equal
    equal_plain =
        let h = transport (IsPlainTerm b.next_type) shape normal_plain in
        let positive : IsPositiveAtom (constant 8 (T ∷ [])) = refl in
        (((positive, h.0.0.1), h.0.1), value_plain b.next_type v)

    pub equal_branch : IsTypedBranch n d q typing branch_of
    equal_branch = record {
      answer = typed.answer;
      entries = (record { level = typed.entries.0.level; goal = equal_typed; assumed = typed.entries.0.assumed }, typed.entries.1);
      variables = typed.variables;
      types = typed.types;
      values = typed.values;
      pairs = typed.pairs;
      goals = (record { eigens = typed.goals.0.eigens; goal = equal_plain; assumed = typed.goals.0.assumed }, typed.goals.1);
      written = (record { goal = tt; place = typed.written.0.place }, typed.written.1);
      stuck = typed.stuck;
    }

    is_fine : (c : Closing) → Closes d z.variables c → IsFormula d (map (instance c.types) E) (closed c (two 9 (T ∷ []) l r))
    is_fine c k = transport (λ w. IsFormula d (map (instance c.types) E) (closed c w)) shape (normal_fine c k)

    pub to_equal : (i : Instance) → SolvesBranch L d P q i typing (with_goals b (e ∷ es)) → SolvesBranch L d P q i typing branch_of
    to_equal i s =
        let c = s.answer.closing in
        let k = s.answer.closes in
        let p = transport (λ w. Holds L d (map (instance c.types) E) (clauses_at P e.assumed c) c w) shape (to_normal c k s.proved.0) in
        record { query = s.query; answer = s.answer; proved = ((assigned_at d std (map (instance c.types) E) (clauses_at P e.assumed c) c T l r v (evaluated n r v value) (is_fine c k)).to p, s.proved.1) }

    pub from_equal : (i : Instance) → SolvesBranch L d P q i typing branch_of → SolvesBranch L d P q i typing (with_goals b (e ∷ es))
    from_equal i s =
        let c = s.answer.closing in
        let k = s.answer.closes in
        let p = (assigned_at d std (map (instance c.types) E) (clauses_at P e.assumed c) c T l r v (evaluated n r v value) (is_fine c k)).from s.proved.0 in
        record { query = s.query; answer = s.answer; proved = (from_normal c k (transport (λ w. Holds L d (map (instance c.types) E) (clauses_at P e.assumed c) c w) (sym shape) p), s.proved.1) }

    head_is : head_normal n equal ≡ Some equal
    head_is = go n normal
      where
        go : (m : ℕ) → head_normal m t ≡ Some u → head_normal m equal ≡ Some equal
        go zero w = absurd (cc)
        go (suc m) w = refl

    -- neither binds anything
    same_bound : bound_by n (Atomic equal) ≡ bound_by n e.goal
    same_bound = form_bound n (Atomic equal) equal equal connective.Atomic refl head_is refl ∙ sym (form_bound n e.goal t u connective.Atomic is normal (ap connective_of shape))

    -- what stands for the equality stands for `is`
    equal_stands : (ts : List Task) → StandFor L n d P q (going typing branch_of) ts → StandFor L n d P q here ts
    equal_stands ts s = record {
      typed = s.typed;
      is = s.is;
      ok = s.ok;
      given = each_so (IsTypedFrom n d (going typing branch_of))
          (IsTypedFrom n d here) (same_start n d z E Es b (with_atom e equal) e es same_bound) s.typed s.given;
      keeps = λ i h. s.keeps i (to_equal i h);
      gives = λ i h. from_equal i (s.gives i h);
    }

  -- the equality's law, for each branch with it in front
  abbrev EqualitiesStand : Type 0
  EqualitiesStand = (x : Entry) (T : Ty) (l r : Term) → x.goal ≡ Atomic (two 8 (T ∷ []) l r) → head_normal n (two 8 (T ∷ []) l r) ≡ Some
      (two 8 (T ∷ []) l r) → IsTypedBranch n d q typing (with_goals b (x ∷ es)) → StandFor L n d P q (going typing (with_goals b (x ∷ es)))
      (equated unit_limit n x.level l r (with_goals b es))

  pub assigned_stands : EqualitiesStand → (T : Ty) (l r : Term) → u ≡ two 9 (T ∷ []) l r → (o : Option Outcome) → evaluate n r ≡ o → StandFor L n d P q here (assigned unit_limit n e.level l (with_goals b es) o)
  assigned_stands h T l r shape None k = lacked n d P q here
  assigned_stands h T l r shape (Some (Faults f)) k = stopped n d P q here (Arithmetic f) (λ w. cc)
  assigned_stands h T l r shape (Some (Is v)) k =
      equal_stands T l r shape v k (equated unit_limit n e.level l (term_of v) (with_goals b es))
      (h (with_atom e (two 8 (T ∷ []) l (term_of v))) T l (term_of v) refl (head_is T l r shape v k) (equal_branch T l r shape v k))

  -- orders
  module _ (k : ℕ) (low : 10 ≤ k) (high : k ≤ 13) (ts : List Ty) (l r : Term) (shape : u ≡ two k ts l r) where
    abbrev rest : TypedTask
    rest = going (record { answer = z; eigens = Es }) (with_goals b es)

    rest_typed : IsTypedBranch n d q (record { answer = z; eigens = Es }) (with_goals b es)
    rest_typed = record { answer = typed.answer; entries = typed.entries.1; variables = typed.variables; types = typed.types; values = typed.values; pairs = typed.pairs; goals = typed.goals.1; written = typed.written.1; stuck = typed.stuck }

    module _ (x y : ℤ) (left : evaluate n l ≡ Some (Is (Number x))) (right : evaluate n r ≡ Some (Is (Number y))) where
      decided : (c : Closing) → Closes d z.variables c → (Holds L d (map (instance c.types) E) (clauses_at P e.assumed c) c (formula_of_goal e.goal) → ordered k x y ≡ true) × (ordered k x y ≡ true → Holds L d (map (instance c.types) E) (clauses_at P e.assumed c) c (formula_of_goal e.goal))
      decided c h =
          let G = map (instance c.types) E in
          let R = clauses_at P e.assumed c in
          let w = comparisons d std G R c ts k n l r x y low high left right (transport (λ s. IsFormula d G (closed c s)) shape (normal_fine c h)) in (
            (λ p. w.0 (transport (λ s. Holds L d G R c s) shape (to_normal c h p))),
            (λ p. from_normal c h (transport (λ s. Holds L d G R c s) (sym shape) (w.1 p))),
          )

      by_order : (o : Bool) → ordered k x y ≡ o → StandFor L n d P q here (if o then Go (with_goals b es) ∷ [] else [])
      by_order true w = record {
        typed = rest ∷ [];
        is = refl;
        ok = (rest_typed, tt);
        given = (inl (record { front = []; types = []; goals = refl; eigens = refl; put = put_nothing n e.goal E z.variables [] [] (form_bound n e.goal t u connective.Atomic is normal (ap connective_of shape ∙ order_form k low ts l r)) refl; pairs = refl; found = (refl, refl, refl) }), tt);
        keeps = λ i s. inl (record { query = s.query; answer = s.answer; proved = s.proved.1 });
        gives = λ i s. elim s [ inl h ↦ record { query = h.query; answer = h.answer; proved = ((decided h.answer.closing h.answer.closes).1 w, h.proved) } | inr h ↦ absurd h ];
      }
      by_order false w = record {
        typed = [];
        is = refl;
        ok = tt;
        given = tt;
        keeps = λ i s. let f : ordered k x y ≡ true = (decided s.answer.closing s.answer.closes).0 s.proved.0 in absurd (cc);
        gives = λ i s. absurd s;
      }

    pub compared_stands : (o p : Option Outcome) → evaluate n l ≡ o → evaluate n r ≡ p → StandFor L n d P q here (compared k (with_goals b es) o p)
    compared_stands None p a c = lacked n d P q here
    compared_stands (Some (Faults f)) p a c = stopped n d P q here (Arithmetic f) (λ w. cc)
    compared_stands (Some (Is (Bytes s))) p a c = stopped n d P q here (Arithmetic NotClosed) (λ w. cc)
    compared_stands (Some (Is (Number x))) None a c = lacked n d P q here
    compared_stands (Some (Is (Number x))) (Some (Faults f)) a c = stopped n d P q here (Arithmetic f) (λ w. cc)
    compared_stands (Some (Is (Number x))) (Some (Is (Bytes s))) a c = stopped n d P q here (Arithmetic NotClosed) (λ w. cc)
    compared_stands (Some (Is (Number x))) (Some (Is (Number y))) a c = by_order x y a c (ordered k x y) refl

  pub compared_here : (k : ℕ) → 10 ≤ k → k ≤ 13 → (ts : List Ty) (l r : Term) → u ≡ two k ts l r → StandFor L n d P q here (compared k (with_goals b es) (evaluate n l) (evaluate n r))
  compared_here k low high ts l r shape = compared_stands k low high ts l r shape (evaluate n l) (evaluate n r) refl refl

  pub same_as_equality : (ts : List Ty) (l r : Term) → u ≡ two 9 ts l r → (v : Value) → evaluate n r ≡ Some (Is v) → (T : Ty) × (ts ≡ T ∷ []) × SolvesAs L n d P q typing (with_goals b (e ∷ es)) (with_goals b (with_atom e (two 8 (T ∷ []) l (term_of v)) ∷ es))
  same_as_equality ts l r shape v k =
      let a = is_at ts l r shape in
      let w = transport (λ us. u ≡ two 9 us l r) a.1 shape in
      (a.0, a.1, record { typed = equal_branch a.0 l r w v k; keeps = to_equal a.0 l r w v k; gives = from_equal a.0 l r w v k })

-- a branch by its first goal
pub by_first : (n : ℕ) (d : Declared) (q : Query) (X : BranchTyping → Branch → Type 0) (y : BranchTyping) (b : Branch) (e : Entry) (es : List Entry) →
    b.goals ≡ e ∷ es → ((E : List Ty) (Es : List (List Ty)) → IsTypedBranch n d q (record { answer = y.answer; eigens = E ∷ Es })
    (with_goals b (e ∷ es)) → X (record { answer = y.answer; eigens = E ∷ Es }) (with_goals b (e ∷ es))) → IsTypedBranch n d q y b → X y b
by_first n d q X y b e es g h typed = go y.eigens refl
  where
    same_branch : b ≡ with_goals b (e ∷ es)
    same_branch = ap (with_goals b) g

    first : (Fs : List (List Ty)) → IsTypedBranch n d q (record { answer = y.answer; eigens = Fs }) (with_goals b (e ∷ es)) → X (record { answer = y.answer; eigens = Fs }) (with_goals b (e ∷ es))
    first [] w = absurd w.entries
    first (E ∷ Es) w = h E Es w

    go : (Fs : List (List Ty)) → y.eigens ≡ Fs → X y b
    go Fs f =
        let typings : y ≡ record { answer = y.answer; eigens = Fs } = ap (λ x. record { answer = y.answer; eigens = x }) f in
        let all : IsTypedBranch n d q (record { answer = y.answer; eigens = Fs }) (with_goals b (e ∷ es)) = transport (λ x. IsTypedBranch n d q x (with_goals b (e ∷ es))) typings (transport (IsTypedBranch n d q y) same_branch typed) in
        transport (X y) (sym same_branch) (transport (λ x. X x (with_goals b (e ∷ es))) (sym typings) (first Fs all))

pub comparisons_stand : {L : Leaves} (n : ℕ) (d : Declared) → IsSetting L d → (P : List Clause) (q : Query) (y : BranchTyping) (b : Branch)
    (e : Entry) (es : List Entry) (t u : Term) (k : ℕ) (ts : List Ty) (l r : Term) → b.goals ≡ e ∷ es → e.goal ≡ Atomic t → head_normal n t ≡ Some u →
    u ≡ two k ts l r → 10 ≤ k → k ≤ 13 → IsTypedBranch n d q y b → StandFor L n d P q (going y b)
    (compared k (with_goals b es) (evaluate n l) (evaluate n r))
comparisons_stand {L} n d std P q y b e es t u k ts l r g is normal shape low high typed =
    by_first n d q (λ x c. StandFor L n d P q (going x c) (compared k (with_goals b es) (evaluate n l) (evaluate n r))) y b e es g (λ E Es w. compared_here n d std P q y.answer b E Es e es t u is normal w k low high ts l r shape) typed

pub assignments_are_equalities : {L : Leaves} (n : ℕ) (d : Declared) → IsSetting L d → (P : List Clause) (q : Query) (y : BranchTyping) (b : Branch)
    (e : Entry) (es : List Entry) (t u : Term) (ts : List Ty) (l r : Term) (v : Value) → b.goals ≡ e ∷ es → e.goal ≡ Atomic t → head_normal n t ≡ Some
    u → u ≡ two 9 ts l r → evaluate n r ≡ Some (Is v) → IsTypedBranch n d q y b → (T : Ty) × (ts ≡ T ∷ []) × SolvesAs L n d P q y b
    (with_goals b (with_atom e (two 8 (T ∷ []) l (term_of v)) ∷ es))
assignments_are_equalities {L} n d std P q y b e es t u ts l r v g is normal shape value typed =
    by_first n d q (λ x c. (T : Ty) × (ts ≡ T ∷ []) × SolvesAs L n d P q x c (with_goals b (with_atom e (two 8 (T ∷ []) l (term_of v)) ∷ es))) y b e es g (λ E Es w. same_as_equality n d std P q y.answer b E Es e es t u is normal w ts l r shape v value) typed

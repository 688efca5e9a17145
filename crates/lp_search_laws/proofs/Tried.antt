-- The tries of an atom stand for its branch: a closing makes the atom provable exactly where it makes some candidate serve.
use Rattle.lp_proof_laws.proofs.Uniform.Settings.{IsSetting}
use Rattle.std.proofs.Common.{◌≡◌, ℕ, List, [], ◌∷◌, ◌++◌, map, refl, sym, ap, subst as transport, inl, inr, Bool, true, false, Option, Some, None}
use Rattle.std.specs.Prelude.{◌⊎◌, ◌&&◌, cond, filter}
use Rattle.lp_calculus.specs.Types.{Ty, instance}
use Rattle.lp_calculus.specs.Term.{Term, Atom, index, atom, abs, app}
use Rattle.lp_calculus.specs.Convert.{ReducesTo}
use Rattle.lp_calculus.specs.Fill.{Within}
use Rattle.lp_calculus.specs.Typing.{atom_type, o_type}
use Rattle.lp_calculus.specs.Closed.{AllAtoms}
use Rattle.lp_calculus.proofs.BetaEta.{many_on}
use Rattle.lp_calculus.proofs.Steps.{within_reduces}
use Rattle.lp_calculus.proofs.Subject.{typed_reduces}
use Rattle.lp_calculus.specs.Spine.{head_of, arguments}
use Rattle.lp_lemmas.specs.Each.{AnyOf, EachOf}
use Rattle.lp_model.specs.Look.{head_normal}
use Rattle.lp_model.specs.Same.{same_name}
use Rattle.lp_model.specs.Pair.{Closing, closed}
use Rattle.lp_model.specs.Flat.{Atomic, Clause, clause, formula_of_goal}
use Rattle.lp_model.specs.Proofs.{Declared, IsFormula, IsAtomHead, Leaves}
use Rattle.lp_model.specs.Answers.{Query, Variable, over, IsScopedAtom, Instance, AnswerTyping, Closes}
use Rattle.lp_model.specs.Branch.{Entry, Branch}
use Rattle.lp_model.specs.Search.{with_goals, tries, candidates, goal_looked, has_head, passes, may_meet, first_key}
use Rattle.lp_unify_laws.proofs.Looks.{head_reduces}
use Rattle.lp_search_laws.specs.Holds.{Holds, IsTyped}
use Rattle.lp_search_laws.specs.Clauses.{Serves, clauses_at}
use Rattle.lp_search_laws.specs.Branches.{IsPlainAtom, IsPlainTerm, IsGoal, IsProgramTyped, BranchTyping, IsTypedBranch, SolvesBranch, with_atom, IsAmong, TypedTask, going, trying, task_of, IsOk, Sol}
use Rattle.lp_search_laws.specs.Given.{IsTypedFrom}
use Rattle.lp_search_laws.specs.Views.{StandFor}
use Rattle.lp_search_laws.proofs.Closed.{closed_reduces}
use Rattle.lp_search_laws.proofs.Connectives.{reduces_on, reduces_back}
use Rattle.lp_search_laws.proofs.Formed.{formula_at}
use Rattle.lp_search_laws.proofs.LookedGoals.{goal_head, goal_reduces}
use Rattle.lp_search_laws.proofs.Standing.{lacked}
use Rattle.lp_search_laws.proofs.ClauseForms.{program_clauses, assumed_clauses}
use Rattle.lp_search_laws.proofs.Candidates.{some_candidate, candidate_proves}

-- what reduction keeps

atoms_within : (P Q : Atom → Type 0) (n : ℕ) (t : Term) → Within P n t → AllAtoms Q t → Within Q n t
atoms_within P Q n (index i) w h = w
atoms_within P Q n (atom a) w h = h
atoms_within P Q n (abs b) w h = atoms_within P Q _ b w h
atoms_within P Q n (app t u) w h = (atoms_within P Q n t w.0 h.0, atoms_within P Q n u w.1 h.1)

within_atoms : (Q : Atom → Type 0) (n : ℕ) (t : Term) → Within Q n t → AllAtoms Q t
within_atoms Q n (index i) w = tt
within_atoms Q n (atom a) w = w
within_atoms Q n (abs b) w = within_atoms Q _ b w
within_atoms Q n (app t u) w = (within_atoms Q n t w.0, within_atoms Q n u w.1)

pub typed_reduct : (d : Declared) (E : List Ty) (V : List Variable) (t u : Term) (T : Ty) → ReducesTo t u → IsTyped d E V t T → IsTyped d E V u T
typed_reduct d E V t u T r h = record { typed = typed_reduces (atom_type (over d E V)) [] r T h.typed; scoped = within_reduces (IsScopedAtom V E) 0 r h.scoped }

pub plain_reduct : (d : Declared) (E : List Ty) (V : List Variable) (t u : Term) (T : Ty) (k : ℕ) → ReducesTo t u → IsTyped d E V t T → IsPlainTerm k t → IsPlainTerm k u
plain_reduct d E V t u T k r h p = within_atoms (IsPlainAtom k) 0 u (within_reduces (IsPlainAtom k) 0 r (atoms_within (IsScopedAtom V E) (IsPlainAtom k) 0 t h.scoped p))

-- what candidates are

first_true : (a b : Bool) → (a && b) ≡ true → a ≡ true
first_true true b e = refl
first_true false b e = e

passes_head : (u : Term) (c : Clause) → passes u c ≡ true → has_head u c ≡ true
passes_head u (clause k vs h b) e = first_true (same_name (head_of h) (head_of u)) (may_meet (first_key (arguments h)) (first_key (arguments u))) e

-- each of a list, where it stands in another
each_append : {X : Type 0} (Q : X → Type 0) (xs ys : List X) → EachOf Q xs → EachOf Q ys → EachOf Q (xs ++ ys)
each_append Q [] ys h k = k
each_append Q (x ∷ xs) ys h k = (h.0, each_append Q xs ys h.1 k)

each_cond : {X : Type 0} (Q : X → Type 0) (b : Bool) (x : X) (xs : List X) → (b ≡ true → Q x) → EachOf Q xs → EachOf Q (cond b (x ∷ xs) xs)
each_cond Q true x xs f h = (f refl, h)
each_cond Q false x xs f h = h

filtered : {X : Type 0} (Q : X → Type 0) (p : X → Bool) (xs : List X) → ((x : X) → AnyOf (λ y. y ≡ x) xs → p x ≡ true → Q x) → EachOf Q (filter p xs)
filtered Q p [] f = tt
filtered Q p (x ∷ xs) f = each_cond Q (p x) x (filter p xs) (λ e. f x (inl refl) e) (filtered Q p xs (λ y i e. f y (inr i) e))

record IsCandidate (P A : List Clause) (u : Term) (c : Clause) : Type 0 where
  named : has_head u c ≡ true
  stands : IsAmong c P ⊎ IsAmong c A

each_candidate : (P A : List Clause) (u : Term) → EachOf (IsCandidate P A u) (candidates P A u)
each_candidate P A u =
    each_append (IsCandidate P A u) (filter (has_head u) A) (filter (passes u) P)
    (filtered (IsCandidate P A u) (has_head u) A (λ c i e. record { named = e; stands = inr i }))
    (filtered (IsCandidate P A u) (passes u) P (λ c i e. record { named = passes_head u c e; stands = inl i }))

each_map : {X Y : Type 0} (Q : X → Type 0) (R : Y → Type 0) (f : X → Y) → ((x : X) → Q x → R (f x)) → (xs : List X) → EachOf Q xs → EachOf R (map f xs)
each_map Q R f g [] h = tt
each_map Q R f g (x ∷ xs) h = (g x h.0, each_map Q R f g xs h.1)

any_map : {X Y : Type 0} (Q : X → Type 0) (R : Y → Type 0) (f : X → Y) → ((x : X) → Q x → R (f x)) → (xs : List X) → AnyOf Q xs → AnyOf R (map f xs)
any_map Q R f g [] h = h
any_map Q R f g (x ∷ xs) h = elim h [ inl q ↦ inl (g x q) | inr q ↦ inr (any_map Q R f g xs q) ]

-- one of the tasks solves: a clause that serves, and what is left of the solution
any_back : {X Y : Type 0} (R : Y → Type 0) (f : X → Y) (Z : Type 0) → (xs : List X) → ((x : X) → AnyOf (λ y. y ≡ x) xs → R (f x) → Z) → AnyOf R (map f xs) → Z
any_back R f Z [] g h = absurd h
any_back R f Z (x ∷ xs) g h = elim h [ inl q ↦ g x (inl refl) q | inr q ↦ any_back R f Z xs (λ y i. g y (inr i)) q ]

any_at : {X : Type 0} (Q : X → Type 0) (x : X) (xs : List X) → AnyOf (λ y. y ≡ x) xs → Q x → AnyOf Q xs
any_at Q x [] i q = i
any_at Q x (y ∷ xs) i q = elim i [ inl e ↦ inl (transport Q (sym e) q) | inr j ↦ inr (any_at Q x xs j q) ]

map_tasks : {X : Type 0} (f : X → TypedTask) (xs : List X) → map task_of (map f xs) ≡ map (λ x. task_of (f x)) xs
map_tasks f [] = refl
map_tasks f (x ∷ xs) = ap (λ ts. task_of (f x) ∷ ts) (map_tasks f xs)

module _ {L : Leaves} (n height : ℕ) (d : Declared) (std : IsSetting L d) (P : List Clause) (program : EachOf (IsProgramTyped d) P) (q : Query)
    (z : AnswerTyping) (b : Branch) (E : List Ty) (Es : List (List Ty)) (e : Entry) (es : List Entry) (t u : Term) (is : e.goal ≡ Atomic t)
    (reduces : ReducesTo t u) (at_atom : IsAtomHead (head_of u))
    (typed : IsTypedBranch n d q (record { answer = z; eigens = E ∷ Es }) (with_goals b (e ∷ es))) where
  abbrev typing : BranchTyping
  typing = record { answer = z; eigens = E ∷ Es }

  goal_typed : IsTyped d E z.variables t o_type
  goal_typed = transport (λ g. IsTyped d E z.variables (formula_of_goal g) o_type) is typed.entries.0.goal

  goal_plain : IsPlainTerm b.next_type t
  goal_plain = transport (λ g. IsGoal b.next_type [] g) is typed.goals.0.goal

  -- the branch with the reduced goal
  branch_at : IsTypedBranch n d q typing (with_goals b (with_atom e u ∷ es))
  branch_at = record {
    answer = typed.answer;
    entries = (record { level = typed.entries.0.level; goal = typed_reduct d E z.variables t u o_type reduces goal_typed; assumed = typed.entries.0.assumed }, typed.entries.1);
    variables = typed.variables;
    types = typed.types;
    values = typed.values;
    pairs = typed.pairs;
    goals = (record { eigens = typed.goals.0.eigens; goal = plain_reduct d E z.variables t u o_type b.next_type reduces goal_typed goal_plain; assumed = typed.goals.0.assumed }, typed.goals.1);
    written = (record { goal = tt; place = typed.written.0.place }, typed.written.1);
    stuck = typed.stuck;
  }

  -- the atom holds where some candidate serves
  module _ (c : Closing) (closes : Closes d z.variables c) where
    abbrev F : List Ty
    F = map (instance c.types) E

    fine : IsFormula d F (closed c t)
    fine = formula_at d z.variables c closes E t goal_typed

    normal_fine : IsFormula d F (closed c u)
    normal_fine = formula_at d z.variables c closes E u (typed_reduct d E z.variables t u o_type reduces goal_typed)

    holds_some : Holds L d F (clauses_at P e.assumed c) c t → AnyOf (λ x. Serves L d F (clauses_at P e.assumed c) c x (closed c u)) (candidates P e.assumed u)
    holds_some p =
        some_candidate d std F P e.assumed c u (program_clauses d P program) (assumed_clauses d z.variables E c closes b.next_type e.assumed typed.entries.0.assumed typed.goals.0.assumed) at_atom normal_fine
        (reduces_on d F (clauses_at P e.assumed c) fine (closed_reduces c reduces) p)

    some_holds : AnyOf (λ x. Serves L d F (clauses_at P e.assumed c) c x (closed c u)) (candidates P e.assumed u) → Holds L d F (clauses_at P e.assumed c) c t
    some_holds h =
        reduces_back d F (clauses_at P e.assumed c) fine (closed_reduces c reduces)
        (candidate_proves d std F P e.assumed c u (program_clauses d P program) (assumed_clauses d z.variables E c closes b.next_type e.assumed typed.entries.0.assumed typed.goals.0.assumed) at_atom h)

  abbrev try_of : Clause → TypedTask
  try_of c = trying typing c u e (with_goals b es) height

  keeps_try : (i : Instance) → SolvesBranch L d P q i typing (with_goals b (e ∷ es)) → AnyOf (Sol L d P q i) (map try_of (candidates P e.assumed u))
  keeps_try i s =
      let c = s.answer.closing in
      let p = transport (λ g. Holds L d (map (instance c.types) E) (clauses_at P e.assumed c) c (formula_of_goal g)) is s.proved.0 in
      any_map (λ x. Serves L d (map (instance c.types) E) (clauses_at P e.assumed c) c x (closed c u)) (Sol L d P q i) try_of (λ x r. record { query = s.query; answer = s.answer; served = (r, s.proved.1) }) (candidates P e.assumed u) (holds_some c s.answer.closes p)

  gives_try : (i : Instance) → AnyOf (Sol L d P q i) (map try_of (candidates P e.assumed u)) → SolvesBranch L d P q i typing (with_goals b (e ∷ es))
  gives_try i h =
      any_back (Sol L d P q i) try_of (SolvesBranch L d P q i typing (with_goals b (e ∷ es))) (candidates P e.assumed u) (λ x j s.
      let c = s.answer.closing in
      let p = some_holds c s.answer.closes (any_at (λ w. Serves L d (map (instance c.types) E) (clauses_at P e.assumed c) c w (closed c u)) x (candidates P e.assumed u) j s.served.0) in
      record { query = s.query; answer = s.answer; proved = (transport (λ g. Holds L d (map (instance c.types) E) (clauses_at P e.assumed c) c (formula_of_goal g)) (sym is) p, s.served.1) }) h

  each_try : (cs : List Clause) → EachOf (IsTypedFrom n d (going typing (with_goals b (e ∷ es)))) (map try_of cs)
  each_try [] = tt
  each_try (c ∷ cs) = (refl, each_try cs)

  pub atom_tried : StandFor L n d P q (going typing (with_goals b (e ∷ es))) (tries P e (with_goals b es) height (Some u))
  atom_tried = record {
    typed = map try_of (candidates P e.assumed u);
    is = map_tasks try_of (candidates P e.assumed u);
    ok = each_map (IsCandidate P e.assumed u) (IsOk n d P q) try_of (λ c h. record { branch = branch_at; atomic = at_atom; named = h.named; stands = h.stands }) (candidates P e.assumed u) (each_candidate P e.assumed u);
    given = each_try (candidates P e.assumed u);
    keeps = keeps_try;
    gives = gives_try;
  }

-- a branch by its first goal
pub atoms_are_tried : {L : Leaves} (n height : ℕ) (d : Declared) → IsSetting L d → (P : List Clause) → EachOf (IsProgramTyped d) P → (q : Query)
    (y : BranchTyping) (b : Branch) (e : Entry) (es : List Entry) (t u : Term) → b.goals ≡ e ∷ es → e.goal ≡ Atomic t → head_normal n t ≡ Some u →
    IsAtomHead (head_of u) → IsTypedBranch n d q y b → StandFor L n d P q (going y b)
    (tries P e (with_goals b es) height (goal_looked n u))
atoms_are_tried {L} n height d std P program q y b e es t u g is normal at_atom typed = go y.eigens refl
  where
    same_branch : b ≡ with_goals b (e ∷ es)
    same_branch = ap (with_goals b) g

    go : (Fs : List (List Ty)) → y.eigens ≡ Fs → StandFor L n d P q (going y b) (tries P e (with_goals b es) height (goal_looked n u))
    go Fs f =
        let typings : y ≡ record { answer = y.answer; eigens = Fs } = ap (λ x. record { answer = y.answer; eigens = x }) f in
        let all : IsTypedBranch n d q (record { answer = y.answer; eigens = Fs }) (with_goals b (e ∷ es)) = transport (λ x. IsTypedBranch n d q x (with_goals b (e ∷ es))) typings (transport (IsTypedBranch n d q y) same_branch typed) in
        transport (λ x. StandFor L n d P q (going y x) (tries P e (with_goals b es) height (goal_looked n u))) (sym same_branch)
        (transport (λ x. StandFor L n d P q (going x (with_goals b (e ∷ es))) (tries P e (with_goals b es) height (goal_looked n u))) (sym typings) (first Fs all))
      where
        by_look : (E : List Ty) (Es : List (List Ty)) → IsTypedBranch n d q (record { answer = y.answer; eigens = E ∷ Es }) (with_goals b (e ∷ es)) → (o : Option Term) → goal_looked n u ≡ o →
            StandFor L n d P q (going (record { answer = y.answer; eigens = E ∷ Es }) (with_goals b (e ∷ es))) (tries P e (with_goals b es) height o)
        by_look E Es h None k = lacked n d P q (going (record { answer = y.answer; eigens = E ∷ Es }) (with_goals b (e ∷ es)))
        by_look E Es h (Some g) k =
            atom_tried n height d std P program q y.answer b E Es e es t g is (many_on (head_reduces n t u normal) (goal_reduces n u g k)) (transport IsAtomHead (sym (goal_head n u g k)) at_atom) h

        first : (Fs : List (List Ty)) → IsTypedBranch n d q (record { answer = y.answer; eigens = Fs }) (with_goals b (e ∷ es)) → StandFor L n d P q (going (record { answer = y.answer; eigens = Fs }) (with_goals b (e ∷ es))) (tries P e (with_goals b es) height (goal_looked n u))
        first [] h = absurd h.entries
        first (E ∷ Es) h = by_look E Es h (goal_looked n u) refl

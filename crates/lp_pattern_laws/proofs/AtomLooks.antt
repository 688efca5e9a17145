-- What a look at an atom that is a pattern term leaves: tasks of pattern text.
use Rattle.std.proofs.Common.{◌≡◌, ℕ, List, [], ◌∷◌, Option, Some, None, ◌∙◌, refl, sym, ap, subst as transport, arith, Bool, true, false, nat_eq, if◌then◌else◌}
use Rattle.std.specs.Prelude.{nat_le, ◌&&◌, filter}
use Rattle.std.proofs.lemmas.Bool.Decides.{nat_tests}
use Rattle.lp_calculus.specs.Types.{Ty}
use Rattle.lp_calculus.specs.Term.{Term, abs, index, atom, app, apply, constant, integer, text, eigen, logic, param}
use Rattle.lp_calculus.specs.Normal.{IsHead}
use Rattle.lp_calculus.specs.Typing.{HasType, HaveTypes, Typed, o_type, atom_type, scheme_type}
use Rattle.lp_calculus.proofs.Typings.{typed_parts}
use Rattle.lp_calculus.specs.Spine.{head_of, arguments}
use Rattle.lp_lemmas.specs.Each.{EachOf}
use Rattle.lp_lemmas.proofs.Each.{each_append, each_map}
use Rattle.lp_model.specs.Look.{head_normal}
use Rattle.lp_model.specs.Pair.{Pair}
use Rattle.lp_model.specs.Unify.{unit_limit}
use Rattle.lp_model.specs.Values.{Value, Number, Bytes, Outcome, Is, Faults, evaluate, ordered, term_of}
use Rattle.lp_standard.specs.Connectives.{two, connective_of, connective_at, connective_of_constant}
use Rattle.lp_standard.specs.Connectives as connective
use Rattle.lp_standard.specs.Schemes.{IsStandard}
use Rattle.lp_model.specs.Flat.{Atomic, Clause}
use Rattle.lp_model.specs.Branch.{Entry, Branch, Task, Go, Try}
use Rattle.lp_model.specs.Answers.{Query, AnswerTyping, PairTyping, IsTypedPair, over}
use Rattle.lp_model.specs.Proofs.{Declared}
use Rattle.lp_model.specs.Search.{with_goals, equated, assigned, compared, candidates, has_head, passes, goal_looked, tries, look_constant, look_atom}
use Rattle.lp_unify_laws.specs.Solutions.{instance_typing}
use Rattle.lp_unify_laws.proofs.TypedInstances.{typings_have_instances}
use Rattle.lp_proof_laws.proofs.Uniform.Forms.{apply_arguments}
use Rattle.lp_proof_laws.proofs.Uniform.Settings.{without_leaves}
use Rattle.lp_search_laws.specs.Holds.{IsTyped}
use Rattle.lp_search_laws.proofs.ArithmeticTasks.{equal_branch}
use Rattle.lp_search_laws.proofs.AtomKinds.{AtomKind, declared, equality, assignment, order, atom_kind}
use Rattle.lp_search_laws.proofs.EnoughSteps.{two_kinds}
use Rattle.lp_search_laws.proofs.FormViews.{form_typed}
use Rattle.lp_search_laws.proofs.Fronts.{Typed as IsTypedHere}
use Rattle.lp_search_laws.proofs.LookedGoals.{goal_reduces}
use Rattle.lp_search_laws.proofs.Stack.AllFine.{LeavesFine}
use Rattle.lp_pattern_laws.specs.Patterns.{IsPattern, of_atom}
use Rattle.lp_pattern_laws.specs.Goals.{IsPatternClause}
use Rattle.lp_pattern_laws.specs.Tasks.{IsPatternBranch}
use Rattle.lp_pattern_laws.proofs.ClosedPatterns.{IsPatternAt, at_arguments, at_reduces}
use Rattle.lp_pattern_laws.proofs.Comes.{of_term}
use Rattle.lp_pattern_laws.proofs.GoalLists.{all_deeper, each_filter}
use Rattle.lp_pattern_laws.proofs.PatternTasks.{IsPatternTask, HasNoPair, followed}

value_pattern : (v : Value) → IsPattern (term_of v)
value_pattern (Number z) = of_term (of_atom (integer z))
value_pattern (Bytes s) = of_term (of_atom (text s))

if_each : (p : Bool) (x y : List Task) → EachOf IsPatternTask x → EachOf IsPatternTask y → EachOf IsPatternTask (if p then x else y)
if_each true x y h k = h
if_each false x y h k = k

module _ (n height : ℕ) (d : Declared) (std : IsStandard d) (P : List Clause) (texts : EachOf (IsPatternClause 0 []) P) (q : Query) (z : AnswerTyping)
    (b : Branch) (E : List Ty) (Es : List (List Ty)) (e : Entry) (es : List Entry)
    (h : IsTypedHere n d P q z b E Es e es) (own : EachOf (IsPatternClause e.level []) e.assumed) (rest : IsPatternBranch (with_goals b es)) where
  unified : (T : Ty) (l r : Term) → IsTyped d E z.variables (two 8 (T ∷ []) l r) o_type → IsPattern l → IsPattern r → EachOf IsPatternTask (equated unit_limit n e.level l r (with_goals b es))
  unified T l r typed p g =
      let y = typed.typed in
      let s = two_kinds (scheme_type (T ∷ []) (d 8)) T y.0 y.1.0 (ap (scheme_type (T ∷ [])) (std.at 8 (omega arith))) y.1.1 in
      let here : PairTyping = record { eigens = E; type = T } in
      let pair : Pair = record { left = l; right = r; level = e.level } in
      let w : IsTypedPair d z.variables (record { eigens = E; type = T }) (record { left = l; right = r; level = e.level }) = record {
        level = h.entries.0.level;
        left = transport (Typed (over d E z.variables) [] l) s.0 y.1.2;
        right = transport (Typed (over d E z.variables) [] r) s.1 y.2;
        left_scoped = typed.scoped.0.1;
        right_scoped = typed.scoped.1;
      } in
      followed n d z.variables (with_goals b es) [] (record { left = l; right = r; level = e.level } ∷ []) b.next h.answer.variables
      (λ θ u. (instance_typing θ here ∷ [], (typings_have_instances θ d z.variables here pair w, tt))) ((p, g), tt) rest

  tried_all : (t : Term) → IsPatternAt e.level t → (o : Option Term) → goal_looked n t ≡ o → EachOf IsPatternTask (tries P e (with_goals b es) height o)
  tried_all t p None k = (tt, tt)
  tried_all t p (Some g) k =
      each_map (IsPatternClause e.level []) IsPatternTask (λ c. Try c g e (with_goals b es) height)
      (λ c x. record { branch = rest; goal = at_reduces e.level t g (goal_reduces n t g k) p; clause = x; assumed = own })
      (candidates P e.assumed g)
      (each_append (IsPatternClause e.level []) (filter (has_head g) e.assumed) (filter (passes g) P)
      (each_filter (IsPatternClause e.level []) (has_head g) e.assumed own)
      (each_filter (IsPatternClause e.level []) (passes g) P (all_deeper 0 e.level (omega arith) P texts)))

  compared_each : (c : ℕ) (o r : Option Outcome) → EachOf IsPatternTask (compared c (with_goals b es) o r)
  compared_each c None r = (tt, tt)
  compared_each c (Some (Faults f)) r = (tt, tt)
  compared_each c (Some (Is (Bytes s))) r = (tt, tt)
  compared_each c (Some (Is (Number x))) None = (tt, tt)
  compared_each c (Some (Is (Number x))) (Some (Faults f)) = (tt, tt)
  compared_each c (Some (Is (Number x))) (Some (Is (Bytes s))) = (tt, tt)
  compared_each c (Some (Is (Number x))) (Some (Is (Number y))) = if_each (ordered c x y) (Go (with_goals b es) ∷ []) [] (rest, tt) tt

  module _ (t u : Term) (i : e.goal ≡ Atomic t) (r : head_normal n t ≡ Some u) (plain : connective_of u ≡ connective.Atomic) (p : IsPatternAt e.level u) where
    on_head : (t' : Term) → head_of u ≡ t' → apply t' (arguments u) ≡ u
    on_head t' x = transport (λ y. apply y (arguments u) ≡ u) x (apply_arguments u [])

    typed : IsTyped d E z.variables u o_type
    typed = form_typed n d (without_leaves d std) P q z b E Es e es h t u i r

    parts : (t' : Term) → head_of u ≡ t' → (A : Ty) × HasType (atom_type (over d E z.variables)) [] t' A × HaveTypes (atom_type (over d E z.variables)) [] A (arguments u) o_type
    parts t' x = typed_parts (atom_type (over d E z.variables)) [] t' (arguments u) o_type (transport (λ y. Typed (over d E z.variables) [] y o_type) (sym (on_head t' x)) typed.typed)

    assigned_each : (T : Ty) (l w : Term) → u ≡ two 9 (T ∷ []) l w → IsPattern l → (o : Option Outcome) → evaluate n w ≡ o → EachOf IsPatternTask (assigned unit_limit n e.level l (with_goals b es) o)
    assigned_each T l w shape g None k = (tt, tt)
    assigned_each T l w shape g (Some (Faults f)) k = (tt, tt)
    assigned_each T l w shape g (Some (Is v)) k = unified T l (term_of v) (equal_branch n d (without_leaves d std) P q z b E Es e es t u i r h T l w shape v k).entries.0.goal g (value_pattern v)

    abbrev Called : ℕ → List Term → List Task
    Called c us = look_constant unit_limit n P height e (with_goals b es) u c us

    spelt : (c k : ℕ) (ts us : List Ty) (l w : Term) → head_of u ≡ atom (constant c ts) → c ≡ k → ts ≡ us → arguments u ≡ l ∷ w ∷ [] → u ≡ two k us l w
    spelt c k ts us l w x y j g = sym (transport (λ m. two m us l w ≡ u) y (transport (λ m. two c m l w ≡ u) j
        (transport (λ vs. apply (atom (constant c ts)) vs ≡ u) g (on_head (atom (constant c ts)) x))))

    sides : (c : ℕ) (ts : List Ty) (l w : Term) → head_of u ≡ atom (constant c ts) → arguments u ≡ l ∷ w ∷ [] → EachOf (IsPatternAt e.level) (l ∷ w ∷ [])
    sides c ts l w x g = transport (EachOf (IsPatternAt e.level)) g (at_arguments e.level u (transport IsHead (sym x) tt) p)

    by_kind : (c : ℕ) (ts : List Ty) → head_of u ≡ atom (constant c ts) → AtomKind c ts (arguments u) → EachOf IsPatternTask (look_constant unit_limit n P height e (with_goals b es) u c (arguments u))
    by_kind c ts x (declared l) = transport (EachOf IsPatternTask) (sym (go (arguments u))) (tried_all u p (goal_looked n u) refl)
      where
        last : (o s m : Bool) (A B C D : List Task) → o ≡ false → s ≡ false → m ≡ false → (if o then A else (if s then B else (if m then C else D))) ≡ D
        last o s m A B C D e1 e2 e3 = ap (λ v. if v then A else (if s then B else (if m then C else D))) e1 ∙ ap (λ v. if v then B else (if m then C else D)) e2 ∙ ap (λ v. if v then C else D) e3

        go : (us : List Term) → look_constant unit_limit n P height e (with_goals b es) u c us ≡ tries P e (with_goals b es) height (goal_looked n u)
        go [] = refl
        go (v ∷ []) = refl
        go (v ∷ w ∷ []) =
            let e1 : nat_eq c 8 ≡ false = grind (arith, nat_tests) in
            let e2 : nat_eq c 9 ≡ false = grind (arith, nat_tests) in
            let e3 : (nat_le 10 c && nat_le c 13) ≡ false = grind (arith, nat_tests) in
            last _ _ _ _ _ _ _ e1 e2 e3
        go (v ∷ w ∷ y ∷ us) = refl
    by_kind c ts x (equality T l w y j k) =
        let s = sides c ts l w x k in
        transport (λ us. EachOf IsPatternTask (Called c us)) (sym k) (transport (λ m. EachOf IsPatternTask (Called m (l ∷ w ∷ []))) (sym y)
        (unified T l w (transport (λ v. IsTyped d E z.variables v o_type) (spelt c 8 ts (T ∷ []) l w x y j k) typed) s.0.0 s.1.0.0))
    by_kind c ts x (assignment T l w y j k) =
        let s = sides c ts l w x k in
        transport (λ us. EachOf IsPatternTask (Called c us)) (sym k) (transport (λ m. EachOf IsPatternTask (Called m (l ∷ w ∷ []))) (sym y)
        (assigned_each T l w (spelt c 9 ts (T ∷ []) l w x y j k) s.0.0 (evaluate n w) refl))
    by_kind c ts x (order l w y y' j k) = transport (λ us. EachOf IsPatternTask (Called c us)) (sym k) (transport (EachOf IsPatternTask) (sym called) (compared_each c (evaluate n l) (evaluate n w)))
      where
        third : (o s m : Bool) (A B C D : List Task) → o ≡ false → s ≡ false → m ≡ true → (if o then A else (if s then B else (if m then C else D))) ≡ C
        third o s m A B C D e1 e2 e3 = ap (λ v. if v then A else (if s then B else (if m then C else D))) e1 ∙ ap (λ v. if v then B else (if m then C else D)) e2 ∙ ap (λ v. if v then C else D) e3

        called : Called c (l ∷ w ∷ []) ≡ compared c (with_goals b es) (evaluate n l) (evaluate n w)
        called =
            let e1 : nat_eq c 8 ≡ false = grind (arith, nat_tests) in
            let e2 : nat_eq c 9 ≡ false = grind (arith, nat_tests) in
            let e3 : (nat_le 10 c && nat_le c 13) ≡ true = grind (arith, nat_tests) in
            third _ _ _ _ _ _ _ e1 e2 e3

    by_head : (t' : Term) → head_of u ≡ t' → LeavesFine IsPatternTask HasNoPair (look_atom unit_limit n P height e (with_goals b es) u t')
    by_head (atom (constant c ts)) x =
        let w = parts (atom (constant c ts)) x in
        let f : connective_of_constant c ts (arguments u) ≡ connective.Atomic = transport (λ y. connective_at y (arguments u) ≡ connective.Atomic) x plain in
        by_kind c ts x (atom_kind (atom_type (over d E z.variables)) d std c ts (arguments u) w.0 w.1 w.2 f)
    by_head (atom (eigen k)) x = tried_all u p (goal_looked n u) refl
    by_head (atom (logic y l)) x = (tt, tt)
    by_head (atom (integer m)) x = tt
    by_head (atom (text s)) x = tt
    by_head (atom (param k T)) x = tt
    by_head (index j) x = tt
    by_head (abs y) x = tt
    by_head (app f a) x = tt

    pub atom_look : LeavesFine IsPatternTask HasNoPair (look_atom unit_limit n P height e (with_goals b es) u (head_of u))
    atom_look = by_head (head_of u) refl

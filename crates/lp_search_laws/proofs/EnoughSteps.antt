-- Typed branches have enough steps, with enough of them; and more are enough too.
use Rattle.lp_lemmas.specs.Each.{EachOf}
use Rattle.lp_lemmas.proofs.Each.{each_append}
use Rattle.lp_search_laws.specs.Written.{StandsIn, StandsInOne, IsWrittenGoal, IsWrittenEntry}
use Rattle.lp_search_laws.proofs.Stands.{part_typed}
use Rattle.std.proofs.Common.{◌≡◌, ℕ, ◌+◌, ◌≤◌, List, [], ◌∷◌, map, length, Option, Some, ◌∙◌, refl, sym, ap, subst as transport, arith, inl, inr}
use Rattle.std.specs.Prelude.{option_map, ◌⊎◌, ◌||◌}
use Rattle.lp_calculus.specs.Types.{Ty, arrow}
use Rattle.lp_calculus.specs.Term.{Term, index, atom, abs, app, apply, constant, integer, text, eigen, logic, param}
use Rattle.lp_calculus.specs.Typing.{HaveTypes, Typed, scheme_type, atom_type, o_type}
use Rattle.lp_calculus.specs.Normal.{eta_normal}
use Rattle.lp_calculus.proofs.Typings.{typed_parts}
use Rattle.lp_calculus.specs.Fill.{Within}
use Rattle.lp_model.specs.Look.{head_normal}
use Rattle.lp_model.specs.Eigens.{beta_normal}
use Rattle.lp_calculus.specs.Spine.{head_of, arguments}
use Rattle.lp_model.specs.Pair.{Pair}
use Rattle.lp_standard.specs.Connectives.{two, Connective, connective_of, connective_at, connective_of_constant}
use Rattle.lp_standard.specs.Connectives as connective
use Rattle.lp_standard.specs.Schemes.{IsStandard}
use Rattle.lp_model.specs.Unify.{solve, unit_limit}
use Rattle.lp_model.specs.Values.{Value, Number, Bytes, Outcome, Is, Faults, value, evaluate, term_of}
use Rattle.lp_model.specs.Flat.{Goal, Atomic, Cut, Either, Exists, Forall, Assume, Not, clause, formula_of_goal, Written, Goals, Clause, formula_of_goals, formula_of_clause}
use Rattle.lp_model.specs.Branch.{Entry, Branch, Task, Go, Try, Stop, Lack, both_written}
use Rattle.lp_model.specs.Answers.{Query, Variable, over, IsScopedAtom, PairTyping, IsTypedPair}
use Rattle.lp_model.specs.Proofs.{Declared}
use Rattle.lp_model.specs.Search.{beta_normals, has_variable, has_type_variable, has_variables, first_looked}
use Rattle.std.specs.List.{list_any}
use Rattle.lp_model.specs.Look.{◌>>=◌}
use Rattle.lp_unify_laws.specs.Solutions.{instance_typing}
use Rattle.lp_unify_laws.proofs.TypedInstances.{typings_have_instances, pairs_have_instances}
use Rattle.lp_unify_laws.proofs.Looks.{head_reduces, top_found}
use Rattle.lp_proof_laws.proofs.Uniform.Forms.{apply_arguments}
use Rattle.lp_search_laws.proofs.LookedGoals.{looked_more}
use Rattle.lp_search_laws.proofs.MoreSteps.{normals_more, variables_more}
use Rattle.lp_unify_laws.proofs.MoreSteps.Scans.{Below, below_map, head_normal_more, beta_normal_more}
use Rattle.lp_unify_laws.proofs.MoreSteps.Solving.{solve_more}
use Rattle.lp_unify_laws.proofs.NormalForms.Typed.{typed_weighs}
use Rattle.lp_unify_laws.proofs.Termination.Looks.{head_comes, normal_comes}
use Rattle.lp_unify_laws.proofs.Termination.Runs.{solve_comes}
use Rattle.lp_unify_laws.proofs.Termination.Pruning.{prunes_typed}
use Rattle.lp_search_laws.specs.Holds.{IsTyped, equation}
use Rattle.lp_search_laws.specs.Branches.{BranchTyping, IsTypedBranch, IsTypedEntry, AreTypedEntries}
use Rattle.lp_search_laws.specs.Enough.{IsFound, CanEquate, CanAssign, CallHasEnough, HeadHasEnough, AtomHasEnough, TermHasEnough, HasEnough}
use Rattle.lp_search_laws.proofs.TypedParts.{argument_typed, typed_reduced}
use Rattle.lp_search_laws.proofs.AtomKinds.{AtomKind, declared, equality, assignment, order, atom_kind}
use Rattle.lp_search_laws.proofs.Computed.{values_have_types}

-- more steps
found_more : {A : Type 0} (o o' : Option A) → Below o o' → IsFound o → IsFound o'
found_more o o' h f = (f.0, h f.0 f.1)

pub evaluate_more : (n m : ℕ) → n ≤ m → (t : Term) → Below (evaluate n t) (evaluate m t)
evaluate_more n m l t = below_map (beta_normal n t) (beta_normal m t) (λ s. value (eta_normal s)) (beta_normal_more n m l t)

equate_more : (n m : ℕ) → n ≤ m → (level : ℕ) (b : Branch) (l r : Term) → CanEquate n level b l r → CanEquate m level b l r
equate_more n m h v b l r f = found_more _ _ (solve_more n m h unit_limit [] (equation l r v) b.pairs b.next) f

assign_more : (n m : ℕ) → n ≤ m → (level : ℕ) (b : Branch) (l r : Term) → CanAssign n level b l r → CanAssign m level b l r
assign_more n m h v b l r f = (f.0, evaluate_more n m h r f.0 f.1, λ x e. equate_more n m h v b l (term_of x) (f.2 x e))

call_more : (n m : ℕ) → n ≤ m → (level : ℕ) (b : Branch) (c : ℕ) (l r : Term) → CallHasEnough n level b c l r → CallHasEnough m level b c l r
call_more n m h v b c l r f = record {
  equality = λ e. equate_more n m h v b l r (f.equality e);
  assignment = λ e. assign_more n m h v b l r (f.assignment e);
  orders = λ x y. let g = f.orders x y in (found_more _ _ (evaluate_more n m h l) g.0, found_more _ _ (evaluate_more n m h r) g.1);
}

head_more : (n m : ℕ) → n ≤ m → (level : ℕ) (b : Branch) (t : Term) (us : List Term) → HeadHasEnough n level b t us → HeadHasEnough m level b t us
head_more n m h v b (atom (constant c ts)) us f = λ l r e. call_more n m h v b c l r (f l r e)
head_more n m h v b (atom (eigen k)) us f = tt
head_more n m h v b (atom (integer z)) us f = tt
head_more n m h v b (atom (text s)) us f = tt
head_more n m h v b (atom (logic x l)) us f = tt
head_more n m h v b (atom (param k T)) us f = tt
head_more n m h v b (index i) us f = tt
head_more n m h v b (abs t) us f = tt
head_more n m h v b (app t u) us f = tt

atom_more : (n m : ℕ) → n ≤ m → (level : ℕ) (b : Branch) (u : Term) → AtomHasEnough n level b u → AtomHasEnough m level b u
atom_more n m h v b u f = record { looked = found_more _ _ (looked_more n m h u) f.looked; head = head_more n m h v b (head_of u) (arguments u) f.head }

term_more : (n m : ℕ) → n ≤ m → (level : ℕ) (b : Branch) (t : Term) → TermHasEnough n level b t → TermHasEnough m level b t
term_more n m h v b t f = record { form = f.form; comes = head_normal_more n m h t f.form f.comes; call = λ p. atom_more n m h v b f.form (f.call p) }

pub enough_more : (n m : ℕ) → n ≤ m → (t : Task) → HasEnough n t → HasEnough m t
enough_more n m h (Go b) f = (λ e es t i j. term_more n m h e.level b t (f.0 e es t i j), λ e es w gs i j. found_more _ _ (variables_more n m h (both_written w e.written)) (f.1 e es w gs i j))
enough_more n m h (Try (clause k vs x body) t e b mark) f = found_more _ _ (solve_more n m h unit_limit _ _ _ _) f
enough_more n m h (Stop e) f = tt
enough_more n m h Lack f = tt

-- typed terms
pub two_kinds : (o : Option Ty) (T X Y : Ty) → o ≡ Some (arrow T (arrow T o_type)) → o ≡ Some (arrow Y (arrow X o_type)) → (Y ≡ T) × (X ≡ T)
two_kinds o T X Y e f =
    let g : Some (arrow T (arrow T o_type)) ≡ Some (arrow Y (arrow X o_type)) = sym e ∙ f in
    let h : Y ≡ T = cc in
    let k : X ≡ T = cc in
    (h, k)

plain_or : (f : Connective) → (f ≡ connective.Atomic) ⊎ (f ≡ connective.Atomic → ⊥)
plain_or connective.True = inr (λ e. cc)
plain_or connective.Cut = inr (λ e. cc)
plain_or (connective.And a b) = inr (λ e. cc)
plain_or (connective.Or a b) = inr (λ e. cc)
plain_or (connective.Implies a b) = inr (λ e. cc)
plain_or (connective.ForAll T b) = inr (λ e. cc)
plain_or (connective.Exists T b) = inr (λ e. cc)
plain_or (connective.Not g) = inr (λ e. cc)
plain_or connective.Atomic = inl refl

module _ (n : ℕ) (d : Declared) (std : IsStandard d) (q : Query) (y : BranchTyping) (b : Branch) (h : IsTypedBranch n d q y b) (E : List Ty) (level : ℕ) (long : length E ≡ level) where
  abbrev V : List Variable
  V = y.answer.variables

  equates : (T : Ty) (l r : Term) → IsTyped d E y.answer.variables l T → IsTyped d E y.answer.variables r T → (m : ℕ) × CanEquate m level b l r
  equates T l r a c =
      let t : PairTyping = record { eigens = E; type = T } in
      let p : Pair = record { left = l; right = r; level = level } in
      let w : IsTypedPair d y.answer.variables t p = record { level = long; left = a.typed; right = c.typed; left_scoped = a.scoped; right_scoped = c.scoped } in
      let s = solve_comes d (prunes_typed d) y.answer.variables [] (equation l r level) b.pairs
      (λ θ u. ((instance_typing θ t ∷ [], (typings_have_instances θ d y.answer.variables t p w, tt)), (map (instance_typing θ) y.answer.pairs, pairs_have_instances θ d y.answer.variables y.answer.pairs b.pairs h.answer.pairs))) unit_limit in
      (s.0, (s.1, transport (λ x. solve s.0 unit_limit [] (equation l r level) b.pairs x ≡ Some s.1) h.answer.variables s.2))

  evaluates : (T : Ty) (t : Term) → IsTyped d E y.answer.variables t T → (m : ℕ) × (o : Outcome) × (evaluate m t ≡ Some o)
  evaluates T t w = let r = normal_comes (typed_weighs (atom_type (over d E y.answer.variables)) [] t T w.typed).1 in (r.0, value (eta_normal r.1), ap (option_map (λ s. value (eta_normal s))) r.2)

  value_scoped : (v : Value) → Within (IsScopedAtom y.answer.variables E) 0 (term_of v)
  value_scoped (Number z) = tt
  value_scoped (Bytes s) = tt

  assigns : (T : Ty) (l r : Term) → IsTyped d E y.answer.variables l T → IsTyped d E y.answer.variables r T → (m : ℕ) × CanAssign m level b l r
  assigns T l r a c = let f = evaluates T r c in go f.0 f.1 f.2
    where
      go : (m : ℕ) (o : Outcome) → evaluate m r ≡ Some o → (m : ℕ) × CanAssign m level b l r
      go m (Faults x) e = (m, (Faults x, e, λ v i. absurd (cc)))
      go m (Is v) e =
          let g = equates T l (term_of v) a (record { typed = values_have_types m (over d E y.answer.variables) [] r T v std e c.typed; scoped = value_scoped v }) in
          let i : m ≤ m + g.0 = omega arith in
          let j : g.0 ≤ m + g.0 = omega arith in
          (m + g.0, (Is v, evaluate_more m (m + g.0) i r (Is v) e, λ w k. transport (λ z. CanEquate (m + g.0) level b l (term_of z)) (let s : v ≡ w = cc in s) (equate_more g.0 (m + g.0) j level b l (term_of v) g.1)))

  -- arguments of a typed call
  arguments_typed : (h : Term) (A : Ty) (us : List Term) (T : Ty) → HaveTypes (atom_type (over d E y.answer.variables)) [] A us T → (m : ℕ) × IsFound (first_looked m h us)
  arguments_typed h A [] T w = (0, (h, refl))
  arguments_typed h A (u ∷ us) T w =
      let r = head_comes (typed_weighs (atom_type (over d E y.answer.variables)) [] u w.0 w.3).1 in
      let s = top_found r.steps u r.form r.is in
      (r.steps, (apply h (s.0 ∷ us), ap (option_map (λ x. apply h (x ∷ us))) s.1))

  sides : (c : ℕ) (T : Ty) (ts : List Ty) (l r : Term) → scheme_type ts (d c) ≡ Some (arrow T (arrow T o_type)) → IsTyped d E y.answer.variables (two c ts l r) o_type → IsTyped d E y.answer.variables l T × IsTyped d E y.answer.variables r T
  sides c T ts l r s w =
      let t = w.typed in
      let e = two_kinds (scheme_type ts (d c)) T t.0 t.1.0 s t.1.1 in
      (record { typed = transport (Typed (over d E y.answer.variables) [] l) e.0 t.1.2; scoped = w.scoped.0.1 }, record { typed = transport (Typed (over d E y.answer.variables) [] r) e.1 t.2; scoped = w.scoped.1 })

  same_two : (l r x z : Term) → ◌≡◌ {A = List Term} (l ∷ r ∷ []) (x ∷ z ∷ []) → (l ≡ x) × (r ≡ z)
  same_two l r x z e = let a : l ≡ x = cc in let c : r ≡ z = cc in (a, c)

  calls : (c : ℕ) (ts : List Ty) (us : List Term) → AtomKind c ts us → IsTyped d E y.answer.variables (apply (atom (constant c ts)) us) o_type → (m : ℕ) × ((l r : Term) → us ≡ l ∷ r ∷ [] → CallHasEnough m level b c l r)
  calls c ts us (declared x) w = (0, λ l r e. record { equality = λ i. absurd (omega arith); assignment = λ i. absurd (omega arith); orders = λ i j. absurd (omega arith) })
  calls c ts us (equality T l r i j k) w =
      let w' = transport (λ v. IsTyped d E y.answer.variables (apply (atom (constant c ts)) v) o_type) k w in
      let w'' = transport (λ v. IsTyped d E y.answer.variables (two c v l r) o_type) j w' in
      let w3 = transport (λ v. IsTyped d E y.answer.variables (two v (T ∷ []) l r) o_type) i w'' in
      let s = sides 8 T (T ∷ []) l r (ap (scheme_type (T ∷ [])) (std.at 8 (omega arith))) w3 in
      let g = equates T l r s.0 s.1 in (
        g.0,
        λ x z e. let f = same_two l r x z (sym k ∙ e) in record {
          equality = λ o. transport (λ v. CanEquate g.0 level b v z) f.0 (transport (CanEquate g.0 level b l) f.1 g.1);
          assignment = λ o. absurd (omega arith);
          orders = λ o p. absurd (omega arith);
        },
      )
  calls c ts us (assignment T l r i j k) w =
      let w' = transport (λ v. IsTyped d E y.answer.variables (apply (atom (constant c ts)) v) o_type) k w in
      let w'' = transport (λ v. IsTyped d E y.answer.variables (two c v l r) o_type) j w' in
      let w3 = transport (λ v. IsTyped d E y.answer.variables (two v (T ∷ []) l r) o_type) i w'' in
      let s = sides 9 T (T ∷ []) l r (ap (scheme_type (T ∷ [])) (std.at 9 (omega arith))) w3 in
      let g = assigns T l r s.0 s.1 in (
        g.0,
        λ x z e. let f = same_two l r x z (sym k ∙ e) in record {
          equality = λ o. absurd (omega arith);
          assignment = λ o. transport (λ v. CanAssign g.0 level b v z) f.0 (transport (CanAssign g.0 level b l) f.1 g.1);
          orders = λ o p. absurd (omega arith);
        },
      )
  calls c ts us (order l r i i' j k) w =
      let w' = transport (λ v. IsTyped d E y.answer.variables (apply (atom (constant c ts)) v) o_type) k w in
      let tl = w'.typed.1 in
      let left = evaluates tl.0 l (record { typed = tl.2; scoped = w'.scoped.0.1 }) in
      let right = evaluates w'.typed.0 r (record { typed = w'.typed.2; scoped = w'.scoped.1 }) in
      let m = left.0 + right.0 in
      let x1 : left.0 ≤ left.0 + right.0 = omega arith in
      let x2 : right.0 ≤ left.0 + right.0 = omega arith in
      let fl : IsFound (evaluate m l) = (left.1, evaluate_more left.0 m x1 l left.1 left.2) in
      let fr : IsFound (evaluate m r) = (right.1, evaluate_more right.0 m x2 r right.1 right.2) in (
        m,
        λ x z e. let f = same_two l r x z (sym k ∙ e) in record {
          equality = λ o. absurd (omega arith);
          assignment = λ o. absurd (omega arith);
          orders = λ o p. (transport (λ v. IsFound (evaluate m v)) f.0 fl, transport (λ v. IsFound (evaluate m v)) f.1 fr);
        },
      )

  heads : (u t' : Term) → head_of u ≡ t' → connective_of u ≡ connective.Atomic → IsTyped d E y.answer.variables u o_type → (m : ℕ) × HeadHasEnough m level b t' (arguments u)
  heads u (atom (constant c ts)) x p w =
      let s : apply (atom (constant c ts)) (arguments u) ≡ u = transport (λ v. apply v (arguments u) ≡ u) x (apply_arguments u []) in
      let w' = transport (λ v. IsTyped d E y.answer.variables v o_type) (sym s) w in
      let g = typed_parts (atom_type (over d E y.answer.variables)) [] (atom (constant c ts)) (arguments u) o_type w'.typed in
      let f : connective_of_constant c ts (arguments u) ≡ connective.Atomic = transport (λ v. connective_at v (arguments u) ≡ connective.Atomic) x p in
      calls c ts (arguments u) (atom_kind (atom_type (over d E y.answer.variables)) d std c ts (arguments u) g.0 g.1 g.2 f) w'
  heads u (atom (eigen k)) x p w = (0, tt)
  heads u (atom (integer z)) x p w = (0, tt)
  heads u (atom (text s)) x p w = (0, tt)
  heads u (atom (logic z l)) x p w = (0, tt)
  heads u (atom (param k T)) x p w = (0, tt)
  heads u (index i) x p w = (0, tt)
  heads u (abs t) x p w = (0, tt)
  heads u (app t v) x p w = (0, tt)

  atoms : (u : Term) → connective_of u ≡ connective.Atomic → IsTyped d E y.answer.variables u o_type → (m : ℕ) × AtomHasEnough m level b u
  atoms u p w =
      let g = typed_parts (atom_type (over d E y.answer.variables)) [] (head_of u) (arguments u) o_type (transport (λ v. Typed (over d E y.answer.variables) [] v o_type) (sym (apply_arguments u [])) w.typed) in
      let k = arguments_typed (head_of u) g.0 (arguments u) o_type g.2 in
      let e = heads u (head_of u) refl p w in
      let m = k.0 + e.0 in
      let i : k.0 ≤ k.0 + e.0 = omega arith in
      let j : e.0 ≤ k.0 + e.0 = omega arith in
      (m, record { looked = found_more _ _ (looked_more k.0 m i u) k.1; head = head_more e.0 m j level b (head_of u) (arguments u) e.1 })

  terms : (t : Term) → IsTyped d E y.answer.variables t o_type → (m : ℕ) × TermHasEnough m level b t
  terms t w =
      let c = head_comes (typed_weighs (atom_type (over d E y.answer.variables)) [] t o_type w.typed).1 in
      let u = typed_reduced d E y.answer.variables o_type t c.form (head_reduces c.steps t c.form c.is) w in
      go c.steps c.form c.is u (plain_or (connective_of c.form))
    where
      go : (k : ℕ) (u : Term) → head_normal k t ≡ Some u → IsTyped d E y.answer.variables u o_type → (connective_of u ≡ connective.Atomic) ⊎ (connective_of u ≡ connective.Atomic → ⊥) → (m : ℕ) × TermHasEnough m level b t
      go k u e v (inl p) =
          let a = atoms u p v in
          let i : k ≤ k + a.0 = omega arith in
          let j : a.0 ≤ k + a.0 = omega arith in
          (k + a.0, record { form = u; comes = head_normal_more k (k + a.0) i t u e; call = λ x. atom_more a.0 (k + a.0) j level b u a.1 })
      go k u e v (inr f) = (k, record { form = u; comes = e; call = λ x. absurd (f x) })

module _ (n : ℕ) (d : Declared) (std : IsStandard d) (q : Query) (y : BranchTyping) (b : Branch) (h : IsTypedBranch n d q y b) where
  abbrev Enough : ℕ → Entry → Type 0
  Enough m e = (t : Term) → e.goal ≡ Atomic t → TermHasEnough m e.level b t

  by_goal : (E : List Ty) (e : Entry) → length E ≡ e.level → (g : Goal) → e.goal ≡ g → IsTyped d E y.answer.variables (formula_of_goal g) o_type → (m : ℕ) × Enough m e
  by_goal E e l (Atomic t) i w =
      let r = terms n d std q y b h E e.level l t w in
      (r.0, λ u j. let s : Atomic t ≡ Atomic u = sym i ∙ j in transport (TermHasEnough r.0 e.level b) (let k : t ≡ u = cc in k) r.1)
  by_goal E e l Cut i w = (0, λ u j. let s : Cut ≡ Atomic u = sym i ∙ j in absurd (cc))
  by_goal E e l (Either x z) i w = (0, λ u j. let s : Either x z ≡ Atomic u = sym i ∙ j in absurd (cc))
  by_goal E e l (Exists T x) i w = (0, λ u j. let s : Exists T x ≡ Atomic u = sym i ∙ j in absurd (cc))
  by_goal E e l (Forall T x) i w = (0, λ u j. let s : Forall T x ≡ Atomic u = sym i ∙ j in absurd (cc))
  by_goal E e l (Assume ws x z) i w = (0, λ u j. let s : Assume ws x z ≡ Atomic u = sym i ∙ j in absurd (cc))
  by_goal E e l (Not ws z) i w = (0, λ u j. let s : Not ws z ≡ Atomic u = sym i ∙ j in absurd (cc))

  by_goals : (Es : List (List Ty)) (gs : List Entry) → b.goals ≡ gs → AreTypedEntries d y.answer.variables Es gs → (m : ℕ) × ((e : Entry) (es : List Entry) (t : Term) → b.goals ≡ e ∷ es → e.goal ≡ Atomic t → TermHasEnough m e.level b t)
  by_goals [] [] i w = (0, λ e es t j k. absurd (let s = sym i ∙ j in cc))
  by_goals [] (e ∷ es) i w = absurd w
  by_goals (E ∷ Es) [] i w = absurd w
  by_goals (E ∷ Es) (e ∷ es) i w =
      let r = by_goal E e w.0.level e.goal refl w.0.goal in
      (r.0, λ x xs t j k. let s : e ∷ es ≡ x ∷ xs = sym i ∙ j in transport (Enough r.0) (let v : e ≡ x = cc in v) r.1 t k)

  -- what is written in a negated goal and in the assumptions of its place has normal forms
  part_has_form : (E : List Ty) (t u : Term) (T : Ty) → StandsIn t u → IsTyped d E y.answer.variables u T → (m : ℕ) × IsFound (beta_normal m t)
  part_has_form E t u T s w =
      let p = part_typed (over d E y.answer.variables) [] t u T s w.typed in
      let r = normal_comes (typed_weighs (atom_type (over d E y.answer.variables)) [] t p.0 p.1).1 in
      (r.0, (r.1, r.2))

  parts_have_forms : (E : List Ty) (u : Term) (T : Ty) → IsTyped d E y.answer.variables u T → (ts : List Term) → EachOf (λ t. StandsIn t u) ts → EachOf (λ t. (m : ℕ) × IsFound (beta_normal m t)) ts
  parts_have_forms E u T w [] s = tt
  parts_have_forms E u T w (t ∷ ts) s = (part_has_form E t u T s.0 w, parts_have_forms E u T w ts s.1)

  one_has_form : (E : List Ty) (cs : List Clause) → EachOf (λ c. IsTyped d E y.answer.variables (formula_of_clause c) o_type) cs → (t : Term) → StandsInOne cs t → (m : ℕ) × IsFound (beta_normal m t)
  one_has_form E [] w t s = absurd s
  one_has_form E (c ∷ cs) w t s = elim s [ inl x ↦ part_has_form E t (formula_of_clause c) o_type x w.0 | inr x ↦ one_has_form E cs w.1 t x ]

  ones_have_forms : (E : List Ty) (cs : List Clause) → EachOf (λ c. IsTyped d E y.answer.variables (formula_of_clause c) o_type) cs → (ts : List Term) → EachOf (StandsInOne cs) ts → EachOf (λ t. (m : ℕ) × IsFound (beta_normal m t)) ts
  ones_have_forms E cs w [] s = tt
  ones_have_forms E cs w (t ∷ ts) s = (one_has_form E cs w t s.0, ones_have_forms E cs w ts s.1)

  forms_come : (ts : List Term) → EachOf (λ t. (m : ℕ) × IsFound (beta_normal m t)) ts → (m : ℕ) × IsFound (beta_normals m ts)
  forms_come [] h = (0, ([], refl))
  forms_come (t ∷ ts) h =
      let r = forms_come ts h.1 in
      let m = h.0.0 + r.0 in
      let i : h.0.0 ≤ h.0.0 + r.0 = omega arith in
      let j : r.0 ≤ h.0.0 + r.0 = omega arith in
      let a = beta_normal_more h.0.0 m i t h.0.1.0 h.0.1.1 in
      let b = normals_more r.0 m j ts r.1.0 r.1.1 in
      (m, (h.0.1.0 ∷ r.1.0, ap (λ o. o >>= λ s. option_map (λ ss. s ∷ ss) (beta_normals m ts)) a ∙ ap (option_map (λ ss. h.0.1.0 ∷ ss)) b))

  abbrev Denied : ℕ → Entry → Type 0
  Denied m e = (w : Written) (gs : Goals) → e.goal ≡ Not w gs → IsFound (has_variables m (both_written w e.written))

  written_found : (m : ℕ) (w : Written) → IsFound (beta_normals m w.terms) → IsFound (has_variables m w)
  written_found m w f = (list_any has_variable f.0 || list_any has_type_variable w.types, ap (option_map (λ ts. list_any has_variable ts || list_any has_type_variable w.types)) f.1)

  denial : (E : List Ty) (e : Entry) → IsTypedEntry d y.answer.variables E e → IsWrittenEntry e → (g : Goal) → e.goal ≡ g → (m : ℕ) × Denied m e
  denial E e w x (Atomic t) i = (0, λ v gs j. let s : Atomic t ≡ Not v gs = sym i ∙ j in absurd (cc))
  denial E e w x Cut i = (0, λ v gs j. let s : Cut ≡ Not v gs = sym i ∙ j in absurd (cc))
  denial E e w x (Either l r) i = (0, λ v gs j. let s : Either l r ≡ Not v gs = sym i ∙ j in absurd (cc))
  denial E e w x (Exists T hs) i = (0, λ v gs j. let s : Exists T hs ≡ Not v gs = sym i ∙ j in absurd (cc))
  denial E e w x (Forall T hs) i = (0, λ v gs j. let s : Forall T hs ≡ Not v gs = sym i ∙ j in absurd (cc))
  denial E e w x (Assume v cs hs) i = (0, λ u gs j. let s : Assume v cs hs ≡ Not u gs = sym i ∙ j in absurd (cc))
  denial E e w x (Not v hs) i =
      let t = argument_typed d std E y.answer.variables (formula_of_goals hs) (transport (λ g. IsTyped d E y.answer.variables (formula_of_goal g) o_type) i w.goal) in
      let s = transport IsWrittenGoal i x.goal in
      let r = forms_come (both_written v e.written).terms
      (each_append (λ t. (m : ℕ) × IsFound (beta_normal m t)) v.terms e.written.terms (parts_have_forms E (formula_of_goals hs) o_type t v.terms s.0) (ones_have_forms E e.assumed w.assumed e.written.terms x.place.terms)) in
      let f = written_found r.0 (both_written v e.written) r.1 in
      (r.0, λ u gs j. let k : Not v hs ≡ Not u gs = sym i ∙ j in transport (λ z. IsFound (has_variables r.0 (both_written z e.written))) (let l : v ≡ u = cc in l) f)

  by_denial : (Es : List (List Ty)) (gs : List Entry) → b.goals ≡ gs → AreTypedEntries d y.answer.variables Es gs → EachOf IsWrittenEntry gs → (m : ℕ)
      × ((e : Entry) (es : List Entry) (w : Written) (hs : Goals) → b.goals ≡ e ∷ es → e.goal ≡ Not w hs → IsFound
      (has_variables m (both_written w e.written)))
  by_denial [] [] i t x = (0, λ e es w hs j k. absurd (let s = sym i ∙ j in cc))
  by_denial [] (e ∷ es) i t x = absurd t
  by_denial (E ∷ Es) [] i t x = absurd t
  by_denial (E ∷ Es) (e ∷ es) i t x =
      let r = denial E e t.0 x.0 e.goal refl in
      (r.0, λ z zs w hs j k. let s : e ∷ es ≡ z ∷ zs = sym i ∙ j in transport (Denied r.0) (let v : e ≡ z = cc in v) r.1 w hs k)

  pub branch_has_enough : (m : ℕ) × HasEnough m (Go b)
  branch_has_enough =
      let r = by_goals y.eigens b.goals refl h.entries in
      let s = by_denial y.eigens b.goals refl h.entries h.written in
      let m = r.0 + s.0 in
      let i : r.0 ≤ r.0 + s.0 = omega arith in
      let j : s.0 ≤ r.0 + s.0 = omega arith in
      (m, (λ e es t k l. term_more r.0 m i e.level b t (r.1 e es t k l), λ e es w gs k l. found_more _ _ (variables_more s.0 m j (both_written w e.written)) (s.1 e es w gs k l)))

pub branches_have_enough : (n : ℕ) (d : Declared) → IsStandard d → (q : Query) (y : BranchTyping) (b : Branch) → IsTypedBranch n d q y b → (m : ℕ) × HasEnough m (Go b)
branches_have_enough n d std q y b h = branch_has_enough n d std q y b h

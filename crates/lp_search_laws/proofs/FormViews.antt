-- What a goal known at run time leaves, by the connective at its head.
use Rattle.lp_proof_laws.proofs.Uniform.Settings.{IsSetting}
use Rattle.std.proofs.Common.{true≢false, ◌≡◌, ℕ, suc, List, [], ◌∷◌, ◌++◌, map, length, Some, ◌∙◌, refl, sym, ap, subst as transport, arith, inl, inr}
use Rattle.std.specs.Prelude.{◌⊎◌}
use Rattle.lp_calculus.specs.Types.{Ty, instance}
use Rattle.lp_calculus.specs.Term.{Term, atom, substitute, eigen, logic}
use Rattle.lp_calculus.specs.Convert.{ReducesTo}
use Rattle.lp_calculus.specs.Typing.{o_type, Typed}
use Rattle.lp_model.specs.Unify.{unit_limit}
use Rattle.lp_model.specs.Look.{head_normal}
use Rattle.lp_calculus.specs.Spine.{head_of}
use Rattle.lp_model.specs.Pair.{Closing}
use Rattle.lp_standard.specs.Connectives.{two, Connective, connective_of}
use Rattle.lp_standard.specs.Connectives as connective
use Rattle.lp_model.specs.Flat.{Atomic, Clause}
use Rattle.lp_model.specs.Branch.{Entry, Branch, Go}
use Rattle.lp_model.specs.Answers.{Query, AnswerTyping, Closes, over, IsScopedAtom}
use Rattle.lp_model.specs.Proofs.{Declared, Leaves}
use Rattle.lp_model.specs.Search.{with_goals, in_place, at_next_level, look_form, look_atom}
use Rattle.lp_proof_laws.proofs.Uniform.Forms.{Shape, form_shape}
use Rattle.lp_proof_laws.proofs.Uniform.Roots.{connective, pi_type, sigma_type}
use Rattle.lp_unify_laws.proofs.Scopes.{prefix_more, prefix_none, more_none, eigen_last}
use Rattle.lp_unify_laws.proofs.TypedInstances.{length_map, map_append}
use Rattle.lp_unify_laws.proofs.Looks.{head_reduces}
use Rattle.lp_search_laws.specs.Holds.{Holds, IsTyped, FormHolds, IsTakenApart}
use Rattle.lp_search_laws.specs.Clauses.{clauses_at}
use Rattle.lp_search_laws.specs.Branches.{IsPlainAtom, IsPlainTerm, EntryHolds, going}
use Rattle.lp_search_laws.specs.Given.{bound_by, bound_by_form}
use Rattle.lp_search_laws.proofs.Given.{form_bound, put_nothing, put_variable, put_eigenconstant}
use Rattle.lp_search_laws.specs.Views.{StandFor, IsRightView}
use Rattle.lp_search_laws.proofs.Connectives.{reduces_on, reduces_back}
use Rattle.lp_search_laws.proofs.Closed.{closed_reduces}
use Rattle.lp_search_laws.proofs.Goals.{run_time_goals}
use Rattle.lp_search_laws.proofs.Formed.{formula_at}
use Rattle.lp_search_laws.proofs.TypedParts.{both_typed, function_typed, opened_typed, typed_wider, typed_reduced, plain_reduced, plain_opened}
use Rattle.lp_search_laws.proofs.Fronts.{MayStand, Typings, Typed as IsTypedHere, stands_one, stands_two}
use Rattle.lp_search_laws.proofs.FlatViews.{next_place}
use Rattle.lp_search_laws.proofs.NewVariable.{stands_new, unused_new}
use Rattle.lp_search_laws.proofs.GoalViews.{place, typed_as, plain_as, by_goal, new_typed, new_place}

module _ {L : Leaves} (n : ℕ) (d : Declared) (std : IsSetting L d) (P : List Clause) (q : Query) (z : AnswerTyping) (b : Branch) (E : List Ty) (Es : List (List Ty)) (e : Entry) (es : List Entry) (h : IsTypedHere n d P q z b E Es e es)
    (t u : Term) (i : e.goal ≡ Atomic t) (r : head_normal n t ≡ Some u) where
  reduces : ReducesTo t u
  reduces = head_reduces n t u r

  abbrev Here : Term → Type 0
  Here x = IsTyped d E z.variables x o_type

  goal_typed : IsTyped d E z.variables t o_type
  goal_typed = typed_as n d std P q z b E Es e es h (Atomic t) i

  pub form_typed : IsTyped d E z.variables u o_type
  form_typed = typed_reduced d E z.variables o_type t u reduces goal_typed

  pub form_plain : IsPlainTerm b.next_type u
  form_plain = plain_reduced (IsPlainAtom b.next_type) (IsScopedAtom z.variables E) t u reduces goal_typed.scoped (plain_as n d std P q z b E Es e es h (Atomic t) i)

  -- the entry holds where its head-normal form does
  pub by_form : (c : Closing) → Closes d z.variables c → (EntryHolds L d P c E e → Holds L d (map (instance c.types) E) (clauses_at P e.assumed c) c u) × (Holds L d (map (instance c.types) E) (clauses_at P e.assumed c) c u → EntryHolds L d P c E e)
  by_form c l =
      let f = formula_at d z.variables c l E t goal_typed in
      by_goal n d std P q z b E Es e es h (Atomic t) i c _ ((λ p. reduces_on d (map (instance c.types) E) (clauses_at P e.assumed c) f (closed_reduces c reduces) p), (λ p. reduces_back d (map (instance c.types) E) (clauses_at P e.assumed c) f (closed_reduces c reduces) p))

  -- and where the parts of the form do
  by_parts : (f : Connective) → connective_of u ≡ f → IsTakenApart f → (c : Closing) → Closes d z.variables c →
      (EntryHolds L d P c E e → FormHolds L d (map (instance c.types) E) (clauses_at P e.assumed c) c b.next e.level f) ×
      (FormHolds L d (map (instance c.types) E) (clauses_at P e.assumed c) c b.next e.level f → EntryHolds L d P c E e)
  by_parts f x a c l =
      let E' = map (instance c.types) E in
      let R = clauses_at P e.assumed c in
      let m = run_time_goals d std E' R c b.next e.level n t u r (transport IsTakenApart (sym x) a) (unused_new d E z.variables b.next e.level (sym h.answer.variables) t o_type goal_typed.typed) (formula_at d z.variables c l E t goal_typed) in
      by_goal n d std P q z b E Es e es h (Atomic t) i c _ ((λ p. transport (FormHolds L d E' R c b.next e.level) x (m.0 p)), (λ p. m.1 (transport (FormHolds L d E' R c b.next e.level) (sym x) p)))

  -- goals of the same place
  one_in_place : (x : Term) → IsTyped d E z.variables x o_type → IsPlainTerm b.next_type x → MayStand d z.variables b.next_type (E ∷ []) (in_place e (x ∷ []))
  one_in_place x w p = record { typed = (record { level = h.entries.0.level; goal = w; assumed = h.entries.0.assumed }, tt); plain = (record { eigens = h.goals.0.eigens; goal = p; assumed = h.goals.0.assumed }, tt); written = (record { goal = tt; place = h.written.0.place }, tt) }

  bound : (f : Connective) → connective_of u ≡ f → bound_by n e.goal ≡ bound_by_form f
  bound f x = form_bound n e.goal t u f i r x

  truth_stands : connective_of u ≡ connective.True → StandFor L n d P q (going (Typings n d P q z b E Es e es (E ∷ Es)) (with_goals b (e ∷ es))) (Go (with_goals b es) ∷ [])
  truth_stands x = stands_one n d P q z b E Es e es h [] [] (record { typed = tt; plain = tt; written = tt }) (put_nothing n e.goal E z.variables [] [] (bound connective.True x) refl) (λ c l. by_parts connective.True x tt c l)

  both_stand : (a c : Term) → connective_of u ≡ connective.And a c → StandFor L n d P q (going (Typings n d P q z b E Es e es (E ∷ Es)) (with_goals b (e ∷ es))) (Go (with_goals b (in_place e (a ∷ c ∷ []) ++ es)) ∷ [])
  both_stand a c x =
      let s : u ≡ two 0 [] a c = transport (λ f. Shape f u) x (form_shape u) in
      let w = both_typed d E z.variables 0 a c (connective d std.standard 0 (omega arith)) (transport (λ y. IsTyped d E z.variables y o_type) s form_typed) in
      let p = transport (IsPlainTerm b.next_type) s form_plain in
      let l = one_in_place a w.0 p.0.1 in
      let m = one_in_place c w.1 p.1 in
      stands_one n d P q z b E Es e es h (E ∷ E ∷ []) (in_place e (a ∷ c ∷ [])) (record { typed = (l.typed.0, (m.typed.0, tt)); plain = (l.plain.0, (m.plain.0, tt)); written = (l.written.0, (m.written.0, tt)) })
      (put_nothing n e.goal E z.variables (in_place e (a ∷ c ∷ [])) (E ∷ E ∷ []) (bound (connective.And a c) x) refl)
      (λ v g. let y = by_parts (connective.And a c) x tt v g in ((λ o. let j = y.0 o in (j.0, (j.1, tt))), (λ o. y.1 (o.0, o.1.0))))

  either_stand : (a c : Term) → connective_of u ≡ connective.Or a c → StandFor L n d P q (going (Typings n d P q z b E Es e es (E ∷ Es)) (with_goals b (e ∷ es))) (Go (with_goals b (in_place e (a ∷ []) ++ es)) ∷ Go (with_goals b (in_place e (c ∷ []) ++ es)) ∷ [])
  either_stand a c x =
      let s : u ≡ two 1 [] a c = transport (λ f. Shape f u) x (form_shape u) in
      let w = both_typed d E z.variables 1 a c (connective d std.standard 1 (omega arith)) (transport (λ y. IsTyped d E z.variables y o_type) s form_typed) in
      let p = transport (IsPlainTerm b.next_type) s form_plain in
      stands_two n d P q z b E Es e es h (E ∷ []) (E ∷ []) (in_place e (a ∷ [])) (in_place e (c ∷ [])) (one_in_place a w.0 p.0.1) (one_in_place c w.1 p.1)
      (put_nothing n e.goal E z.variables (in_place e (a ∷ [])) (E ∷ []) (bound (connective.Or a c) x) refl) (put_nothing n e.goal E z.variables (in_place e (c ∷ [])) (E ∷ []) (bound (connective.Or a c) x) refl)
      (λ v g. let y = by_parts (connective.Or a c) x tt v g in ((λ o. elim (y.0 o) [ inl j ↦ inl (j, tt) | inr j ↦ inr (j, tt) ]), (λ o. y.1 (elim o [ inl j ↦ inl j.0 | inr j ↦ inr j.0 ]))))

  every_stands : (T : Ty) (s : Term) → connective_of u ≡ connective.ForAll T s → StandFor L n d P q (going (Typings n d P q z b E Es e es (E ∷ Es)) (with_goals b (e ∷ es))) (Go (with_goals b (at_next_level e (substitute (atom (eigen (suc e.level))) s) ∷ es)) ∷ [])
  every_stands T s x =
      let g = transport (λ f. Shape f u) x (form_shape u) in
      let F = E ++ T ∷ [] in
      let v = atom (eigen (suc e.level)) in
      let w = transport (λ y. IsTyped d E z.variables y o_type) g.1 form_typed in
      let p = transport (IsPlainTerm b.next_type) g.1 form_plain in
      let a = function_typed d E z.variables 4 T g.0 (pi_type d std.standard T) w in
      let a' = typed_wider d E F z.variables z.variables (prefix_more E (T ∷ [])) (more_none z.variables) g.0 _ a in
      let pl = next_place d z.variables b.next_type E e.assumed e.level T p.0.1 (place n d std P q z b E Es e es h) in
      let eig : IsTyped d F z.variables v T = record {
        typed = transport (λ m. Typed (over d (E ++ T ∷ []) z.variables) [] (atom (eigen (suc m))) T) h.entries.0.level (eigen_last E T);
        scoped = (let y : length (E ++ T ∷ []) ≡ suc e.level = pl.is_level in omega arith);
      } in
      let o = transport (λ y. IsTyped d F z.variables (substitute v y) o_type) (sym g.2) (opened_typed d F z.variables T g.0 v a' eig) in
      let pp = transport (λ y. IsPlainTerm b.next_type (substitute v y)) (sym g.2) (plain_opened (IsPlainAtom b.next_type) (IsScopedAtom z.variables F) g.0 v a'.scoped eig.scoped p.1 tt) in
      stands_one n d P q z b E Es e es h (F ∷ []) (at_next_level e (substitute v s) ∷ [])
      (record { typed = (record { level = pl.is_level; goal = o; assumed = pl.typed }, tt); plain = (record { eigens = pl.below; goal = pp; assumed = pl.plain }, tt); written = (record { goal = tt; place = h.written.0.place }, tt) })
      (put_eigenconstant n e.goal E z.variables (at_next_level e (substitute v s) ∷ []) (F ∷ []) T (bound (connective.ForAll T s) x) refl)
      (λ c l.
      let E' = map (instance c.types) E in
      let R = clauses_at P e.assumed c in
      let y = by_parts (connective.ForAll T s) x tt c l in
      let j : suc (length E') ≡ suc e.level = ap suc (length_map (instance c.types) E ∙ h.entries.0.level) in
      let k' : map (instance c.types) F ≡ E' ++ instance c.types T ∷ [] = map_append (instance c.types) E (T ∷ []) in (
        (λ m. (transport (λ G. Holds L d G R c (substitute v s)) (sym k') (transport (λ f. Holds L d (E' ++ instance c.types T ∷ []) R c (substitute (atom (eigen f)) s)) j (y.0 m)), tt)),
        (λ m. y.1 (transport (λ f. Holds L d (E' ++ instance c.types T ∷ []) R c (substitute (atom (eigen f)) s)) (sym j) (transport (λ G. Holds L d G R c (substitute v s)) k' m.0))),
      ))

  exist_stands : (T : Ty) (s : Term) → connective_of u ≡ connective.Exists T s → StandFor L n d P q (going (Typings n d P q z b E Es e es (E ∷ Es)) (with_goals b (e ∷ es)))
      (Go (record { next = suc b.next; next_type = b.next_type; goals = in_place e (substitute (atom (logic b.next e.level)) s ∷ []) ++ es; types = b.types; values = b.values; pairs = b.pairs }) ∷ [])
  exist_stands T s x =
      let g = transport (λ f. Shape f u) x (form_shape u) in
      let X = z.variables ++ record { type = T; scope = E } ∷ [] in
      let v = atom (logic b.next e.level) in
      let w = transport (λ y. IsTyped d E z.variables y o_type) g.1 form_typed in
      let p = transport (IsPlainTerm b.next_type) g.1 form_plain in
      let a = function_typed d E z.variables 5 T g.0 (sigma_type d std.standard T) w in
      let a' = typed_wider d E E z.variables X (prefix_none E) (record { more = record { type = T; scope = E } ∷ []; is = refl }) g.0 _ a in
      let nt = new_typed n d std P q z b E Es e es h T in
      let np = new_place n d std P q z b E Es e es h T in
      let o = transport (λ y. IsTyped d E X (substitute v y) o_type) (sym g.2) (opened_typed d E X T g.0 v a' nt) in
      let pp = transport (λ y. IsPlainTerm b.next_type (substitute v y)) (sym g.2) (plain_opened (IsPlainAtom b.next_type) (IsScopedAtom X E) g.0 v a'.scoped nt.scoped p.1 tt) in
      stands_new n d P q z b E Es e es h T p.0.1.0 (substitute v s) (E ∷ []) (in_place e (substitute v s ∷ []))
      (record { typed = (record { level = np.is_level; goal = o; assumed = np.typed }, tt); plain = (record { eigens = np.below; goal = pp; assumed = np.plain }, tt); written = (record { goal = tt; place = h.written.0.place }, tt) })
      (put_variable n e.goal E z.variables (in_place e (substitute v s ∷ [])) (E ∷ []) T (bound (connective.Exists T s) x) refl)
      (λ c l. by_parts (connective.Exists T s) x tt c l)
      (λ c l. ((λ m. (m, tt)), (λ m. m.0)))

  no_implication : (a c : Term) → (u ≡ two 2 [] a c) ⊎ (u ≡ two 3 [] c a) → ⊥
  no_implication a c (inl x) = let p = transport (IsPlainTerm b.next_type) x form_plain in true≢false (sym p.0.0.0)
  no_implication a c (inr x) = let p = transport (IsPlainTerm b.next_type) x form_plain in true≢false (sym p.0.0.0)

  -- what each form leaves
  pub form_view : (height : ℕ) → (connective_of u ≡ connective.Atomic → IsRightView L n d P q (going (Typings n d P q z b E Es e es (E ∷ Es)) (with_goals b (e ∷ es))) (look_atom unit_limit n P height e (with_goals b es) u (head_of u))) →
      (f : Connective) → connective_of u ≡ f → IsRightView L n d P q (going (Typings n d P q z b E Es e es (E ∷ Es)) (with_goals b (e ∷ es))) (look_form unit_limit n P height e (with_goals b es) u f)
  form_view height atomic connective.True x = truth_stands x
  form_view height atomic (connective.And a c) x = both_stand a c x
  form_view height atomic (connective.Or a c) x = either_stand a c x
  form_view height atomic (connective.ForAll T s) x = every_stands T s x
  form_view height atomic (connective.Exists T s) x = exist_stands T s x
  form_view height atomic connective.Cut x =
      let g = transport (λ f. Shape f u) x (form_shape u) in
      let p = transport (IsPlainTerm b.next_type) g.1 form_plain in
      absurd (true≢false (sym p.0))
  form_view height atomic (connective.Implies a c) x = absurd (no_implication a c (transport (λ f. Shape f u) x (form_shape u)))
  form_view height atomic (connective.Not g) x =
      let p = transport (IsPlainTerm b.next_type) (transport (λ f. Shape f u) x (form_shape u)) form_plain in
      absurd (true≢false (sym p.0.0))
  form_view height atomic connective.Atomic x = atomic x

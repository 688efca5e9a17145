-- What the unifier leaves of an equality stands for its branch.
use Rattle.lp_proof_laws.proofs.Uniform.Settings.{IsSetting}
use Rattle.std.proofs.Common.{◌≡◌, ℕ, List, [], ◌∷◌, map, Some, sym, ap, subst as transport, arith, inr}
use Rattle.lp_calculus.specs.Types.{Ty, instance}
use Rattle.lp_calculus.specs.Term.{Term}
use Rattle.lp_calculus.specs.Typing.{Typed, scheme_type, o_type}
use Rattle.lp_model.specs.Unify.{unit_limit}
use Rattle.lp_model.specs.Look.{head_normal}
use Rattle.lp_model.specs.Pair.{Pair, Closing}
use Rattle.lp_standard.specs.Connectives.{two}
use Rattle.lp_model.specs.Flat.{Atomic, Clause}
use Rattle.lp_model.specs.Branch.{Entry, Branch}
use Rattle.lp_model.specs.Answers.{Query, AnswerTyping, PairTyping, Instance, IsTypedPair, over}
use Rattle.lp_model.specs.Proofs.{Declared, Leaves}
use Rattle.lp_model.specs.Search.{with_goals, equated}
use Rattle.lp_unify_laws.specs.Solutions.{instance_typing}
use Rattle.lp_unify_laws.proofs.TypedInstances.{typings_have_instances}
use Rattle.lp_search_laws.specs.Holds.{Holds, IsTyped, equation}
use Rattle.lp_search_laws.specs.Clauses.{clauses_at}
use Rattle.lp_search_laws.specs.Behind.{SolvesWith}
use Rattle.lp_search_laws.specs.Branches.{BranchTyping, IsTypedBranch, IsPlainTerm, SolvesBranch, going}
use Rattle.lp_search_laws.specs.Views.{StandFor}
use Rattle.lp_search_laws.proofs.Connectives.{equal_holds}
use Rattle.lp_search_laws.proofs.Formed.{formula_at}
use Rattle.lp_search_laws.proofs.Fronts.{Typings, Typed as IsTypedHere}
use Rattle.lp_search_laws.proofs.FormViews.{form_typed, form_plain, by_form}
use Rattle.lp_search_laws.proofs.EnoughSteps.{two_kinds}
use Rattle.lp_search_laws.proofs.Resumed.{with_typed, follows}
use Rattle.lp_search_laws.proofs.ArithmeticTasks.{by_first}

module _ {L : Leaves} (n : ℕ) (d : Declared) (std : IsSetting L d) (P : List Clause) (q : Query) (z : AnswerTyping) (b : Branch) (E : List Ty) (Es : List (List Ty)) (e : Entry) (es : List Entry) (h : IsTypedHere n d P q z b E Es e es)
    (t u : Term) (i : e.goal ≡ Atomic t) (c : head_normal n t ≡ Some u) (T : Ty) (l r : Term) (shape : u ≡ two 8 (T ∷ []) l r) where
  abbrev rest_typing : BranchTyping
  rest_typing = record { answer = z; eigens = Es }

  rest : IsTypedBranch n d q (record { answer = z; eigens = Es }) (with_goals b es)
  rest = record { answer = h.answer; entries = h.entries.1; variables = h.variables; types = h.types; values = h.values; pairs = h.pairs; goals = h.goals.1; written = h.written.1; stuck = h.stuck }

  typed : IsTyped d E z.variables (two 8 (T ∷ []) l r) o_type
  typed = transport (λ w. IsTyped d E z.variables w o_type) shape (form_typed n d std P q z b E Es e es h t u i c)

  sides : IsTyped d E z.variables l T × IsTyped d E z.variables r T
  sides =
      let y = typed.typed in
      let s = two_kinds (scheme_type (T ∷ []) (d 8)) T y.0 y.1.0 (ap (scheme_type (T ∷ [])) (std.standard.at 8 (omega arith))) y.1.1 in
      (record { typed = transport (Typed (over d E z.variables) [] l) s.0 y.1.2; scoped = typed.scoped.0.1 }, record { typed = transport (Typed (over d E z.variables) [] r) s.1 y.2; scoped = typed.scoped.1 })

  abbrev pair : Pair
  pair = record { left = l; right = r; level = e.level }

  abbrev pair_typing : PairTyping
  pair_typing = record { eigens = E; type = T }

  pair_typed : IsTypedPair d z.variables (record { eigens = E; type = T }) (record { left = l; right = r; level = e.level })
  pair_typed = record { level = h.entries.0.level; left = sides.0.typed; right = sides.1.typed; left_scoped = sides.0.scoped; right_scoped = sides.1.scoped }

  plain : IsPlainTerm b.next_type (two 8 (T ∷ []) l r)
  plain = transport (IsPlainTerm b.next_type) shape (form_plain n d std P q z b E Es e es h t u i c)

  abbrev HoldsSo : Closing → Term → Type 0
  HoldsSo v w = Holds L d (map (instance v.types) E) (clauses_at P e.assumed v) v w

  to_pair : (j : Instance) → SolvesBranch L d P q j (Typings n d P q z b E Es e es (E ∷ Es)) (with_goals b (e ∷ es)) → SolvesWith L d P q j (record { answer = z; eigens = Es }) (with_goals b es) [] (equation l r e.level)
  to_pair j s =
      let v = s.answer.closing in
      let g = equal_holds d std (map (instance v.types) E) (clauses_at P e.assumed v) v T l r (formula_at d z.variables v s.answer.closes E (two 8 (T ∷ []) l r) typed) in
      let p = transport (HoldsSo v) shape ((by_form n d std P q z b E Es e es h t u i c v s.answer.closes).0 s.proved.0) in
      record { branch = record { query = s.query; answer = s.answer; proved = s.proved.1 }; types = tt; pairs = (g.0 p, tt) }

  from_pair : (j : Instance) → SolvesWith L d P q j (record { answer = z; eigens = Es }) (with_goals b es) [] (equation l r e.level) → SolvesBranch L d P q j (Typings n d P q z b E Es e es (E ∷ Es)) (with_goals b (e ∷ es))
  from_pair j s =
      let v = s.branch.answer.closing in
      let g = equal_holds d std (map (instance v.types) E) (clauses_at P e.assumed v) v T l r (formula_at d z.variables v s.branch.answer.closes E (two 8 (T ∷ []) l r) typed) in
      let p = (by_form n d std P q z b E Es e es h t u i c v s.branch.answer.closes).1 (transport (HoldsSo v) (sym shape) (g.1 s.pairs.0)) in
      record { query = s.branch.query; answer = s.branch.answer; proved = (p, s.branch.proved) }

  pub equal_here : StandFor L n d P q (going (Typings n d P q z b E Es e es (E ∷ Es)) (with_goals b (e ∷ es))) (equated unit_limit n e.level l r (with_goals b es))
  equal_here = follows n d std P q (record { answer = z; eigens = Es }) (with_goals b es) [] (equation l r e.level) (with_typed n d q (record { answer = z; eigens = Es }) (with_goals b es) [] rest)
      (λ θ w. (instance_typing θ pair_typing ∷ [], (typings_have_instances θ d z.variables pair_typing pair pair_typed, tt)))
      tt (record { left = plain.0.1; right = plain.1 }, tt)
      (going (Typings n d P q z b E Es e es (E ∷ Es)) (with_goals b (e ∷ es))) to_pair from_pair (λ y' b' x. inr x)

pub equality_stands : {L : Leaves} (n : ℕ) (d : Declared) → IsSetting L d → (P : List Clause) (q : Query) (y : BranchTyping) (b : Branch) (e : Entry)
    (es : List Entry) (t u : Term) (T : Ty) (l r : Term) → b.goals ≡ e ∷ es → e.goal ≡ Atomic t → head_normal n t ≡ Some u → u ≡ two 8 (T ∷ []) l r →
    IsTypedBranch n d q y b →
    StandFor L n d P q (going y b) (equated unit_limit n e.level l r (with_goals b es))
equality_stands {L} n d std P q y b e es t u T l r g i c shape typed =
    by_first n d q (λ x v. StandFor L n d P q (going x v) (equated unit_limit n e.level l r (with_goals b es))) y b e es g (λ E Es w. equal_here n d std P q y.answer b E Es e es w t u i c T l r shape) typed

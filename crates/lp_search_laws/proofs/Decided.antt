-- The search of a negated goal decides it.
use Rattle.std.proofs.Common.{◌≡◌, ℕ, List, [], ◌∷◌, map, length, Some, refl}
use Rattle.std.specs.Prelude.{false}
use Rattle.lp_calculus.specs.Types.{Ty, instance}
use Rattle.lp_lemmas.specs.Each.{EachOf}
use Rattle.lp_standard.specs.Schemes.{IsStandard}
use Rattle.lp_model.specs.Unify.{unit_limit}
use Rattle.lp_model.specs.Pair.{Closing}
use Rattle.lp_model.specs.Skeleton.{Note, Refuted, Held, row_limit, starts, inner}
use Rattle.lp_model.specs.Flat.{Not, Written, Goals, Clause, formula_of_goals}
use Rattle.lp_model.specs.Branch.{Entry, Branch, Go, both_written}
use Rattle.lp_model.specs.Search.{with_goals, look, has_no_pairs, has_variables}
use Rattle.lp_model.specs.Answers.{Query, AnswerTyping, Closes}
use Rattle.lp_model.specs.Proofs.{Declared}
use Rattle.lp_search_laws.specs.Holds.{Holds}
use Rattle.lp_search_laws.specs.Clauses.{clauses_at}
use Rattle.lp_search_laws.specs.Denials.{denied_task}
use Rattle.lp_search_laws.specs.Failed.{InAny, IsFailedSearch, failed_run}
use Rattle.lp_search_laws.specs.Branches.{IsTypedBranch, IsProgramTyped, HasLeaf, TypedTask, going}
use Rattle.lp_search_laws.proofs.Consistent.{consistent, held_at, held_provable, proves_failing}
use Rattle.lp_search_laws.proofs.FailedSearches.{failed_same, setting_of}
use Rattle.lp_search_laws.proofs.HeldRuns.{typed_query}
use Rattle.lp_search_laws.proofs.GoalViews.{denied_stands}

module _ (n : ℕ) (d : Declared) (std : IsStandard d) (P : List Clause) (program : EachOf (IsProgramTyped d) P) (q : Query) (z : AnswerTyping) (b : Branch) (E : List Ty) (Es : List (List Ty)) (e : Entry) (es : List Entry)
    (h : IsTypedBranch n d q (record { answer = z; eigens = E ∷ Es }) (with_goals b (e ∷ es))) (w : Written) (gs : Goals) (is : e.goal ≡ Not w gs) (tested : has_variables n (both_written w e.written) ≡ Some false) (j steps k p : ℕ) (ns : List Note) where
  abbrev T : TypedTask
  T = going (record { answer = z; eigens = E ∷ Es }) (with_goals b (e ∷ es))

  pub refuted : inner (look unit_limit n P) j has_no_pairs (starts (denied_task b.next b.next_type gs e.assumed e.written e.level) steps 1) ≡ Refuted k ns p → (c : Closing) → Closes d z.variables c → HasLeaf (IsFailedSearch InAny d P) P c E e.assumed gs
  unfolding denied_stands
  refuted r c l =
      let same = failed_same InAny d P in
      let s = denied_stands n d (setting_of d same std) P q z b E Es e es h w gs is tested in
      proves_failing d std P program n j q (λ x. ⊥) T (denied_task b.next b.next_type gs e.assumed e.written e.level) has_no_pairs (Go (with_goals b es) ∷ []) s tt steps row_limit k p ns r tt c l

  pub held : inner (look unit_limit n P) j has_no_pairs (starts (denied_task b.next b.next_type gs e.assumed e.written e.level) steps 1) ≡ Held k ns p
      → (c : Closing) → Closes d z.variables c → Holds (IsFailedSearch InAny d P) d (map (instance c.types) E) (clauses_at P e.assumed c) c
      (formula_of_goals gs) × (HasLeaf (IsFailedSearch InAny d P) P c E e.assumed gs → ⊥)
  unfolding denied_stands
  held r c l =
      let same = failed_same InAny d P in
      let s = denied_stands n d (setting_of d same std) P q z b E Es e es h w gs is tested in
      let x = held_at d std P program n j q T (denied_task b.next b.next_type gs e.assumed e.written e.level) has_no_pairs (Go (with_goals b es) ∷ []) s steps row_limit k p ns r in (
        held_provable d std P program (IsFailedSearch InAny d P) same n j (λ y. Unit {0}) (λ y y' i o. o) z.variables b.next_type E gs e.assumed k x (proves_failing d std P program n j (typed_query b.next_type) (λ y. ⊥)) tt c l,
        (λ y. consistent d std P program k (failed_run (length (map (instance c.types) E)) y.0).steps n j z.variables b.next_type E gs e.assumed x c l y.0 y.1 refl),
      )

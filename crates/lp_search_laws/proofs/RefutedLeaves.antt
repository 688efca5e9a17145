-- A search of a negated goal that is refuted is a failing search for its goals, in as many steps.
use Rattle.std.proofs.Common.{◌≡◌, ℕ, List, [], ◌∷◌, length, map, refl, ap, subst as transport}
use Rattle.std.specs.Prelude.{Bool}
use Rattle.lp_calculus.specs.Types.{Ty, instance}
use Rattle.lp_calculus.specs.Typing.{o_type}
use Rattle.lp_model.specs.Unify.{unit_limit}
use Rattle.lp_model.specs.Skeleton.{Note, Refuted, starts_within, inner}
use Rattle.lp_model.specs.Flat.{Goals, Written, Clause, clause_list, formula_of_goals}
use Rattle.lp_model.specs.Flattened.{clauses_in}
use Rattle.lp_model.specs.Pair.{Closing, closed}
use Rattle.lp_model.specs.Branch.{Answer, Task}
use Rattle.lp_model.specs.Search.{look}
use Rattle.lp_model.specs.Answers.{Query, Variable, Closes}
use Rattle.lp_model.specs.Proofs.{Declared, Failure, Leaves}
use Rattle.lp_search_laws.specs.Holds.{IsTyped}
use Rattle.lp_search_laws.specs.Denials.{denied_branch, denied_task}
use Rattle.lp_search_laws.specs.Clauses.{clauses_at}
use Rattle.lp_search_laws.specs.Failed.{Order, IsFailedSearch, failed_run}
use Rattle.lp_search_laws.specs.Branches.{no_query, IsTypedBranch, TypedTask, denied_typing}
use Rattle.lp_search_laws.specs.Views.{DeniesTyped}
use Rattle.lp_search_laws.proofs.FailedSearches.{leaf, refuted_fails_so, refuted_steps}

listed : (A : List Clause) → clause_list (clauses_in A) ≡ A
listed [] = refl
listed (c ∷ A) = ap (λ z. c ∷ z) (listed A)

-- the search as a leaf
pub record IsLeafOf (o : Order) (d : Declared) (P : List Clause) (V : List Variable) (E : List Ty) (gs : Goals) (A : List Clause) (k : ℕ) (c : Closing) : Type 0 where
  pub leaf : Failure
  pub fails : IsFailedSearch o d P (map (instance c.types) E) (clauses_at P A c) (closed c (formula_of_goals gs)) leaf
  pub steps : (failed_run (length E) leaf).steps ≡ k

module _ (o : Order) (n : ℕ) (d : Declared) (P : List Clause) (V : List Variable) (E : List Ty) (next_type : ℕ) (gs : Goals) (w : Written) (typed : IsTyped d E V (formula_of_goals gs) o_type) where
  -- what a refuted search says, where these are its assumptions
  abbrev IsLeafAt : List Clause → Type 0
  IsLeafAt A = IsTypedBranch n d no_query (denied_typing V E gs) (denied_branch (length V) next_type gs A w (length E)) → (steps j rows k p : ℕ)
      (ns : List Note) (is_final : Answer → Bool) → inner (look unit_limit n P) j is_final
      (starts_within rows (denied_task (length V) next_type gs A w (length E)) steps 1) ≡ Refuted k ns p →
      (c : Closing) → Closes d V c → IsLeafOf o d P V E gs A k c

  refuted_leaf : (A : List Clause) → IsLeafAt A
  refuted_leaf A = transport IsLeafAt (listed A) (λ h steps j rows k p ns is_final r c cl. record {
    leaf = leaf o n d P V E next_type gs (clauses_in A ∷ []) w typed h steps j rows k p ns is_final r;
    fails = refuted_fails_so o n d P V E next_type gs (clauses_in A ∷ []) w typed h steps j rows k p ns is_final r c cl;
    steps = refuted_steps o n d P V E next_type gs (clauses_in A ∷ []) w typed h steps j rows k p ns is_final r;
  })

-- of a negated goal of a typed task
pub denied_leaf : {L : Leaves} (o : Order) (n : ℕ) (d : Declared) (P : List Clause) (q : Query) (j : ℕ) (T : TypedTask) (u : Task) (f : Answer → Bool)
    (ts : List Task) (r : DeniesTyped L n d P q T u f ts) → (steps rows k p : ℕ) (ns : List Note) → inner (look unit_limit n P) j f
    (starts_within rows u steps 1) ≡ Refuted k ns p →
    (c : Closing) → Closes d r.variables c → IsLeafOf o d P r.variables r.eigens r.goals r.assumed k c
denied_leaf o n d P q j T u f ts r steps rows k p ns x c cl =
    refuted_leaf o n d P r.variables r.eigens r.next_type r.goals r.written r.typed r.assumed r.begins steps j rows k p ns f (transport (λ z. inner (look unit_limit n P) j f (starts_within rows z steps 1) ≡ Refuted k ns p) r.is x) c cl

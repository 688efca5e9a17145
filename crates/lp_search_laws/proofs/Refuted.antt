-- The search of a negated goal that is refuted stands as a leaf of a proof.
use Rattle.std.proofs.Common.{◌≡◌, ℕ, ◌+◌, ◌≤◌, List, [], ◌∷◌, ◌++◌, length, Bool, Some, refl, sym, ap, subst, ◌∙◌, arith}
use Rattle.std.specs.Prelude.{take, drop, slice_get}
use Rattle.lp_calculus.specs.Types.{Ty}
use Rattle.lp_calculus.specs.Term.{Term}
use Rattle.lp_standard.specs.Connectives.{not_of}
use Rattle.lp_model.specs.declared.ending.Ending.TheVariants.{NoMore}
use Rattle.lp_model.specs.Unify.{unit_limit}
use Rattle.lp_model.specs.Flat.{Goals, Clause, Clauses, Written}
use Rattle.lp_model.specs.Flatten.{ClauseFormula}
use Rattle.lp_model.specs.Variables.{Variable, IsVariableBelow}
use Rattle.lp_model.specs.Skeleton.{Note, Told, Refuted, starts_within, inner, run}
use Rattle.lp_model.specs.Branch.{Answer, Task}
use Rattle.lp_model.specs.Search.{look}
use Rattle.lp_model.specs.Proofs.{Declared, AreFlattened, Failure, IsFailure, Provable, Fails, StandsForGoal, StandForClauses, newest_first}
use Rattle.lp_search_laws.specs.Denials.{denied_task}
use Rattle.lp_search_laws.proofs.Stack.InnerRuns.{refuted_fails, refuted_steps}
use Rattle.lp_search_laws.proofs.Limits.{greater_limits}

drop_all : {A : Type 0} (xs ys : List A) → drop (length xs) (xs ++ ys) ≡ ys
drop_all [] ys = refl
drop_all (x ∷ xs) ys = drop_all xs ys

take_all : {A : Type 0} (xs ys : List A) → take (length xs) (xs ++ ys) ≡ xs
take_all [] ys = refl
take_all (x ∷ xs) ys = ap (λ zs. x ∷ zs) (take_all xs ys)

-- limits that are enough: units, steps and goals in a row
bound : (n rows : ℕ) → ℕ
bound n rows = unit_limit + n + rows

units_within : (n rows : ℕ) → unit_limit ≤ bound n rows
unfolding bound
units_within n rows = go unit_limit
  where
    go : (x : ℕ) → x ≤ x + n + rows
    go x = omega arith

steps_within : (n rows : ℕ) → n ≤ bound n rows
unfolding bound
steps_within n rows = go unit_limit
  where
    go : (x : ℕ) → n ≤ x + n + rows
    go x = omega arith

rows_within : (n rows : ℕ) → rows ≤ bound n rows
unfolding bound
rows_within n rows = go unit_limit
  where
    go : (x : ℕ) → rows ≤ x + n + rows
    go x = omega arith

-- a search that is refuted fails within greater limits: on units, and on steps and goals in a row
module _ (P : List Clause) (start : Task) (n looks j rows k p : ℕ) (ns : List Note) (is_final : Answer → Bool)
    (r : inner (look unit_limit looks P) j is_final (starts_within rows start n 1) ≡ Refuted k ns p) (units limit : ℕ) (more : unit_limit ≤ units)
    (longer : n ≤ limit) (wider : rows ≤ limit) where
  small : (run (look unit_limit looks P) j j (starts_within rows start n 1)).ending ≡ Some NoMore
  small = (refuted_fails (look unit_limit looks P) is_final j (starts_within rows start n 1) k p ns r).0

  same : run (look units looks P) j j (starts_within limit start limit 1) ≡ run (look unit_limit looks P) j j (starts_within rows start n 1)
  same = greater_limits unit_limit units more looks P j j start rows limit n limit 1 wider longer small

  pub ends_within : (run (look units looks P) j j (starts_within limit start limit 1)).ending ≡ Some NoMore
  ends_within = ap (λ (t : Told Answer). t.ending) same ∙ small

  pub none_within : (run (look units looks P) j j (starts_within limit start limit 1)).answers ≡ []
  none_within = ap (λ (t : Told Answer). t.answers) same ∙ (refuted_fails (look unit_limit looks P) is_final j (starts_within rows start n 1) k p ns r).1

  pub taken_within : (run (look units looks P) j j (starts_within limit start limit 1)).steps ≡ k
  taken_within = ap (λ (t : Told Answer). t.steps) same ∙ refuted_steps (look unit_limit looks P) is_final j (starts_within rows start n 1) k p ns r

module _ (d : Declared) (F : List ClauseFormula) (P : List Clause) (flat : AreFlattened d F P) (E : List Ty) (V : List Variable) (next_type : ℕ)
    (below : (x : ℕ) (v : Variable) → slice_get V x ≡ Some v → IsVariableBelow next_type v) (G : Term) (gs : Goals)
    (stands : StandsForGoal d E V next_type G gs) (Ds : List ClauseFormula) (css : List Clauses) (assumed : StandForClauses d E V next_type Ds css)
  where
    module _ (w : Written) (n looks j rows k p : ℕ) (ns : List Note) (is_final : Answer → Bool) (r : inner (look unit_limit looks P) j is_final (starts_within rows (denied_task (length V) next_type gs (newest_first css) w (length E)) n 1) ≡ Refuted k ns p) where
      leaf : Failure
      leaf = record { limit = bound n rows; looks = looks; moves = j; variables = V; next_type = next_type; goals = gs; assumed = css; written = w; program = P }

      start : Task
      start = denied_task (length V) next_type gs (newest_first css) w (length E)

      fails : IsFailure d (length F) E (F ++ Ds) G leaf
      unfolding leaf start
      fails = record {
        variables = below;
        goals = stands;
        assumed = subst (λ Q. StandForClauses d E V next_type Q css) (sym (drop_all F Ds)) assumed;
        program = subst (λ Q. AreFlattened d Q P) (sym (take_all F Ds)) flat;
        ends = ends_within P start n looks j rows k p ns is_final r (bound n rows) (bound n rows) (units_within n rows) (steps_within n rows) (rows_within n rows);
        gives_none = none_within P start n looks j rows k p ns is_final r (bound n rows) (bound n rows) (units_within n rows) (steps_within n rows) (rows_within n rows);
      }

      pub negation_proved : Provable d (length F) E (F ++ Ds) (not_of G)
      negation_proved = record { proof = Fails leaf; holds = (G, refl, fails) }

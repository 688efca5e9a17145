-- What a unification leaves of a branch of pattern text.
use Rattle.std.proofs.Common.{◌≡◌, ℕ, zero, List, [], ◌∷◌, map, refl, ap, subst as transport}
use Rattle.lp_calculus.specs.Types.{Ty, instance}
use Rattle.lp_calculus.specs.Fill.{Binding, put}
use Rattle.lp_calculus.specs.Instance.{instance_term}
use Rattle.lp_lemmas.specs.Each.{EachOf}
use Rattle.lp_lemmas.proofs.Each.{each_map}
use Rattle.lp_model.specs.Branch.{Branch, Entry, put_entry, put_entries, type_entry, type_entries, resume}
use Rattle.lp_model.specs.Flat.{Clause, put_clause, type_clause, same_type}
use Rattle.lp_model.specs.Types.{TypeBinding, one_type}
use Rattle.lp_model.specs.Unify.{State}
use Rattle.lp_pattern_laws.specs.Goals.{StaysPattern, IsPatternValue, IsPatternClause}
use Rattle.lp_pattern_laws.specs.Tasks.{IsPatternEntry, IsPatternBranch}
use Rattle.lp_pattern_laws.proofs.GoalsMapped.{clause_mapped, put_kept, types_kept}
use Rattle.lp_pattern_laws.proofs.Staying.{stays_put, stays_types}

put_clause_kept : (l : ℕ) (b : Binding) → IsPatternValue b → (c : Clause) → IsPatternClause l [] c → IsPatternClause l [] (put_clause b c)
put_clause_kept l b v c h = clause_mapped {E = ℕ} (λ u. u) (λ u t. put b t) same_type l l (λ u Δ Θ. Δ ≡ Θ) (λ u Δ Θ x e. ap (λ Ξ. x ∷ Ξ) e)
    (λ u Δ Θ e t s. transport (λ Ξ. StaysPattern l Ξ (put b t)) e (stays_put l Δ b v t s)) zero [] [] refl c h

type_clause_kept : (l : ℕ) (κ : ℕ → Ty) (c : Clause) → IsPatternClause l [] c → IsPatternClause l [] (type_clause κ c)
type_clause_kept l κ c h = clause_mapped {E = ℕ} (λ u. u) (λ u t. instance_term κ t) (instance κ) l l (λ u Δ Θ. Δ ≡ Θ) (λ u Δ Θ x e. ap (λ Ξ. x ∷ Ξ) e)
    (λ u Δ Θ e t s. transport (λ Ξ. StaysPattern l Ξ (instance_term κ t)) e (stays_types l Δ κ t s)) zero [] [] refl c h

put_each : (b : Binding) → IsPatternValue b → (es : List Entry) → EachOf IsPatternEntry es → EachOf IsPatternEntry (map (put_entry b) es)
put_each b v es h = each_map IsPatternEntry IsPatternEntry (put_entry b) (λ e k. record {
  goal = put_kept e.level [] b v e.goal k.goal;
  assumed = each_map (IsPatternClause e.level []) (IsPatternClause e.level []) (put_clause b) (λ c q. put_clause_kept e.level b v c q) e.assumed k.assumed;
}) es h

put_all_kept : (bs : List Binding) → EachOf IsPatternValue bs → (es : List Entry) → EachOf IsPatternEntry es → EachOf IsPatternEntry (put_entries bs es)
put_all_kept [] v es h = h
put_all_kept (b ∷ bs) v es h = put_all_kept bs v.1 (map (put_entry b) es) (put_each b v.0 es h)

type_each : (b : TypeBinding) (es : List Entry) → EachOf IsPatternEntry es → EachOf IsPatternEntry (map (type_entry b) es)
type_each b es h = each_map IsPatternEntry IsPatternEntry (type_entry b) (λ e k. record {
  goal = types_kept e.level [] (one_type b) e.goal k.goal;
  assumed = each_map (IsPatternClause e.level []) (IsPatternClause e.level []) (type_clause (one_type b)) (λ c q. type_clause_kept e.level (one_type b) c q) e.assumed k.assumed;
}) es h

type_all_kept : (bs : List TypeBinding) (es : List Entry) → EachOf IsPatternEntry es → EachOf IsPatternEntry (type_entries bs es)
type_all_kept [] es h = h
type_all_kept (b ∷ bs) es h = type_all_kept bs (map (type_entry b) es) (type_each b es h)

pub resumed_kept : (b : Branch) (s : State) → EachOf IsPatternEntry b.goals → s.delayed ≡ [] → EachOf IsPatternValue s.bindings → IsPatternBranch (resume b s)
resumed_kept b s h empty v = record { entries = type_all_kept s.types _ (put_all_kept s.bindings v b.goals h); pairs = empty }

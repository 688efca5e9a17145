-- What a try of a clause of pattern text leaves: a branch of pattern text.
use Rattle.std.proofs.Common.{◌≡◌, ℕ, ◌+◌, List, [], ◌∷◌, ◌++◌, map, length, refl, sym, subst as transport, arith}
use Rattle.lp_calculus.specs.Types.{Ty, instance}
use Rattle.lp_calculus.specs.Term.{Term}
use Rattle.lp_calculus.specs.Instance.{instance_term}
use Rattle.lp_calculus.specs.Normal.{IsHead}
use Rattle.lp_calculus.specs.Spine.{head_of, arguments}
use Rattle.lp_lemmas.specs.Each.{EachOf}
use Rattle.lp_lemmas.proofs.Each.{each_append}
use Rattle.lp_model.specs.Rule.{type_pairs}
use Rattle.lp_model.specs.Unify.{unit_limit}
use Rattle.lp_standard.specs.Schemes.{IsStandard}
use Rattle.lp_model.specs.Flat.{Goals, goal_list, Clause, clause, instantiate_goals, type_goals, formula_of_goals}
use Rattle.lp_model.specs.Branch.{Entry, Branch, entries}
use Rattle.lp_model.specs.Answers.{Query, Variable}
use Rattle.lp_model.specs.Proofs.{Declared}
use Rattle.lp_model.specs.Search.{renewed, slots_of, slotted, pairs_of, try_clause}
use Rattle.lp_unify_laws.specs.TypeSolutions.{Unifies}
use Rattle.lp_unify_laws.specs.Solutions.{at_types, HaveTypings}
use Rattle.lp_search_laws.specs.Behind.{variables_of}
use Rattle.lp_search_laws.specs.Branches.{BranchTyping, IsProgramTyped, IsTypedTry, AreTypedEntries, with_atom}
use Rattle.lp_search_laws.specs.Tries.{new_variables, HeadsMatch, both_constants, both_eigens}
use Rattle.lp_search_laws.proofs.MatchTyped.{match_typed}
use Rattle.lp_search_laws.proofs.TryMatches as tries
use Rattle.lp_pattern_laws.specs.Binders.{Binder}
use Rattle.lp_pattern_laws.specs.Parts.{existentials}
use Rattle.lp_pattern_laws.specs.Goals.{StaysPattern}
use Rattle.lp_pattern_laws.specs.Tasks.{IsPatternEntry}
use Rattle.lp_pattern_laws.proofs.Carried.{carries_values}
use Rattle.lp_pattern_laws.proofs.GoalLists.{goals_entries}
use Rattle.lp_pattern_laws.proofs.GoalsMapped.{all_types_kept, open_kept}
use Rattle.lp_pattern_laws.proofs.PatternTasks.{IsPatternTry, IsPatternTask, followed}
use Rattle.lp_pattern_laws.proofs.Staying.{stays_types}
use Rattle.lp_pattern_laws.proofs.Tried.{none_universal_here, IsNamed, pairs_at, values_at}

module _ (n : ℕ) (d : Declared) (std : IsStandard d) (P : List Clause) (program : EachOf (IsProgramTyped d) P) (q : Query) where
  module _ (y : BranchTyping) (k : ℕ) (vs : List Ty) (h : Term) (g : Goals) (t : Term) (e : Entry) (b : Branch) (mark : ℕ)
      (w : IsTypedTry n d P q y (clause k vs h g) t e b) (p : IsPatternTry (clause k vs h g) t e b) (E : List Ty) (Es : List (List Ty))
      (is : y.eigens ≡ E ∷ Es) where
    abbrev ρ : ℕ → Ty
    ρ = renewed k b.next_type

    abbrev head : Term
    head = instance_term ρ h

    abbrev V : List Variable
    V = y.answer.variables

    abbrev us : List Ty
    us = map (instance ρ) vs

    abbrev Γ : List Binder
    Γ = existentials vs ++ []

    abbrev σ : ℕ → Term
    σ = slotted (slots_of [] (arguments head) (arguments t)) b.next e.level

    stays : StaysPattern e.level Γ head
    stays = stays_types e.level Γ ρ h p.clause.0

    named : IsNamed (head_of head)
    named = by (tries.try_matches n d std P program q y k vs h g t e b w E Es is).heads
      where
        by : HeadsMatch (head_of head) (head_of t) → IsNamed (head_of head)
        by (both_constants c ts rs l x z) = transport IsNamed (sym x) tt
        by (both_eigens j x z) = transport IsNamed (sym x) tt

    atomic : IsHead (head_of t)
    atomic = by (tries.try_matches n d std P program q y k vs h g t e b w E Es is).heads
      where
        by : HeadsMatch (head_of head) (head_of t) → IsHead (head_of t)
        by (both_constants c ts rs l x z) = transport IsHead (sym z) tt
        by (both_eigens j x z) = transport IsHead (sym z) tt

    typed : (θ : ℕ → Ty) → Unifies θ (type_pairs (head_of t) (head_of head)) → HaveTypings d (variables_of θ (V ++ new_variables E us))
        (at_types θ (pairs_of σ e.level [] (arguments head) (arguments t)))
    typed θ u =
        let f = tries.entries n d std P program q y k vs h g t e b w E Es is in
        let m = tries.try_matches n d std P program q y k vs h g t e b w E Es is in
        transport (λ x. HaveTypings d (variables_of θ (V ++ new_variables E us)) (at_types θ
        (pairs_of (slotted (slots_of [] (arguments head) (arguments t)) x e.level) e.level [] (arguments head) (arguments t))))
        w.branch.answer.variables
        (match_typed d E V e.level f.0.level us head (formula_of_goals (type_goals ρ g)) t m θ u)

    new_goals : EachOf IsPatternEntry (entries (goal_list (instantiate_goals σ (type_goals ρ g))) e.assumed e.written e.level mark)
    new_goals =
        let c = carries_values e.level Γ (none_universal_here vs) σ (values_at e.level Γ (none_universal_here vs) head t b.next e.level stays named atomic p.goal) in
        goals_entries (instantiate_goals σ (type_goals ρ g)) e.assumed e.written e.level mark
        (open_kept e.level e.level (omega arith) Γ [] σ c (type_goals ρ g) (all_types_kept e.level Γ ρ g p.clause.1)) p.assumed

    tried_each : EachOf IsPatternTask (try_clause unit_limit n (clause k vs h g) t e b mark)
    tried_each =
        followed n d (V ++ new_variables E us) (record {
          next = b.next + length vs;
          next_type = b.next_type + k;
          goals = entries (goal_list (instantiate_goals σ (type_goals ρ g))) e.assumed e.written e.level mark ++ b.goals;
          types = b.types;
          values = b.values;
          pairs = b.pairs;
        }) (type_pairs (head_of t) (head_of head)) (pairs_of σ e.level [] (arguments head) (arguments t)) (b.next + length vs) (tries.long n d std P program q y k vs h g t e b w E Es is) typed
        (pairs_at e.level Γ (none_universal_here vs) head t b.next e.level stays named atomic p.goal)
        (record { entries = each_append IsPatternEntry _ b.goals new_goals p.branch.entries; pairs = p.branch.pairs })

  pub try_look : (y : BranchTyping) (c : Clause) (t : Term) (e : Entry) (b : Branch) (mark : ℕ) → IsTypedTry n d P q y c t e b → IsPatternTry c t e b
      → EachOf IsPatternTask (try_clause unit_limit n c t e b mark)
  try_look y (clause k vs h g) t e b mark w p = go y.eigens refl w.branch.entries
    where
      go : (Fs : List (List Ty)) → y.eigens ≡ Fs → AreTypedEntries d y.answer.variables Fs (with_atom e t ∷ b.goals) → EachOf IsPatternTask (try_clause unit_limit n (clause k vs h g) t e b mark)
      go [] i z = absurd z
      go (E ∷ Es) i z = tried_each y k vs h g t e b mark w p E Es i

-- When a negated goal is open: a variable stands in the beta-normal form of what a variable that is written in it stands for, or a type variable in
-- what such a type variable stands for; the same of the clauses that are assumed at it. Too deep is what has no such form within the limits.
use Rattle.std.specs.Prelude.{◌≡◌, ℕ, suc, ◌<◌, ◌≤◌, ◌^◌, ◌⊎◌, nat_le, Bool, true, false, if◌then◌else◌, List, [], ◌∷◌, length, Some, None, IsSome, slice_get}
use Rattle.lp_calculus.specs.Types.{Ty}
use Rattle.lp_calculus.specs.Term.{Term}
use Rattle.lp_calculus.specs.Convert.{leftmost_step, steps}
use Rattle.lp_calculus.specs.Normal.{nodes}
use Rattle.lp_term.specs.Nodes.{Nodes, tree}
use Rattle.lp_term.specs.Frame.{IsBetaForm}
use Rattle.lp_term.specs.Spine.{LooseBelow}
use Rattle.lp_term.specs.declared.node.TermId.{TermId}
use Rattle.lp_model.specs.Pair.{Closing, closed}
use Rattle.lp_model.specs.Search.{has_type_variable, has_variable}
use Rattle.lp_plain.specs.Renewal.{new_number}
use Rattle.lp_plain.specs.Scopes.{IsScope}
use Rattle.lp_plain.specs.declared.free.Free.{Free}
use Rattle.lp_plain.specs.declared.instance.Values.{Values}
use Rattle.lp_plain.specs.declared.openness.Openness.{Openness}
use Rattle.lp_plain.specs.declared.openness.Openness.TheVariants.{Closed, Open, Deep}
use Rattle.lp_plain.specs.declared.openness.Standing.{Standing}
use Rattle.lp_plain.specs.declared.scope.Scopes.{Scopes}

-- an index that is too large for a term that is to be reduced
abbrev pub is_large : ℕ → Bool
is_large n = nat_le (2 ^ 32) n

-- whether a variable was found
abbrev pub openness_by : Bool → Openness
openness_by found = if found then Open else Closed

-- the term has this beta-normal form, within a million contractions and a million nodes
abbrev pub IsForm : Term → Term → Type 0
IsForm t s = IsBetaForm 1000000 t s × (nodes s ≤ 1000000)

-- leftmost reduction takes more than a million steps, or its end has more than a million nodes
abbrev pub IsTooLarge : Term → Type 0
IsTooLarge t = IsSome (steps leftmost_step (suc 1000000) t) ⊎ ((s : Term) × IsBetaForm 1000000 t s × (1000000 < nodes s))

-- a variable stands in the beta-normal form or not; too deep where there is none within the limits, or where a loose index is 2^32 or more
abbrev pub IsJudged : Openness → Term → Type 0
IsJudged Closed t = (s : Term) × IsForm t s × (has_variable s ≡ false)
IsJudged Open t = (s : Term) × IsForm t s × (has_variable s ≡ true)
IsJudged Deep t = IsTooLarge t ⊎ (LooseBelow (2 ^ 32) 0 t → ⊥)

abbrev pub IsTypeJudged : Openness → Ty → Type 0
IsTypeJudged Closed T = has_type_variable T ≡ false
IsTypeJudged Open T = has_type_variable T ≡ true
IsTypeJudged Deep T = ⊥

-- the first one that is not closed decides
abbrev pub OfAll : {A : Type 0} → (Openness → A → Type 0) → Openness → List A → Type 0
OfAll J o [] = o ≡ Closed
OfAll J o (x ∷ xs) = ((o ≡ Closed → ⊥) × J o x) ⊎ (J Closed x × OfAll J o xs)

-- the first one does where it is not closed, else the second
abbrev pub OfBoth : (Openness → Type 0) → (Openness → Type 0) → Openness → Type 0
OfBoth J K o = ((o ≡ Closed → ⊥) × J o) ⊎ (J Closed × K o)

-- what an index stands for
abbrev pub OfIndex : Nodes → Closing → List TermId → Openness → ℕ → Type 0
OfIndex b c vs o x = (v : TermId) × (slice_get vs x ≡ Some v) × (v.0 < length b.terms → IsJudged o (closed c (tree b v.0)))

-- what is written in goals or clauses, at these values
abbrev pub OfFree : Nodes → Closing → Scopes → Values → Free → Openness → Type 0
OfFree b c s v f o = (nb nv : ℕ) → (vs : List TermId) → IsScope s nb nv v.scope vs →
    OfBoth (λ o. OfAll (OfIndex b c vs) o f.variables.items) (λ o. OfAll (λ o x. IsTypeJudged o (c.types (new_number v.types x))) o f.types.items) o

-- what is written in goals or clauses, and, where that is closed, in the clauses that are assumed around them, which have an older number than n. Of numbers for which nothing stands
-- nothing is said
pub data OfStanding (frees : List Free) (standings : List Standing) (J : Values → Free → Openness → Type 0) : (n : ℕ) → Openness → Standing → Type 0 where
  ends : {n : ℕ} {o : Openness} {s : Standing} (f : Free) → slice_get frees s.free ≡ Some f → J s.values f o → (s.older ≡ None) ⊎ (o ≡ Closed → ⊥) → OfStanding frees standings J n o s
  goes_on : {n : ℕ} {o : Openness} {s : Standing} (f : Free) (i : ℕ) (r : Standing) → slice_get frees s.free ≡ Some f → J s.values f Closed → s.older ≡ Some i → slice_get standings i ≡ Some r →
      OfStanding frees standings J i o r → OfStanding frees standings J n o s
  nothing : {n : ℕ} {o : Openness} {s : Standing} → slice_get frees s.free ≡ None → OfStanding frees standings J n o s
  astray : {n : ℕ} {o : Openness} {s : Standing} (i : ℕ) → s.older ≡ Some i → (n ≤ i) ⊎ (slice_get standings i ≡ None) → OfStanding frees standings J n o s

-- What a scan notes, and what stands in a new variable's place, is the definition counts them.
use Rattle.std.specs.Prelude.{◌≡◌, ℕ, ◌-◌, nat_eq, nat_le, not, Bool, true, false, ◌&&◌, ◌||◌, if◌then◌else◌, List, [], ◌∷◌, ◌++◌, map, length, All, ◌<◌}
use Rattle.lp_calculus.specs.Term.{Term, index}
use Rattle.lp_term.specs.Nodes.{Nodes, tree}
use Rattle.lp_term.specs.declared.node.TermId.{TermId}
use Rattle.lp_model.specs.Patterns.{eigens, chosen}
use Rattle.lp_model.specs.Scan.{Side, allows, fits, Pattern, Scanned, broken, whole}
use Rattle.lp_pattern.specs.declared.bindings.Bindings.{Bindings}
use Rattle.lp_pattern.specs.declared.scan.Scanned.{Scanned as Noted}
use Rattle.lp_pattern.specs.declared.scan.Visit.{Visit}

abbrev pub all_fit : Side → List Pattern → Bool
all_fit s [] = true
all_fit s (p ∷ ps) = fits s p && all_fit s ps

-- what was noted, and what the definition scans in a part. Where the pair is delayed, what does not fit is of no use
abbrev pub Adds : Side → Noted → Noted → Scanned → Type 0
Adds s old new (broken u) = ⊥
Adds s old new (whole u d ps) = (new.is_delayed ≡ (old.is_delayed || d)) × (new.is_delayed ≡ false → new.has_misfit ≡ (old.has_misfit || not (all_fit s ps)))

-- the definition fails at a part
abbrev pub IsBroken : Scanned → Type 0
IsBroken (broken u) = Unit {0}
IsBroken (whole u d ps) = ⊥

-- arguments that are to be visited
abbrev pub visits : Visit → (inside : Bool) → List TermId → List Visit
visits v inside ts = map (λ t. record { term = t; opened = v.opened; is_inside = inside }) ts

-- the eigenconstants up to a level
abbrev pub low_eigens : (level : ℕ) → List ℕ → List Term
low_eigens level ks = eigens (chosen (λ k. nat_le k level) ks)

-- the indices of the places that are allowed, of which the last is index 0
abbrev pub allowed_places : Side → (count : ℕ) → List ℕ → List Term
allowed_places s n [] = []
allowed_places s n (k ∷ ks) = if allows s k then index (n - 1) ∷ allowed_places s (n - 1) ks else allowed_places s (n - 1) ks

-- the indices of the places at which two lists agree
abbrev pub agreeing_places : (count : ℕ) → (is bs : List ℕ) → List Term
agreeing_places n [] bs = []
agreeing_places n (a ∷ is) [] = []
agreeing_places n (a ∷ is) (b ∷ bs) = if nat_eq a b then index (n - 1) ∷ agreeing_places (n - 1) is bs else agreeing_places (n - 1) is bs

-- a term, or none
abbrev pub one_if : Bool → Term → List Term
one_if true t = t ∷ []
one_if false t = []

-- the terms at numbers of a bank
pub record AreTerms (b : Nodes) (ids : List TermId) (ts : List Term) : Type 0 where
  pub known : All (λ t. t.0 < length b.terms) ids
  pub trees : map (λ t. tree b t.0) ids ≡ ts

-- terms are put behind others
abbrev pub Pushes : (b d : Nodes) → (old new : List TermId) → List Term → Type 0
Pushes b d old new ts = (us : List Term) → AreTerms b old us → AreTerms d new (us ++ ts)

-- a variable is bound to a term, behind the other bindings
abbrev pub Binds : Nodes → (old new : Bindings) → (x : ℕ) → Term → Type 0
Binds b old new x t = (value : TermId) × (new.terms.entries ≡ old.terms.entries ++ (x, value) ∷ []) × (value.0 < length b.terms) × (tree b value.0 ≡ t)

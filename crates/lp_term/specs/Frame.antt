-- Terms that are open on the way to a normal form: an outer one has the next inner one in the place of an argument.
use Rattle.std.specs.Prelude.{◌≡◌, ℕ, suc, ◌+◌, ◌*◌, ◌<◌, ◌≤◌, ◌^◌, List, [], ◌∷◌, ◌++◌, length, map, All, None, IsSome, ◌⊎◌}
use Rattle.lp_calculus.specs.Term.{Term, index, apply}
use Rattle.lp_calculus.specs.Convert.{leftmost_step, steps}
use Rattle.lp_calculus.specs.Normal.{NormalisesTo, nodes}
use Rattle.lp_term.specs.Nodes.{Nodes, tree}
use Rattle.lp_term.specs.Walk.{trees, sizes}
use Rattle.lp_term.specs.Spine.{LooseBelow, abstractions, IsNoRedexHead}
use Rattle.lp_term.specs.declared.node.TermId.{TermId}
use Rattle.lp_term.specs.declared.normal.Frame.{Frame}
use Rattle.lp_term.specs.declared.reduce.TermRefusal.{TermRefusal}
use Rattle.lp_term.specs.declared.reduce.TermRefusal.TheVariants.{Deep, Memory}

abbrev pub in_order : Nodes → List TermId → List Term
in_order b ids = map (λ t. tree b t.0) ids

-- the open term, with this term as the argument that is reduced now
abbrev pub with_hole : Nodes → Frame → Term → Term
with_hole b f t = abstractions f.depth (apply (tree b f.head.0) (in_order b f.done.items ++ t ∷ trees b f.left.items))

-- the open term, where no argument is being reduced
abbrev pub closed : Nodes → Frame → Term
closed b f = abstractions f.depth (apply (tree b f.head.0) (in_order b f.done.items ++ trees b f.left.items))

-- open terms, the outermost first, with this term in the innermost
abbrev pub plug : Nodes → List Frame → Term → Term
plug b [] t = t
plug b (f ∷ fs) t = with_hole b f (plug b fs t)

-- the whole term
abbrev pub standing : Nodes → List Frame → Term
standing b [] = index 0
standing b (f ∷ []) = closed b f
standing b (f ∷ g ∷ fs) = with_hole b f (standing b (g ∷ fs))

-- the head is no redex, what is done is normal, and what is left may be reduced
pub record IsFrame (b : Nodes) (f : Frame) : Type 0 where
  pub head : f.head.0 < length b.terms
  pub firm : IsNoRedexHead (tree b f.head.0)
  pub done : All (λ t. t.0 < length b.terms) f.done.items
  pub normal : All (λ t. leftmost_step (tree b t.0) ≡ None) f.done.items
  pub left : All (λ t. t.0 < length b.terms) f.left.items
  pub loose : All (λ t. LooseBelow (2 ^ 32 + (f.base + f.depth)) 0 (tree b t.0)) f.left.items
  pub deep : f.base + f.depth ≤ 2 ^ 62

-- the limit is told, and more steps can be taken than were left
abbrev pub IsSpent : (limit left : ℕ) → Term → TermRefusal → Type 0
IsSpent limit left t (Deep n) = (n ≡ limit) × IsSome (steps leftmost_step (suc left) t)
IsSpent limit left t Memory = Unit {0}

-- leftmost reduction takes at most so many steps to the beta-normal form s
abbrev pub IsBetaForm : (limit : ℕ) → Term → Term → Type 0
IsBetaForm limit t s = (n : ℕ) × (n ≤ limit) × NormalisesTo n t s

-- the first limit is told only where leftmost reduction takes more steps; the second only where it does not, and the beta-normal form has more nodes
abbrev pub IsDeepBeta : (contractions most : ℕ) → Term → TermRefusal → Type 0
IsDeepBeta m n t (Deep k) = ((k ≡ m) × IsSome (steps leftmost_step (suc m) t)) ⊎ ((k ≡ n) × ((s : Term) × IsBetaForm m t s × (n < nodes s)))
IsDeepBeta m n t Memory = Unit {0}

-- how much is left to be done in open terms without a contraction
abbrev pub load : Nodes → List Frame → ℕ
load b [] = 0
load b (f ∷ fs) = 1 + 2 * sizes b f.left.items + load b fs

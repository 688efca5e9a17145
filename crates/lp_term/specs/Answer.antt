-- When a reduction gives up.
use Rattle.std.specs.Prelude.{◌≡◌, ℕ, suc, ◌+◌, ◌<◌, ◌≤◌, ◌^◌, length, All, Some, None, IsSome}
use Rattle.lp_calculus.specs.Term.{Term}
use Rattle.lp_calculus.specs.Convert.{head_step, steps}
use Rattle.lp_term.specs.Nodes.{Nodes, tree}
use Rattle.lp_term.specs.Spine.{LooseBelow, whole, IsNoRedexHead}
use Rattle.lp_term.specs.declared.reduce.Spine.{Spine}
use Rattle.lp_term.specs.declared.reduce.TermRefusal.{TermRefusal}
use Rattle.lp_term.specs.declared.reduce.TermRefusal.TheVariants.{Deep, Memory}

-- it is the limit that is told, and more steps than the limit can be taken
abbrev pub IsDeepOnlyWhere : ℕ → Term → TermRefusal → Type 0
IsDeepOnlyWhere limit t (Deep n) = (n ≡ limit) × IsSome (steps head_step (suc limit) t)
IsDeepOnlyWhere limit t Memory = Unit {0}

-- the same, where of the limit so many steps were left for the term
abbrev pub IsDeepAfter : (limit left : ℕ) → Term → TermRefusal → Type 0
IsDeepAfter limit left t (Deep n) = (n ≡ limit) × IsSome (steps head_step (suc left) t)
IsDeepAfter limit left t Memory = Unit {0}

-- a head-normal term, taken apart, whose loose indices stay below 2^32 where it stands below `base` abstractions
pub record IsSpine (base : ℕ) (b : Nodes) (s : Spine) : Type 0 where
  pub head : s.head.0 < length b.terms
  pub args : All (λ t. t.0 < length b.terms) s.args.items
  pub depth : base + s.depth ≤ 2 ^ 62
  pub loose : LooseBelow (2 ^ 32 + base) 0 (whole b s.depth s.head s.args.items)
  pub normal : IsNoRedexHead (tree b s.head.0)

-- leftmost head reduction takes at most so many steps to this head-normal form
abbrev pub IsReducedWithin : ℕ → Term → Term → Type 0
IsReducedWithin limit t s = (n : ℕ) × (n ≤ limit) × (steps head_step n t ≡ Some s) × (head_step s ≡ None)

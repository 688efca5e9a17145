-- Terms that are open on the way to the eta-normal form: each waits for the form of one of its parts.
use Rattle.std.specs.Prelude.{◌≡◌, ℕ, suc, ◌+◌, ◌*◌, ◌<◌, List, [], ◌∷◌, ◌++◌, length, map, All, Bool, true, false, ◌⊎◌, IsSome}
use Rattle.lp_calculus.specs.Term.{Term, index, abs, apply}
use Rattle.lp_calculus.specs.Convert.{leftmost_step, steps}
use Rattle.lp_calculus.specs.Normal.{contracted, eta_normal, nodes, IsFormOf}
use Rattle.lp_term.specs.Nodes.{Nodes, tree}
use Rattle.lp_term.specs.Walk.{trees, sizes}
use Rattle.lp_term.specs.Frame.{in_order, IsBetaForm}
use Rattle.lp_term.specs.declared.node.TermId.{TermId}
use Rattle.lp_term.specs.declared.form.Opened.{Opened}
use Rattle.lp_term.specs.declared.form.Form.{Form}
use Rattle.lp_term.specs.declared.form.Move.{Move}
use Rattle.lp_term.specs.declared.form.Move.TheVariants.{On, Done}
use Rattle.lp_term.specs.declared.reduce.TermRefusal.{TermRefusal}
use Rattle.lp_term.specs.declared.reduce.TermRefusal.TheVariants.{Deep, Memory}

-- an abstraction over its part, or the first part on the others; without parts, nothing
abbrev pub joined : (abstraction : Bool) → List Term → Term
joined abstraction [] = index 0
joined true (t ∷ ts) = abs t
joined false (t ∷ ts) = apply t ts

-- the same, where the parts are eta-normal and so is the whole
abbrev pub formed : (abstraction : Bool) → List Term → Term
formed abstraction [] = index 0
formed true (t ∷ ts) = contracted t
formed false (t ∷ ts) = apply t ts

-- the parts that are done and these, which are left and of which the last comes first, make up the term
pub record HasParts (b : Nodes) (f : Opened) (rest : List TermId) : Type 0 where
  pub id : f.id.0 < length b.terms
  pub done : All (λ t. t.0 < length b.terms) f.done.items
  pub left : All (λ t. t.0 < length b.terms) rest
  pub some : 0 < length f.done.items + length rest
  pub form : eta_normal (tree b f.id.0) ≡ formed f.abstraction (in_order b f.done.items ++ map eta_normal (trees b rest))
  pub same : f.changed ≡ false → tree b f.id.0 ≡ joined f.abstraction (in_order b f.done.items ++ trees b rest)

abbrev pub IsOpened : Nodes → Opened → Type 0
IsOpened b f = HasParts b f f.left.items

-- one of its parts, which is left, is not among those that are left
abbrev pub IsWaiting : Nodes → Opened → TermId → Type 0
IsWaiting b f t = HasParts b f (f.left.items ++ t ∷ [])

-- the outermost term is open, and waits for the next one; the innermost waits for this
abbrev pub Awaits : Nodes → TermId → List Opened → TermId → Type 0
Awaits b root [] t = root ≡ t
Awaits b root (f ∷ fs) t = (f.id ≡ root) × (next : TermId) × IsWaiting b f next × Awaits b next fs t

pub record IsForm (b : Nodes) (f : Form) : Type 0 where
  pub id : f.id.0 < length b.terms
  pub made : f.made.0 < length b.terms
  pub same : tree b f.made.0 ≡ eta_normal (tree b f.id.0)

-- how much is left to be done
abbrev pub work : Nodes → Opened → ℕ
work b f = 1 + 2 * sizes b f.left.items

abbrev pub all_work : Nodes → List Opened → ℕ
all_work b [] = 0
all_work b (f ∷ fs) = work b f + all_work b fs

-- leftmost reduction takes at most so many steps, and this is the beta-eta normal form
abbrev pub IsFormWithin : (limit : ℕ) → Term → Term → Type 0
IsFormWithin limit t s = (r : Term) × IsBetaForm limit t r × (s ≡ eta_normal r)

-- the first limit is told only where leftmost reduction takes more steps; the second only where it does not, and the beta-eta normal form has more nodes
abbrev pub IsDeepForm : (contractions most : ℕ) → Term → TermRefusal → Type 0
IsDeepForm m n t (Deep k) = ((k ≡ m) × IsSome (steps leftmost_step (suc m) t)) ⊎ ((k ≡ n) × ((s : Term) × IsFormWithin m t s × IsFormOf t s × (n < nodes s)))
IsDeepForm m n t Memory = Unit {0}

-- where a move leads: to an open term that the others wait for, with less work left; or to the form of the outermost term
abbrev pub IsNext : Nodes → (root : TermId) → (before : ℕ) → List Opened → Move → Type 0
IsNext b root n fs (On f) = IsOpened b f × Awaits b root fs f.id × (all_work b fs + work b f < n)
IsNext b root n fs (Done made) = (made.0 < length b.terms) × (tree b made.0 ≡ eta_normal (tree b root.0))

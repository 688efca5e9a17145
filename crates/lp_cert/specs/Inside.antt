-- Numbers that stand in a bank.
use Rattle.std.specs.Prelude.{ℕ, ◌<◌, List, length, All}
use Rattle.lp_term.specs.Nodes.{Nodes, tree}
use Rattle.lp_term.specs.Spine.{LooseBelow}
use Rattle.lp_term.specs.declared.node.TermId.{TermId}
use Rattle.lp_model.specs.declared.program.Declared.{Declared}
use Rattle.lp_model.specs.declared.program.Typed.{Typed}

-- these terms are among the first so many
abbrev pub AreTermsInside : ℕ → List TermId → Type 0
AreTermsInside n ids = All (λ t. t.0 < n) ids

-- the declared types are among the first so many
abbrev pub AreDeclaredInside : ℕ → List Declared → Type 0
AreDeclaredInside n cs = All (λ c. c.scheme.0 < n) cs

-- a query over the bank, whose formula has no loose index but those of its variables
pub record IsQueryInside (b : Nodes) (q : Typed) : Type 0 where
  pub vars : All (λ v. v.1.0 < length b.types) q.vars.items
  pub formula : q.formula.0 < length b.terms
  pub indices : LooseBelow (length q.vars.items) 0 (tree b q.formula.0)

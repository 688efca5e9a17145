-- Why a query is refused, by its stages.
use Rattle.std.proofs.Common.{◌≡◌, ◌<◌, ◌∙◌, ℕ, List, Option, Some, length, ap, sym, subst, inl, inr}
use Rattle.lp_base.specs.declared.limit.Limit.{Limit}
use Rattle.lp_base.specs.declared.limit.Limit.TheVariants as limit
use Rattle.lp_calculus.specs.Term.{Term}
use Rattle.lp_calculus.specs.Typing.{Scheme}
use Rattle.lp_syntax.specs.declared.text.RawQuery.{RawQuery}
use Rattle.lp_term.specs.Nodes.{Extends, Nodes, tree}
use Rattle.lp_term.proofs.Trees.{extends_same}
use Rattle.lp_model.specs.Flat.{Goals}
use Rattle.lp_model.specs.Flatten.{flatten_query}
use Rattle.lp_model.specs.Flattened.{goals_of}
use Rattle.lp_model.specs.declared.clause.Goal.{Goal}
use Rattle.lp_model.specs.declared.program.Declared.{Declared}
use Rattle.lp_model.specs.declared.program.Typed.{Typed}
use Rattle.lp_normal.specs.Counted.{AssumesFewClauses, AssumesManyClauses, IsOver}
use Rattle.lp_normal.specs.declared.fault.NormalRefusal.TheVariants as refusal
use Rattle.lp_gen.specs.Limits.{QueryPasses}
use Rattle.lp_gen.specs.declared.fault.GenRefusal.TheVariants as code
use Rattle.lp_build.specs.declared.build.Built.{Built}
use Rattle.lp_lines.specs.declared.cause.Cause.{Cause}
use Rattle.lp_lines.specs.declared.cause.Cause.TheVariants as cause
use Rattle.lp_load.specs.Asked.{AreGoalsOf, IsAsked, IsRead}
use Rattle.lp_load.specs.Refused.{IsOverArguments, IsOverClauses, IsOverCode, IsRefusedFor, no_memory, of_arguments, of_clauses, of_code}

module _ (built : Built) (text : List ℕ) where
  pub over_arguments : (raw : RawQuery) (c : Cause) → IsRead built.table text raw → IsOverArguments raw.term c → IsRefusedFor built text c
  over_arguments raw c read (inl e) = subst (IsRefusedFor built text) (sym e) no_memory
  over_arguments raw c read (inr (e, many)) = subst (IsRefusedFor built text) (sym e) (of_arguments raw read many)

  pub over_clauses : (b : Nodes) (q : Typed) (c : Cause) → IsAsked built.table built.signature text b q → IsOverClauses (tree b q.formula.0) c → IsRefusedFor built text c
  over_clauses b q c asked (inl e) = subst (IsRefusedFor built text) (sym e) no_memory
  over_clauses b q c asked (inr (e, many)) = subst (IsRefusedFor built text) (sym e) (of_clauses b q asked many)

  pub over_code : (b : Nodes) (constants : List Declared) (q : Typed) (goals now : List Goal) (c : Cause) → Extends built.assembled.program.bank b → IsAsked built.table built.signature text b q → AssumesFewClauses (tree b q.formula.0) →
      AreGoalsOf b q goals → now ≡ goals → constants ≡ built.assembled.program.constants.items → IsOverCode b constants q now c → IsRefusedFor built text c
  over_code b constants q goals now c grown asked few are same declared (r, passes, tells) =
      of_code b q goals r c grown asked few are (subst (λ gs. QueryPasses b built.assembled.program.constants.items q gs r) same (subst (λ ds. QueryPasses b ds q now r) declared passes)) tells

-- the goals of a query in a bank that has grown meanwhile
pub goals_are : (old new : Nodes) (q : Typed) (goals : List Goal) → q.formula.0 < length old.terms → Extends old new →
    ((n : ℕ) (d : ℕ → Option Scheme) (flat : Goals) (later : Nodes) → flatten_query n d (tree old q.formula.0) ≡ Some flat → Extends new later → goals_of later goals ≡ flat) → AreGoalsOf new q goals
goals_are old new q goals in_old grown flat n d gs is = flat n d gs new (ap (flatten_query n d) (sym (grown.same_terms q.formula.0 in_old)) ∙ is) (extends_same new)

-- a limit of flattening is that on clauses
pub limit_told : (t : Term) (l : Limit) → IsOver (AssumesManyClauses t) (refusal.Limit l) → IsOverClauses t (cause.Limit l)
limit_told t l (inl e) = absurd (cc)
limit_told t l (inr (e, many)) = let q : l ≡ limit.Clauses = cc in inr (ap cause.Limit q, many)

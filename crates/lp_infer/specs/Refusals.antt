-- Why a text has no typing, and at which spot; and what stands in the bank where it has one.
use Rattle.std.specs.Prelude.{◌≡◌, ℕ, ◌<◌, List, length, All, Some, None}
use Rattle.lp_term.specs.Nodes.{Nodes}
use Rattle.lp_syntax.specs.declared.text.RawTerm.{RawTerm}
use Rattle.lp_model.specs.declared.program.Typed.{Typed}
use Rattle.lp_sig.specs.declared.signature.Signature.{Signature}
use Rattle.lp_infer.specs.Scope.{IsFirstUndeclared}
use Rattle.lp_infer.specs.Texts.{HasNoTextTyping}
use Rattle.lp_infer.specs.declared.fault.InferFault.{InferFault}
use Rattle.lp_infer.specs.declared.fault.InferFault.TheVariants as fault

-- each name of the text is declared
abbrev pub IsDeclared : Signature → List ℕ → RawTerm → Type 0
IsDeclared sig text raw = IsFirstUndeclared sig text raw.nodes.items raw.root None

-- a first name that is not declared; or all are, and no well-typed formula leaves the text
abbrev pub IsRefusal : Signature → List ℕ → RawTerm → InferFault → Type 0
IsRefusal sig text raw (fault.Undeclared s) = IsFirstUndeclared sig text raw.nodes.items raw.root (Some s)
IsRefusal sig text raw (fault.NoTyping s) = (s ≡ raw.first) × IsDeclared sig text raw × HasNoTextTyping sig text raw
IsRefusal sig text raw fault.Memory = Unit {0}

-- the formula and the types of the variables stand in the bank
pub record Stands (b : Nodes) (t : Typed) : Type 0 where
  pub formula : t.formula.0 < length b.terms
  pub types : All (λ v. v.1.0 < length b.types) t.vars.items

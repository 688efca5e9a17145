-- Certificates whose numbers stand in a bank.
use Rattle.std.specs.Prelude.{◌<◌, length, All}
use Rattle.lp_term.specs.Nodes.{Nodes}
use Rattle.lp_term.specs.declared.node.TermId.{TermId}
use Rattle.lp_term.specs.declared.node.TypeId.{TypeId}
use Rattle.lp_model.specs.declared.certificate.Certificate.{Certificate}
use Rattle.lp_model.specs.declared.certificate.ProofNode.{ProofNode}
use Rattle.lp_model.specs.declared.certificate.ProofNode.TheVariants as node

abbrev pub IsTermIn : Nodes → TermId → Type 0
IsTermIn b t = t.0 < length b.terms

abbrev pub IsTypeIn : Nodes → TypeId → Type 0
IsTypeIn b T = T.0 < length b.types

-- what a node names
abbrev pub IsNodeIn : Nodes → ProofNode → Type 0
IsNodeIn b (node.Conv t) = IsTermIn b t
IsNodeIn b node.True = Unit {0}
IsNodeIn b node.And = Unit {0}
IsNodeIn b node.Left = Unit {0}
IsNodeIn b node.Right = Unit {0}
IsNodeIn b (node.Some t) = IsTermIn b t
IsNodeIn b node.All = Unit {0}
IsNodeIn b node.Assume = Unit {0}
IsNodeIn b node.Equal = Unit {0}
IsNodeIn b node.Arith = Unit {0}
IsNodeIn b (node.Back i Ts) = All (IsTypeIn b) Ts.items
IsNodeIn b (node.FocusConv t) = IsTermIn b t
IsNodeIn b (node.FocusAll t) = IsTermIn b t
IsNodeIn b (node.Take s) = Unit {0}
IsNodeIn b node.Need = Unit {0}
IsNodeIn b node.Hit = Unit {0}

pub record IsIn (b : Nodes) (c : Certificate) : Type 0 where
  pub types : All (IsTypeIn b) c.types.items
  pub values : All (IsTermIn b) c.values.items
  pub proof : All (IsNodeIn b) c.proof.items

-- The numbers of a program, a query and certificates stand in the program's bank.
use Rattle.std.specs.Prelude.{◌≡◌, ℕ, ◌<◌, List, length, All}
use Rattle.lp_term.specs.Nodes.{Nodes, tree}
use Rattle.lp_term.specs.Spine.{LooseBelow}
use Rattle.lp_model.specs.declared.certificate.Certificate.{Certificate}
use Rattle.lp_model.specs.declared.certificate.ProofNode.{ProofNode}
use Rattle.lp_model.specs.declared.certificate.ProofNode.TheVariants as node
use Rattle.lp_model.specs.declared.program.ClauseFormula.{ClauseFormula}
use Rattle.lp_model.specs.declared.program.Program.{Program}
use Rattle.lp_model.specs.declared.program.Typed.{Typed}
use Rattle.lp_module.specs.declared.copies.Assembled.{Assembled}
use Rattle.lp_cert.specs.Facts.{AreInside}
use Rattle.lp_cert.specs.Inside.{AreDeclaredInside, AreTermsInside, IsQueryInside}

abbrev pub IsNodeInside : Nodes → ProofNode → Type 0
IsNodeInside b (node.Conv t) = t.0 < length b.terms
IsNodeInside b node.True = Unit {0}
IsNodeInside b node.And = Unit {0}
IsNodeInside b node.Left = Unit {0}
IsNodeInside b node.Right = Unit {0}
IsNodeInside b (node.Some t) = t.0 < length b.terms
IsNodeInside b node.All = Unit {0}
IsNodeInside b node.Assume = Unit {0}
IsNodeInside b node.Equal = Unit {0}
IsNodeInside b node.Arith = Unit {0}
IsNodeInside b (node.Back i ts) = AreInside (length b.types) ts.items
IsNodeInside b (node.FocusConv t) = t.0 < length b.terms
IsNodeInside b (node.FocusAll t) = t.0 < length b.terms
IsNodeInside b (node.Take s) = Unit {0}
IsNodeInside b node.Need = Unit {0}
IsNodeInside b node.Hit = Unit {0}

pub record IsCertificateInside (b : Nodes) (c : Certificate) : Type 0 where
  pub types : AreInside (length b.types) c.types.items
  pub values : AreTermsInside (length b.terms) c.values.items
  pub proof : All (IsNodeInside b) c.proof.items

-- a clause has no loose index
abbrev pub IsClauseInside : Nodes → ClauseFormula → Type 0
IsClauseInside b c = (c.formula.0 < length b.terms) × LooseBelow 0 0 (tree b c.formula.0)

pub record AreNumbersInside (p : Program) (q : Typed) (cs : List Certificate) : Type 0 where
  pub constants : AreDeclaredInside (length p.bank.types) p.constants.items
  pub clauses : All (IsClauseInside p.bank) p.clauses.items
  pub query : IsQueryInside p.bank q
  pub certificates : All (IsCertificateInside p.bank) cs

-- a program in a bank that grew: its constants, clauses and names are as they were
pub record IsSameProgram (old new : Assembled) : Type 0 where
  pub declared : new.program.constants ≡ old.program.constants
  pub clauses : new.program.clauses ≡ old.program.clauses
  pub kinds : new.kinds ≡ old.kinds
  pub constants : new.constants ≡ old.constants

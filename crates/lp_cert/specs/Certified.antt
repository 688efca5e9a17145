-- What a certificate says: an instance of a query, and a proof of it from a program.
use Rattle.std.specs.Prelude.{◌≡◌, List, [], map, length}
use Rattle.lp_calculus.specs.Types.{instance}
use Rattle.lp_calculus.specs.Typing.{type_at}
use Rattle.lp_calculus.specs.Closed.{AreClosed}
use Rattle.lp_term.specs.Nodes.{Nodes, tree, type_tree}
use Rattle.lp_model.specs.Answers.{Query, Instance, AreWitnesses, filled}
use Rattle.lp_model.specs.Flatten.{ClauseFormula}
use Rattle.lp_model.specs.Proofs.{Declared, Proof, proves_by, no_leaf}
use Rattle.lp_model.specs.Readings.{declared_by, formula_of}
use Rattle.lp_model.specs.declared.certificate.Certificate as code
use Rattle.lp_model.specs.declared.program.Typed as code_query
use Rattle.lp_model.specs.declared.program.Program as code_program
use Rattle.lp_cert.specs.Written.{Node, node_of, IsWritten}

pub record Certificate : Type 0 where
  pub instance : Instance
  pub nodes : List Node

abbrev pub query_of : Nodes → code_query.Typed → Query
query_of b q = record { type_vars = q.type_vars; vars = map (λ v. type_tree b v.1.0) q.vars.items; formula = tree b q.formula.0 }

abbrev pub certificate_of : Nodes → code.Certificate → Certificate
certificate_of b c = record {
  instance = record { types = map (λ t. type_tree b t.0) c.types.items; values = map (λ t. tree b t.0) c.values.items };
  nodes = map (node_of b) c.proof.items;
}

-- as many closed types as the query has type variables, and values that may stand for its variables
pub record Names (d : Declared) (q : Query) (c : Certificate) : Type 0 where
  pub types : length c.instance.types ≡ q.type_vars
  pub types_closed : AreClosed c.instance.types
  pub values : AreWitnesses d c.instance.values (map (instance (type_at c.instance.types)) q.vars)

-- declared types of constants, and clauses
pub record Ground : Type 0 where
  pub declared : Declared
  pub clauses : List ClauseFormula

abbrev pub ground_of : code_program.Program → Ground
ground_of p = record { declared = declared_by p.bank p.constants.items; clauses = map (formula_of p.bank) p.clauses.items }

-- it names an instance of the query, and its nodes are a proof of the query so filled in
pub record Certifies (g : Ground) (q : Query) (c : Certificate) : Type 0 where
  pub names : Names g.declared q c
  pub proof : Proof
  pub written : IsWritten proof c.nodes []
  pub proved : proves_by no_leaf g.declared [] g.clauses (filled q c.instance) proof

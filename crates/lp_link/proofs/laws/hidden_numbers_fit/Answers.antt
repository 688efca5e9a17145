use Rattle.lp_link.proofs.EnteredCopies.{each_by}
use Rattle.lp_code.specs.declared.object.ObjectKind.{ObjectKind}
use Rattle.lp_code.specs.declared.object.ObjectConstant.{ObjectConstant}
use Rattle.lp_link.specs.Linked.{kinds_of, constants_of}
use Rattle.lp_link.specs.Names.{hidden_kind_rows, hidden_constant_rows}
use Rattle.lp_link.proofs.NamedRows.{hidden_once, numbers_fit}
use Rattle.lp_link.proofs.laws.hidden_numbers_fit.Goals as goal

pub returns-clause-kinds : goal.returns-clause-kinds
returns-clause-kinds c = λ copies once. numbers_fit (λ c. hidden_kind_rows c.object) copies (each_by _ _ (λ c h. hidden_once (λ (k : ObjectKind). k.name.items) (λ (k : ObjectKind). k.arity)
    (kinds_of c.object) c.object.kinds.items h.kinds) copies once)

pub returns-clause-constants : goal.returns-clause-constants
returns-clause-constants c = λ copies once. numbers_fit (λ c. hidden_constant_rows c.object) copies (each_by _ _ (λ c h. hidden_once (λ (k : ObjectConstant). k.name.items) (λ (k : ObjectConstant). k.fixity)
    (constants_of c.object) c.object.constants.items h.constants) copies once)

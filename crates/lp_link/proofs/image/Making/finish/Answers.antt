use Rattle.std.proofs.Common.{ap, map}
use Rattle.lp_code.specs.declared.image.ImageConstant.{ImageConstant}
use Rattle.lp_code.specs.Naming.{tables_of, image_arity, scheme_in}
use Rattle.lp_link.specs.Names.{kind_row, constant_row}
use Rattle.lp_link.proofs.image.Making.finish.Goals as goal

pub returns-clause-tables : goal.returns-clause-tables
returns-clause-tables c =
    let b = c.in_ok-image.ensures.bank in
    let k = c.in_ok-image.ensures.kinds in
    let n = c.in_ok-image.ensures.constants in
    λ j. tables_of (map image_arity (k j).items) (map (λ (x : ImageConstant). scheme_in (b j) x.type_vars x.scheme.0) (n j).items)

pub returns-clause-kinds : goal.returns-clause-kinds
returns-clause-kinds c = ap (λ v. map kind_row v.items) c.in_ok-image.ensures.kinds

pub returns-clause-constants : goal.returns-clause-constants
returns-clause-constants c = ap (λ v. map constant_row v.items) c.in_ok-image.ensures.constants

pub returns-clause-types : goal.returns-clause-types
returns-clause-types c =
    let b = c.in_ok-image.ensures.bank in
    let n = c.in_ok-image.ensures.constants in
    λ j. map (λ (x : ImageConstant). scheme_in (b j) x.type_vars x.scheme.0) (n j).items

use Rattle.std.proofs.Common.{arith, ap, ◌∙◌}
use Rattle.lp_term.specs.Nodes.{tree}
use Rattle.lp_pattern.specs.Reading.{type_pairs_of}
use Rattle.lp_pattern.proofs.Results.{if_ok, if_err}
use Rattle.lp_pattern.proofs.HeadTypes.{head_compared, head_passed, rigid_top}
use Rattle.lp_pattern.proofs.compare.have_same_head.Goals as goal

pub returns-clause-compared : goal.returns-clause-compared
returns-clause-compared c =
    if_ok c.are_same_types.result _ _
    (λ same h r i.
    head_compared c.args.bank.now r (tree c.args.bank.now c.args.one.now.top.0) (tree c.args.bank.now c.args.other.now.top.0) same c.have_same_name.result c.args.units.now c.are_same_types.new.units _ _
    c.as_slice.result.now (rigid_top c.args.bank.now c.args.bindings.now c.args.one.now c.requires.looked_one c.requires.one)
    (rigid_top c.args.bank.now c.args.bindings.now c.args.other.now c.requires.looked_other c.requires.other) c.have_same_name.ensures c.if-not-have_same_name.false
    (omega (arith, c.if-len.false, c.len.ensures, c.len-2.ensures, c.args.one.now.arguments.ok, c.args.other.now.arguments.ok))
    (ap (type_pairs_of c.args.bank.now r.types) c.as_slice.ensures.value ∙ c.in_ok-pairs.ensures.pairs r.types) (λ n. h r.types i.types n))
    c.are_same_types.ensures.compared

pub returns-clause-refused : goal.returns-clause-refused
returns-clause-refused c =
    if_err c.are_same_types.result _ _
    (λ e h r i.
    head_passed c.args.bank.now r (tree c.args.bank.now c.args.one.now.top.0) (tree c.args.bank.now c.args.other.now.top.0) e c.have_same_name.result c.args.units.now _ _
    c.as_slice.result.now (rigid_top c.args.bank.now c.args.bindings.now c.args.one.now c.requires.looked_one c.requires.one)
    (rigid_top c.args.bank.now c.args.bindings.now c.args.other.now c.requires.looked_other c.requires.other) c.have_same_name.ensures c.if-not-have_same_name.false
    (omega (arith, c.if-len.false, c.len.ensures, c.len-2.ensures, c.args.one.now.arguments.ok, c.args.other.now.arguments.ok))
    (ap (type_pairs_of c.args.bank.now r.types) c.as_slice.ensures.value ∙ c.in_ok-pairs.ensures.pairs r.types) (λ n. h r.types i.types n))
    c.are_same_types.ensures.spent

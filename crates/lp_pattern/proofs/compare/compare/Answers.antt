use Rattle.std.proofs.Common.{subst as transport}
use Rattle.lp_term.proofs.Trees.{extends-trans}
use Rattle.lp_pattern.specs.Refusing.{IsOfTerm}
use Rattle.lp_pattern.specs.Seen.{IsDeepWhere}
use Rattle.lp_pattern.specs.Comparing.{pair_under, pairs_under}
use Rattle.lp_pattern.proofs.Results.{err_and, if_ok, if_err}
use Rattle.lp_pattern.proofs.Refused.{left_refused, right_refused}
use Rattle.lp_pattern.proofs.Stacks.{under_kept}
use Rattle.lp_pattern.proofs.Tops.{step_after, passed_after}
use Rattle.lp_pattern.proofs.Walking.{reading_kept, looked_stays}
use Rattle.lp_pattern.proofs.compare.compare.Goals as goal

pub returns-in_err-one-clause-refused : goal.returns-in_err-one-clause-refused
returns-in_err-one-clause-refused c =
    err_and c.from_residual.result (λ e. IsOfTerm c.in_err-one.field-0.0 e) _ c.from_residual.ensures.1
    (λ e t r i n l. left_refused 1000000 c.args.units.now n (pair_under c.args.bank.now r c.args.pair) (pairs_under c.args.bank.now r c.args.left.now.items) c.in_err-one.field-0.0 e t (c.in_err-one.ensures.refused r i) l)

pub returns-in_err-other-clause-refused : goal.returns-in_err-other-clause-refused
returns-in_err-other-clause-refused c =
    err_and c.from_residual-in_err-other.result (λ e. IsOfTerm c.in_err-other.field-0.0 e) _ c.from_residual-in_err-other.ensures.1
    (λ e t r i n l.
    right_refused 1000000 c.args.units.now n (pair_under c.args.bank.now r c.args.pair) (pairs_under c.args.bank.now r c.args.left.now.items) c.in_err-other.field-0.0 e t
    (transport (λ x. IsDeepWhere 1000000 x c.in_err-other.field-0.0) (under_kept c.args.bank.now c.look.new.bank r c.args.pair.right c.in_ok-one.ensures.kept c.requires.pair.1)
    (c.in_err-other.ensures.refused r (reading_kept c.args.bank.now c.look.new.bank c.args.bindings.now r c.in_ok-one.ensures.kept i)))
    l)

pub by_heads-requires-clause-looked_one : goal.by_heads-requires-clause-looked_one
by_heads-requires-clause-looked_one c = looked_stays c.look.new.bank c.look-2.new.bank c.args.bindings.now c.in_ok-one.one c.in_ok-other.ensures.kept c.in_ok-one.ensures.looked

pub returns-clause-compared : goal.returns-clause-compared
returns-clause-compared c =
    if_ok c.by_heads.result _ _
    (λ same h r i n.
    let e = c.in_ok-one.ensures.kept in
    let g = c.in_ok-other.ensures.kept in
    let f = extends-trans c.args.bank.now c.look.new.bank c.look-2.new.bank e g in
    let i1 = reading_kept c.args.bank.now c.look.new.bank c.args.bindings.now r e i in
    step_after c.args.bank.now c.look.new.bank c.look-2.new.bank r n 1000000 c.args.pair c.in_ok-one.one.whole c.in_ok-other.other.whole c.args.left.now.items same _ _ _ e f g c.requires.pair
    c.in_ok-one.ensures.looked.known c.requires.left (c.in_ok-one.ensures.reached r i) (c.in_ok-other.ensures.reached r i1)
    (h r (reading_kept c.args.bank.now c.look-2.new.bank c.args.bindings.now r f i) n))
    c.by_heads.ensures.compared

pub returns-clause-refused : goal.returns-clause-refused
returns-clause-refused c =
    if_err c.by_heads.result _ _
    (λ y h r i n l.
    let e = c.in_ok-one.ensures.kept in
    let g = c.in_ok-other.ensures.kept in
    let f = extends-trans c.args.bank.now c.look.new.bank c.look-2.new.bank e g in
    let i1 = reading_kept c.args.bank.now c.look.new.bank c.args.bindings.now r e i in
    passed_after c.args.bank.now c.look.new.bank c.look-2.new.bank r n 1000000 c.args.pair c.in_ok-one.one.whole c.in_ok-other.other.whole c.args.left.now.items c.args.units.now y e f g c.requires.pair
    c.in_ok-one.ensures.looked.known c.requires.left (c.in_ok-one.ensures.reached r i) (c.in_ok-other.ensures.reached r i1)
    (h r (reading_kept c.args.bank.now c.look-2.new.bank c.args.bindings.now r f i) n))
    c.by_heads.ensures.refused

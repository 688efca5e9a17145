use Rattle.std.proofs.Common.{suc, refl, ap, sym, subst, length, arith}
use Rattle.lp_lemmas.proofs.Results.{passed_up}
use Rattle.lp_model.specs.Flattened.{goals_of}
use Rattle.lp_gen.specs.Limits.{counts_of_goals, QueryFull, QueryPasses}
use Rattle.lp_gen.proofs.QueryDenotes.{query_law}
use Rattle.lp_gen.specs.Contract.{ReadyQuery}
use Rattle.lp_gen.proofs.LimitsTold.{told_by_plan, told_first}
use Rattle.lp_gen.proofs.AddFits.{query_same}
use Rattle.lp_gen.proofs.Ready.{ready_query_told}
use Rattle.lp_gen.proofs.codes.generate_query.Goals as goal

pub returns-clause-few : goal.returns-clause-few
returns-clause-few c = let n = c.in_ok-add.ensures.count in let w = c.in_ok-add.ensures.within in let z = ap length c.new-records.ensures.items in omega (arith, n, w, z)

pub returns-clause-denotes : goal.returns-clause-denotes
returns-clause-denotes c = λ κ known is.
    let w = c.in_ok-add.ensures.group in
    query_law κ c.args.bank.now c.args.constants.now c.args.query.now c.args.body.now c.new-records.result.items c.add.new.records.items w.0 _ _ _ c.new-records.ensures.items w.1 refl refl refl w.2
    (let n = c.in_ok-add.ensures.count in let m = c.in_ok-add.ensures.within in let z = ap length c.new-records.ensures.items in omega (arith, n, m, z)) known is c.in_ok-check_limits.ensures.within.0

pub returns-clause-within : goal.returns-clause-within
returns-clause-within c =
    let q = c.args.query in
    let w = c.in_ok-check_limits.ensures.within in
    let few = w.3 in
    let z = ap length c.new-records.ensures.items in
    (c.in_ok-check_limits.ensures.within, λ x. c.in_ok-add.ensures.fits (omega (arith, few, z)) (subst (λ T. T) (sym (query_same c.args.bank.now c.args.constants.now q c.args.body)) x))

pub returns-in_err-check_limits-clause-cause : goal.returns-in_err-check_limits-clause-cause
returns-in_err-check_limits-clause-cause c =
    let b = c.args.bank.now in
    let ds = c.args.constants.now in
    let q = c.args.query.now in
    let gs = c.args.body.now in
    let e = c.in_err-check_limits.field-0.0 in
    passed_up c.from_residual.result e (QueryPasses b ds q gs) c.from_residual.ensures.1 (told_first (counts_of_goals (goals_of b gs)) (QueryFull b ds q gs) e c.in_err-check_limits.ensures.cause)

pub returns-in_err-add-clause-cause : goal.returns-in_err-add-clause-cause
returns-in_err-add-clause-cause c =
    let n = counts_of_goals (goals_of c.args.bank.now c.args.body.now) in
    let w = c.in_ok-check_limits.ensures.within in
    let few = w.3 in
    passed_up c.from_residual-in_err-add.result c.in_err-add.field-0.0 (QueryPasses c.args.bank.now c.args.constants.now c.args.query.now c.args.body.now) c.from_residual-in_err-add.ensures.1
    (told_by_plan n (QueryFull c.args.bank.now c.args.constants.now c.args.query.now c.args.body.now) (suc n.records) 65536 c.in_err-add.field-0.0 w (omega (arith, few)) c.in_err-add.ensures.cause
    (λ is. let z = ap length c.new-records.ensures.items in subst (λ T. T) (query_same c.args.bank.now c.args.constants.now c.args.query c.args.body) (c.in_err-add.ensures.full (omega (arith, few, z)) is)))

pub returns-in_err-check_limits-clause-ready : goal.returns-in_err-check_limits-clause-ready
returns-in_err-check_limits-clause-ready c =
    let b = c.args.bank.now in
    let ds = c.args.constants.now in
    let q = c.args.query.now in
    let gs = c.args.body.now in
    let e = c.in_err-check_limits.field-0.0 in
    passed_up c.from_residual.result e (ReadyQuery b ds q gs) c.from_residual.ensures.1 (λ κ few is. ready_query_told κ b ds q gs _ e few is (told_first (counts_of_goals (goals_of b gs)) (QueryFull b ds q gs) e c.in_err-check_limits.ensures.cause))

pub returns-in_err-add-clause-ready : goal.returns-in_err-add-clause-ready
returns-in_err-add-clause-ready c =
    let b = c.args.bank.now in
    let ds = c.args.constants.now in
    let q = c.args.query.now in
    let gs = c.args.body.now in
    let e = c.in_err-add.field-0.0 in
    let n = counts_of_goals (goals_of b gs) in
    let w = c.in_ok-check_limits.ensures.within in
    let most = w.3 in
    passed_up c.from_residual-in_err-add.result e (ReadyQuery b ds q gs) c.from_residual-in_err-add.ensures.1
    (λ κ few is. ready_query_told κ b ds q gs _ e few is (told_by_plan n (QueryFull b ds q gs) (suc n.records) 65536 e w (omega (arith, most)) c.in_err-add.ensures.cause
    (λ so. let z = ap length c.new-records.ensures.items in subst (λ T. T) (query_same b ds c.args.query c.args.body) (c.in_err-add.ensures.full (omega (arith, most, z)) so))))

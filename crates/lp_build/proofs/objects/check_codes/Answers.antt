use Rattle.std.proofs.Common.{◌+◌, ◌++◌, ◌∷◌, [], length, refl, sym, subst, arith}
use Rattle.std.specs.Prelude.{All}
use Rattle.std.proofs.lemmas.List.{length_push, take_all}
use Rattle.std.proofs.lemmas.Iterator.Adapters.{YieldsList-from_vec}
use Rattle.std.proofs.lemmas.Iterator.Consumers.{YieldsList-at, YieldsList-end, YieldsList-turn}
use Rattle.lp_lemmas.proofs.Results.{passed_up}
use Rattle.lp_sig.specs.Refusals.{IsAt}
use Rattle.lp_module.specs.Sentences.{AreWithin}
use Rattle.lp_build.specs.Faults.{IsOfTexts}
use Rattle.lp_build.specs.Uncoded.{IsFirstUncoded, IsWithinCode}
use Rattle.lp_build.proofs.Uncoding.{at_all, coded_more, coded_none, first_uncoded}
use Rattle.lp_build.proofs.objects.check_codes.Goals as goal

pub loop-module-init : goal.loop-module-init
loop-module-init c = λ within. coded_none c.args.modules.items 0 refl

pub loop-module-preserved : goal.loop-module-preserved
loop-module-preserved c = λ within.
    let road = YieldsList-at c.into_iter-module-iterator.ensures.into_iter_gives (YieldsList-from_vec c.args.modules.items c.into_iter-module-items.ensures.rest (omega (arith, c.into_iter-module-items.ensures.len, c.args.modules.ok))) in
    let done = c.loop-module.yielded in
    let turn = YieldsList-turn road done c.loop-module.module-iterator c.loop-module.yielded_by c.next.result c.next.new.self c.in-Some.module c.in-Some.is c.next.ensures.steps in
    let at : IsAt c.args.modules.items (length done) c.in-Some.module = (turn.0, sym turn.1) in
    coded_more c.args.modules.items (length done) (length (done ++ c.in-Some.module ∷ [])) c.in-Some.module (length_push done c.in-Some.module) at
    (c.in_ok-check_code.ensures.within (at_all (λ m. AreWithin m.bank m.clauses.items) c.args.modules.items (length done) c.in-Some.module at within)) (c.loop-module.invariant within)

pub returns-in_err-check_code-clause-cause : goal.returns-in_err-check_code-clause-cause
returns-in_err-check_code-clause-cause c = λ within.
    let road = YieldsList-at c.into_iter-module-iterator.ensures.into_iter_gives (YieldsList-from_vec c.args.modules.items c.into_iter-module-items.ensures.rest (omega (arith, c.into_iter-module-items.ensures.len, c.args.modules.ok))) in
    let done = c.loop-module.yielded in
    let turn = YieldsList-turn road done c.loop-module.module-iterator c.loop-module.yielded_by c.next.result c.next.new.self c.in-Some.module c.in-Some.is c.next.ensures.steps in
    let at : IsAt c.args.modules.items (length done) c.in-Some.module = (turn.0, sym turn.1) in
    passed_up c.from_residual.result c.in_err-check_code.field-0.0 (IsFirstUncoded c.args.modules.items) c.from_residual.ensures.1
    (first_uncoded c.args.modules.items (length done) c.in-Some.module c.in_err-check_code.field-0.0 at (c.loop-module.invariant within)
    (c.in_err-check_code.ensures.cause (at_all (λ m. AreWithin m.bank m.clauses.items) c.args.modules.items (length done) c.in-Some.module at within)))

pub returns-in_err-check_code-clause-refused : goal.returns-in_err-check_code-clause-refused
returns-in_err-check_code-clause-refused c = passed_up c.from_residual.result c.in_err-check_code.field-0.0 IsOfTexts c.from_residual.ensures.1 c.in_err-check_code.ensures.refused

pub returns-clause-within : goal.returns-clause-within
returns-clause-within c = λ within.
    let road = YieldsList-at c.into_iter-module-iterator.ensures.into_iter_gives (YieldsList-from_vec c.args.modules.items c.into_iter-module-items.ensures.rest (omega (arith, c.into_iter-module-items.ensures.len, c.args.modules.ok))) in
    let end = YieldsList-end road c.loop-module.yielded c.loop-module.module-iterator c.loop-module.yielded_by c.next.result c.next.new.self c.in-None.is c.next.ensures.steps in
    subst (All IsWithinCode) (take_all (length c.loop-module.yielded) c.args.modules.items (omega (arith, end.1))) (c.loop-module.invariant within)

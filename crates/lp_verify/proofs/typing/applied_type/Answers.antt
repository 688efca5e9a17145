use Rattle.std.proofs.Common.{get_or, refl}
use Rattle.lp_verify.specs.inner.Handed.{closed_built}
use Rattle.std.proofs.lemmas.Option.{slice_get-get_or}
use Rattle.std.proofs.lemmas.List.{drop_all}
use Rattle.lp_verify.proofs.TermsMade.{applied_none, applied_other, applied_more, applied_all}
use Rattle.lp_verify.proofs.typing.applied_type.Goals as goal

pub loop-argument-init : goal.loop-argument-init
loop-argument-init c = λ T Us t a. (T, t, refl)

pub loop-argument-preserved : goal.loop-argument-preserved
loop-argument-preserved c = λ T Us t a.
    let x = c.args.types.now in
    let ts = c.args.arguments.now in
    let n = c.loop-argument.argument-index in
    applied_more x ts T Us c.loop-argument.rest n _ c.as_arrow.result a (slice_get-get_or ts n _ c.loop-argument-test.true) c.as_arrow.ensures (c.loop-argument.invariant T Us t a) c.in-Some.from c.in-Some.to c.in-Some.is c.if-from-argument.false

pub returns-then-from-argument : goal.returns-then-from-argument
returns-then-from-argument c = λ T Us t a.
    let x = c.args.types.now in
    let ts = c.args.arguments.now in
    let n = c.loop-argument.argument-index in
    applied_other x ts T Us c.loop-argument.rest n _ c.as_arrow.result a (slice_get-get_or ts n _ c.loop-argument-test.true) c.as_arrow.ensures (c.loop-argument.invariant T Us t a) c.in-Some.from c.in-Some.to c.in-Some.is c.if-from-argument.true

pub returns-in-None : goal.returns-in-None
returns-in-None c = λ T Us t a.
    let x = c.args.types.now in
    let ts = c.args.arguments.now in
    let n = c.loop-argument.argument-index in
    applied_none x ts T Us c.loop-argument.rest n (get_or ts n (closed_built c.args.function)) c.as_arrow.result a (slice_get-get_or ts n (closed_built c.args.function) c.loop-argument-test.true) c.as_arrow.ensures (c.loop-argument.invariant T Us t a) c.in-None.is

pub returns : goal.returns
returns c = λ T Us t a.
    let ts = c.args.arguments.now in
    let n = c.loop-argument.argument-index in
    applied_all c.args.types.now ts T Us c.loop-argument.rest n a (drop_all n ts c.loop-argument-test.false) (c.loop-argument.invariant T Us t a)

use Rattle.std.proofs.Common.{◌≡◌, ◌+◌, replicate, refl, sym, ap, ◌∙◌, arith}
use Rattle.lp_bytes.specs.Writing.{text_of, more}
use Rattle.lp_bytes.proofs.Lengthened.{more_nothing, more_then}
use Rattle.lp_cert.proofs.Waits.{one_seven}
use Rattle.lp_cert.proofs.terms.write_applications.Goals as goal

pub loop-init : goal.loop-init
loop-init c = (omega arith, sym (more_nothing c.args.writer.now))

pub loop-preserved : goal.loop-preserved
loop-preserved c = (omega (arith, c.loop-test.true), more_then _ _ _ _ _ c.loop.invariant.1 c.in_ok-byte.ensures ∙ ap (more (text_of c.args.writer.now)) (sym (one_seven c.loop.counter)))

pub returns : goal.returns
returns c =
    let all : c.loop.counter ≡ c.args.count = omega (arith, c.loop-test.false, c.loop.invariant.0) in
    c.loop.invariant.1 ∙ ap (λ n. more (text_of c.args.writer.now) (replicate n 7)) all

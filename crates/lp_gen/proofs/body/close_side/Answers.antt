use Rattle.std.proofs.Common.{sym, subst}
use Rattle.std.specs.Prelude.{IfSome}
use Rattle.lp_gen.specs.inner.BodyUsing.{IsPatched}
use Rattle.lp_gen.proofs.body.close_side.Goals as goal

pub returns-clause-patched : goal.returns-clause-patched
returns-clause-patched c =
    let patched : IsPatched c.args.emitter.now c.set_bytes.new.self c.in-Some.side = record {
      bytes = c.bytes_behind-bytes.result;
      counted = c.bytes_behind-bytes.ensures;
      either = c.set_bytes.ensures.either;
      jump = c.set_bytes.ensures.jump;
    } in
    subst (λ o. IfSome o (IsPatched c.args.emitter.now c.set_bytes.new.self)) (sym c.in-Some.is) patched

use Rattle.std.proofs.Common.{refl, subst}
use Rattle.lp_build.specs.Queried.{IsSeenByQueries}
use Rattle.lp_build.proofs.build.seen_of.Goals as goal

pub returns : goal.returns
returns c = record {
  same = refl;
  seen = subst (λ ks. IsSeenByQueries c.args.own.now ks c.args.assembled.constants.items c.in_ok-signature.signature) c.as_slice-kinds.ensures.value
      (subst (λ cs. IsSeenByQueries c.args.own.now c.as_slice-kinds.result.now cs c.in_ok-signature.signature) c.as_slice-constants.ensures.value c.in_ok-signature.ensures);
  operators = c.in_ok-table.ensures;
}

use Rattle.std.proofs.Common.{sym, subst}
use Rattle.lp_sig.specs.Refusals.{IsAt}
use Rattle.lp_build.proofs.sources.Sources.file.Goals as goal

pub returns-in-Some-clause-found : goal.returns-in-Some-clause-found
returns-in-Some-clause-found c =
    let there = subst (λ l. IsAt l c.args.number c.in-Some.found.now) c.deref.ensures.value (c.in-Some.ensures.lookup.3.0, sym c.in-Some.ensures.lookup.1) in
    (c.in-Some.found.now, there, sym c.as_str.ensures.value, sym c.as_slice.ensures.value)

use Rattle.std.proofs.Common.{◌≡◌, ◌<◌, length, subst, sym, ap, ◌∙◌, arith}
use Rattle.std.specs.Prelude.{string_bytes}
use Rattle.std.proofs.lemmas.List.{get_or_default}
use Rattle.lp_build.specs.Told.{AreKnown, IsTold}
use Rattle.lp_build.proofs.Telling.{all_but_one, taken_told}
use Rattle.lp_build.proofs.read.take_known.Goals as goal

pub returns-then-is_named-clause-known : goal.returns-then-is_named-clause-known
returns-then-is_named-clause-known g told =
    λ h.
    let same = ap length g.loop-at.invariant in
    let there : g.loop-at.at < length g.loop-at.known.items = omega (arith, g.loop-at-test.true, g.loop-at.auto.at-end, g.len-at-end.ensures, g.args.known.now.ok, same) in
    subst (λ l. AreKnown told l) (sym g.swap_remove.ensures.items) (all_but_one (λ x. IsTold told (string_bytes x.0) x.1.items) g.loop-at.known.items
    g.loop-at.at g.swap_remove.result there (subst (λ l. AreKnown told l) (sym g.loop-at.invariant) h))

pub returns-then-is_named-clause-taken : goal.returns-then-is_named-clause-taken
returns-then-is_named-clause-taken g told =
    λ h.
    let same = ap length g.loop-at.invariant in
    let there : g.loop-at.at < length g.loop-at.known.items = omega (arith, g.loop-at-test.true, g.loop-at.auto.at-end, g.len-at-end.ensures, g.args.known.now.ok, same) in
    let found = g.swap_remove.ensures.value ∙ get_or_default g.loop-at.known.items g.loop-at.at g.swap_remove.result g.index.result.now there ∙ sym g.index.ensures in
    let is : string_bytes g.swap_remove.result.0 ≡ g.args.name.now = ap (λ x. string_bytes x.0) found ∙ g.is_named.ensures g.if-is_named.true in
    taken_told told g.loop-at.known.items g.loop-at.at g.swap_remove.result g.args.name.now (subst (λ l. AreKnown told l) (sym g.loop-at.invariant) h) there g.swap_remove.ensures.value is

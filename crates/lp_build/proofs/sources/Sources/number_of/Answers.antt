use Rattle.std.proofs.Common.{◌<◌, ◌≤◌, ◌^◌, length, sym, subst, arith}
use Rattle.lp_base.specs.declared.limits.TheConstants.{MAX_MODULES}
use Rattle.lp_build.specs.Named.{IsFileNamed}
use Rattle.lp_build.proofs.sources.Sources.number_of.Goals as goal

pub returns-then-is_named : goal.returns-then-is_named
returns-then-is_named c = λ few.
    let files = c.args.self.now.files.items in
    let lt : c.loop-at.at < length files = omega (arith, c.loop-at-test.true, c.len-at-end.ensures, c.args.self.now.files.ok) in
    let most : MAX_MODULES ≤ 4096 = omega arith in
    let small : c.loop-at.at < 2 ^ 32 = omega (arith, lt, few, most) in
    subst (λ n. IsFileNamed files n c.args.name.now) (sym (c.as_number.ensures.same small))
    (c.index-file.result.now, (lt, sym c.index-file.ensures), c.is_named.ensures c.if-is_named.true)

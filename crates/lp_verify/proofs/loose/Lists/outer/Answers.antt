use Rattle.std.proofs.Common.{◌∙◌, ◌+◌, ap, refl, arith}
use Rattle.std.specs.Prelude.{◌-◌, ◌^◌, min, is_some, if◌then◌else◌}
use Rattle.lp_verify.specs.declared.loose.Loose.{Loose}
use Rattle.lp_verify.specs.inner.Indices.{store}
use Rattle.lp_verify.proofs.LooseSeen.{stands_outside}
use Rattle.lp_verify.proofs.loose.Lists.outer.Goals as goal

pub returns : goal.returns
returns c = λ k ts s.
    let x = c.args.loose in
    let y : Loose = record { list = x.list; from = c.behind-from.result; lowered = c.saturating_add-lowered.result } in
    let l = c.saturating_add-lowered.ensures in
    stands_outside (store k c.args.self.now) x y ts refl (λ h. omega (arith, l, h)) (c.behind-from.ensures ∙ ap (λ o. if is_some o then min (x.from + 1) (2 ^ 64 - 1) else x.from) c.innermost.ensures) s

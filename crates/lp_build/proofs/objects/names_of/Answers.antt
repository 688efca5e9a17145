use Rattle.std.proofs.Common.{◌≡◌, ◌-◌, ◌∙◌, length, ap, map, subst, arith}
use Rattle.lp_build.specs.Compiled.{AreExported}
use Rattle.lp_build.proofs.objects.names_of.Goals as goal

pub returns : goal.returns
returns c =
    let m = c.args.module.now in
    let kinds = ap length c.kinds.ensures in
    let constants = ap length c.constants.ensures in
    let k : c.saturating_sub-exported_kinds.result ≡ length m.signature.kinds.items - length m.hidden_kinds.items =
    omega (arith, c.saturating_sub-exported_kinds.ensures, c.len.ensures, kinds, m.hidden_kinds.ok) in
    let n : c.saturating_sub-exported.result ≡ length m.signature.constants.items - length m.hidden_constants.items =
    omega (arith, c.saturating_sub-exported.ensures, c.len-2.ensures, constants, m.hidden_constants.ok) in
    record {
      name = c.in_ok-name.ensures.items ∙ c.as_slice-2.ensures.value;
      kinds = c.in_ok-kinds.ensures.kinds;
      exported_kinds = subst (λ n. AreExported (λ k. k.exported) n c.in_ok-kinds.kinds.items) k c.in_ok-kinds.ensures.exported;
      constants = c.in_ok-constants.ensures.constants;
      exported_constants = subst (λ n. AreExported (λ k. k.exported) n c.in_ok-constants.constants.items) n c.in_ok-constants.ensures.exported;
      uses = c.in_ok-uses.ensures ∙ ap (map (λ u. u.items)) c.as_slice.ensures.value;
    }

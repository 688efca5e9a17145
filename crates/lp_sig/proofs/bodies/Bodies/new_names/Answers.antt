use Rattle.std.proofs.Common.{◌<◌, ◌+◌, ◌∷◌, [], length, arith, sym, ap, ◌∙◌, refl}
use Rattle.std.proofs.lemmas.List.{length-append}
use Rattle.std.proofs.lemmas.List.Elements.{All-weaker}
use Rattle.lp_term.proofs.Within.{kept_then}
use Rattle.lp_term.proofs.Trees.{extends_same}
use Rattle.lp_calculus.specs.Types.{var}
use Rattle.lp_sig.specs.Schemes.{place}
use Rattle.lp_sig.proofs.Renaming.{one_more_name, no_new_names}
use Rattle.lp_sig.proofs.bodies.Bodies.new_names.Goals as goal

pub loop-number-init : goal.loop-number-init
loop-number-init c = record {
  kept = extends_same c.args.self.now.types.bank;
  bodies = refl;
  count = ap length c.new-names.ensures.items;
  names = no_new_names c.args.self.now.types.bank c.new-names.result.items c.args.found.now c.new-names.ensures.items;
}

pub loop-number-preserved : goal.loop-number-preserved
loop-number-preserved c =
    let old = c.loop-number.names.items in
    let inv = c.loop-number.invariant in
    record {
      kept = kept_then c.args.self.now.types.bank c.loop-number.self.types.bank c.var.new.self.bank inv.kept c.var.ensures.kept;
      bodies = inv.bodies;
      count = ap length c.in_ok-push.ensures.items ∙ length-append old (c.in_ok-id.id ∷ []) ∙ ap (λ n. n + 1) inv.count;
      names = one_more_name c.loop-number.self.types.bank c.var.new.self.bank old c.push.new.self.items c.args.found.now c.in_ok-id.id c.var.ensures.kept inv.names c.in_ok-id.ensures.tree.0
          (c.in_ok-id.ensures.tree.1 ∙ ap var (c.place_among-place.ensures ∙ ap (place c.args.found.now) (sym inv.count))) c.in_ok-push.ensures.items;
    }

pub returns-clause-far : goal.returns-clause-far
returns-clause-far c =
    let end = c.loop-number-test.false in
    let count = c.loop-number.invariant.count in
    All-weaker (λ n. n < c.in_ok-end.end) (λ n. n < length c.loop-number.names.items) (λ n h. omega (arith, h, end, count)) c.args.found.now c.in_ok-end.ensures

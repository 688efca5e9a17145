use Rattle.std.proofs.Common.{◌∙◌, ◌-◌, ap, sym, arith, map}
use Rattle.std.proofs.lemmas.List.{length-map}
use Rattle.lp_calculus.specs.Term.{abs}
use Rattle.lp_standard.specs.Connectives.{pi_of}
use Rattle.lp_term.specs.Nodes.{tree, type_tree}
use Rattle.lp_term.proofs.Trees.{extends_same, extends-trans}
use Rattle.lp_model.specs.Flat.{all_of}
use Rattle.lp_module.proofs.Typed.{pi_more, pi_none, pi_all, typing_same, stands_later, type_next}
use Rattle.lp_module.proofs.sentences.closed.Goals as goal

pub loop-at-init : goal.loop-at-init
loop-at-init c =
    let b = c.args.bank.now in
    let vs = c.args.typed.now.vars in
    let n = length-map vs.items (λ v. type_tree b v.1.0) in (
      extends_same b,
      c.requires.formula,
      pi_all (map (λ v. type_tree b v.1.0) vs.items) c.len-count.result (omega (arith, n, c.len-count.ensures, vs.ok)) (tree b c.args.typed.now.formula.0),
    )

pub loop-at-preserved : goal.loop-at-preserved
loop-at-preserved c =
    let b = c.args.bank.now in
    let d = c.loop-at.bank in
    let vs = c.args.typed.now.vars in
    let v = c.index-variable.result.now in
    let n = length-map vs.items (λ v. type_tree b v.1.0) in
    let t = type_next b d c.args.typed.now c.loop-at.invariant.0 c.requires (c.len-count.result - 1 - c.loop-at.at) v (omega (arith, c.loop-at-test.true, c.len-count.ensures, vs.ok)) c.index-variable.ensures in (
      extends-trans b d c.put_pi.new.bank c.loop-at.invariant.0 c.in_ok-formula.ensures.kept,
      c.in_ok-formula.ensures.within,
      pi_more (map (λ v. type_tree b v.1.0) vs.items) c.len-count.result (omega (arith, n, c.len-count.ensures, vs.ok)) c.loop-at.at (type_tree b v.1.0) (tree d c.loop-at.formula.0) (tree c.put_pi.new.bank c.in_ok-formula.formula.0) _ c.loop-at-test.true t.2
          (c.in_ok-formula.ensures.tree ∙ ap (λ T. pi_of T (abs (tree d c.loop-at.formula.0))) t.1) c.loop-at.invariant.2,
    )

pub returns-clause-closed : goal.returns-clause-closed
returns-clause-closed c =
    let b = c.args.bank.now in
    let d = c.loop-at.bank in
    let vs = c.args.typed.now.vars in
    let n = length-map vs.items (λ v. type_tree b v.1.0) in
    record {
      stands = stands_later b d c.loop-at.invariant.0 c.args.typed.now c.requires;
      within = c.loop-at.invariant.1;
      formula = pi_none (map (λ v. type_tree b v.1.0) vs.items) c.len-count.result (omega (arith, n, c.len-count.ensures, vs.ok)) c.loop-at.at (tree d c.loop-at.formula.0) _ c.loop-at-test.false c.loop-at.invariant.2 ∙
          ap (λ T. all_of T.free T.formula) (sym (typing_same b d c.loop-at.invariant.0 c.args.typed.now c.requires));
      type_vars = c.min.ensures;
    }

pub put_pi-requires : goal.put_pi-requires
put_pi-requires c =
    let b = c.args.bank.now in
    let t = type_next b c.loop-at.bank c.args.typed.now c.loop-at.invariant.0 c.requires (c.len-count.result - 1 - c.loop-at.at) c.index-variable.result.now (omega (arith, c.loop-at-test.true, c.len-count.ensures, c.args.typed.now.vars.ok)) c.index-variable.ensures in
    let l = t.0 in
    record { at = omega (arith, l, c.loop-at.invariant.0.more_types) }

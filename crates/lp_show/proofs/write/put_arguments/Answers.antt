use Rattle.std.proofs.Common.{◌≤◌, ◌<◌, length, arith, sym, ap, refl, subst}
use Rattle.std.proofs.lemmas.List.{take_all}
use Rattle.lp_term.specs.Walk.{sizes}
use Rattle.lp_model.specs.Shown.{arguments_text}
use Rattle.lp_show.specs.Scene.{pieces}
use Rattle.lp_show.proofs.Writings.{adds_as, argument_more}
use Rattle.lp_show.proofs.write.put_arguments.Goals as goal

pub arguments-preserved : goal.arguments-preserved
arguments-preserved c =
    let l : c.arguments.at < length c.args.arguments.now.items = omega (arith, c.arguments-test.true, c.len.ensures, c.args.arguments.now.ok) in
    let t = c.index.result.now in
    record {
      within = omega (arith, l);
      tasks = λ s a.
          argument_more s c.args.arguments.now.items c.arguments.at t c.args.depth c.args.tasks.now.items c.arguments.tasks.items c.put_show.new.tasks.items c.put_bytes.new.tasks.items _
          l (sym c.index.ensures) refl (c.arguments.invariant.tasks s a) (c.in_ok-put_show.ensures s (subst (λ x. x.0 < length s.nodes.terms) (sym c.index.ensures) (a c.arguments.at t l))) (c.in_ok-put_bytes.ensures s);
    }

pub returns : goal.returns
returns c = λ s a.
    let l : length c.args.arguments.now.items ≤ c.arguments.at = omega (arith, c.arguments-test.false, c.len.ensures, c.args.arguments.now.ok) in
    let q = take_all c.arguments.at c.args.arguments.now.items l in
    adds_as s c.args.tasks.now.items c.arguments.tasks.items _ _ _ _ (c.arguments.invariant.tasks s a) (ap (λ ids. arguments_text (pieces s c.args.depth ids)) q) (omega (arith, ap (sizes s.nodes) q, c.arguments.invariant.within))

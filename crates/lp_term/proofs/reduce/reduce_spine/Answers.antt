use Rattle.std.proofs.Common.{◌≡◌, ◌∙◌, ◌<◌, ◌+◌, ◌-◌, ◌^◌, arith, length, take, drop, sym, ap, subst, Some, refl}
use Rattle.lp_calculus.specs.Convert.{head_step, steps}
use Rattle.lp_term.specs.Nodes.{tree}
use Rattle.lp_term.proofs.Trees.{extends-trans}
use Rattle.lp_term.specs.Spine.{whole, LooseBelow}
use Rattle.lp_term.proofs.Several.{last_ones}
use Rattle.lp_term.proofs.Contract.{deep, each_fits, each_left, each_loose, more_steps}
use Rattle.lp_term.proofs.reduce.reduce_spine.Goals as goal

pub returns-then-left-eq0-clause-refused : goal.returns-then-left-eq0-clause-refused
returns-then-left-eq0-clause-refused c =
    let n = rw c.in-Some.is at c.in_ok-body.ensures.normal in
    let l : 0 < length c.unwind.new.args.items = omega (arith, n.2, c.unwind.new.args.ok) in
    let k : steps head_step c.args.left (tree c.args.bank.now c.args.term.0) ≡ Some (whole c.steps.bank c.unwind.new.depth c.unwind.new.head c.unwind.new.args.items) =
    ap (λ m. steps head_step m (tree c.args.bank.now c.args.term.0)) (omega arith) ∙ c.steps.invariant.taken ∙ ap (λ s. Some s) (sym c.in_ok-body.ensures.same) in
    (refl, deep c.unwind.new.depth c.steps.bank c.unwind.new.head c.in-Some.body c.unwind.new.args.items (tree c.args.bank.now c.args.term.0) c.args.left n.0 l k)

pub substitute_all-requires-clause-fits : goal.substitute_all-requires-clause-fits
substitute_all-requires-clause-fits c =
    let n = rw c.in-Some.is at c.in_ok-body.ensures.normal in
    let all = c.unwind.new.args.items in
    let more = c.body_under-more.result.1 in
    let k = c.len-in-steps.result - 1 - more in
    let w = last_ones all c.deref.result.now (take k all) k more c.len-in-steps.result c.min-most.result c.deref.ensures.value (omega (arith, c.len-in-steps.ensures, c.unwind.new.args.ok)) refl c.body_under-more.ensures.count
    (omega (arith, c.min-most.ensures, c.len.ensures, c.len-in-steps.ensures)) (omega (arith, n.2, c.len-in-steps.ensures)) refl in
    each_fits c.steps.bank c.unwind.new.head c.in-Some.body c.body_under-more.result.0 more all (take k all) (take (length c.deref.result.now - k) (drop k c.deref.result.now)) n.0 c.body_under-more.ensures.tree w.0 w.1
    c.unwind.new.depth (2 ^ 32 + c.args.base) c.term_count-count.ensures.sound c.term_count-count.ensures.few c.body_under-more.ensures.within c.in_ok-body.ensures.args (omega (arith, c.in_ok-body.ensures.depth, c.requires.base))
    (subst (LooseBelow (2 ^ 32 + c.args.base) 0) (sym c.in_ok-body.ensures.same) c.steps.invariant.loose)

pub steps-preserved : goal.steps-preserved
steps-preserved c =
    let n = rw c.in-Some.is at c.in_ok-body.ensures.normal in
    let e = c.in_ok-head.ensures.kept in
    let all = c.unwind.new.args.items in
    let rest = c.truncate.new.self.items in
    let more = c.body_under-more.result.1 in
    let k = c.len-in-steps.result - 1 - more in
    let vs = take (length c.deref.result.now - k) (drop k c.deref.result.now) in
    let w = last_ones all c.deref.result.now rest k more c.len-in-steps.result c.min-most.result c.deref.ensures.value (omega (arith, c.len-in-steps.ensures, c.unwind.new.args.ok)) refl c.body_under-more.ensures.count
    (omega (arith, c.min-most.ensures, c.len.ensures, c.len-in-steps.ensures)) (omega (arith, n.2, c.len-in-steps.ensures)) c.truncate.ensures.items in
    record {
      kept = extends-trans c.args.bank.now c.steps.bank c.substitute_all.new.bank c.steps.invariant.kept e;
      head = c.in_ok-head.ensures.within;
      args =
          each_left c.steps.bank c.unwind.new.head c.in-Some.body c.body_under-more.result.0 more all rest vs n.0 c.body_under-more.ensures.tree w.0 w.1 c.substitute_all.new.bank e c.in_ok-body.ensures.args;
      depth = omega (arith, c.in_ok-body.ensures.depth, c.requires.base);
      loose =
          each_loose c.steps.bank c.unwind.new.head c.in-Some.body c.body_under-more.result.0 more all rest vs n.0 c.body_under-more.ensures.tree w.0 w.1
          c.unwind.new.depth (2 ^ 32 + c.args.base) c.substitute_all.new.bank c.in_ok-head.head e c.in_ok-body.ensures.args c.in_ok-head.ensures.tree
          (subst (LooseBelow (2 ^ 32 + c.args.base) 0) (sym c.in_ok-body.ensures.same) c.steps.invariant.loose);
      left = omega (arith, c.steps.invariant.left);
      taken =
          more_steps c.steps.bank c.unwind.new.head c.in-Some.body c.body_under-more.result.0 more all rest vs n.0 c.body_under-more.ensures.tree w.0 w.1
          c.unwind.new.depth c.substitute_all.new.bank c.in_ok-head.head e c.in_ok-body.ensures.args c.in_ok-head.ensures.tree
          (c.args.left - c.steps.left) (c.args.left - (c.steps.left - (more + 1))) (tree c.args.bank.now c.args.term.0)
          (omega (arith, c.steps.invariant.left, c.if-left-eq0.false, c.body_under-more.ensures.count, c.min-most.ensures))
          (c.steps.invariant.taken ∙ ap (λ s. Some s) (sym c.in_ok-body.ensures.same));
    }

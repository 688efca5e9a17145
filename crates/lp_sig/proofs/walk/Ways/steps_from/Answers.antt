use Rattle.std.proofs.Common.{◌≡◌, map, sym, subst, ◌++◌, ◌∷◌, [], length, arith, ◌∙◌, ap}
use Rattle.std.proofs.lemmas.List.{nil_from_length}
use Rattle.lp_sig.specs.Walking.{Moves}
use Rattle.lp_sig.specs.declared.walk.Step.TheVariants.{Enter}
use Rattle.lp_sig.proofs.Order.{start_moves, moves_then, one_off_then, all_loaded}
use Rattle.lp_sig.proofs.walk.Ways.steps_from.Goals as goal

pub steps-init : goal.steps-init
steps-init c =
    let ways = map (λ out. out.items) c.args.self.now.ways.items in
    start_moves ways c.args.root c.args.marks.now.items c.push.new.self.items c.new-steps.result.items (c.in_ok-push.ensures.items ∙ ap (λ z. z ++ Enter c.args.root ∷ []) c.new-work.ensures.items) c.new-steps.ensures.items

pub steps-preserved : goal.steps-preserved
steps-preserved c =
    let ways = map (λ out. out.items) c.args.self.now.ways.items in
    moves_then ways c.args.marks.now.items c.steps.marks.items c.take.new.marks.items (Enter c.args.root ∷ []) c.steps.work.items c.take.new.work.items [] c.steps.steps.items c.take.new.steps.items c.steps.invariant
    (subst (λ w. Moves ways c.steps.marks.items w c.steps.steps.items c.take.new.marks.items c.take.new.work.items c.take.new.steps.items) (sym c.in-Some.ensures.items) c.in_ok-take.ensures.moves)

pub steps-smaller : goal.steps-smaller
steps-smaller c =
    let ways = map (λ out. out.items) c.args.self.now.ways.items in
    one_off_then ways c.steps.marks.items c.take.new.marks.items c.steps.work.items c.pop.new.self.items c.take.new.work.items c.in-Some.next c.in-Some.ensures.items c.in_ok-take.ensures.falls

pub returns : goal.returns
returns c =
    let ways = map (λ out. out.items) c.args.self.now.ways.items in
    let l : length c.steps.work.items ≡ 0 = omega (arith, c.in_default.ensures.cases.0, c.steps.work.ok) in
    all_loaded ways c.args.marks.now.items c.steps.marks.items c.args.root c.steps.work.items c.steps.steps.items c.steps.invariant (nil_from_length c.steps.work.items l)

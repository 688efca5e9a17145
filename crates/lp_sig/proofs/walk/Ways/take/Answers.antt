use Rattle.std.proofs.Common.{map, sym, subst, ◌++◌, ◌∷◌, []}
use Rattle.std.proofs.lemmas.Result.{on_ok_weaker}
use Rattle.lp_sig.specs.Walking.{Moves}
use Rattle.lp_sig.specs.declared.walk.Step.TheVariants.{Declare}
use Rattle.lp_sig.proofs.Order.{declares}
use Rattle.lp_sig.proofs.walk.Ways.take.Goals as goal

pub returns-in-Enter-clause-moves : goal.returns-in-Enter-clause-moves
returns-in-Enter-clause-moves c =
    let ways = map (λ out. out.items) c.args.self.now.ways.items in
    on_ok_weaker c.enter.result (subst (λ n. Moves ways c.args.marks.now.items (c.args.work.now.items ++ n ∷ []) c.args.steps.now.items c.enter.new.marks.items c.enter.new.work.items c.enter.new.steps.items) (sym c.in-Enter.is)) c.enter.ensures.moves

pub returns-in_ok-push-in-Declare-clause-moves : goal.returns-in_ok-push-in-Declare-clause-moves
returns-in_ok-push-in-Declare-clause-moves c =
    let ways = map (λ out. out.items) c.args.self.now.ways.items in
    let m = c.args.marks.now.items in
    let w = c.args.work.now.items in
    let s = c.args.steps.now.items in
    subst (λ z. Moves ways m (w ++ c.args.next ∷ []) s m w z) (sym c.in_ok-push-in-Declare.ensures.items)
    (subst (λ n. Moves ways m (w ++ n ∷ []) s m w (s ++ Declare c.in-Declare.at ∷ [])) (sym c.in-Declare.is) (declares ways m w s c.in-Declare.at))

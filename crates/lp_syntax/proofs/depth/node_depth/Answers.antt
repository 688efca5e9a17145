use Rattle.std.proofs.Common.{refl, ap, ◌∙◌}
use Rattle.std.specs.Prelude.{Some}
use Rattle.lp_syntax.proofs.Depths.{leaf_count, application_count, abstraction_told}
use Rattle.lp_syntax.proofs.depth.node_depth.Goals as goal

pub returns-in-App : goal.returns-in-App
returns-in-App c = λ spot ls i t h m e s. application_count spot ls c.args.nodes.now c.args.depths.now i _ _ _ t (e ∙ ap Some c.in-App.is) m (λ u v a b p q. c.application_depth.ensures spot ls u v h a b p q) s

pub returns-in-Abs : goal.returns-in-Abs
returns-in-Abs c = abstraction_told c.abstraction_depth.result c.args.nodes.now c.args.depths.now c.args.node.now _ _ _ c.in-Abs.is c.abstraction_depth.ensures

pub returns-in-Name : goal.returns-in-Name
returns-in-Name c = λ spot ls i t h m e s. leaf_count spot ls c.args.nodes.now i t _ (e ∙ ap Some c.in-Name.is) refl s

pub returns-in-Known : goal.returns-in-Known
returns-in-Known c = λ spot ls i t h m e s. leaf_count spot ls c.args.nodes.now i t _ (e ∙ ap Some c.in-Known.is) refl s

pub returns-in-Number : goal.returns-in-Number
returns-in-Number c = λ spot ls i t h m e s. leaf_count spot ls c.args.nodes.now i t _ (e ∙ ap Some c.in-Number.is) refl s

pub returns-in-Text : goal.returns-in-Text
returns-in-Text c = λ spot ls i t h m e s. leaf_count spot ls c.args.nodes.now i t _ (e ∙ ap Some c.in-Text.is) refl s

use Rattle.lp_plain.proofs.Placed.{body_depth, body_shallow, parts_shallow}
use Rattle.std.proofs.Common.{refl}
use Rattle.lp_plain.proofs.HeadPlaces.{leaf_marked, below_marked, index_stands, body_stands, parts_stand, on_ok}
use Rattle.lp_plain.proofs.Placed.{place_off, body_placed, parts_placed}
use Rattle.lp_plain.proofs.head.mark_node.Goals as goal

pub returns-then-is_known_below-clause-marks : goal.returns-then-is_known_below-clause-marks
returns-then-is_known_below-clause-marks c = λ k. below_marked c.args.bank.now c.args.seen.now.items k c.args.places.now.items c.args.place (c.is_known_below.ensures c.if-is_known_below.true)

pub returns-in-Index-clause-marks : goal.returns-in-Index-clause-marks
returns-in-Index-clause-marks c =
    index_stands c.args.bank.now c.args.seen.now.items c.mark_index.new.seen.items c.in-Index.at c.args.places.now.items c.args.place c.in-Index.ensures.tree c.mark_index.ensures.marks

pub returns-in-Abs-clause-marks : goal.returns-in-Abs-clause-marks
returns-in-Abs-clause-marks c =
    on_ok c.push_body.result _ _ (body_stands c.args.bank.now c.args.seen.now.items c.in-Abs.body c.args.places.now.items c.push_body.new.places.items
    c.args.place c.in-Abs.ensures.tree) c.push_body.ensures

pub returns-in-App-clause-marks : goal.returns-in-App-clause-marks
returns-in-App-clause-marks c =
    on_ok c.push_parts.result _ _ (parts_stand c.args.bank.now c.args.seen.now.items c.in-App.head c.in-App.args.now c.args.places.now.items
    c.push_parts.new.places.items c.args.place c.in-App.ensures.tree) c.push_parts.ensures

pub returns-in-Const-clause-marks : goal.returns-in-Const-clause-marks
returns-in-Const-clause-marks c = λ k. leaf_marked c.args.bank.now c.args.seen.now.items k c.args.places.now.items c.args.place _ c.in-Const.ensures.tree refl

pub returns-in-Int-clause-marks : goal.returns-in-Int-clause-marks
returns-in-Int-clause-marks c = λ k. leaf_marked c.args.bank.now c.args.seen.now.items k c.args.places.now.items c.args.place _ c.in-Int.ensures.tree refl

pub returns-in-Text-clause-marks : goal.returns-in-Text-clause-marks
returns-in-Text-clause-marks c = λ k. leaf_marked c.args.bank.now c.args.seen.now.items k c.args.places.now.items c.args.place _ c.in-Text.ensures.tree refl

pub returns-in-Eigen-clause-marks : goal.returns-in-Eigen-clause-marks
returns-in-Eigen-clause-marks c = λ k. leaf_marked c.args.bank.now c.args.seen.now.items k c.args.places.now.items c.args.place _ c.in-Eigen.ensures.tree refl

pub returns-in-Logic-clause-marks : goal.returns-in-Logic-clause-marks
returns-in-Logic-clause-marks c = λ k. leaf_marked c.args.bank.now c.args.seen.now.items k c.args.places.now.items c.args.place _ c.in-Logic.ensures.tree refl

pub returns-in-Param-clause-marks : goal.returns-in-Param-clause-marks
returns-in-Param-clause-marks c = λ k. leaf_marked c.args.bank.now c.args.seen.now.items k c.args.places.now.items c.args.place _ c.in-Param.ensures.tree refl

pub returns-then-is_known_below-clause-lighter : goal.returns-then-is_known_below-clause-lighter
returns-then-is_known_below-clause-lighter c = place_off c.args.bank.now _ c.args.places.now.items c.args.place refl

pub returns-in-Index-clause-lighter : goal.returns-in-Index-clause-lighter
returns-in-Index-clause-lighter c = place_off c.args.bank.now _ c.args.places.now.items c.args.place refl

pub returns-in-Const-clause-lighter : goal.returns-in-Const-clause-lighter
returns-in-Const-clause-lighter c = place_off c.args.bank.now _ c.args.places.now.items c.args.place refl

pub returns-in-Int-clause-lighter : goal.returns-in-Int-clause-lighter
returns-in-Int-clause-lighter c = place_off c.args.bank.now _ c.args.places.now.items c.args.place refl

pub returns-in-Text-clause-lighter : goal.returns-in-Text-clause-lighter
returns-in-Text-clause-lighter c = place_off c.args.bank.now _ c.args.places.now.items c.args.place refl

pub returns-in-Eigen-clause-lighter : goal.returns-in-Eigen-clause-lighter
returns-in-Eigen-clause-lighter c = place_off c.args.bank.now _ c.args.places.now.items c.args.place refl

pub returns-in-Logic-clause-lighter : goal.returns-in-Logic-clause-lighter
returns-in-Logic-clause-lighter c = place_off c.args.bank.now _ c.args.places.now.items c.args.place refl

pub returns-in-Param-clause-lighter : goal.returns-in-Param-clause-lighter
returns-in-Param-clause-lighter c = place_off c.args.bank.now _ c.args.places.now.items c.args.place refl

pub returns-in-Abs-clause-lighter : goal.returns-in-Abs-clause-lighter
returns-in-Abs-clause-lighter c = on_ok c.push_body.result _ _ (body_placed c.args.bank.now c.args.places.now.items c.push_body.new.places.items
    c.args.place c.in-Abs.body _ c.in-Abs.ensures.tree) c.push_body.ensures

pub returns-in-App-clause-lighter : goal.returns-in-App-clause-lighter
returns-in-App-clause-lighter c =
    on_ok c.push_parts.result _ _ (parts_placed c.args.bank.now c.args.places.now.items c.push_parts.new.places.items c.args.place c.in-App.head
    c.in-App.args.now _ c.in-App.ensures.tree c.in-App.ensures.older.2) c.push_parts.ensures

pub returns-in-Index-clause-shallow : goal.returns-in-Index-clause-shallow
returns-in-Index-clause-shallow c = λ a. a

pub returns-in-Const-clause-shallow : goal.returns-in-Const-clause-shallow
returns-in-Const-clause-shallow c = λ a. a

pub returns-in-Int-clause-shallow : goal.returns-in-Int-clause-shallow
returns-in-Int-clause-shallow c = λ a. a

pub returns-in-Text-clause-shallow : goal.returns-in-Text-clause-shallow
returns-in-Text-clause-shallow c = λ a. a

pub returns-in-Eigen-clause-shallow : goal.returns-in-Eigen-clause-shallow
returns-in-Eigen-clause-shallow c = λ a. a

pub returns-in-Logic-clause-shallow : goal.returns-in-Logic-clause-shallow
returns-in-Logic-clause-shallow c = λ a. a

pub returns-in-Param-clause-shallow : goal.returns-in-Param-clause-shallow
returns-in-Param-clause-shallow c = λ a. a

pub returns-then-is_known_below-clause-shallow : goal.returns-then-is_known_below-clause-shallow
returns-then-is_known_below-clause-shallow c = λ a. a

pub push_body-requires : goal.push_body-requires
push_body-requires c = body_depth c.args.bank.now c.args.place c.in-Abs.body c.in-Abs.ensures.node c.requires

pub returns-in-Abs-clause-shallow : goal.returns-in-Abs-clause-shallow
returns-in-Abs-clause-shallow c =
    on_ok c.push_body.result _ _ (body_shallow c.args.bank.now c.args.places.now.items c.push_body.new.places.items c.args.place c.in-Abs.body
    c.in-Abs.ensures.node c.in-Abs.ensures.older c.requires) c.push_body.ensures

pub returns-in-App-clause-shallow : goal.returns-in-App-clause-shallow
returns-in-App-clause-shallow c =
    on_ok c.push_parts.result _ _ (parts_shallow c.args.bank.now c.args.places.now.items c.push_parts.new.places.items c.args.place c.in-App.head
    c.in-App.args.now c.in-App.ensures.node c.in-App.ensures.older.0 c.in-App.ensures.older.1 c.requires)
    c.push_parts.ensures

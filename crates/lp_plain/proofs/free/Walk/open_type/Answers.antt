use Rattle.std.proofs.Common.{refl, sym}
use Rattle.lp_term.proofs.Walking.{on_ok}
use Rattle.lp_plain.proofs.Collects.{param_split, con_split, arrow_split}
use Rattle.lp_plain.proofs.Sightings.{put_opens}
use Rattle.lp_plain.proofs.free.Walk.open_type.Goals as goal

pub returns-in-Var : goal.returns-in-Var
returns-in-Var c = on_ok c.open_variable.result _ _ (λ f. f c.args.bank.now c.args.of.0 (sym c.in-Var.ensures.tree)) c.open_variable.ensures

pub returns-in-Param : goal.returns-in-Param
returns-in-Param c = put_opens c.args.bank.now c.args.self.now _ _ refl refl refl refl (param_split c.args.bank.now c.args.of.0 _ c.in-Param.field-0 c.in-Param.ensures.tree)

pub returns-in-Con : goal.returns-in-Con
returns-in-Con c = on_ok c.push_types.result _ _
    (λ e. put_opens c.args.bank.now c.args.self.now _ _ refl refl refl refl (con_split c.args.bank.now c.args.of.0 c.in-Con.field-0 _ _ c.in-Con.parts.now c.in-Con.ensures.tree e)) c.push_types.ensures

pub returns-in_ok-push-in-Arrow-2 : goal.returns-in_ok-push-in-Arrow-2
returns-in_ok-push-in-Arrow-2 c =
    put_opens c.args.bank.now c.args.self.now _ _ refl refl refl refl
    (arrow_split c.args.bank.now c.args.of.0 _ _ _ c.in-Arrow.from c.in-Arrow.to c.in-Arrow.ensures.tree c.in_ok-push-in-Arrow.ensures.items c.in_ok-push-in-Arrow-2.ensures.items)

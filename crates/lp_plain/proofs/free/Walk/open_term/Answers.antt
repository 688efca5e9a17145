use Rattle.std.proofs.Common.{refl, sym}
use Rattle.lp_term.proofs.Walking.{on_ok}
use Rattle.lp_plain.proofs.Collects.{constant_split, abs_split, app_split, typed_param_split}
use Rattle.lp_plain.proofs.Sightings.{put_opens}
use Rattle.lp_plain.proofs.free.Walk.open_term.Goals as goal

pub returns-in-Index : goal.returns-in-Index
returns-in-Index c = on_ok c.open_index.result _ _ (λ f. f c.args.bank.now c.args.term.0 (sym c.in-Index.ensures.tree)) c.open_index.ensures

pub returns-in-Const : goal.returns-in-Const
returns-in-Const c = on_ok c.push_types.result _ _
    (λ e. put_opens c.args.bank.now c.args.self.now _ _ refl refl refl refl (constant_split c.args.bank.now c.args.depth c.args.term.0 c.in-Const.field-0 _ _ c.in-Const.types.now c.in-Const.ensures.tree e)) c.push_types.ensures

pub returns-in_ok-push-in-Abs : goal.returns-in_ok-push-in-Abs
returns-in_ok-push-in-Abs c =
    put_opens c.args.bank.now c.args.self.now _ _ refl refl refl refl (abs_split c.args.bank.now c.args.depth c.in_ok-inner-in-Abs.inner c.args.term.0 _ _ c.in-Abs.body c.in-Abs.ensures.tree c.in_ok-inner-in-Abs.ensures c.in_ok-push-in-Abs.ensures.items)

pub returns-in_ok-push-in-App : goal.returns-in_ok-push-in-App
returns-in_ok-push-in-App c = on_ok c.push_terms.result _ _
    (λ e. put_opens c.args.bank.now c.args.self.now _ _ refl refl refl refl
    (app_split c.args.bank.now c.args.depth c.args.term.0 _ _ _ c.in-App.head c.in-App.args.now c.in-App.ensures.tree c.in-App.ensures.older.2 c.in_ok-push-in-App.ensures.items e)) c.push_terms.ensures

pub returns-in_ok-push-in-Param : goal.returns-in_ok-push-in-Param
returns-in_ok-push-in-Param c =
    put_opens c.args.bank.now c.args.self.now _ _ refl refl refl refl (typed_param_split c.args.bank.now c.args.depth c.args.term.0 c.in-Param.field-0 _ _ c.in-Param.of c.in-Param.ensures.tree c.in_ok-push-in-Param.ensures.items)

use Rattle.std.proofs.Common.{sym, ap, ◌∙◌, [], ◌∷◌}
use Rattle.std.proofs.lemmas.Bool.{not-true}
use Rattle.std.proofs.lemmas.List.{append-nil}
use Rattle.lp_model.specs.Search.{has_variable}
use Rattle.lp_plain.proofs.Looks.{not_false, put_all}
use Rattle.lp_plain.proofs.OpenNodes.{leaf_term, constant_open, app_parts}
use Rattle.lp_plain.proofs.variables.open_term.Goals as goal

pub returns-in_ok-found-in-Const-clause-variable : goal.returns-in_ok-found-in-Const-clause-variable
returns-in_ok-found-in-Const-clause-variable c = λ e.
    ap has_variable (sym c.in-Const.ensures.tree) ∙ constant_open c.args.bank.now c.in-Const.field-0 _ ∙ sym c.in_ok-found-in-Const.ensures.found ∙ not_false c.in_ok-found-in-Const.found e

pub returns-in_ok-found-in-Const-clause-parts : goal.returns-in_ok-found-in-Const-clause-parts
returns-in_ok-found-in-Const-clause-parts c = λ e. (
  [],
  sym (append-nil c.args.left.now.items),
  leaf_term c.args.bank.now c.args.term.0 _ c.in-Const.ensures.tree (constant_open c.args.bank.now c.in-Const.field-0 _ ∙ sym c.in_ok-found-in-Const.ensures.found ∙ not-true c.in_ok-found-in-Const.found e),
)

pub returns-in_ok-extend_from_slice-in-App-clause-parts : goal.returns-in_ok-extend_from_slice-in-App-clause-parts
returns-in_ok-extend_from_slice-in-App-clause-parts c = λ e. (
  c.in-App.head ∷ c.in-App.args.now,
  put_all c.args.left.now.items c.push-in-App.new.self.items c.extend_from_slice.new.self.items c.in-App.head c.in-App.args.now c.in_ok-push-in-App.ensures.items c.in_ok-extend_from_slice-in-App.ensures.items,
  app_parts c.args.bank.now c.args.term.0 c.in-App.head.0 _ c.in-App.ensures.tree c.in-App.ensures.older.2,
)

use Rattle.lp_term.specs.Nodes.{tree}
use Rattle.lp_term.proofs.Contractions.{args_within, whole_application, none_for, made_for}
use Rattle.lp_term.proofs.form.contract.Goals as goal

pub contract_application-requires-clause-args : goal.contract_application-requires-clause-args
contract_application-requires-clause-args c =
    args_within c.args.body.0 _ c.in_ok-args-in-App.args.items c.in-App.args.now c.in_ok-args-in-App.ensures.items c.requires.body c.in-App.ensures.older.1

pub returns-in_ok-found-in-App-clause-none : goal.returns-in_ok-found-in-App-clause-none
returns-in_ok-found-in-App-clause-none c =
    none_for _ _
    (whole_application c.args.bank.now (tree c.args.bank.now c.in-App.head.0) (tree c.args.bank.now c.args.body.0) c.in_ok-args-in-App.args.items c.in-App.args.now c.in_ok-args-in-App.ensures.items c.in-App.ensures.tree)
    c.in_ok-found-in-App.found c.in_ok-found-in-App.ensures.none

pub returns-in_ok-found-in-App-clause-made : goal.returns-in_ok-found-in-App-clause-made
returns-in_ok-found-in-App-clause-made c =
    made_for c.contract_application.new.bank _ _
    (whole_application c.args.bank.now (tree c.args.bank.now c.in-App.head.0) (tree c.args.bank.now c.args.body.0) c.in_ok-args-in-App.args.items c.in-App.args.now c.in_ok-args-in-App.ensures.items c.in-App.ensures.tree)
    c.in_ok-found-in-App.found c.in_ok-found-in-App.ensures.made

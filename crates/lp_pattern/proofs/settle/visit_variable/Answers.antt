use Rattle.std.specs.Prelude.{IfSome}
use Rattle.std.proofs.Common.{◌≡◌, length, [], ◌∷◌, ◌++◌, ◌∙◌, sym, ap, map, None, Some, subst as transport}
use Rattle.lp_pattern.specs.declared.settle.Task.TheVariants.{Visit}
use Rattle.lp_pattern.specs.Settling.{Moves, eigens_in}
use Rattle.lp_pattern.specs.Stripping.{IsPattern, HasNoPattern, read_at}
use Rattle.lp_calculus.specs.Term.{apply}
use Rattle.lp_term.specs.Nodes.{tree}
use Rattle.lp_term.proofs.Trees.{extends-trans}
use Rattle.lp_pattern.specs.Refusing.{IsOfTerm}
use Rattle.lp_pattern.proofs.GivenUp.{settle_open_far}
use Rattle.lp_pattern.proofs.Results.{err_and}
use Rattle.lp_pattern.proofs.Walking.{looked_stays}
use Rattle.lp_pattern.proofs.SettleMoves.{open_moves, pattern_moves}
use Rattle.std.proofs.Common.{reverse}
use Rattle.lp_pattern.specs.Settling.{AreEnough}
use Rattle.lp_pattern.proofs.Enough.{made_enough, pushed_enough}
use Rattle.std.proofs.Common.{arith}
use Rattle.lp_pattern.proofs.TasksFall.{parts_left, visit_done}
use Rattle.lp_pattern.proofs.settle.visit_variable.Goals as goal

pub returns-in_default-clause-moves : goal.returns-in_default-clause-moves
returns-in_default-clause-moves c =
    transport
    (Moves c.args.bank.now c.pattern_of.new.bank c.args.bindings.now c.args.side.now.eigens.items (c.args.work.now.tasks.items ++ Visit c.args.looked.now.whole c.args.opened ∷ []) c.args.work.now.made.items
    c.push_application.new.work.tasks.items)
    (sym c.push_application.ensures.made)
    (open_moves c.args.bank.now c.pattern_of.new.bank c.args.bindings.now c.args.side.now.eigens.items c.args.opened c.args.looked.now c.args.id c.args.level c.args.work.now.tasks.items c.push_application.new.work.tasks.items
    c.args.work.now.made.items c.in_ok-pattern.ensures.kept c.requires.looked c.requires.head
    (λ r i h m.
    transport (λ l. IsPattern m c.args.level (map (read_at c.args.bank.now r c.args.opened.level c.args.opened.depth) l) None) c.as_slice-arguments.ensures.value
    (transport (λ o. IsPattern m c.args.level (map (read_at c.args.bank.now r c.args.opened.level c.args.opened.depth) c.as_slice-arguments.result.now) o) c.in_default.is (c.in_ok-pattern.ensures.pattern r i h m)))
    c.in_ok-push_application.ensures.pushed)

pub put_on-requires : goal.put_on-requires
put_on-requires c = record {
  looked = looked_stays c.args.bank.now c.put_stand_ins.new.bank c.args.bindings.now c.args.looked.now
      (extends-trans c.args.bank.now c.pattern_of.new.bank c.put_stand_ins.new.bank c.in_ok-pattern.ensures.kept c.in_ok-ids.ensures.kept) c.requires.looked;
}

pub returns-clause-moves : goal.returns-clause-moves
returns-clause-moves c =
    pattern_moves c.args.bank.now c.put_stand_ins.new.bank c.put_on.new.bank c.args.bindings.now c.args.side.now.eigens.items c.args.opened c.args.looked.now c.args.id c.args.level c.in-Some.pattern c.in_ok-made.made c.args.work.now.tasks.items
    c.args.work.now.made.items c.push.new.self.items (extends-trans c.args.bank.now c.pattern_of.new.bank c.put_stand_ins.new.bank c.in_ok-pattern.ensures.kept c.in_ok-ids.ensures.kept) c.in_ok-made.ensures.kept c.requires.looked c.requires.head
    (λ r i h m.
    transport (λ l. IsPattern m c.args.level (map (read_at c.args.bank.now r c.args.opened.level c.args.opened.depth) l) (Some c.in-Some.pattern)) c.as_slice-arguments.ensures.value
    (transport (λ o. IsPattern m c.args.level (map (read_at c.args.bank.now r c.args.opened.level c.args.opened.depth) c.as_slice-arguments.result.now) o) c.in-Some.is (c.in_ok-pattern.ensures.pattern r i h m)))
    c.in_ok-made.ensures.within
    (c.in_ok-made.ensures.tree ∙
    ap (apply (tree c.put_stand_ins.new.bank c.args.looked.now.top.0))
    (ap (map (λ t. tree c.put_stand_ins.new.bank t.0)) c.as_slice.ensures.value ∙ c.in_ok-ids.ensures.terms.trees ∙
    ap (eigens_in c.args.side.now.eigens.items c.args.opened.level c.args.opened.depth) c.as_slice-eigens.ensures.value))
    c.in_ok-push.ensures.items

pub returns-in_err-pattern-clause-refused : goal.returns-in_err-pattern-clause-refused
returns-in_err-pattern-clause-refused c =
    err_and c.from_residual.result (λ e. IsOfTerm c.in_err-pattern.field-0.0 e) _ c.from_residual.ensures.1
    (λ y o r i h m x.
    settle_open_far c.args.bank.now c.args.bindings.now r c.args.side.now.eigens.items c.args.looked.now c.args.id c.args.level c.args.opened c.args.work.now.tasks.items c.args.work.now.made.items m x c.in_err-pattern.field-0.0 y i c.requires.looked c.requires.head o
    (λ l. transport (λ z. HasNoPattern m c.args.level (map (read_at c.args.bank.now r c.args.opened.level c.args.opened.depth) z) c.in_err-pattern.field-0.0) c.as_slice-arguments.ensures.value (c.in_err-pattern.ensures.refused r i h m l)))

pub put_stand_ins-requires : goal.put_stand_ins-requires
put_stand_ins-requires c =
    let many = transport (λ o. IfSome o (λ a. length a.eigens.items ≡ length c.as_slice-arguments.result.now)) c.in-Some.is c.in_ok-pattern.ensures.many in
    ap length c.as_slice-eigens.ensures.value ∙ many

pub returns-in_default-clause-enough : goal.returns-in_default-clause-enough
returns-in_default-clause-enough c = λ h.
    transport (AreEnough (reverse c.push_application.new.work.tasks.items)) (sym (ap length c.push_application.ensures.made))
    (pushed_enough c.args.looked.now c.args.looked.now.top c.args.opened c.args.work.now.tasks.items c.push_application.new.work.tasks.items (length c.args.work.now.made.items) c.in_ok-push_application.ensures.pushed h)

pub returns-clause-enough : goal.returns-clause-enough
returns-clause-enough c = λ h. made_enough (reverse c.args.work.now.tasks.items) c.args.work.now.made.items c.push.new.self.items c.in_ok-made.made c.in_ok-push.ensures.items h

pub returns-in_default-clause-falls : goal.returns-in_default-clause-falls
returns-in_default-clause-falls c =
    parts_left c.args.looked.now c.args.looked.now.top c.args.opened c.args.opened c.args.work.now.tasks.items c.push_application.new.work.tasks.items c.args.looked.now.whole c.in_ok-push_application.ensures.pushed
    (omega (arith, c.args.work.now.tasks.ok, c.args.work.now.tasks.small)) (omega (arith, c.args.looked.now.arguments.ok, c.args.looked.now.arguments.small))

pub returns-clause-falls : goal.returns-clause-falls
returns-clause-falls c = visit_done c.args.work.now.tasks.items c.args.looked.now.whole c.args.opened

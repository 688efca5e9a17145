use Rattle.std.proofs.Common.{arith, length}
use Rattle.lp_plain.proofs.Fed.{enough_parts, more_taken, one_taken}
use Rattle.std.proofs.Common.{◌∙◌, refl, ap, sym, map}
use Rattle.lp_calculus.specs.Term.{apply}
use Rattle.lp_term.specs.Nodes.{tree}
use Rattle.lp_plain.proofs.Instances.{built_abstraction, stays_abstraction, built_application, stays_application}
use Rattle.lp_plain.proofs.instance.build.Goals as goal

pub returns-in_ok-push-in-Abs-2-clause-moves : goal.returns-in_ok-push-in-Abs-2-clause-moves
returns-in_ok-push-in-Abs-2-clause-moves c = λ vars σ k ts.
    built_abstraction vars σ k c.args.bank.now c.put_abstraction.new.bank ts c.args.id c.in_ok-put-in-Abs.put c.in-Some.body c.in-Abs.old.0
    c.args.made.now.items c.pop.new.self.items _ c.in_ok-put-in-Abs.ensures.kept c.in-Abs.ensures.node
    c.in-Some.ensures.items (λ _. c.in_ok-put-in-Abs.ensures.within) c.in_ok-put-in-Abs.ensures.tree c.in_ok-push-in-Abs-2.ensures.items

pub returns-then-body-old-clause-moves : goal.returns-then-body-old-clause-moves
returns-then-body-old-clause-moves c = λ vars σ k ts.
    stays_abstraction vars σ k c.args.bank.now ts c.args.id c.in-Some.body c.in-Abs.old c.args.made.now.items c.pop.new.self.items _
    c.in-Abs.ensures.node c.in-Abs.ensures.tree c.in-Some.ensures.items c.if-body-old.true
    c.in_ok-push-in-Abs.ensures.items

pub returns-in_ok-push-in-App-2-clause-moves : goal.returns-in_ok-push-in-App-2-clause-moves
returns-in_ok-push-in-App-2-clause-moves c = λ vars σ k ts.
    built_application vars σ k c.args.bank.now c.put_application.new.bank ts c.args.id c.in_ok-put-in-App.put c.in-Some-pop.head c.in-App.old.0
    c.in-App.parts.now c.in_ok-args-in-App.args.items c.args.made.now.items c.take_last.new.made.items
    c.pop-in-App.new.self.items _ c.in_ok-put-in-App.ensures.kept c.in-App.ensures.node c.in_ok-args-in-App.ensures.taken
    c.in_ok-args-in-App.ensures.many c.in-Some-pop.ensures.items (λ _. c.in_ok-put-in-App.ensures.within)
    (c.in_ok-put-in-App.ensures.tree ∙ ap (λ l. apply (tree c.args.bank.now c.in-Some-pop.head.0) (map (λ t. tree c.args.bank.now t.0) l))
    c.as_slice-in-App.ensures.value) c.in_ok-push-in-App-2.ensures.items

pub returns-then-is_unchanged-clause-moves : goal.returns-then-is_unchanged-clause-moves
returns-then-is_unchanged-clause-moves c = λ vars σ k ts.
    stays_application vars σ k c.args.bank.now ts c.args.id c.in-Some-pop.head c.in-App.old c.in-App.parts.now c.in_ok-args-in-App.args.items
    c.args.made.now.items c.take_last.new.made.items c.pop-in-App.new.self.items _ c.in-App.ensures.node
    c.in-App.ensures.tree c.in_ok-args-in-App.ensures.taken c.in_ok-args-in-App.ensures.many c.in-Some-pop.ensures.items (c.if-is_unchanged.ensures.head refl)
    (sym c.as_slice.ensures.value ∙ c.if-is_unchanged.ensures.args refl) c.in_ok-push-in-App.ensures.items

pub returns-in_ok-push-in-Abs-2-clause-left : goal.returns-in_ok-push-in-Abs-2-clause-left
returns-in_ok-push-in-Abs-2-clause-left c =
    one_taken c.args.bank.now c.args.id.0 c.in-Abs.old.0 c.args.made.now.items c.pop.new.self.items _ c.in-Some.body c.in_ok-put-in-Abs.put
    c.in-Abs.ensures.node c.in-Some.ensures.items c.in_ok-push-in-Abs-2.ensures.items

pub returns-then-body-old-clause-left : goal.returns-then-body-old-clause-left
returns-then-body-old-clause-left c =
    one_taken c.args.bank.now c.args.id.0 c.in-Abs.old.0 c.args.made.now.items c.pop.new.self.items _ c.in-Some.body c.args.id c.in-Abs.ensures.node
    c.in-Some.ensures.items c.in_ok-push-in-Abs.ensures.items

pub returns-in_ok-push-in-App-2-clause-left : goal.returns-in_ok-push-in-App-2-clause-left
returns-in_ok-push-in-App-2-clause-left c =
    more_taken c.args.bank.now c.args.id.0 c.in-App.old.0 c.in-App.parts.now c.in_ok-args-in-App.args.items c.args.made.now.items
    c.take_last.new.made.items c.pop-in-App.new.self.items _ c.in-Some-pop.head c.in_ok-put-in-App.put
    c.in-App.ensures.node c.in_ok-args-in-App.ensures.many c.in_ok-args-in-App.ensures.taken c.in-Some-pop.ensures.items c.in_ok-push-in-App-2.ensures.items

pub returns-then-is_unchanged-clause-left : goal.returns-then-is_unchanged-clause-left
returns-then-is_unchanged-clause-left c =
    more_taken c.args.bank.now c.args.id.0 c.in-App.old.0 c.in-App.parts.now c.in_ok-args-in-App.args.items c.args.made.now.items
    c.take_last.new.made.items c.pop-in-App.new.self.items _ c.in-Some-pop.head c.args.id
    c.in-App.ensures.node c.in_ok-args-in-App.ensures.many c.in_ok-args-in-App.ensures.taken c.in-Some-pop.ensures.items c.in_ok-push-in-App.ensures.items

pub take_last-requires : goal.take_last-requires
take_last-requires c =
    let l = enough_parts c.args.bank.now c.args.id.0 c.in-App.old.0 c.in-App.parts.now (length c.args.made.now.items) c.in-App.ensures.node c.requires.2 in
    omega (arith, l)

use Rattle.lp_term.specs.Nodes.{tree}
use Rattle.lp_model.specs.declared.certificate.ProofNode.TheVariants as node
use Rattle.lp_cert.specs.Run.{focusing}
use Rattle.lp_cert.proofs.Stepping.{goes_as, stays_left}
use Rattle.lp_cert.proofs.Going.{goes_beside, hit_goes}
use Rattle.lp_cert.proofs.Turning.{focused_as, plainly_focused}
use Rattle.lp_cert.proofs.work.Work.focus.Goals as goal

pub returns-in-FocusConv-clause-goes : goal.returns-in-FocusConv-clause-goes
returns-in-FocusConv-clause-goes c = goes_as c.focus_conv.result c.focus_conv.new.bank c.args.self.now c.focus_conv.new.self (λ b. focusing (tree b c.args.clause.0) (tree b c.args.atom.0)) c.args.node.now (node.FocusConv c.in-FocusConv.other) c.in-FocusConv.is c.focus_conv.ensures.goes

pub returns-in-FocusAll-clause-goes : goal.returns-in-FocusAll-clause-goes
returns-in-FocusAll-clause-goes c = goes_as c.focus_all.result c.focus_all.new.bank c.args.self.now c.focus_all.new.self (λ b. focusing (tree b c.args.clause.0) (tree b c.args.atom.0)) c.args.node.now (node.FocusAll c.in-FocusAll.value) c.in-FocusAll.is c.focus_all.ensures.goes

pub returns-in-Take-clause-goes : goal.returns-in-Take-clause-goes
returns-in-Take-clause-goes c = goes_as c.take.result c.args.bank.now c.args.self.now c.take.new.self (λ b. focusing (tree b c.args.clause.0) (tree b c.args.atom.0)) c.args.node.now (node.Take c.in-Take.side) c.in-Take.is c.take.ensures.goes

pub returns-in-Need-clause-goes : goal.returns-in-Need-clause-goes
returns-in-Need-clause-goes c = goes_as c.need.result c.args.bank.now c.args.self.now c.need.new.self (λ b. focusing (tree b c.args.clause.0) (tree b c.args.atom.0)) c.args.node.now node.Need c.in-Need.is c.need.ensures.goes

pub returns-in-Hit-clause-goes : goal.returns-in-Hit-clause-goes
returns-in-Hit-clause-goes c =
    goes_as c.hit.result c.hit.new.bank c.args.self.now c.hit.new.self (λ b. focusing (tree b c.args.clause.0) (tree b c.args.atom.0)) c.args.node.now node.Hit c.in-Hit.is
    (goes_beside c.hit.result _ _ _ c.hit.ensures.stays c.hit.ensures.later (λ s q b g ns h. hit_goes b c.args.self.now ns (tree b c.args.clause.0) (tree b c.args.atom.0) (q b g) (stays_left b c.args.self.now c.hit.new.self ns s h)))

pub returns-in-FocusConv-clause-turned : goal.returns-in-FocusConv-clause-turned
returns-in-FocusConv-clause-turned c = focused_as c.focus_conv.result c.args.bank.now c.focus_conv.new.bank c.args.self.now c.focus_conv.new.self
    (λ b. focusing (tree b c.args.clause.0) (tree b c.args.atom.0)) c.args.node.now (node.FocusConv c.in-FocusConv.other) c.in-FocusConv.is _ _ _
    c.focus_conv.ensures.turned

pub returns-in-FocusAll-clause-turned : goal.returns-in-FocusAll-clause-turned
returns-in-FocusAll-clause-turned c = focused_as c.focus_all.result c.args.bank.now c.focus_all.new.bank c.args.self.now c.focus_all.new.self
    (λ b. focusing (tree b c.args.clause.0) (tree b c.args.atom.0)) c.args.node.now (node.FocusAll c.in-FocusAll.value) c.in-FocusAll.is _ _ _
    c.focus_all.ensures.turned

pub returns-in-Take-clause-turned : goal.returns-in-Take-clause-turned
returns-in-Take-clause-turned c = focused_as c.take.result c.args.bank.now c.args.bank.now c.args.self.now c.take.new.self
    (λ b. focusing (tree b c.args.clause.0) (tree b c.args.atom.0)) c.args.node.now (node.Take c.in-Take.side) c.in-Take.is _ _ _
    (plainly_focused c.take.result _ _ _ _ c.take.ensures.turned)

pub returns-in-Need-clause-turned : goal.returns-in-Need-clause-turned
returns-in-Need-clause-turned c = focused_as c.need.result c.args.bank.now c.args.bank.now c.args.self.now c.need.new.self (λ b. focusing (tree b c.args.clause.0) (tree b c.args.atom.0)) c.args.node.now node.Need c.in-Need.is _ _ _ (plainly_focused c.need.result _ _ _ _ c.need.ensures.turned)

pub returns-in-Hit-clause-turned : goal.returns-in-Hit-clause-turned
returns-in-Hit-clause-turned c = focused_as c.hit.result c.args.bank.now c.hit.new.bank c.args.self.now c.hit.new.self (λ b. focusing (tree b c.args.clause.0) (tree b c.args.atom.0)) c.args.node.now node.Hit c.in-Hit.is _ _ _ (plainly_focused c.hit.result _ _ _ _ c.hit.ensures.turned)

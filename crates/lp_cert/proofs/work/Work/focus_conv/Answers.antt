use Rattle.lp_term.proofs.Trees.{extends-trans, extends_same}
use Rattle.lp_term.specs.Nodes.{tree}
use Rattle.lp_cert.specs.Run.{focusing}
use Rattle.lp_cert.proofs.Stepping.{goes_on, stays_with, stays_trans}
use Rattle.lp_cert.proofs.Going.{focus_conv_goes, formula_in, type_later}
use Rattle.lp_cert.proofs.Turning.{goes_to, pushed_turned}
use Rattle.lp_cert.proofs.Nodewise.{further, other_ready}
use Rattle.lp_cert.proofs.Refusing.{formula_is_of}
use Rattle.lp_cert.proofs.Ready.{ready_later, work_later}
use Rattle.lp_cert.specs.declared.work.Task.TheVariants as task
use Rattle.lp_cert.specs.Written.{focus_converted}
use Rattle.lp_cert.proofs.work.Work.focus_conv.Goals as goal

pub returns-in-Same-clause-goes : goal.returns-in-Same-clause-goes
returns-in-Same-clause-goes c =
    goes_on c.focus_on.result _ _ c.focus_on.ensures.left (λ p b g ns h.
    let long = extends-trans _ _ _ c.in_ok-compared.ensures.kept g in
    focus_conv_goes b c.args.self.now ns (tree b c.args.clause.0) (tree b c.args.other.0) (tree b c.args.atom.0)
    (formula_in b c.args.self.now c.args.other c.in_ok-of.of (type_later _ b c.in_ok-of.of _ (extends-trans _ _ _ c.in_ok-is_closed_of.ensures.kept long) c.in_ok-of.ensures.within c.in_ok-of.ensures.tree) (c.in_ok-is_closed_of.ensures.typed c.if-not-branch.false b long))
    (c.in_ok-compared.ensures.later c.in-Same.is b g)
    (stays_with b c.args.self.now c.converts.new.self (focusing (tree b c.args.other.0) (tree b c.args.atom.0)) ns (stays_trans _ _ _ c.in_ok-is_closed_of.ensures.stays c.in_ok-compared.ensures.stays) (p b ns h)))

pub returns-then-not-branch-clause-turned : goal.returns-then-not-branch-clause-turned
returns-then-not-branch-clause-turned c = λ w g d l b h k.
    let on = c.in_ok-of.ensures.kept in
    c.in_ok-is_closed_of.ensures.never c.if-not-branch.true (work_later _ _ c.args.self.now on w).settled (further _ _ c.args.other on l) c.in_ok-of.ensures.within b h
    (formula_is_of b c.args.self.now c.args.other c.in_ok-of.of (type_later _ b c.in_ok-of.of _ (extends-trans _ _ _ c.in_ok-is_closed_of.ensures.kept h) c.in_ok-of.ensures.within c.in_ok-of.ensures.tree) k.0)

pub returns-in-Same-clause-turned : goal.returns-in-Same-clause-turned
returns-in-Same-clause-turned c = pushed_turned c.focus_on.result _ _ c.focus_on.ensures.pushes (λ p w g d l.
    let on = c.in_ok-of.ensures.kept in
    let off = c.in_ok-compared.ensures.kept in
    let long = extends-trans _ _ _ on (extends-trans _ _ _ c.in_ok-is_closed_of.ensures.kept off) in
    let r = other_ready _ _ c.args.other _ (extends-trans _ _ _ c.in_ok-is_closed_of.ensures.kept off) (further _ _ c.args.other on l) (c.in_ok-is_closed_of.ensures.closed c.if-not-branch.false) in
    goes_to c.args.bank.now _ c.args.self.now c.converts.new.self c.focus_on.new.self (λ b. focusing (tree b c.args.clause.0) (tree b c.args.atom.0))
    (λ b. focus_converted (tree b c.args.other.0)) long (stays_trans _ _ _ c.in_ok-is_closed_of.ensures.stays c.in_ok-compared.ensures.stays)
    (task.Focus c.args.other c.args.atom) p w (r, ready_later _ _ c.args.atom long d) (λ b h at. (
      formula_in b c.args.self.now c.args.other c.in_ok-of.of (type_later _ b c.in_ok-of.of _
          (extends-trans _ _ _ c.in_ok-is_closed_of.ensures.kept (extends-trans _ _ _ off h)) c.in_ok-of.ensures.within c.in_ok-of.ensures.tree)
          (c.in_ok-is_closed_of.ensures.typed c.if-not-branch.false b (extends-trans _ _ _ off h)),
      c.in_ok-compared.ensures.later c.in-Same.is b h,
      at,
    )))

pub returns-in-Differ-clause-turned : goal.returns-in-Differ-clause-turned
returns-in-Differ-clause-turned c = λ w g d l b h k.
    let on = c.in_ok-of.ensures.kept in
    c.in_ok-compared.ensures.differ c.in-Differ.is
    (other_ready _ _ c.args.other _ c.in_ok-is_closed_of.ensures.kept (further _ _ c.args.other on l) (c.in_ok-is_closed_of.ensures.closed c.if-not-branch.false))
    (ready_later _ _ c.args.clause (extends-trans _ _ _ on c.in_ok-is_closed_of.ensures.kept) g) b h k.1

pub returns-in-Deep-clause-turned : goal.returns-in-Deep-clause-turned
returns-in-Deep-clause-turned c = λ w g d l b h.
    let on = c.in_ok-of.ensures.kept in
    let off = c.in_ok-compared.ensures.kept in (
      formula_in b c.args.self.now c.args.other c.in_ok-of.of (type_later _ b c.in_ok-of.of _
          (extends-trans _ _ _ c.in_ok-is_closed_of.ensures.kept (extends-trans _ _ _ off h)) c.in_ok-of.ensures.within c.in_ok-of.ensures.tree)
          (c.in_ok-is_closed_of.ensures.typed c.if-not-branch.false b (extends-trans _ _ _ off h)),
      c.in_ok-compared.ensures.deep c.in-Deep.is
          (other_ready _ _ c.args.other _ c.in_ok-is_closed_of.ensures.kept (further _ _ c.args.other on l) (c.in_ok-is_closed_of.ensures.closed c.if-not-branch.false))
          (ready_later _ _ c.args.clause (extends-trans _ _ _ on c.in_ok-is_closed_of.ensures.kept) g) b h,
    )

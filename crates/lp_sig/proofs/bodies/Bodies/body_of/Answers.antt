use Rattle.std.proofs.Common.{sym, ap, subst, ◌∙◌, ⊎_elim}
use Rattle.lp_sig.specs.Limits.{AreApart}
use Rattle.lp_sig.specs.Words.{WordsStand, parameters_of}
use Rattle.lp_sig.proofs.OpenBodies.{none_some, same_line, no_fault, not_repeated, its_apart, its_words, its_uses}
use Rattle.lp_sig.proofs.Settling.{body_is}
use Rattle.lp_sig.proofs.bodies.Bodies.body_of.Goals as goal

pub returns-in-Ok-expand-clause-is : goal.returns-in-Ok-expand-clause-is
returns-in-Ok-expand-clause-is g c = λ said defs name k h l at.
    let ps = c.in-Some-declared_by.parameters.now in
    let raw = c.in-Some-declared_by.raw.now in
    let d = c.in-Some-declared_by.ensures.is in
    body_is c.expand.new.self.types.bank said defs name c.args.source.now d.1.items ps raw c.in-Ok-expand.body d.3 c.in-Ok.ensures.taken (l name c.args.place c.in-Some.line d.0 d.1 raw at (sym c.in-Some.ensures) d.2) (c.in-Ok-expand.ensures.body said defs ps k h c.in-Ok.ensures.numbered)

pub returns-in_default-clause-settled : goal.returns-in_default-clause-settled
returns-in_default-clause-settled g c = λ said uses k can used. absurd (none_some _ can.announced.line (sym c.line_of.ensures ∙ c.in_default.is) can.announced.at_line)

pub returns-in_default-declared_by-clause-settled : goal.returns-in_default-declared_by-clause-settled
returns-in_default-declared_by-clause-settled g c = λ said uses k can used.
    absurd (c.declared_by.ensures.none c.in_default-declared_by.is can.announced.name can.announced.parameters can.announced.body
    (ap (g.T.Lines.declared c.args.text.now) (same_line c.args.self.now.bodies.items c.args.place c.in-Some.line can.announced.line (sym c.in-Some.ensures) can.announced.at_line) ∙ can.announced.declares))

pub returns-in-Ok-expand-clause-settled : goal.returns-in-Ok-expand-clause-settled
returns-in-Ok-expand-clause-settled g c = λ said uses k can used.
    let d = c.in-Some-declared_by.ensures.is in
    c.in-Ok-expand.ensures.settled said k (its_uses c.args.self.now.bodies.items said uses c.args.source.now (g.T.Lines.declared c.args.text.now) c.args.place c.in-Some.line d.0 d.1 c.in-Some-declared_by.raw.now can (sym c.in-Some.ensures) d.2 used)

pub returns-in-Err-clause-settled : goal.returns-in-Err-clause-settled
returns-in-Err-clause-settled g c = λ said uses k can used.
    let d = c.in-Some-declared_by.ensures.is in
    let text = c.args.source.now in
    let ps = c.in-Some-declared_by.parameters.now in
    let apart = its_apart c.args.self.now.bodies.items said uses text (g.T.Lines.declared c.args.text.now) c.args.place c.in-Some.line d.0 d.1 c.in-Some-declared_by.raw.now can (sym c.in-Some.ensures) d.2 in
    absurd (⊎_elim (λ e. c.in_ok-left_open-in-Err.ensures e) (λ r. not_repeated text ps r.0 (subst (AreApart text) (sym d.3) apart) r.2) c.in-Err.ensures.repeated)

pub returns-clause-settled : goal.returns-clause-settled
returns-clause-settled g c = λ said uses k can used.
    let d = c.in-Some-declared_by.ensures.is in
    let text = c.args.source.now in
    let ps = c.in-Some-declared_by.parameters.now in
    let nodes = c.in-Some-declared_by.raw.now.nodes.items in
    let words = its_words c.args.self.now.bodies.items said uses text (g.T.Lines.declared c.args.text.now) c.args.place c.in-Some.line d.0 d.1 c.in-Some-declared_by.raw.now can (sym c.in-Some.ensures) d.2 in
    absurd (⊎_elim (λ e. c.in_ok-left_open-in-Err-expand.ensures e)
    (λ f. no_fault text said (parameters_of text ps) nodes c.in-Err-expand.fault (subst (λ ps. WordsStand text said (parameters_of text ps) nodes) (sym d.3) words) f)
    (c.in-Err-expand.ensures.first said (parameters_of text ps) k c.in-Ok.ensures.held))

use Rattle.std.proofs.Common.{◌∙◌, arith, reverse, sym}
use Rattle.lp_term.specs.Nodes.{tree}
use Rattle.lp_model.specs.Values.{Is, value}
use Rattle.lp_cert.specs.declared.value.State.TheVariants as state
use Rattle.lp_cert.specs.inner.Evaluated.{value_in}
use Rattle.lp_cert.proofs.Comparisons.{nothing}
use Rattle.lp_cert.proofs.Evaluating.{at_work, none_around, one_around, begins_itself}
use Rattle.lp_cert.proofs.value.value_of.Goals as goal

pub parts-init : goal.parts-init
parts-init c = λ end g. none_around c.args.bank.now end c.new-around.result.items (value (tree c.args.bank.now c.args.term.0)) c.new-around.ensures.items

pub parts-preserved-in-Visit : goal.parts-preserved-in-Visit
parts-preserved-in-Visit c = λ end g.
    let o = value (tree c.args.bank.now c.args.term.0) in
    c.in_ok-state-in-Visit.ensures.leads end g o (at_work c.args.bank.now end c.parts.state (state.Visit c.in-Visit.next) (reverse c.parts.around.items) o c.in-Visit.is (c.parts.invariant end (c.in_ok-state-in-Visit.ensures.grows end g)))

pub parts-preserved : goal.parts-preserved
parts-preserved c = λ end g.
    let o = value (tree c.args.bank.now c.args.term.0) in
    c.in_ok-state-in-Known.ensures.leads c.args.bank.now end g o
    (one_around c.args.bank.now end c.parts.around.items c.pop.new.self.items c.in-Some.innermost o (Is (value_in end c.in-Known.value)) c.in-Some.ensures.items
    (at_work c.args.bank.now end c.parts.state (state.Known c.in-Known.value) (reverse c.parts.around.items) o c.in-Known.is (c.parts.invariant end (c.in_ok-state-in-Known.ensures.grows end g))))

pub returns-in_default-clause-some : goal.returns-in_default-clause-some
returns-in_default-clause-some c = λ end g.
    let o = value (tree c.args.bank.now c.args.term.0) in
    at_work c.args.bank.now end c.parts.state (state.Known c.in-Known.value) (reverse c.parts.around.items) o c.in-Known.is (c.parts.invariant end g) ∙
    sym (none_around c.args.bank.now end c.parts.around.items (Is (value_in end c.in-Known.value)) (nothing c.parts.around.items (omega (arith, c.in_default.ensures.cases.0, c.parts.around.ok))))

pub returns-in-None-clause-none : goal.returns-in-None-clause-none
returns-in-None-clause-none c = λ e.
    let end = c.parts.texts.bytes.items in
    at_work c.args.bank.now end c.parts.state state.None (reverse c.parts.around.items) (value (tree c.args.bank.now c.args.term.0)) c.in-None.is (c.parts.invariant end (begins_itself end))

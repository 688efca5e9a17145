use Rattle.std.proofs.Common.{refl, reverse}
use Rattle.lp_term.specs.Nodes.{tree}
use Rattle.lp_model.specs.Values.{value}
use Rattle.lp_cert.specs.inner.Evaluated.{IsApplication}
use Rattle.lp_cert.proofs.Evaluating.{application_refused, none_leads, one_enters, two_enters, whatever}
use Rattle.lp_cert.proofs.value.enter_application.Goals as goal

pub returns-in-Some : goal.returns-in-Some
returns-in-Some c = whatever c.enter_two.result (IsApplication (tree c.args.bank.now c.args.term.0)) _ (two_enters c.enter_two.result c.args.bank.now (tree c.args.bank.now c.args.term.0) c.in-Some.two c.args.around.now.items c.enter_two.new.around.items c.in-Some.ensures.now c.enter_two.ensures)

pub returns-in-Some-one_of : goal.returns-in-Some-one_of
returns-in-Some-one_of c = whatever c.enter_one.result (IsApplication (tree c.args.bank.now c.args.term.0)) _
    (one_enters c.enter_one.result c.args.bank.now (tree c.args.bank.now c.args.term.0) c.in-Some-one_of.one c.args.around.now.items
    c.enter_one.new.around.items c.in-Some-one_of.ensures.now c.enter_one.ensures)

pub returns-in-None : goal.returns-in-None
returns-in-None c = λ a end o h. none_leads c.args.bank.now end (reverse c.args.around.now.items) o (value (tree c.args.bank.now c.args.term.0)) (application_refused (tree c.args.bank.now c.args.term.0) a (c.in_default.ensures.none refl) (c.in-None.ensures.none refl)) h

use Rattle.std.proofs.Common.{ℕ, ◌≤◌}
use Rattle.lp_term.proofs.Moves.{passed_up}
use Rattle.lp_model.specs.Pair.{Closing}
use Rattle.lp_pattern.specs.Under.{IsReading, under}
use Rattle.lp_pattern.specs.Stripping.{IsShut, HasNoEigen, read_at}
use Rattle.lp_pattern.proofs.Results.{if_ok, if_err}
use Rattle.lp_pattern.proofs.ArgumentForms.{deep_form}
use Rattle.lp_pattern.proofs.ArgumentRuns.{no_form_no_eigen, eigen_later, no_eigen_later, variable_none, rigid_eigen_is}
use Rattle.lp_pattern.proofs.Walking.{reading_kept}
use Rattle.lp_pattern.proofs.patterns.as_eigen.Goals as goal

pub returns-in_err-looked-clause-refused : goal.returns-in_err-looked-clause-refused
returns-in_err-looked-clause-refused c =
    passed_up c.from_residual.result c.in_err-looked.field-0.0
    (λ e. (r : Closing) → IsReading c.args.bank.now c.args.bindings.now r → IsShut r → (m : ℕ) → m ≤ 1000000 → HasNoEigen m (read_at c.args.bank.now r c.args.opened.level c.args.opened.depth c.args.term) e)
    c.from_residual.ensures.1
    (λ r i h m l.
    no_form_no_eigen m c.args.opened.level c.args.opened.depth c.args.bank.now r c.args.term c.in_err-looked.field-0.0
    (deep_form m (under c.args.bank.now r c.args.term) c.in_err-looked.field-0.0 l (c.in_err-looked.ensures.refused r i)))

pub returns-in-Variable-clause-eigen : goal.returns-in-Variable-clause-eigen
returns-in-Variable-clause-eigen c = λ r i h m.
    variable_none m c.args.opened.level c.args.opened.depth 1000000 c.args.bank.now c.look.new.bank c.args.bindings.now r c.args.term c.in_ok-looked.looked _ _
    (reading_kept c.args.bank.now c.look.new.bank c.args.bindings.now r c.in_ok-looked.ensures.kept i) c.in_ok-looked.ensures.looked c.in-Variable.is (c.in_ok-looked.ensures.reached r i)

pub returns-in-Abstraction-clause-eigen : goal.returns-in-Abstraction-clause-eigen
returns-in-Abstraction-clause-eigen c =
    if_ok c.contracted.result _ _
    (λ o f r i h m.
    eigen_later m c.args.opened.level c.args.opened.depth 1000000 c.args.bank.now c.look.new.bank r c.args.term c.in_ok-looked.looked.whole o (c.in_ok-looked.ensures.reached r i)
    (f r (reading_kept c.args.bank.now c.look.new.bank c.args.bindings.now r c.in_ok-looked.ensures.kept i) h m))
    c.contracted.ensures.eigen

pub returns-in-Abstraction-clause-refused : goal.returns-in-Abstraction-clause-refused
returns-in-Abstraction-clause-refused c =
    if_err c.contracted.result _ _
    (λ e f r i h m l.
    no_eigen_later m c.args.opened.level c.args.opened.depth 1000000 c.args.bank.now c.look.new.bank r c.args.term c.in_ok-looked.looked.whole e (c.in_ok-looked.ensures.reached r i)
    (f r (reading_kept c.args.bank.now c.look.new.bank c.args.bindings.now r c.in_ok-looked.ensures.kept i) h m l))
    c.contracted.ensures.refused

pub returns-clause-eigen : goal.returns-clause-eigen
returns-clause-eigen c = λ r i h m.
    rigid_eigen_is m c.args.opened.level c.args.opened.depth 1000000 c.args.bank.now c.look.new.bank c.args.bindings.now r c.args.term c.in_ok-looked.looked c.in_ok-found-in-Rigid.found
    (reading_kept c.args.bank.now c.look.new.bank c.args.bindings.now r c.in_ok-looked.ensures.kept i) c.in_ok-looked.ensures.looked c.in-Rigid.is (c.in_ok-looked.ensures.reached r i) c.in_ok-found-in-Rigid.ensures

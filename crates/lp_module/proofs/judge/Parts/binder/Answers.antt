use Rattle.lp_module.proofs.Parting.{none_around_zero, none_past, outer_at}
use Rattle.lp_module.proofs.judge.Parts.binder.Goals as goal

pub returns-then-number-eq0-clause-none : goal.returns-then-number-eq0-clause-none
returns-then-number-eq0-clause-none c = λ e around a. none_around_zero c.args.self.now.binders.items c.args.number around c.if-number-eq0.true a

pub returns-in-None-clause-none : goal.returns-in-None-clause-none
returns-in-None-clause-none c = λ e around a. none_past c.args.self.now.binders.items c.deref.result.now c.args.number around c.if-number-eq0.false c.deref.ensures.value c.in-None.ensures.lookup.3 a

pub returns-in-Some-clause-some : goal.returns-in-Some-clause-some
returns-in-Some-clause-some c = λ around a. outer_at c.args.self.now.binders.items c.deref.result.now c.args.number c.in-Some.binder.now around c.if-number-eq0.false c.deref.ensures.value c.in-Some.ensures.lookup.3.0 c.in-Some.ensures.lookup.1 a

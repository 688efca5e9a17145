use Rattle.std.proofs.Common.{◌∙◌, ap, length, refl, subst, sym, ◌<◌, arith}
use Rattle.lp_plain.proofs.ListReads.{read_at}
use Rattle.lp_plain.proofs.Scoped.{get_none}
use Rattle.lp_plain.proofs.TryGrows.{no_assumed_rule, no_assumption, no_program_rule}
use Rattle.lp_plain.proofs.attempt.clause_of.Goals as goal

pub returns-in_default-clause-none : goal.returns-in_default-clause-none
returns-in_default-clause-none c = λ e. (
  refl,
  no_assumption c.args.machine.now c.args.candidate c.in-Assumed.number c.in-Assumed.is
      (get_none c.args.machine.now.assumptions.items c.deref.result.now c.in-Assumed.number c.deref.ensures.value c.in_default.ensures.lookup.3),
)

pub returns-then-not-has_rule-clause-none : goal.returns-then-not-has_rule-clause-none
returns-then-not-has_rule-clause-none c = λ e. (
  refl,
  no_assumed_rule c.args.machine.now c.args.candidate c.in-Assumed.number c.in-Some.assumption.now c.in-Assumed.is
      (read_at c.args.machine.now.assumptions.items c.deref.result.now c.in-Assumed.number c.in-Some.assumption.now _ c.deref.ensures.value c.in-Some.ensures.lookup.3.0 c.in-Some.ensures.lookup.1)
      (c.has_rule.ensures.none c.if-not-has_rule.true),
)

pub returns-then-not-has_rule-2-clause-none : goal.returns-then-not-has_rule-2-clause-none
returns-then-not-has_rule-2-clause-none c = λ e. (refl, no_program_rule c.args.machine.now c.args.candidate c.in-Program.number c.in-Program.is (c.has_rule-in-Program.ensures.none c.if-not-has_rule-2.true))

pub new_types-requires : goal.new_types-requires
new_types-requires c = c.has_rule-in-Program.ensures.there c.if-not-has_rule-2.false

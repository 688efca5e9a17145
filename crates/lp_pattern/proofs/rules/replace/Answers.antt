use Rattle.std.proofs.Common.{sym, ap, ◌∙◌, map, length}
use Rattle.lp_model.specs.Rule.{rule, decompose}
use Rattle.lp_term.proofs.Walking.{on_ok}
use Rattle.lp_pattern.specs.Under.{under}
use Rattle.lp_pattern.proofs.Judging.{out_below}
use Rattle.lp_pattern.proofs.PairsGiven.{on_two, arguments_given, opened_given}
use Rattle.lp_pattern.proofs.Results.{if_err}
use Rattle.lp_pattern.proofs.Taking.{both_rigid, rule_rigid, rule_opens, rule_gives}
use Rattle.lp_lemmas.proofs.Elements.{All_pushed}
use Rattle.lp_pattern.specs.Growing.{IsPairOf}
use Rattle.lp_pattern.proofs.Stacks.{still_pairs}
use Rattle.lp_pattern.proofs.rules.replace.Goals as goal

pub decompose-requires-clause-rigid_one : goal.decompose-requires-clause-rigid_one
decompose-requires-clause-rigid_one c = (both_rigid c.args.one.now.head c.args.other.now.head (sym c.are_rigid.ensures ∙ c.if-are_rigid.true)).0

pub decompose-requires-clause-rigid_other : goal.decompose-requires-clause-rigid_other
decompose-requires-clause-rigid_other c = (both_rigid c.args.one.now.head c.args.other.now.head (sym c.are_rigid.ensures ∙ c.if-are_rigid.true)).1

pub returns-then-are_rigid-clause-replaced : goal.returns-then-are_rigid-clause-replaced
returns-then-are_rigid-clause-replaced c = on_ok c.decompose.result _ _ (λ f r i g n x p h y q. f r i g n y
    (rule_rigid c.args.bank.now c.args.bindings.now r c.args.one.now c.args.other.now i c.requires.one c.requires.other n x c.args.level p h y q
    (both_rigid c.args.one.now.head c.args.other.now.head (sym c.are_rigid.ensures ∙ c.if-are_rigid.true)).0
    (both_rigid c.args.one.now.head c.args.other.now.head (sym c.are_rigid.ensures ∙ c.if-are_rigid.true)).1)) c.decompose.ensures.solved

pub returns-then-are_rigid-clause-refused : goal.returns-then-are_rigid-clause-refused
returns-then-are_rigid-clause-refused c =
    if_err c.decompose.result _ _
    (λ e f r i g n x p h. out_below n c.args.units.now e (rule n x p) (decompose n c.args.level (under c.args.bank.now r c.args.one.now.top)
    (map (under c.args.bank.now r) c.args.one.now.arguments.items) (under c.args.bank.now r c.args.other.now.top)
    (map (under c.args.bank.now r) c.args.other.now.arguments.items)) (λ y q. rule_rigid c.args.bank.now c.args.bindings.now r c.args.one.now
    c.args.other.now i c.requires.one c.requires.other n x c.args.level p h y q
    (both_rigid c.args.one.now.head c.args.other.now.head (sym c.are_rigid.ensures ∙ c.if-are_rigid.true)).0
    (both_rigid c.args.one.now.head c.args.other.now.head (sym c.are_rigid.ensures ∙ c.if-are_rigid.true)).1) (f r i g n))
    c.decompose.ensures.refused

pub returns-clause-replaced : goal.returns-clause-replaced
returns-clause-replaced c = λ r i g n x p h y q. rule_opens c.args.bank.now c.args.bindings.now r c.args.one.now c.args.other.now i c.requires.one c.requires.other n x c.args.level p h y q c.args.units.now c.requires.flexible (sym c.are_rigid.ensures ∙ c.if-are_rigid.false)

pub returns-then-are_rigid-clause-given : goal.returns-then-are_rigid-clause-given
returns-then-are_rigid-clause-given c =
    on_two c.decompose.result _ _ _
    (λ f g next r i lv n p h w y q.
    arguments_given c.args.bank.now c.decompose.new.bank c.args.bindings.now next r c.args.one.now c.args.other.now i c.requires.one c.requires.other
    c.args.level lv p h w c.decompose.ensures.kept c.args.todo.now.items c.decompose.new.todo.items c.decompose.new.bindings y.verdict
    c.decompose.ensures.terms g
    (f r i.reading i.shut i.still n y (rule_rigid c.args.bank.now c.args.bindings.now r c.args.one.now c.args.other.now i.reading c.requires.one
    c.requires.other n next c.args.level p h y q (both_rigid c.args.one.now.head c.args.other.now.head
    (sym c.are_rigid.ensures ∙ c.if-are_rigid.true)).0 (both_rigid c.args.one.now.head c.args.other.now.head
    (sym c.are_rigid.ensures ∙ c.if-are_rigid.true)).1)))
    c.decompose.ensures.given c.decompose.ensures.pushed

pub returns-clause-given : goal.returns-clause-given
returns-clause-given c = λ next r i lv n p h w y q.
    opened_given c.args.bank.now c.opened.new.bank c.args.bindings.now next r c.args.one.now c.args.other.now i c.requires.one c.requires.other c.args.level lv p h w c.in_ok-pair.ensures.kept c.args.todo.now.items c.push.new.self.items c.in_ok-pair.pair y.verdict
    (ap (λ z. z.verdict) (rule_gives c.args.bank.now c.args.bindings.now r c.args.one.now c.args.other.now i.reading c.requires.one c.requires.other n next c.args.level p h y q c.requires.flexible (sym c.are_rigid.ensures ∙ c.if-are_rigid.false)))
    c.in_ok-push.ensures.items c.in_ok-pair.ensures.within (c.in_ok-pair.ensures.opened r)

pub returns-clause-todo : goal.returns-clause-todo
returns-clause-todo c =
    All_pushed (IsPairOf (length c.opened.new.bank.terms)) c.push.new.self.items c.args.todo.now.items c.in_ok-pair.pair c.in_ok-push.ensures.items
    (still_pairs c.args.bank.now c.opened.new.bank c.args.todo.now.items c.in_ok-pair.ensures.kept c.requires.todo) c.in_ok-pair.ensures.within

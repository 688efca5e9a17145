use Rattle.std.proofs.Common.{refl, arith, add-one, slice_index_or, ◌<◌, length}
use Rattle.lp_cert.proofs.Deriving.{read_again}
use Rattle.lp_calculus.specs.Types.{instance}
use Rattle.lp_calculus.specs.Typing.{type_at}
use Rattle.lp_term.specs.Nodes.{type_tree}
use Rattle.lp_term.proofs.Trees.{extends_same, extends-trans}
use Rattle.lp_cert.specs.Same.{types_in}
use Rattle.lp_cert.specs.inner.Named.{variable_types}
use Rattle.lp_cert.proofs.Later.{inside_more}
use Rattle.lp_cert.proofs.Naming.{witness_here, variables_long}
use Rattle.lp_cert.proofs.Witnesses.{witnesses_next, witnesses_whole, type_of_variable}
use Rattle.lp_cert.proofs.Stepping.{stays_trans}
use Rattle.std.proofs.lemmas.List.Elements.{All-get_or}
use Rattle.lp_cert.proofs.Instances.{values_differ, value_fails, variable_inside}
use Rattle.lp_cert.proofs.Settled.{settled_later, settled_same}
use Rattle.lp_cert.proofs.work.Work.are_values.Goals as goal

pub loop-at-init : goal.loop-at-init
loop-at-init c = record { kept = extends_same c.args.bank.now; known = c.requires.known; stays = record { theory = refl; eigens = refl; assumed = refl; tasks = refl }; values = λ e a b g. tt }

pub loop-at-preserved : goal.loop-at-preserved
loop-at-preserved c = record {
  kept = extends-trans _ _ _ (extends-trans _ _ _ c.loop-at.invariant.kept c.in_ok-made.ensures.kept) c.in_ok-is_witness.ensures.kept;
  known = c.in_ok-is_witness.ensures.known;
  stays = stays_trans _ _ _ c.loop-at.invariant.stays c.in_ok-is_witness.ensures.stays;
  values = λ e a.
      let l = c.loop-at-test.true in
      let n = variables_long c.args.query.now in
      witnesses_next c.loop-at.bank c.is_witness.new.bank c.args.self.now.theory.constants.now c.args.types.now c.args.values.now (variable_types c.args.query.now) c.loop-at.at _ (slice_index_or c.args.values.now c.loop-at.at (record { 0 = 0 })) c.index.result.now.1 (add-one c.loop-at.at)
      (extends-trans _ _ _ c.in_ok-made.ensures.kept c.in_ok-is_witness.ensures.kept) (omega (arith, l)) (omega (arith, l, n, c.if-values-len.false, c.args.query.now.vars.ok)) (read_again c.args.values.now c.loop-at.at (record { 0 = 0 }) (omega (arith, l)))
      (type_of_variable (λ v. v.1) c.args.query.now.vars.items c.loop-at.at c.index.result.now (omega (arith, l, c.if-values-len.false, c.args.query.now.vars.ok)) c.index.ensures)
      (c.loop-at.invariant.values e a)
      (λ d g. witness_here d c.loop-at.self c.args.self.now (slice_index_or c.args.values.now c.loop-at.at (record { 0 = 0 })) c.in_ok-made.made (instance (type_at (types_in d c.args.types.now)) (type_tree d c.index.result.now.1.0)) c.loop-at.invariant.stays.theory c.loop-at.invariant.stays.eigens e
      (c.in_ok-made.ensures.tree (inside_more c.args.bank.now c.loop-at.bank c.args.types.now c.loop-at.invariant.kept a) (c.is_type_inside.ensures.inside c.if-not-is_type_inside.false) d (extends-trans _ _ _ c.in_ok-is_witness.ensures.kept g))
      (c.in_ok-is_witness.ensures.witness c.if-not-branch.false d g));
}

pub returns-clause-values : goal.returns-clause-values
returns-clause-values c = λ y e a.
    let n = variables_long c.args.query.now in
    witnesses_whole c.loop-at.bank c.args.self.now.theory.constants.now c.args.types.now c.args.values.now (variable_types c.args.query.now)
    c.loop-at.at (omega (arith, c.loop-at-test.false)) (omega (arith, c.loop-at-test.false, n, c.if-values-len.false, c.args.query.now.vars.ok))
    (c.loop-at.invariant.values e a)

pub returns-then-values-len-clause-never : goal.returns-then-values-len-clause-never
returns-then-values-len-clause-never c = λ e s n i j k.
    let m = variables_long c.args.query.now in
    values_differ c.args.bank.now c.args.self.now.theory.constants.now c.args.types.now c.args.values.now (variable_types c.args.query.now) (λ q. c.if-values-len.true (omega (arith, q, m, c.args.query.now.vars.ok)))

pub returns-then-not-is_type_inside-clause-never : goal.returns-then-not-is_type_inside-clause-never
returns-then-not-is_type_inside-clause-never c = λ e s n i j k.
    let l = c.loop-at-test.true in
    let more = c.loop-at.invariant.kept.more_types in
    let there = variable_inside (λ v. v.1) _ c.args.query.now.vars.items c.loop-at.at c.index.result.now (omega (arith, l, c.if-values-len.false, c.args.query.now.vars.ok)) c.index.ensures j in
    absurd (omega (arith, there, more, c.is_type_inside.ensures.outside c.if-not-is_type_inside.true))

pub returns-then-not-branch-clause-never : goal.returns-then-not-branch-clause-never
returns-then-not-branch-clause-never c = λ e s n i j k.
    let l = c.loop-at-test.true in
    let m = variables_long c.args.query.now in
    let v = c.loop-at.invariant in
    let value = slice_index_or c.args.values.now c.loop-at.at (record { 0 = 0 }) in
    let more = (extends-trans _ _ _ v.kept c.in_ok-made.ensures.kept).more_terms in
    let there = All-get_or (λ t. t.0 < length c.args.bank.now.terms) c.args.values.now c.loop-at.at (record { 0 = 0 }) (omega (arith, l)) k in
    value_fails c.is_witness.new.bank c.loop-at.self c.args.self.now c.args.types.now c.args.values.now (variable_types c.args.query.now) c.loop-at.at value c.index.result.now.1 c.in_ok-made.made (omega (arith, l)) (omega (arith, l, m, c.if-values-len.false, c.args.query.now.vars.ok))
    (read_again c.args.values.now c.loop-at.at (record { 0 = 0 }) (omega (arith, l))) (type_of_variable (λ v. v.1) c.args.query.now.vars.items c.loop-at.at c.index.result.now (omega (arith, l, c.if-values-len.false, c.args.query.now.vars.ok)) c.index.ensures) v.stays.theory v.stays.eigens n
    (λ b g. c.in_ok-made.ensures.tree (inside_more c.args.bank.now c.loop-at.bank c.args.types.now v.kept i) (c.is_type_inside.ensures.inside c.if-not-is_type_inside.false) b (extends-trans _ _ _ c.in_ok-is_witness.ensures.kept g))
    (c.in_ok-is_witness.ensures.never c.if-not-branch.true (settled_same c.type_at.new.bank c.args.self.now c.loop-at.self v.stays.theory v.stays.eigens (settled_later c.args.bank.now c.type_at.new.bank c.args.self.now (extends-trans _ _ _ v.kept c.in_ok-made.ensures.kept) s))
    (omega (arith, there, more)) c.in_ok-made.ensures.within)

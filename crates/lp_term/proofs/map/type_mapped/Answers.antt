use Rattle.std.proofs.Common.{◌∙◌, ◌≤◌, ◌<◌, ap, sym, length, subst as transport}
use Rattle.lp_term.specs.inner.Reading.{read_of}
use Rattle.lp_term.proofs.Memos.{right_from, made_from, made_later, type_at_end, type_outside, variable_is, variable_as}
use Rattle.lp_term.proofs.map.type_mapped.Goals as goal

pub returns-then-of-type_count-clause-made : goal.returns-then-of-type_count-clause-made
returns-then-of-type_count-clause-made g c = λ m M A.
    let b = read_of c.args.here c.args.from.now c.args.to.now in
    let i : c.args.of.0 < length b.types = transport (λ n. c.args.of.0 < n) (c.type_count.ensures.count ∙ ap (λ n. length n.types) c.read.ensures) c.if-of-type_count.true in
    let r = c.in_ok-walk.ensures.right m M i (right_from m b c.args.to.now c.args.done.now A) in
    c.in_ok-id.ensures.tree ∙ type_at_end m b c.walk.new.to c.walk.new.done c.args.of.0 c.type_of.result.0 r.0 r.1 c.type_of.ensures

pub returns-then-of-type_count-clause-memo : goal.returns-then-of-type_count-clause-memo
returns-then-of-type_count-clause-memo g c = λ m M A.
    let b = read_of c.args.here c.args.from.now c.args.to.now in
    let i : c.args.of.0 < length b.types = transport (λ n. c.args.of.0 < n) (c.type_count.ensures.count ∙ ap (λ n. length n.types) c.read.ensures) c.if-of-type_count.true in
    let r = c.in_ok-walk.ensures.right m M i (right_from m b c.args.to.now c.args.done.now A) in
    made_from m b c.walk.new.to c.inside_type.new.self c.walk.new.done c.in_ok-id.ensures.kept r.0

pub returns-in-As-clause-made : goal.returns-in-As-clause-made
returns-in-As-clause-made g c = λ m M A.
    let b = read_of c.args.here c.args.from.now c.args.to.now in
    let f = g.M.Mapping.told c.args.map.now in
    let v = variable_as f m b c.args.to.now c.type_variable-change.result c.in-As.other M c.in-As.is c.type_variable-change.ensures in
    let r = c.in_ok-walk-2.ensures.right m M v.0 (right_from m b c.args.to.now c.args.done.now A) in
    c.in_ok-id-2.ensures.tree ∙ type_at_end m b c.walk-in-As.new.to c.walk-in-As.new.done c.in-As.other.0 c.type_of-in-As.result.0 r.0 r.1 c.type_of-in-As.ensures ∙ sym v.1 ∙
    type_outside m b c.args.of.0 (transport (λ n. n ≤ c.args.of.0) (c.type_count.ensures.count ∙ ap (λ n. length n.types) c.read.ensures) c.if-of-type_count.false)

pub returns-in-As-clause-memo : goal.returns-in-As-clause-memo
returns-in-As-clause-memo g c = λ m M A.
    let b = read_of c.args.here c.args.from.now c.args.to.now in
    let f = g.M.Mapping.told c.args.map.now in
    let v = variable_as f m b c.args.to.now c.type_variable-change.result c.in-As.other M c.in-As.is c.type_variable-change.ensures in
    let r = c.in_ok-walk-2.ensures.right m M v.0 (right_from m b c.args.to.now c.args.done.now A) in
    made_from m b c.walk-in-As.new.to c.inside_type-in-As.new.self c.walk-in-As.new.done c.in_ok-id-2.ensures.kept r.0

pub returns : goal.returns
returns g c =
    let b = read_of c.args.here c.args.from.now c.args.to.now in
    let f = g.M.Mapping.told c.args.map.now in
    let x = c.in_ok-id-3.ensures.kept in
    record {
      kept = x;
      within = c.in_ok-id-3.ensures.within;
      made = λ m M A.
          c.in_ok-id-3.ensures.tree ∙ variable_is f m b c.args.to.now c.args.done.now c.type_variable-change.result M c.in_default.not-As c.type_variable-change.ensures ∙
          type_outside m b c.args.of.0 (transport (λ n. n ≤ c.args.of.0) (c.type_count.ensures.count ∙ ap (λ n. length n.types) c.read.ensures) c.if-of-type_count.false);
      memo = λ m M A. made_later m b c.args.to.now c.put_variable.new.to c.args.done.now x A;
    }

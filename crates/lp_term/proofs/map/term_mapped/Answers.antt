use Rattle.std.proofs.Common.{◌∙◌, ◌≤◌, ◌<◌, ap, length, subst as transport}
use Rattle.lp_term.specs.inner.Reading.{read_of}
use Rattle.lp_term.proofs.Memos.{right_from, made_from, made_later, term_at_end, term_outside}
use Rattle.lp_term.proofs.map.term_mapped.Goals as goal

pub returns-then-term-term_count-clause-made : goal.returns-then-term-term_count-clause-made
returns-then-term-term_count-clause-made g c = λ m M A.
    let b = read_of c.args.here c.args.from.now c.args.to.now in
    c.in_ok-id.ensures.tree ∙ term_outside m b c.args.term.0 (transport (λ n. n ≤ c.args.term.0) (c.term_count.ensures.count ∙ ap (λ n. length n.terms) c.read.ensures) c.if-term-term_count.true)

pub returns-then-term-term_count-clause-memo : goal.returns-then-term-term_count-clause-memo
returns-then-term-term_count-clause-memo g c = λ m M A.
    made_later m (read_of c.args.here c.args.from.now c.args.to.now) c.args.to.now c.put_index.new.bank c.args.done.now c.in_ok-id.ensures.kept A

pub returns-clause-made : goal.returns-clause-made
returns-clause-made g c = λ m M A.
    let b = read_of c.args.here c.args.from.now c.args.to.now in
    let i : c.args.term.0 < length b.terms = transport (λ n. c.args.term.0 < n) (c.term_count.ensures.count ∙ ap (λ n. length n.terms) c.read.ensures) c.if-term-term_count.false in
    let r = c.in_ok-walk.ensures.right m M i (right_from m b c.args.to.now c.args.done.now A) in
    c.in_ok-id-2.ensures.tree ∙ term_at_end m b c.walk.new.to c.walk.new.done c.args.term.0 c.term.result.0 r.0 r.1 c.term.ensures

pub returns-clause-memo : goal.returns-clause-memo
returns-clause-memo g c = λ m M A.
    let b = read_of c.args.here c.args.from.now c.args.to.now in
    let i : c.args.term.0 < length b.terms = transport (λ n. c.args.term.0 < n) (c.term_count.ensures.count ∙ ap (λ n. length n.terms) c.read.ensures) c.if-term-term_count.false in
    let r = c.in_ok-walk.ensures.right m M i (right_from m b c.args.to.now c.args.done.now A) in
    made_from m b c.walk.new.to c.inside.new.self c.walk.new.done c.in_ok-id-2.ensures.kept r.0

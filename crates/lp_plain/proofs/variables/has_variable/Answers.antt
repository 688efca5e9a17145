use Rattle.std.proofs.Common.{map, nat_eq, ap, ◌∙◌, ◌++◌, ◌∷◌, [], arith}
use Rattle.std.proofs.lemmas.List.{map-append, nil_from_length}
use Rattle.indexmap.specs.IndexSet.{contains}
use Rattle.lp_plain.specs.inner.Looking.{open_types, open_terms, term_weight}
use Rattle.lp_plain.proofs.Looks.{begun, passed, opened, found, ended, numbers_off, lighter_off, lighter_parts, marked, was_marked, nothing_marked}
use Rattle.lp_plain.proofs.OpenNodes.{or_none, term_weighs}
use Rattle.lp_plain.proofs.variables.has_variable.Goals as goal

pub terms-init : goal.terms-init
terms-init c = (
  nothing_marked (open_types c.args.bank.now) c.new-types.result.keys c.new-types.ensures.empty,
  begun (open_terms c.args.bank.now) (term_weight c.args.bank.now) _ _ (contains nat_eq c.new-seen.result)
      (ap (map (λ t. t.0)) (c.in_ok-push.ensures.items ∙ ap (λ l. l ++ c.args.term ∷ []) c.new-left.ensures.items))
      (nothing_marked (open_terms c.args.bank.now) c.new-seen.result.keys c.new-seen.ensures.empty),
)

pub terms-smaller-then-not-branch : goal.terms-smaller-then-not-branch
terms-smaller-then-not-branch c = lighter_off (λ t. t.0) (term_weight c.args.bank.now) c.terms.left.items c.pop.new.self.items c.in-Some.next (λ i. term_weighs _) c.in-Some.ensures.items

pub terms-preserved-then-not-branch : goal.terms-preserved-then-not-branch
terms-preserved-then-not-branch c = (
  c.terms.invariant.0,
  passed (open_terms c.args.bank.now) (term_weight c.args.bank.now) _ _ _ c.in-Some.next.0 (contains nat_eq c.terms.seen)
      (numbers_off (λ t. t.0) _ _ c.in-Some.next c.in-Some.ensures.items) c.terms.invariant.1 (contains nat_eq c.insert.new.self)
      (marked c.in-Some.next.0 (contains nat_eq c.terms.seen) (contains nat_eq c.insert.new.self) c.in_ok-insert.ensures.updates.0)
      (was_marked (contains nat_eq c.terms.seen c.in-Some.next.0) _ c.in_ok-insert.ensures.added c.if-not-branch.true),
)

pub returns-then-not-branch-2 : goal.returns-then-not-branch-2
returns-then-not-branch-2 c =
    (found (open_terms c.args.bank.now) (term_weight c.args.bank.now) _ _ _ c.in-Some.next.0 (contains nat_eq c.terms.seen) (numbers_off (λ t. t.0) _ _ c.in-Some.next c.in-Some.ensures.items) c.terms.invariant.1 (c.in_ok-open_term.ensures.variable c.if-not-branch-2.true)) ∙ or_none _

pub terms-smaller : goal.terms-smaller
terms-smaller c =
    let k = c.in_ok-open_term.ensures.parts c.if-not-branch-2.false in
    lighter_parts (λ t. t.0) (term_weight c.args.bank.now) c.terms.left.items c.pop.new.self.items c.open_term.new.left.items k.0 c.in-Some.next c.in-Some.ensures.items k.1 k.2.lighter

pub terms-preserved : goal.terms-preserved
terms-preserved c =
    let k = c.in_ok-open_term.ensures.parts c.if-not-branch-2.false in (
      c.in_ok-open_term.ensures.clean c.if-not-branch-2.false,
      opened (open_terms c.args.bank.now) (term_weight c.args.bank.now) _ _ _ c.in-Some.next.0 (contains nat_eq c.terms.seen) (numbers_off (λ t. t.0) _ _ c.in-Some.next c.in-Some.ensures.items) c.terms.invariant.1
          (map (λ t. t.0) k.0) _ (contains nat_eq c.insert.new.self) (ap (map (λ t. t.0)) k.1 ∙ map-append (λ t. t.0) c.pop.new.self.items k.0) k.2 (marked c.in-Some.next.0 (contains nat_eq c.terms.seen) (contains nat_eq c.insert.new.self) c.in_ok-insert.ensures.updates.0),
    )

pub returns : goal.returns
returns c = (ended (open_terms c.args.bank.now) (term_weight c.args.bank.now) _ (map (λ t. t.0) c.terms.left.items) (contains nat_eq c.terms.seen)
    (ap (map (λ t. t.0)) (nil_from_length c.terms.left.items (omega (arith, c.in_default.ensures.cases.0, c.terms.left.ok)))) c.terms.invariant.1) ∙
    or_none _

use Rattle.std.proofs.Common.{map, nat_eq, ap, ◌∙◌, arith}
use Rattle.std.proofs.lemmas.List.{map-append, nil_from_length}
use Rattle.indexmap.specs.IndexSet.{contains}
use Rattle.lp_plain.specs.inner.Looking.{open_types, type_weight}
use Rattle.lp_plain.proofs.Looks.{begun, passed, opened, found, ended, ended_clean, numbers_off, lighter_off, lighter_parts, marked, was_marked}
use Rattle.lp_plain.proofs.OpenNodes.{type_weighs}
use Rattle.lp_plain.proofs.variables.has_type_variable.Goals as goal

pub types-init : goal.types-init
types-init c = begun (open_types c.args.bank.now) (type_weight c.args.bank.now) _ _ (contains nat_eq c.args.seen.now) (λ i. map (λ t. t.0) (c.in_ok-left.ensures.items i)) c.requires.clean

pub types-smaller-then-not-branch : goal.types-smaller-then-not-branch
types-smaller-then-not-branch c = lighter_off (λ t. t.0) (type_weight c.args.bank.now) c.types.left.items c.pop.new.self.items c.in-Some.next (λ i. type_weighs _) c.in-Some.ensures.items

pub types-preserved-then-not-branch : goal.types-preserved-then-not-branch
types-preserved-then-not-branch c =
    passed (open_types c.args.bank.now) (type_weight c.args.bank.now) _ _ _ c.in-Some.next.0 (contains nat_eq c.types.seen)
    (numbers_off (λ t. t.0) _ _ c.in-Some.next c.in-Some.ensures.items) c.types.invariant (contains nat_eq c.insert.new.self)
    (marked c.in-Some.next.0 (contains nat_eq c.types.seen) (contains nat_eq c.insert.new.self) c.in_ok-insert.ensures.updates.0)
    (was_marked (contains nat_eq c.types.seen c.in-Some.next.0) _ c.in_ok-insert.ensures.added c.if-not-branch.true)

pub returns-then-not-branch-2-clause-found : goal.returns-then-not-branch-2-clause-found
returns-then-not-branch-2-clause-found c =
    found (open_types c.args.bank.now) (type_weight c.args.bank.now) _ _ _ c.in-Some.next.0 (contains nat_eq c.types.seen) (numbers_off (λ t. t.0) _ _ c.in-Some.next c.in-Some.ensures.items) c.types.invariant (c.in_ok-open_type.ensures.variable c.if-not-branch-2.true)

pub types-smaller : goal.types-smaller
types-smaller c =
    let k = c.in_ok-open_type.ensures.parts c.if-not-branch-2.false in
    lighter_parts (λ t. t.0) (type_weight c.args.bank.now) c.types.left.items c.pop.new.self.items c.open_type.new.left.items k.0 c.in-Some.next c.in-Some.ensures.items k.1 k.2.lighter

pub types-preserved : goal.types-preserved
types-preserved c =
    let k = c.in_ok-open_type.ensures.parts c.if-not-branch-2.false in
    opened (open_types c.args.bank.now) (type_weight c.args.bank.now) _ _ _ c.in-Some.next.0 (contains nat_eq c.types.seen) (numbers_off (λ t. t.0) _ _ c.in-Some.next c.in-Some.ensures.items) c.types.invariant
    (map (λ t. t.0) k.0) _ (contains nat_eq c.insert.new.self) (ap (map (λ t. t.0)) k.1 ∙ map-append (λ t. t.0) c.pop.new.self.items k.0) k.2 (marked c.in-Some.next.0 (contains nat_eq c.types.seen) (contains nat_eq c.insert.new.self) c.in_ok-insert.ensures.updates.0)

pub returns-clause-found : goal.returns-clause-found
returns-clause-found c = ended (open_types c.args.bank.now) (type_weight c.args.bank.now) _ (map (λ t. t.0) c.types.left.items) (contains nat_eq c.types.seen) (ap (map (λ t. t.0)) (nil_from_length c.types.left.items (omega (arith, c.in_default.ensures.cases.0, c.types.left.ok)))) c.types.invariant

pub returns-clause-clean : goal.returns-clause-clean
returns-clause-clean c = λ z. ended_clean (open_types c.args.bank.now) (type_weight c.args.bank.now) _ (map (λ t. t.0) c.types.left.items)
    (contains nat_eq c.types.seen) (ap (map (λ t. t.0)) (nil_from_length c.types.left.items
    (omega (arith, c.in_default.ensures.cases.0, c.types.left.ok)))) c.types.invariant

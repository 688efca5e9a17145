use Rattle.std.proofs.Common.{◌∙◌, ◌++◌, ◌∷◌, [], ap, sym, subst, arith}
use Rattle.std.proofs.lemmas.List.{nil_from_length}
use Rattle.indexmap.specs.IndexSet.{contains}
use Rattle.lp_term.specs.Nodes.{type_tree}
use Rattle.lp_link.specs.declared.differ.Pair.TheVariants.{Types}
use Rattle.lp_link.specs.Differences.{same_type}
use Rattle.lp_link.specs.Sizes.{pair_weighs}
use Rattle.lp_link.specs.inner.Pairs.{kinds_at, same_pair, pair_eq, IsSamePair, IsEven, Leads, Compares}
use Rattle.lp_link.proofs.Compared.{smaller, rest_same, next_same, differs}
use Rattle.lp_link.proofs.Opened.{begun, skipped, opened, parted, ended, next_even, marks_none}
use Rattle.lp_link.proofs.differ.Edge.is_type.Goals as goal

pub types-init : goal.types-init
types-init c =
    let e = c.args.self.now in
    begun (kinds_at e) e.below.now.object.now.bank e.above.now.object.now.bank c.args.below c.args.above (contains pair_eq c.new-seen.result)
    c.push.new.self.items (c.in_ok-push.ensures.items ∙ ap (λ l. l ++ Types c.args.below c.args.above ∷ []) c.new-work.ensures.items)
    (marks_none c.new-seen.result.keys c.new-seen.ensures.empty)

pub types-smaller-then-contains : goal.types-smaller-then-contains
types-smaller-then-contains c = smaller c.args.self.now.below.now.object.now.bank c.types.work.items c.pop.new.self.items c.in-Some.next
    c.in-Types.one c.in-Types.two c.in-Some.ensures.items c.in-Types.is

pub types-preserved-then-contains : goal.types-preserved-then-contains
types-preserved-then-contains c =
    let e = c.args.self.now in
    skipped (kinds_at e) e.below.now.object.now.bank e.above.now.object.now.bank (same_type (kinds_at e)
    (type_tree e.below.now.object.now.bank c.args.below.0) (type_tree e.above.now.object.now.bank c.args.above.0)) (contains pair_eq c.types.seen)
    c.types.work.items c.pop.new.self.items c.in-Some.next c.in-Some.ensures.items c.types.invariant
    c.in-Types.one c.in-Types.two c.in-Types.is (sym c.contains.ensures ∙ c.if-contains.true)

pub returns-then-not-branch : goal.returns-then-not-branch
returns-then-not-branch c =
    let e = c.args.self.now in
    sym (differs (kinds_at e) e.below.now.object.now.bank e.above.now.object.now.bank
    (same_type (kinds_at e) (type_tree e.below.now.object.now.bank c.args.below.0) (type_tree e.above.now.object.now.bank c.args.above.0))
    c.types.work.items c.pop.new.self.items c.in-Some.next c.in-Some.ensures.items c.types.invariant.same
    c.in-Types.one c.in-Types.two c.in-Types.is c.has_like_top.new.work.items c.in_ok-has_like_top-in-Types.field-0 c.in_ok-has_like_top-in-Types.ensures.compares c.if-not-branch.true)

pub types-preserved-else-not-branch : goal.types-preserved-else-not-branch
types-preserved-else-not-branch c =
    let e = c.args.self.now in
    opened (kinds_at e) e.below.now.object.now.bank e.above.now.object.now.bank (same_type (kinds_at e)
    (type_tree e.below.now.object.now.bank c.args.below.0) (type_tree e.above.now.object.now.bank c.args.above.0)) (contains pair_eq c.types.seen)
    c.types.work.items c.pop.new.self.items c.in-Some.next c.in-Some.ensures.items c.types.invariant
    c.in-Types.one c.in-Types.two (contains pair_eq c.insert.new.self) c.has_like_top.new.work.items c.in-Types.is c.in_ok-_new-in-Types.ensures.updates.0
    (subst (Compares (kinds_at e) e.below.now.object.now.bank e.above.now.object.now.bank (type_tree e.below.now.object.now.bank c.in-Types.one.0)
    (type_tree e.above.now.object.now.bank c.in-Types.two.0) c.pop.new.self.items c.has_like_top.new.work.items) c.if-not-branch.false
    c.in_ok-has_like_top-in-Types.ensures.compares)

pub push_parts-requires : goal.push_parts-requires
push_parts-requires c =
    let e = c.args.self.now in
    subst IsEven c.in-Parts.is (next_even (kinds_at e) e.below.now.object.now.bank e.above.now.object.now.bank
    (same_type (kinds_at e) (type_tree e.below.now.object.now.bank c.args.below.0) (type_tree e.above.now.object.now.bank c.args.above.0))
    (contains pair_eq c.types.seen) c.types.work.items c.pop.new.self.items c.in-Some.next c.in-Some.ensures.items c.types.invariant)

pub types-preserved : goal.types-preserved
types-preserved c =
    let e = c.args.self.now in
    let x = same_type (kinds_at e) (type_tree e.below.now.object.now.bank c.args.below.0) (type_tree e.above.now.object.now.bank c.args.above.0) in
    parted (kinds_at e) e.below.now.object.now.bank e.above.now.object.now.bank x (contains pair_eq c.types.seen) c.types.work.items
    c.pop.new.self.items c.in-Some.next c.in-Some.ensures.items c.types.invariant c.push_parts.new.work.items
    (λ h. c.in_ok-push_parts-in-Parts.ensures.same (kinds_at e) e.above.now.object.now.bank
    (subst (IsSamePair (kinds_at e) e.below.now.object.now.bank e.above.now.object.now.bank) c.in-Parts.is
    (next_same (kinds_at e) e.below.now.object.now.bank e.above.now.object.now.bank x c.types.work.items c.pop.new.self.items c.in-Some.next
    c.in-Some.ensures.items c.types.invariant.same h))
    (rest_same (kinds_at e) e.below.now.object.now.bank e.above.now.object.now.bank x c.types.work.items c.pop.new.self.items c.in-Some.next c.in-Some.ensures.items c.types.invariant.same h))
    (subst (λ p. Leads (kinds_at e) e.below.now.object.now.bank e.above.now.object.now.bank (pair_weighs e.below.now.object.now.bank p)
    (same_pair (kinds_at e) e.below.now.object.now.bank e.above.now.object.now.bank p) c.pop.new.self.items c.push_parts.new.work.items)
    (sym c.in-Parts.is)
    (c.in_ok-push_parts-in-Parts.ensures.leads (kinds_at e) e.above.now.object.now.bank))

pub returns : goal.returns
returns c =
    let e = c.args.self.now in
    ended (kinds_at e) e.below.now.object.now.bank e.above.now.object.now.bank (same_type (kinds_at e)
    (type_tree e.below.now.object.now.bank c.args.below.0) (type_tree e.above.now.object.now.bank c.args.above.0)) (contains pair_eq c.types.seen)
    c.types.work.items (nil_from_length c.types.work.items (omega (arith, c.in_default.ensures.cases.0, c.types.work.ok))) c.types.invariant

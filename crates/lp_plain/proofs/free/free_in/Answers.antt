use Rattle.std.proofs.Common.{[], ◌∷◌, ◌++◌, ◌<◌, map, ap, sym, ◌∙◌, subst, arith}
use Rattle.std.proofs.lemmas.List.{map-append, nil_from_length}
use Rattle.lp_plain.specs.inner.Looking.{weight_of_all}
use Rattle.lp_plain.specs.inner.Collecting.{piece, stands, piece_weight, has, is_marked, IsSeen, IsSought}
use Rattle.lp_plain.proofs.Looks.{numbers_off, lighter_off, lighter_parts}
use Rattle.lp_plain.proofs.Sightings.{piece_weighs, sought_first, sought_past, sought_on, sought_last, marks_after}
use Rattle.lp_plain.proofs.free.free_in.Goals as goal

pub parts-init : goal.parts-init
parts-init c = λ x.
    let b = c.args.bank.now in
    sought_first _ (stands b x) (piece_weight b) _ _ _ (c.new-walk.ensures.found x) (ap (map (piece b)) (c.in_ok-push.ensures.items ∙ ap (λ l. l ++ c.args.part ∷ []) c.new-walk.ensures.left)) c.new-walk.ensures.marks

pub parts-smaller-then-not-branch : goal.parts-smaller-then-not-branch
parts-smaller-then-not-branch c =
    let b = c.args.bank.now in
    subst (λ v. weight_of_all (piece_weight b) (map (piece b) v.items) < weight_of_all (piece_weight b) (map (piece b) c.parts.walk.left.items)) (sym c.in_ok-mark.ensures.left)
    (lighter_off (piece b) (piece_weight b) c.parts.walk.left.items c.pop.new.self.items c.in-Some.next (piece_weighs b) c.in-Some.ensures.items)

pub parts-preserved-then-not-branch : goal.parts-preserved-then-not-branch
parts-preserved-then-not-branch c = λ x.
    let b = c.args.bank.now in
    subst (λ v. IsSought (has c.mark.new.self x) (stands b x) (piece_weight b) (piece b c.args.part ∷ []) (map (piece b) v.items) (is_marked c.mark.new.self)) (sym c.in_ok-mark.ensures.left)
    (sought_past _ (stands b x) (piece_weight b) _ _ (map (piece b) c.pop.new.self.items) (piece b c.in-Some.next) (is_marked c.parts.walk) (is_marked c.mark.new.self) (numbers_off (piece b) _ _ c.in-Some.next c.in-Some.ensures.items)
    (c.in_ok-mark.ensures.marks b) (c.parts.invariant x) (has c.mark.new.self x) (c.in_ok-mark.ensures.found x) (c.in_ok-mark.ensures.met c.if-not-branch.true b))

pub parts-smaller : goal.parts-smaller
parts-smaller c =
    let b = c.args.bank.now in
    let k = c.in_ok-open.ensures in
    lighter_parts (piece b) (piece_weight b) c.parts.walk.left.items c.pop.new.self.items c.open.new.self.left.items k.parts c.in-Some.next c.in-Some.ensures.items (k.more ∙ ap (λ v. v.items ++ k.parts) c.in_ok-mark.ensures.left) k.lighter

pub parts-preserved : goal.parts-preserved
parts-preserved c = λ x.
    let b = c.args.bank.now in
    let k = c.in_ok-open.ensures in
    sought_on _ (stands b x) (piece_weight b) _ _ (map (piece b) c.pop.new.self.items) (piece b c.in-Some.next) (is_marked c.parts.walk) (is_marked c.open.new.self) (numbers_off (piece b) _ _ c.in-Some.next c.in-Some.ensures.items)
    (λ i m. c.in_ok-mark.ensures.marks b i (marks_after c.mark.new.self c.open.new.self k.marks i m)) (c.parts.invariant x) (has c.open.new.self x) (map (piece b) k.parts) _
    (subst (λ y. IsSeen y (has c.open.new.self x) (stands b x) (piece b c.in-Some.next) (map (piece b) k.parts)) (c.in_ok-mark.ensures.found x) (k.seen x)) k.lighter
    (ap (map (piece b)) (k.more ∙ ap (λ v. v.items ++ k.parts) c.in_ok-mark.ensures.left) ∙ map-append (piece b) c.pop.new.self.items k.parts)

pub returns-clause-same : goal.returns-clause-same
returns-clause-same c = λ x.
    let b = c.args.bank.now in
    c.in_ok-free.ensures.same x ∙ sought_last _ (stands b x) (piece_weight b) (piece b c.args.part) _ (is_marked c.parts.walk) (ap (map (piece b)) (nil_from_length c.parts.walk.left.items (omega (arith, c.in_default.ensures.cases.0, c.parts.walk.left.ok)))) (c.parts.invariant x)

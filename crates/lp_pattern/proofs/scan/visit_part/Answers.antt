use Rattle.std.proofs.Common.{◌+◌, ◌∷◌, ◌∙◌, sym, ap, subst as transport, arith, refl}
use Rattle.lp_term.proofs.Walking.{on_ok}
use Rattle.lp_pattern.specs.Reading.{side_of}
use Rattle.lp_pattern.specs.Refusing.{IsOfTerm}
use Rattle.lp_term.specs.Nodes.{tree}
use Rattle.lp_pattern.proofs.Falls.{unit_falls, ground_node}
use Rattle.lp_pattern.proofs.Results.{err_and, if_err}
use Rattle.lp_pattern.proofs.Walking.{reading_kept}
use Rattle.lp_pattern.proofs.Scannings.{visit_goes, visit_stops, visit_far, visits_kept}
use Rattle.lp_pattern.specs.Visiting.{IsStopped, part_of, parts_of, scan_parts}
use Rattle.lp_pattern.proofs.Grounds.{ground_read, ground_rest, ground_stopped}
use Rattle.lp_pattern.proofs.scan.visit_part.Goals as goal

pub returns-in-Some-clause-scanned : goal.returns-in-Some-clause-scanned
returns-in-Some-clause-scanned c =
    on_ok c.spend_many.result _ _
    (λ e r i h m n.
    let g = ground_read c.args.bank.now r c.args.visit.opened.level c.args.visit.opened.depth c.args.visit.term c.in-Some.ensures.0 in
    ground_rest m n (side_of c.args.side.now) (part_of c.args.bank.now r c.args.visit) (parts_of c.args.bank.now r c.args.left.now.items) g.0 c.args.found.now c.args.units.now c.spend_many.new.units
    (e ∙ ap (λ k. c.spend_many.new.units + k) (sym (g.1 ∙ c.in-Some.ensures.1))))
    c.spend_many.ensures.spent

pub returns-in-Some-clause-stopped : goal.returns-in-Some-clause-stopped
returns-in-Some-clause-stopped c =
    if_err c.spend_many.result _ _
    (λ e f r i h m n.
    let g = ground_read c.args.bank.now r c.args.visit.opened.level c.args.visit.opened.depth c.args.visit.term c.in-Some.ensures.0 in
    let few = f.1 in
    let count = g.1 ∙ c.in-Some.ensures.1 in
    transport (λ x. IsStopped m x c.args.units.now (scan_parts m n (side_of c.args.side.now) (part_of c.args.bank.now r c.args.visit ∷ parts_of c.args.bank.now r c.args.left.now.items))) (sym f.0)
    (ground_stopped m n (side_of c.args.side.now) (part_of c.args.bank.now r c.args.visit) (parts_of c.args.bank.now r c.args.left.now.items) g.0 c.args.units.now (omega (arith, few, count))))
    c.spend_many.ensures.refused

pub returns-in_err-looked-clause-stopped : goal.returns-in_err-looked-clause-stopped
returns-in_err-looked-clause-stopped c =
    err_and c.from_residual.result (λ e. IsOfTerm c.in_err-looked.field-0.0 e) _ c.from_residual.ensures.1
    (λ y o r i h m n. visit_far m n (side_of c.args.side.now) c.args.bank.now r c.args.visit c.args.left.now.items c.args.units.now c.in_err-looked.field-0.0 y o (c.in_err-looked.ensures.refused r i))

pub visit_seen-requires-clause-visit : goal.visit_seen-requires-clause-visit
visit_seen-requires-clause-visit c = (omega (arith, c.requires.visit.0, c.in_ok-looked.ensures.kept.more_terms), c.requires.visit.1)

pub visit_seen-requires-clause-left : goal.visit_seen-requires-clause-left
visit_seen-requires-clause-left c = visits_kept c.args.bank.now c.look.new.bank c.args.side.now.pair c.args.left.now.items c.in_ok-looked.ensures.kept c.requires.left

pub returns-clause-scanned : goal.returns-clause-scanned
returns-clause-scanned c =
    on_ok c.visit_seen.result _ _
    (λ f r i h m n.
    visit_goes m n (side_of c.args.side.now) c.args.bank.now c.look.new.bank r c.args.visit c.in_ok-looked.looked.whole c.args.left.now.items 1000000 c.args.side.now.pair c.args.units.now c.visit_seen.new.units c.args.found.now c.args.found.now c.visit_seen.new.found _
    c.in_ok-looked.ensures.kept c.requires.left (c.in_ok-looked.ensures.reached r i) refl refl
    (f r (reading_kept c.args.bank.now c.look.new.bank c.args.bindings.now r c.in_ok-looked.ensures.kept i) h m n))
    c.visit_seen.ensures.scanned

pub returns-clause-stopped : goal.returns-clause-stopped
returns-clause-stopped c =
    if_err c.visit_seen.result _ _
    (λ e f r i h m n.
    visit_stops m n (side_of c.args.side.now) c.args.bank.now c.look.new.bank r c.args.visit c.in_ok-looked.looked.whole c.args.left.now.items 1000000 c.args.side.now.pair c.args.units.now e c.in_ok-looked.ensures.kept
    c.requires.left (c.in_ok-looked.ensures.reached r i) (f r (reading_kept c.args.bank.now c.look.new.bank c.args.bindings.now r c.in_ok-looked.ensures.kept i) h m n))
    c.visit_seen.ensures.stopped

pub returns-in-Some-clause-fewer : goal.returns-in-Some-clause-fewer
returns-in-Some-clause-fewer c = on_ok c.spend_many.result _ _ (λ e. omega (arith, e)) c.spend_many.ensures.spent

pub returns-in-Some-clause-falls : goal.returns-in-Some-clause-falls
returns-in-Some-clause-falls c =
    let some = ground_node (tree c.args.bank.now c.args.visit.term.0) c.in-Some.ensures.0 in
    let count = c.in-Some.ensures.1 in
    on_ok c.spend_many.result _ _ (λ e. unit_falls _ _ _ _ (omega (arith, e, some, count))) c.spend_many.ensures.spent

use Rattle.std.proofs.Common.{◌≡◌, true, [], ◌∷◌, ◌++◌, ◌∙◌, sym, ap, map, None, Some, subst as transport}
use Rattle.std.specs.Prelude.{IfSome, ◌&&◌}
use Rattle.lp_model.specs.Look.{are_distinct, are_above}
use Rattle.lp_lemmas.proofs.Booleans.{and_true_left, and_true_right}
use Rattle.lp_model.specs.Scan.{fits, pattern, renewal}
use Rattle.lp_term.proofs.Trees.{extends-trans}
use Rattle.lp_pattern.specs.Reading.{side_of}
use Rattle.lp_pattern.specs.Scanning.{Binds}
use Rattle.lp_term.specs.Nodes.{tree}
use Rattle.lp_pattern.specs.Seen.{IsHead}
use Rattle.lp_pattern.specs.Stripping.{IsPattern, HasNoPattern, read_at}
use Rattle.lp_pattern.specs.Refusing.{IsOfTerm}
use Rattle.lp_pattern.proofs.GivenUp.{prune_open_far}
use Rattle.lp_pattern.proofs.Results.{err_and}
use Rattle.lp_pattern.proofs.PruneMoves.{fit_prunes, open_prunes, renew_prunes}
use Rattle.lp_pattern.proofs.prune.visit_variable.Goals as goal

pub returns-in_default-clause-prunes : goal.returns-in_default-clause-prunes
returns-in_default-clause-prunes c =
    open_prunes (side_of c.args.side.now) c.args.bank.now c.pattern_of.new.bank c.args.bindings.now c.args.next.now c.args.id c.args.level c.args.left.now.items c.args.visit c.args.looked.now c.in_ok-pattern.ensures.kept c.requires.looked
    c.requires.head
    (λ r i h m.
    transport (λ l. IsPattern m c.args.level (map (read_at c.args.bank.now r c.args.visit.opened.level c.args.visit.opened.depth) l) None) c.as_slice-arguments.ensures.value
    (transport (λ o. IsPattern m c.args.level (map (read_at c.args.bank.now r c.args.visit.opened.level c.args.visit.opened.depth) c.as_slice-arguments.result.now) o) c.in_default.is (c.in_ok-pattern.ensures.pattern r i h m)))

pub returns-then-fits-clause-prunes : goal.returns-then-fits-clause-prunes
returns-then-fits-clause-prunes c =
    fit_prunes (side_of c.args.side.now) c.args.bank.now c.pattern_of.new.bank c.args.bindings.now c.args.next.now c.args.id c.args.level c.args.left.now.items c.args.visit c.args.looked.now c.in-Some.pattern c.in_ok-pattern.ensures.kept
    c.requires.looked c.requires.head
    (λ r i h m.
    transport (λ l. IsPattern m c.args.level (map (read_at c.args.bank.now r c.args.visit.opened.level c.args.visit.opened.depth) l) (Some c.in-Some.pattern)) c.as_slice-arguments.ensures.value
    (transport (λ o. IsPattern m c.args.level (map (read_at c.args.bank.now r c.args.visit.opened.level c.args.visit.opened.depth) c.as_slice-arguments.result.now) o) c.in-Some.is (c.in_ok-pattern.ensures.pattern r i h m)))
    (ap (λ l. fits (side_of c.args.side.now) (pattern c.args.id c.args.level l)) (sym c.as_slice-eigens.ensures.value) ∙ sym c.fits.ensures ∙ c.if-fits.true)

pub returns-clause-prunes : goal.returns-clause-prunes
returns-clause-prunes c =
    let d = transport (λ o. IfSome o (λ a. (are_distinct a.eigens.items && are_above c.args.level a.eigens.items) ≡ true)) c.in-Some.is c.in_ok-pattern.ensures.distinct in
    let same = c.as_slice-eigens.ensures.value in
    renew_prunes (side_of c.args.side.now) c.args.bank.now c.renew.new.bank c.args.bindings.now c.renew.new.bindings c.args.next.now c.renew.new.next c.args.id c.args.level c.args.left.now.items c.push.new.self.items c.args.visit c.args.looked.now
    c.in-Some.pattern (extends-trans c.args.bank.now c.pattern_of.new.bank c.renew.new.bank c.in_ok-pattern.ensures.kept c.in_ok-renew.ensures.kept) c.requires.looked c.requires.head
    (λ r i h m.
    transport (λ l. IsPattern m c.args.level (map (read_at c.args.bank.now r c.args.visit.opened.level c.args.visit.opened.depth) l) (Some c.in-Some.pattern)) c.as_slice-arguments.ensures.value
    (transport (λ o. IsPattern m c.args.level (map (read_at c.args.bank.now r c.args.visit.opened.level c.args.visit.opened.depth) c.as_slice-arguments.result.now) o) c.in-Some.is (c.in_ok-pattern.ensures.pattern r i h m)))
    (ap (λ l. fits (side_of c.args.side.now) (pattern c.args.id c.args.level l)) (sym same) ∙ sym c.fits.ensures ∙ c.if-fits.false) c.in_ok-renew.ensures.next
    (transport (λ l. Binds c.renew.new.bank c.args.bindings.now c.renew.new.bindings c.args.id (renewal (side_of c.args.side.now) c.args.next.now (pattern c.args.id c.args.level l)).value) same
    (c.in_ok-renew.ensures.bound (ap are_distinct same ∙ and_true_left (are_distinct c.in-Some.pattern.eigens.items) (are_above c.args.level c.in-Some.pattern.eigens.items) d)
    (ap (are_above c.args.level) same ∙ and_true_right (are_distinct c.in-Some.pattern.eigens.items) (are_above c.args.level c.in-Some.pattern.eigens.items) d)))
    c.in_ok-renew.ensures.types (c.in_ok-push.ensures.items ∙ ap (λ v. c.args.left.now.items ++ v ∷ []) c.at.ensures)

pub returns-in_err-pattern-clause-refused : goal.returns-in_err-pattern-clause-refused
returns-in_err-pattern-clause-refused c =
    err_and c.from_residual.result (λ e. IsOfTerm c.in_err-pattern.field-0.0 e) _ c.from_residual.ensures.1
    (λ y i l o most term q.
    prune_open_far (side_of c.args.side.now) o most c.args.bank.now c.args.bindings.now c.args.next.now term c.args.left.now.items c.args.visit c.args.looked.now c.args.id c.args.level q c.in_err-pattern.field-0.0 y c.requires.looked c.requires.head i
    (λ r j h m k. transport (λ z. HasNoPattern m c.args.level (map (read_at c.args.bank.now r c.args.visit.opened.level c.args.visit.opened.depth) z) c.in_err-pattern.field-0.0) c.as_slice-arguments.ensures.value (c.in_err-pattern.ensures.refused r j h m k)))

pub renew-requires : goal.renew-requires
renew-requires c = (transport (λ y. IsHead c.args.bank.now c.args.bindings.now y (tree c.args.bank.now c.args.looked.now.top.0) c.args.looked.now.arguments.items) c.requires.head c.requires.looked.head).1

use Rattle.std.proofs.Common.{◌≡◌, [], length, rules, sym, ap, ◌∙◌, subst}
use Rattle.lp_term.proofs.Moves.{nothing}
use Rattle.lp_model.specs.Unify.{solve}
use Rattle.lp_pattern.specs.Reading.{type_pairs_of}
use Rattle.lp_pattern.specs.Turning.{ArePairsFor}
use Rattle.lp_pattern.specs.Unifying.{IsRefusedAs}
use Rattle.lp_plain.proofs.Equating.{no_pairs, nothing_unified}
use Rattle.lp_plain.proofs.unified.unify.Goals as goal

no_types : (c : goal.Then-is_empty-2) → length c.args.types.now ≡ 0
no_types c = search rules

none_given : (c : goal.Then-is_empty-2) → length c.args.pairs.now ≡ 0
none_given c = search rules

pub returns-then-is_empty-2-clause-unified : goal.returns-then-is_empty-2-clause-unified
returns-then-is_empty-2-clause-unified c = λ z r lv ps ds p d kp kd n u e.
    let m = c.args.machine.now in
    let t : c.args.types.now ≡ [] = nothing c.args.types.now (no_types c) in
    let q : ps ≡ [] = no_pairs m z ps (subst (λ xs. ArePairsFor m.bank z xs ps) (nothing c.args.pairs.now (none_given c)) p) in
    nothing_unified m z r lv ds d kd n u
    (ap (λ ts. solve n 1000000 (type_pairs_of m.bank z.types ts) [] ds m.branch.next) (sym t) ∙ ap
    (λ xs. solve n 1000000 (type_pairs_of m.bank z.types c.args.types.now) xs ds m.branch.next) (sym q) ∙ e)

pub returns-in-Err-Fails-clause-unified : goal.returns-in-Err-Fails-clause-unified
returns-in-Err-Fails-clause-unified c = λ z r lv ps ds p d kp kd n u e.
    subst (λ x. IsRefusedAs x n u) c.in-Err-Fails.field-0-is
    (c.in-Err-Fails.ensures.refused z r lv ps ds p (subst (λ xs. ArePairsFor c.args.machine.now.bank z xs ds) (sym c.as_slice.ensures.value) d) kp kd n u e)

pub returns-in-Err-Deep-clause-unified : goal.returns-in-Err-Deep-clause-unified
returns-in-Err-Deep-clause-unified c = λ z r lv ps ds p d kp kd n u e.
    subst (λ x. IsRefusedAs x n u) c.in-Err-Deep.field-0-is
    (c.in-Err-Deep.ensures.refused z r lv ps ds p (subst (λ xs. ArePairsFor c.args.machine.now.bank z xs ds) (sym c.as_slice.ensures.value) d) kp kd n u e)

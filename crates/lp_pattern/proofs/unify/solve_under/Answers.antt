use Rattle.std.proofs.Common.{◌∙◌, ap, sym, subst as transport}
use Rattle.lp_model.specs.Unify.{solve}
use Rattle.lp_pattern.proofs.Walking.{open_kept}
use Rattle.lp_pattern.specs.Inside.{ArePairsInPlaceOf, AreTypePairsInPlaceOf}
use Rattle.lp_pattern.proofs.InPlace.{pairs_for}
use Rattle.lp_pattern.proofs.Results.{if_ok, if_err}
use Rattle.lp_pattern.proofs.unify.solve_under.Goals as goal

pub solve_inside-requires-2-clause-types : goal.solve_inside-requires-2-clause-types
solve_inside-requires-2-clause-types c =
    (transport (AreTypePairsInPlaceOf c.args.bank.now c.inside.new.bank c.args.types.now) (sym c.as_slice-types.ensures.value) c.in_ok-input.ensures.types).within

pub solve_inside-requires-2-clause-pairs : goal.solve_inside-requires-2-clause-pairs
solve_inside-requires-2-clause-pairs c =
    (transport (ArePairsInPlaceOf c.args.bank.now c.inside.new.bank c.args.pairs.now) (sym c.as_slice-pairs.ensures.value) c.in_ok-input.ensures.pairs).within

pub solve_inside-requires-2-clause-delayed : goal.solve_inside-requires-2-clause-delayed
solve_inside-requires-2-clause-delayed c =
    (transport (ArePairsInPlaceOf c.args.bank.now c.inside.new.bank c.args.delayed.now) (sym c.as_slice-delayed.ensures.value) c.in_ok-input.ensures.delayed).within

pub returns-clause-solved : goal.returns-clause-solved
returns-clause-solved c =
    let a = c.args.bank.now in
    let b = c.inside.new.bank in
    let types = transport (AreTypePairsInPlaceOf a b c.args.types.now) (sym c.as_slice-types.ensures.value) c.in_ok-input.ensures.types in
    let pairs = transport (ArePairsInPlaceOf a b c.args.pairs.now) (sym c.as_slice-pairs.ensures.value) c.in_ok-input.ensures.pairs in
    let delayed = transport (ArePairsInPlaceOf a b c.args.delayed.now) (sym c.as_slice-delayed.ensures.value) c.in_ok-input.ensures.delayed in
    if_ok c.solve_inside-2.result _ _
    (λ left f r i lv ps ds p q k m n u h.
    f r (open_kept a b c.args.bindings.now c.args.next.now r c.in_ok-input.ensures.kept i) lv ps ds (pairs_for a b r c.args.pairs.now c.as_slice-pairs.result.now ps pairs.trees p)
    (pairs_for a b r c.args.delayed.now c.as_slice-delayed.result.now ds delayed.trees q) k m n u (ap (λ ts. solve n c.args.limit ts ps ds c.args.next.now) (types.trees r.types) ∙ h))
    c.solve_inside-2.ensures.solved

pub returns-clause-refused : goal.returns-clause-refused
returns-clause-refused c =
    let a = c.args.bank.now in
    let b = c.inside.new.bank in
    let types = transport (AreTypePairsInPlaceOf a b c.args.types.now) (sym c.as_slice-types.ensures.value) c.in_ok-input.ensures.types in
    let pairs = transport (ArePairsInPlaceOf a b c.args.pairs.now) (sym c.as_slice-pairs.ensures.value) c.in_ok-input.ensures.pairs in
    let delayed = transport (ArePairsInPlaceOf a b c.args.delayed.now) (sym c.as_slice-delayed.ensures.value) c.in_ok-input.ensures.delayed in
    if_err c.solve_inside-2.result _ _
    (λ e f r i lv ps ds p q k m n u h.
    f r (open_kept a b c.args.bindings.now c.args.next.now r c.in_ok-input.ensures.kept i) lv ps ds (pairs_for a b r c.args.pairs.now c.as_slice-pairs.result.now ps pairs.trees p)
    (pairs_for a b r c.args.delayed.now c.as_slice-delayed.result.now ds delayed.trees q) k m n u (ap (λ ts. solve n c.args.limit ts ps ds c.args.next.now) (types.trees r.types) ∙ h))
    c.solve_inside-2.ensures.refused

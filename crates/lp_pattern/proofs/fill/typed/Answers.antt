use Rattle.std.proofs.Common.{◌≡◌, ◌∙◌, sym, ap, map, subst as transport}
use Rattle.std.proofs.lemmas.Bool.{eqb-true}
use Rattle.std.proofs.lemmas.List.{map-id}
use Rattle.std.proofs.lemmas.Iterator.{YieldsList-from_slice}
use Rattle.std.proofs.lemmas.Iterator.Consumers.{YieldsList-end, YieldsList-from_copied}
use Rattle.lp_calculus.specs.Term.{atom, constant}
use Rattle.lp_calculus.specs.Types.{instance}
use Rattle.lp_term.specs.Nodes.{type_tree}
use Rattle.lp_term.proofs.Within.{kept_then}
use Rattle.lp_term.proofs.Rebuilding.{same_types}
use Rattle.lp_term.specs.Within.{AreTypesOf}
use Rattle.lp_pattern.proofs.FilledTerms.{one_type_more, constant_made, constant_stays, terms_later}
use Rattle.lp_pattern.proofs.Walking.{types_kept}
use Rattle.lp_pattern.proofs.fill.typed.Goals as goal

pub loop-of-preserved : goal.loop-of-preserved
loop-of-preserved c =
    let a = c.args.bank.now in
    let b = c.loop-of.bank in (
      kept_then a b c.filled_in.new.bank c.loop-of.invariant.0 c.in_ok-new.ensures.kept,
      λ d R k F.
          one_type_more a b c.filled_in.new.bank c.args.bindings.now d c.loop-of.yielded c.loop-of.made.items c.push.new.self.items c.in-Some.of c.in_ok-new.new c.loop-of.done c.filled_in.new.done c.loop-of.invariant.0
          c.in_ok-new.ensures.kept (types_kept a b c.args.bindings.now d.types c.loop-of.invariant.0 R.types) k (λ j. c.loop-of.invariant.1 d R j F) c.in_ok-push.ensures.items (c.in_ok-new.ensures.filled d.types),
      c.loop-of.invariant.2,
    )

pub returns-then-eq-clause-made : goal.returns-then-eq-clause-made
returns-then-eq-clause-made c =
    let a = c.args.bank.now in
    let b = c.loop-of.bank in
    let whole : c.loop-of.yielded ≡ c.args.types.now =
    sym (map-id c.loop-of.yielded) ∙
    (YieldsList-end (YieldsList-from_copied (YieldsList-from_slice c.args.types.now cc)) c.loop-of.yielded _ c.loop-of.yielded_by _ _ c.in-None.is c.next.ensures.steps).0 in
    λ d R h F k e.
    let w = c.loop-of.invariant.1 d R (transport (AreTypesOf a) (sym whole) k) F in (
      w.0,
      constant_stays a b d c.args.number c.args.id c.args.types.now c.loop-of.made.items c.loop-of.invariant.0 c.requires k e (w.2 ∙ ap (map (λ t. instance d.types (type_tree a t.0))) whole)
          (ap (map (λ t. t.0)) (sym c.as_slice.ensures.value) ∙ same_types _ (λ x y e. eqb-true x.0 y.0 e) c.as_slice.result.now c.args.types.now (sym c.eq.ensures ∙ c.if-eq.true)),
    )

pub returns-clause-made : goal.returns-clause-made
returns-clause-made c =
    let a = c.args.bank.now in
    let b = c.loop-of.bank in
    let whole : c.loop-of.yielded ≡ c.args.types.now =
    sym (map-id c.loop-of.yielded) ∙
    (YieldsList-end (YieldsList-from_copied (YieldsList-from_slice c.args.types.now cc)) c.loop-of.yielded _ c.loop-of.yielded_by _ _ c.in-None.is c.next.ensures.steps).0 in
    λ d R h F k e.
    let w = c.loop-of.invariant.1 d R (transport (AreTypesOf a) (sym whole) k) F in (
      terms_later b c.put_constant.new.bank d c.loop-of.done c.in_ok-new-2.ensures.kept w.0,
      constant_made a b c.put_constant.new.bank d c.args.number c.args.id c.in_ok-new-2.new c.args.types.now c.loop-of.made.items e (w.2 ∙ ap (map (λ t. instance d.types (type_tree a t.0))) whole) c.in_ok-new-2.ensures.within
          (c.in_ok-new-2.ensures.tree ∙ ap (λ l. atom (constant c.args.number (map (λ t. type_tree b t.0) l))) c.as_slice-2.ensures.value),
    )

use Rattle.std.proofs.Common.{◌∙◌, ◌<◌, ap, sym, arith, length, subst as transport}
use Rattle.std.specs.Prelude.{All}
use Rattle.std.proofs.lemmas.List.Elements.{All-nil}
use Rattle.lp_lemmas.proofs.Elements.{All_front, All_popped}
use Rattle.lp_term.proofs.Moves.{nothing}
use Rattle.lp_pattern.specs.inner.Making.{types_left}
use Rattle.lp_pattern.proofs.Making.{type_further_falls}
use Rattle.lp_term.proofs.Trees.{extends_same}
use Rattle.lp_calculus.specs.Types.{instance}
use Rattle.lp_term.proofs.Within.{kept_then}
use Rattle.lp_pattern.specs.Comparing.{IsLoose}
use Rattle.lp_pattern.proofs.Walking.{types_kept}
use Rattle.lp_pattern.proofs.FilledTypes.{some_given, all_later}
use Rattle.lp_pattern.proofs.SameTypes.{unbound_loose}
use Rattle.lp_pattern.proofs.fill_types.filled_in.Goals as goal

pub returns-then-is_leaf-clause-filled : goal.returns-then-is_leaf-clause-filled
returns-then-is_leaf-clause-filled c = λ θ A F.
    let b = c.inside_type.new.self in
    let later = types_kept c.args.bank.now b c.args.bindings.now θ c.in_ok-inside.ensures.kept A in (
      all_later c.args.bank.now b θ c.args.done.now c.in_ok-inside.ensures.kept F,
      c.in_ok-root.ensures.within c.in_ok-inside.ensures.within,
      sym (c.is_leaf.ensures c.if-is_leaf.true θ (unbound_loose b c.args.bindings.now θ c.in_ok-root.root later (c.in_ok-root.ensures.unbound θ later))) ∙ c.in_ok-root.ensures.same θ later ∙
          ap (instance θ) c.in_ok-inside.ensures.tree,
    )

pub types-init : goal.types-init
types-init c = record {
  kept = c.in_ok-inside.ensures.kept;
  later = extends_same c.inside_type.new.self;
  inside = transport (All (λ t. t.0 < length c.inside_type.new.self.types)) (sym c.new-left.ensures.items) (All-nil (λ t. t.0 < length c.inside_type.new.self.types));
  filled = λ θ A F. all_later c.args.bank.now c.inside_type.new.self θ c.args.done.now c.in_ok-inside.ensures.kept F;
}

pub types-preserved : goal.types-preserved
types-preserved c = record {
  kept = kept_then c.args.bank.now c.types.bank c.step.new.bank c.types.invariant.kept c.in_ok-step.ensures.kept;
  later = kept_then c.inside_type.new.self c.types.bank c.step.new.bank c.types.invariant.later c.in_ok-step.ensures.kept;
  inside = c.in_ok-step.ensures.inside;
  filled = λ θ A F. c.in_ok-step.ensures.filled θ (types_kept c.args.bank.now c.types.bank c.args.bindings.now θ c.types.invariant.kept A) (c.types.invariant.filled θ A F);
}

pub types-preserved-in_default-2 : goal.types-preserved-in_default-2
types-preserved-in_default-2 c = record {
  kept = kept_then c.args.bank.now c.types.bank c.made_of.new.bank c.types.invariant.kept c.in_ok-of.ensures.kept;
  later = kept_then c.inside_type.new.self c.types.bank c.made_of.new.bank c.types.invariant.later c.in_ok-of.ensures.kept;
  inside =
      c.in_ok-of.ensures.inside
      (All_front (λ t. t.0 < length c.types.bank.types) c.pop.new.self.items _ (transport (All (λ t. t.0 < length c.types.bank.types)) c.in_default.ensures.items c.types.invariant.inside));
  filled = λ θ A F. all_later c.types.bank c.made_of.new.bank θ c.types.done c.in_ok-of.ensures.kept (c.types.invariant.filled θ A F);
}

pub made_of-requires : goal.made_of-requires
made_of-requires c = omega (arith, c.in_ok-root.ensures.within c.in_ok-inside.ensures.within, c.types.invariant.later.more_types)

pub returns-in_default-clause-filled : goal.returns-in_default-clause-filled
returns-in_default-clause-filled c = λ θ A F.
    let a = c.args.bank.now in
    let b = c.inside_type.new.self in
    let d = c.types.bank in
    let memo = c.types.invariant.filled θ A F in
    let stands = c.in_ok-root.ensures.within c.in_ok-inside.ensures.within in
    let at_b = types_kept a b c.args.bindings.now θ c.in_ok-inside.ensures.kept A in
    let still = c.types.invariant.later.same_types c.in_ok-root.root.0 stands in
    let loose = transport (IsLoose θ) (sym still) (unbound_loose b c.args.bindings.now θ c.in_ok-root.root at_b (c.in_ok-root.ensures.unbound θ at_b)) in
    let same = c.in_ok-root.ensures.same θ at_b ∙ ap (instance θ) c.in_ok-inside.ensures.tree in (
      all_later d c.made_of.new.bank θ c.types.done c.in_ok-of.ensures.kept memo,
      some_given _ _ _ c.in-Some-2.is c.in_ok-of.ensures.within,
      some_given _ _ _ c.in-Some-2.is c.in_ok-of.ensures.made θ memo loose ∙ ap (instance θ) still ∙ same,
    )

pub step-requires : goal.step-requires
step-requires c =
    let w = All_popped (λ t. t.0 < length c.types.bank.types) c.types.left.items c.pop.new.self.items c.in-Some.top c.in-Some.ensures.items c.types.invariant.inside in
    record { top = w.1; inside = w.0 }

pub types-smaller : goal.types-smaller
types-smaller c = transport (λ l. types_left c.step.new.done c.step.new.left.items < types_left c.types.done l) (sym c.in-Some.ensures.items) c.in_ok-step.ensures.falls

pub types-smaller-in_default-2 : goal.types-smaller-in_default-2
types-smaller-in_default-2 c =
    let e = nothing c.pop.new.self.items (omega (arith, c.in_default.ensures.cases.1, c.pop.new.self.ok)) ∙ sym (nothing c.types.left.items (omega (arith, c.in_default.ensures.cases.0, c.types.left.ok))) in
    transport (λ l. types_left c.types.done c.made_of.new.left.items < types_left c.types.done l) e
    (type_further_falls c.types.done c.pop.new.self.items c.made_of.new.left.items _ c.in_default-2.is c.in_ok-of.ensures.further (omega (arith, c.made_of.new.left.ok, c.made_of.new.left.small)))

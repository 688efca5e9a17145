use Rattle.std.proofs.Common.{◌≡◌, ◌<◌, ◌∷◌, [], ◌∙◌, ap, arith, map, refl, sym, subst as transport, true, false}
use Rattle.std.specs.Prelude.{All}
use Rattle.std.proofs.lemmas.List.{map-id}
use Rattle.std.proofs.lemmas.Iterator.{YieldsList-from_slice}
use Rattle.std.proofs.lemmas.Iterator.Consumers.{YieldsList-end, YieldsList-from_copied}
use Rattle.lp_lemmas.proofs.Elements.{All_front, All_popped, All_pushed}
use Rattle.lp_term.specs.Nodes.{type_tree}
use Rattle.lp_pattern.specs.Filling.{HaveBecome}
use Rattle.lp_pattern.specs.inner.Making.{type_made}
use Rattle.lp_pattern.proofs.Becoming.{types_one_more}
use Rattle.lp_pattern.proofs.Making.{part_pushed, parts_missing, parts_whole}
use Rattle.lp_pattern.proofs.fill_types.known_parts.Goals as goal

pub loop-part-init : goal.loop-part-init
loop-part-init c = record {
  become = λ e b θ F. ap (map (λ t. type_tree b t.0)) c.new-made.ensures.items;
  within = λ n y h. h;
  further = omega arith;
}

pub loop-part-preserved : goal.loop-part-preserved
loop-part-preserved c = record {
  become = λ e b θ F.
      types_one_more b θ c.args.done.now c.loop-part.yielded c.loop-part.made.items c.push-in-loop-part.new.self.items c.in-Some.part c.in-Some-at.known c.at.result c.in_ok-push-2.ensures.items c.at.ensures c.in-Some-at.is F
      (c.loop-part.invariant.become e b θ F);
  within = λ n y h. c.loop-part.invariant.within n (All_front (λ t. t.0 < n) c.loop-part.yielded (c.in-Some.part ∷ []) y) h;
  further = c.loop-part.invariant.further;
}

pub loop-part-preserved-in_default : goal.loop-part-preserved-in_default
loop-part-preserved-in_default c = record {
  become = λ e b θ F. absurd (let z : false ≡ true = e in cc);
  within = λ n y h.
      let w = All_popped (λ t. t.0 < n) _ c.loop-part.yielded c.in-Some.part refl y in
      All_pushed (λ t. t.0 < n) c.push.new.self.items c.loop-part.left.items c.in-Some.part c.in_ok-push.ensures.items (c.loop-part.invariant.within n w.0 h) w.1;
  further = part_pushed (type_made c.args.done.now) _ c.loop-part.is_whole c.loop-part.left.items c.push.new.self.items c.in-Some.part c.at.result c.in_ok-push.ensures.items c.at.ensures c.in_default.is c.loop-part.invariant.further;
}

pub returns-then-is_whole-clause-made : goal.returns-then-is_whole-clause-made
returns-then-is_whole-clause-made c =
    let whole : c.loop-part.yielded ≡ c.args.parts.now =
    sym (map-id c.loop-part.yielded) ∙
    (YieldsList-end (YieldsList-from_copied (YieldsList-from_slice c.args.parts.now cc)) c.loop-part.yielded _ c.loop-part.yielded_by _ _ c.in-None.is c.next.ensures.steps).0 in
    λ b θ F. transport (λ l. HaveBecome b θ l c.loop-part.made.items) whole (c.loop-part.invariant.become c.if-is_whole.true b θ F)

pub returns-then-is_whole-clause-within : goal.returns-then-is_whole-clause-within
returns-then-is_whole-clause-within c =
    let whole : c.loop-part.yielded ≡ c.args.parts.now =
    sym (map-id c.loop-part.yielded) ∙
    (YieldsList-end (YieldsList-from_copied (YieldsList-from_slice c.args.parts.now cc)) c.loop-part.yielded _ c.loop-part.yielded_by _ _ c.in-None.is c.next.ensures.steps).0 in
    λ n y h. c.loop-part.invariant.within n (transport (All (λ t. t.0 < n)) (sym whole) y) h

pub returns-then-is_whole-clause-further : goal.returns-then-is_whole-clause-further
returns-then-is_whole-clause-further c = parts_whole (type_made c.args.done.now) _ c.loop-part.is_whole c.loop-part.left.items c.if-is_whole.true c.loop-part.invariant.further

pub returns-clause-within : goal.returns-clause-within
returns-clause-within c =
    let whole : c.loop-part.yielded ≡ c.args.parts.now =
    sym (map-id c.loop-part.yielded) ∙
    (YieldsList-end (YieldsList-from_copied (YieldsList-from_slice c.args.parts.now cc)) c.loop-part.yielded _ c.loop-part.yielded_by _ _ c.in-None.is c.next.ensures.steps).0 in
    λ n y h. c.loop-part.invariant.within n (transport (All (λ t. t.0 < n)) (sym whole) y) h

pub returns-clause-further : goal.returns-clause-further
returns-clause-further c = parts_missing (type_made c.args.done.now) _ c.loop-part.is_whole c.loop-part.left.items c.if-is_whole.false c.loop-part.invariant.further

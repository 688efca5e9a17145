use Rattle.std.proofs.Common.{◌∙◌, ◌<◌, ◌++◌, ◌∷◌, [], arith, length, refl, subst as transport}
use Rattle.lp_term.proofs.Walking.{on_ok}
use Rattle.lp_lemmas.proofs.Elements.{All_pushed}
use Rattle.lp_lemmas.proofs.Results.{on_ok_always}
use Rattle.lp_pattern.specs.inner.Making.{types_left}
use Rattle.lp_pattern.proofs.FilledTypes.{one_noted, some_given, all_later}
use Rattle.lp_pattern.proofs.Making.{type_shorter_falls, type_further_falls, type_noted_falls}
use Rattle.lp_pattern.proofs.SameTypes.{unbound_loose}
use Rattle.lp_pattern.proofs.fill_types.step.Goals as goal

pub returns-clause-filled : goal.returns-clause-filled
returns-clause-filled c =
    let b = c.args.bank.now in
    on_ok c.note.result _ _
    (λ n θ A F.
    one_noted b c.made_of.new.bank θ c.args.done.now c.note.new.self c.args.id c.in-Some.new c.in_ok-new.ensures.kept F n c.requires.top
    (some_given _ _ _ c.in-Some.is c.in_ok-new.ensures.within)
    (some_given _ _ _ c.in-Some.is c.in_ok-new.ensures.made θ F (unbound_loose b c.args.bindings.now θ c.in_ok-top.top A (c.in_ok-top.ensures.unbound θ A)) ∙ c.in_ok-top.ensures.same θ A))
    c.note.ensures.types

pub returns-in_default-clause-filled : goal.returns-in_default-clause-filled
returns-in_default-clause-filled c = λ θ A F. all_later c.args.bank.now c.made_of.new.bank θ c.args.done.now c.in_ok-new.ensures.kept F

pub made_of-requires : goal.made_of-requires
made_of-requires c = c.in_ok-top.ensures.within c.requires.top

pub returns-then-is_known-clause-falls : goal.returns-then-is_known-clause-falls
returns-then-is_known-clause-falls c = type_shorter_falls c.args.done.now c.args.left.now.items (c.args.left.now.items ++ c.args.id ∷ []) c.args.id refl (c.is_known.ensures.known c.if-is_known.true)

pub returns-in_default-clause-falls : goal.returns-in_default-clause-falls
returns-in_default-clause-falls c =
    transport (λ l. types_left c.args.done.now c.made_of.new.left.items < types_left c.args.done.now l) c.in_ok-push.ensures.items
    (type_further_falls c.args.done.now c.push.new.self.items c.made_of.new.left.items _ c.in_default.is c.in_ok-new.ensures.further (omega (arith, c.made_of.new.left.ok, c.made_of.new.left.small)))

pub returns-clause-falls : goal.returns-clause-falls
returns-clause-falls c =
    let d = c.args.done.now in
    on_ok c.note.result _ _
    (λ a.
    transport (λ l. types_left c.note.new.self c.made_of.new.left.items < types_left d l) c.in_ok-push.ensures.items
    (type_noted_falls d c.note.new.self c.push.new.self.items c.made_of.new.left.items c.args.id c.in-Some.new (c.is_known.ensures.new c.if-is_known.false) a c.count-count.ensures.few
    (omega (arith, c.push.new.self.ok, c.push.new.self.small)) (omega (arith, c.made_of.new.left.ok, c.made_of.new.left.small))))
    c.note.ensures.added

pub returns-in_default-clause-inside : goal.returns-in_default-clause-inside
returns-in_default-clause-inside c =
    c.in_ok-new.ensures.inside (All_pushed (λ t. t.0 < length c.args.bank.now.types) c.push.new.self.items c.args.left.now.items c.args.id c.in_ok-push.ensures.items c.requires.inside c.requires.top)

pub returns-clause-inside : goal.returns-clause-inside
returns-clause-inside c =
    on_ok_always c.note.result _
    (c.in_ok-new.ensures.inside (All_pushed (λ t. t.0 < length c.args.bank.now.types) c.push.new.self.items c.args.left.now.items c.args.id c.in_ok-push.ensures.items c.requires.inside c.requires.top))

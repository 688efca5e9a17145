use Rattle.lp_term.proofs.Walking.{on_ok}
use Rattle.lp_pattern.proofs.FilledTypes.{some_given}
use Rattle.lp_pattern.proofs.FilledTerms.{term_noted}
use Rattle.std.proofs.Common.{◌∙◌, ◌<◌, ◌++◌, ◌∷◌, [], arith, ap, refl, length, nat_eq, subst as transport}
use Rattle.indexmap.specs.IndexMap.{get}
use Rattle.lp_lemmas.proofs.Elements.{All_pushed}
use Rattle.lp_lemmas.proofs.Results.{on_ok_always}
use Rattle.lp_pattern.specs.inner.Making.{terms_left}
use Rattle.lp_pattern.proofs.Making.{shorter_falls, further_falls, noted_falls, same_left}
use Rattle.lp_pattern.proofs.fill.step.Goals as goal

pub returns-in_default-clause-filled : goal.returns-in_default-clause-filled
returns-in_default-clause-filled c = λ d R h F.
    c.in_ok-made.ensures.filled d R h F

pub returns-clause-filled : goal.returns-clause-filled
returns-clause-filled c =
    let b = c.args.bank.now in
    on_ok c.note.result _ _
    (λ n d R h F.
    term_noted b c.made_of.new.bank d c.made_of.new.done c.note.new.self c.args.id c.in-Some.made c.in_ok-made.ensures.kept (c.in_ok-made.ensures.filled d R h F) c.note.ensures.types n c.requires.top
    (some_given _ _ _ c.in-Some.is c.in_ok-made.ensures.made d R h F))
    c.note.ensures.terms

pub returns-then-is_known-clause-falls : goal.returns-then-is_known-clause-falls
returns-then-is_known-clause-falls c = shorter_falls c.args.done.now c.args.left.now.items (c.args.left.now.items ++ c.args.id ∷ []) c.args.id refl (c.is_known.ensures.known c.if-is_known.true)

pub returns-in_default-clause-falls : goal.returns-in_default-clause-falls
returns-in_default-clause-falls c =
    transport (λ l. terms_left c.made_of.new.done c.made_of.new.left.items < terms_left c.args.done.now l) c.in_ok-push.ensures.items
    (further_falls c.args.done.now c.made_of.new.done c.push.new.self.items c.made_of.new.left.items _ c.in_ok-made.ensures.terms c.in_default.is c.in_ok-made.ensures.further (omega (arith, c.made_of.new.left.ok, c.made_of.new.left.small)))

pub returns-clause-falls : goal.returns-clause-falls
returns-clause-falls c =
    let d = c.args.done.now in
    let e = c.made_of.new.done in
    let q = c.in_ok-made.ensures.terms in
    on_ok c.note.result _ _
    (λ a.
    transport (λ l. terms_left c.note.new.self c.made_of.new.left.items < terms_left d l) c.in_ok-push.ensures.items
    (transport (λ n. terms_left c.note.new.self c.made_of.new.left.items < n) (same_left d e c.push.new.self.items q)
    (noted_falls e c.note.new.self c.push.new.self.items c.made_of.new.left.items c.args.id c.in-Some.made (ap (λ m. get nat_eq m c.args.id.0) q ∙ c.is_known.ensures.new c.if-is_known.false) a
    (omega (arith, c.count-count.ensures.few, ap (λ m. length m.entries) q)) (omega (arith, c.push.new.self.ok, c.push.new.self.small)) (omega (arith, c.made_of.new.left.ok, c.made_of.new.left.small)))))
    c.note.ensures.added

pub returns-in_default-clause-within : goal.returns-in_default-clause-within
returns-in_default-clause-within c =
    c.in_ok-made.ensures.within (All_pushed (λ t. t.0 < length c.args.bank.now.terms) c.push.new.self.items c.args.left.now.items c.args.id c.in_ok-push.ensures.items c.requires.within c.requires.top)

pub returns-clause-within : goal.returns-clause-within
returns-clause-within c =
    on_ok_always c.note.result _
    (c.in_ok-made.ensures.within (All_pushed (λ t. t.0 < length c.args.bank.now.terms) c.push.new.self.items c.args.left.now.items c.args.id c.in_ok-push.ensures.items c.requires.within c.requires.top))

pub made_of-requires : goal.made_of-requires
made_of-requires c = c.requires.top

use Rattle.std.proofs.Common.{◌≡◌, ◌∷◌, ◌++◌, [], length, sym, subst, refl, ap, arith, ◌∙◌, Some}
use Rattle.std.proofs.lemmas.Result.{on_ok_weaker}
use Rattle.lp_lemmas.proofs.Results.{on_ok_always}
use Rattle.lp_sig.specs.Said.{a_kind, an_abbreviation, each, said_by}
use Rattle.lp_sig.proofs.Spoken.{no_names, its_names}
use Rattle.lp_sig.specs.Types.{definitions_by}
use Rattle.lp_sig.specs.Announced.{AreAnnounced}
use Rattle.lp_sig.proofs.Abbreviating.{is_quiet, names_quiet}
use Rattle.lp_sig.proofs.Announcing.{quiet_line, abbreviation_announced, none_announced}
use Rattle.lp_sig.proofs.making.Making.announce_line.Goals as goal

pub returns-in-Kinds-clause-names : goal.returns-in-Kinds-clause-names
returns-in-Kinds-clause-names c = on_ok_weaker c.announce_kinds.result (λ h said k. its_names c.announce_kinds.new.self c.args.source.now
    c.args.declaration.now _ _ c.in-Kinds.is (ap (each c.args.source.now (a_kind c.in-Kinds.arity)) c.as_slice.ensures.value) said (h said k))
    c.announce_kinds.ensures

pub returns-in-Constants-clause-names : goal.returns-in-Constants-clause-names
returns-in-Constants-clause-names c = no_names c.args.self.now.names c.args.source.now c.args.declaration.now _ c.in-Constants.is refl

pub returns-in-Locals-clause-names : goal.returns-in-Locals-clause-names
returns-in-Locals-clause-names c = no_names c.args.self.now.names c.args.source.now c.args.declaration.now _ c.in-Locals.is refl

pub returns-in-Accumulate-clause-names : goal.returns-in-Accumulate-clause-names
returns-in-Accumulate-clause-names c = no_names c.args.self.now.names c.args.source.now c.args.declaration.now _ c.in-Accumulate.is refl

pub returns-in-AccumSig-clause-names : goal.returns-in-AccumSig-clause-names
returns-in-AccumSig-clause-names c = no_names c.args.self.now.names c.args.source.now c.args.declaration.now _ c.in-AccumSig.is refl

pub returns-in-Fixities-clause-names : goal.returns-in-Fixities-clause-names
returns-in-Fixities-clause-names c = no_names c.args.self.now.names c.args.source.now c.args.declaration.now _ c.in-Fixities.is refl

pub returns-in-Abbreviation-clause-names : goal.returns-in-Abbreviation-clause-names
returns-in-Abbreviation-clause-names c =
    let ps = c.in-Abbreviation.parameters in
    let n : c.len.result ≡ length ps.items = omega (arith, c.len.ensures, ps.ok) in
    on_ok_weaker c.announce_abbreviation.result (λ h said k. its_names c.announce_abbreviation.new.self.names c.args.source.now c.args.declaration.now
    _ _ c.in-Abbreviation.is (ap (λ n. each c.args.source.now (an_abbreviation n) (c.in-Abbreviation.name ∷ [])) n) said (h said k))
    c.announce_abbreviation.ensures.names

pub returns-in-Kinds-clause-bodies : goal.returns-in-Kinds-clause-bodies
returns-in-Kinds-clause-bodies c = on_ok_always c.announce_kinds.result _ (λ said defs declared k there known.
    quiet_line c.args.self.now.bodies.types.bank c.args.self.now.bodies.bodies.items said defs c.args.source.now declared known c.args.declaration.now (ap is_quiet c.in-Kinds.is) (ap (definitions_by c.args.source.now) c.in-Kinds.is))

pub returns-in-Some-clause-bodies : goal.returns-in-Some-clause-bodies
returns-in-Some-clause-bodies c = on_ok_always c.announce_kinds-in-Some.result _ (λ said defs declared k there known.
    quiet_line c.args.self.now.bodies.types.bank c.args.self.now.bodies.bodies.items said defs c.args.source.now declared known c.args.declaration.now (ap is_quiet c.in-LocalKinds.is) (ap (definitions_by c.args.source.now) c.in-LocalKinds.is))

pub returns-in-Abbreviation-clause-bodies : goal.returns-in-Abbreviation-clause-bodies
returns-in-Abbreviation-clause-bodies c =
    let ps = c.in-Abbreviation.parameters in
    let new = c.announce_abbreviation.new.self.bodies in
    let n : c.len.result ≡ length ps.items = omega (arith, c.len.ensures, ps.ok) in
    on_ok_weaker c.announce_abbreviation.result (λ h said defs declared k there known.
    abbreviation_announced new.types.bank new.bodies.items said defs c.args.source.now declared c.args.declaration.now c.in-Abbreviation.name ps
    c.in-Abbreviation.field-2 c.len.result c.in-Abbreviation.is n (h said defs declared ps c.in-Abbreviation.field-2 k
    (there ∙ ap (λ d. Some d) c.in-Abbreviation.is) known)) c.announce_abbreviation.ensures.bodies

pub returns-in-Kinds-clause-lines : goal.returns-in-Kinds-clause-lines
returns-in-Kinds-clause-lines c = on_ok_always c.announce_kinds.result _ (λ from said defs declared k there known all.
    none_announced from c.args.self.now.bodies.bodies.items said (said_by c.args.source.now c.args.declaration.now) c.args.source.now declared all (names_quiet said c.args.source.now c.args.declaration.now (ap is_quiet c.in-Kinds.is)))

pub returns-in-Some-clause-lines : goal.returns-in-Some-clause-lines
returns-in-Some-clause-lines c = on_ok_always c.announce_kinds-in-Some.result _ (λ from said defs declared k there known all.
    none_announced from c.args.self.now.bodies.bodies.items said (said_by c.args.source.now c.args.declaration.now) c.args.source.now declared all (names_quiet said c.args.source.now c.args.declaration.now (ap is_quiet c.in-LocalKinds.is)))

pub returns-in-None-clause-lines : goal.returns-in-None-clause-lines
returns-in-None-clause-lines c = λ from said defs declared k there known all.
    none_announced from c.args.self.now.bodies.bodies.items said (said_by c.args.source.now c.args.declaration.now) c.args.source.now declared all (names_quiet said c.args.source.now c.args.declaration.now (ap is_quiet c.in-LocalKinds.is))

pub returns-in-Constants-clause-lines : goal.returns-in-Constants-clause-lines
returns-in-Constants-clause-lines c = λ from said defs declared k there known all.
    none_announced from c.args.self.now.bodies.bodies.items said (said_by c.args.source.now c.args.declaration.now) c.args.source.now declared all (names_quiet said c.args.source.now c.args.declaration.now (ap is_quiet c.in-Constants.is))

pub returns-in-Locals-clause-lines : goal.returns-in-Locals-clause-lines
returns-in-Locals-clause-lines c = λ from said defs declared k there known all.
    none_announced from c.args.self.now.bodies.bodies.items said (said_by c.args.source.now c.args.declaration.now) c.args.source.now declared all (names_quiet said c.args.source.now c.args.declaration.now (ap is_quiet c.in-Locals.is))

pub returns-in-Accumulate-clause-lines : goal.returns-in-Accumulate-clause-lines
returns-in-Accumulate-clause-lines c = λ from said defs declared k there known all.
    none_announced from c.args.self.now.bodies.bodies.items said (said_by c.args.source.now c.args.declaration.now) c.args.source.now declared all (names_quiet said c.args.source.now c.args.declaration.now (ap is_quiet c.in-Accumulate.is))

pub returns-in-AccumSig-clause-lines : goal.returns-in-AccumSig-clause-lines
returns-in-AccumSig-clause-lines c = λ from said defs declared k there known all.
    none_announced from c.args.self.now.bodies.bodies.items said (said_by c.args.source.now c.args.declaration.now) c.args.source.now declared all (names_quiet said c.args.source.now c.args.declaration.now (ap is_quiet c.in-AccumSig.is))

pub returns-in-Fixities-clause-lines : goal.returns-in-Fixities-clause-lines
returns-in-Fixities-clause-lines c = λ from said defs declared k there known all.
    none_announced from c.args.self.now.bodies.bodies.items said (said_by c.args.source.now c.args.declaration.now) c.args.source.now declared all (names_quiet said c.args.source.now c.args.declaration.now (ap is_quiet c.in-Fixities.is))

pub returns-in-Abbreviation-clause-lines : goal.returns-in-Abbreviation-clause-lines
returns-in-Abbreviation-clause-lines c =
    let ps = c.in-Abbreviation.parameters in
    let text = c.args.source.now in
    let new = c.announce_abbreviation.new.self.bodies in
    let n : c.len.result ≡ length ps.items = omega (arith, c.len.ensures, ps.ok) in
    on_ok_weaker c.announce_abbreviation.result (λ h from said defs declared k there known all.
    subst (λ d. AreAnnounced from new.bodies.items (said ++ said_by text d) text declared) (sym c.in-Abbreviation.is) (subst (λ p. AreAnnounced from new.bodies.items (said ++ each text (an_abbreviation p) (c.in-Abbreviation.name ∷ [])) text declared) n
    (h from said defs declared ps c.in-Abbreviation.field-2 k (there ∙ ap (λ d. Some d) c.in-Abbreviation.is) known all))) c.announce_abbreviation.ensures.lines

pub returns-in-Kinds-clause-stay : goal.returns-in-Kinds-clause-stay
returns-in-Kinds-clause-stay c = on_ok_always c.announce_kinds.result _ (λ k h. h)

pub returns-in-Some-clause-stay : goal.returns-in-Some-clause-stay
returns-in-Some-clause-stay c = on_ok_always c.announce_kinds-in-Some.result _ (λ k h. h)

pub returns-in-Abbreviation-clause-stay : goal.returns-in-Abbreviation-clause-stay
returns-in-Abbreviation-clause-stay c = c.announce_abbreviation.ensures.stay

use Rattle.std.proofs.Common.{not, ap, sym, subst, ◌∙◌, ◌++◌, ◌∷◌, []}
use Rattle.lp_sig.specs.Pieces.{spelled}
use Rattle.lp_sig.specs.Said.{an_abbreviation}
use Rattle.lp_sig.specs.Knowing.{is_known}
use Rattle.lp_sig.specs.Types.{in_text}
use Rattle.lp_sig.specs.Holding.{KnowsBodies}
use Rattle.lp_sig.proofs.Abbreviating.{names_known, names_fresh, fresh_place}
use Rattle.lp_sig.proofs.Announcing.{known_again, known_new, none_announced, new_announced}
use Rattle.lp_sig.proofs.InTurn.{settled_front}
use Rattle.lp_sig.proofs.making.Making.announce_abbreviation.Goals as goal

pub returns-in_ok-add-clause-bodies : goal.returns-in_ok-add-clause-bodies
returns-in_ok-add-clause-bodies c = λ said defs declared ps ty k there known.
    let b = c.args.self.now.bodies in
    let text = c.args.source.now in
    let n = spelled text c.args.name in
    let unknown = ap (λ w. is_known w said) (sym c.spelled_at.ensures) ∙ sym (c.in_ok-announce_head.ensures.fresh said k) ∙ ap not c.if-branch.true in
    subst (λ t. KnowsBodies t.bank c.add.new.self.bodies.items (said ++ (n, an_abbreviation c.args.parameters) ∷ []) (defs ++ (n, in_text text ps.items ty) ∷ []) text declared) (sym c.in_ok-add.ensures.types)
    (known_new b.types.bank b.bodies.items said defs text declared known c.add.new.self.bodies.items c.args.name c.args.parameters ps ty c.args.line unknown there c.in_ok-add.ensures.items)

pub returns-else-branch-clause-bodies : goal.returns-else-branch-clause-bodies
returns-else-branch-clause-bodies c = λ said defs declared ps ty k there known.
    let b = c.args.self.now.bodies in
    known_again b.types.bank b.bodies.items said defs c.args.source.now declared known (spelled c.args.source.now c.args.name) c.args.parameters (in_text c.args.source.now ps.items ty)
    (ap (λ w. is_known w said) (sym c.spelled_at.ensures) ∙ sym (c.in_ok-announce_head.ensures.fresh said k) ∙ ap not c.if-branch.false)

pub returns-in_ok-add-clause-lines : goal.returns-in_ok-add-clause-lines
returns-in_ok-add-clause-lines c = λ from said defs declared ps ty k there known all.
    let text = c.args.source.now in
    let n = spelled text c.args.name in
    let unknown = ap (λ w. is_known w said) (sym c.spelled_at.ensures) ∙ sym (c.in_ok-announce_head.ensures.fresh said k) ∙ ap not c.if-branch.true in
    new_announced from c.args.self.now.bodies.bodies.items said ((n, an_abbreviation c.args.parameters) ∷ []) text declared all
    c.add.new.self.bodies.items c.args.name ps ty c.args.line c.in_ok-add.ensures.items there (names_fresh said n c.args.parameters unknown)
    (fresh_place said n unknown) known.count

pub returns-else-branch-clause-lines : goal.returns-else-branch-clause-lines
returns-else-branch-clause-lines c = λ from said defs declared ps ty k there known all.
    let text = c.args.source.now in
    let n = spelled text c.args.name in
    none_announced from c.args.self.now.bodies.bodies.items said ((n, an_abbreviation c.args.parameters) ∷ []) text declared all
    (names_known said n c.args.parameters (ap (λ w. is_known w said) (sym c.spelled_at.ensures) ∙ sym (c.in_ok-announce_head.ensures.fresh said k) ∙ ap not c.if-branch.false))

pub returns-in_ok-add-clause-stay : goal.returns-in_ok-add-clause-stay
returns-in_ok-add-clause-stay c = settled_front c.args.self.now.bodies.bodies.items c.add.new.self.bodies.items _ c.in_ok-add.ensures.items

pub returns-else-branch-clause-stay : goal.returns-else-branch-clause-stay
returns-else-branch-clause-stay c = λ k h. h

use Rattle.lp_sig.proofs.Abbreviating.{fresh, again}
use Rattle.lp_sig.specs.inner.Telling.{AbbreviationTells, AreBodiesHere, FitsHere}
use Rattle.lp_sig.proofs.ToldBodies.{body_new, body_again, new_abbreviation}
use Rattle.lp_sig.proofs.TypesHere.{type_later, each_weaker, fits_later}
use Rattle.lp_sig.proofs.GivenBodies.{kinds_unchanged, given_new, given_again}
use Rattle.lp_sig.specs.inner.Given.{GivesBodies}
use Rattle.lp_term.specs.Nodes.{type_tree}
use Rattle.lp_sig.specs.Named.{named, kind_name}
use Rattle.std.specs.Prelude.{not}
use Rattle.std.proofs.Common.{◌++◌, ◌∷◌, [], map, subst, ◌≡◌, ◌∙◌, sym, ap, true, false, refl}
use Rattle.std.proofs.Common.{◌++◌, ◌∷◌, [], subst, ◌≡◌, ◌∙◌, sym, ap, true, false, refl}
use Rattle.lp_sig.specs.Said.{an_abbreviation}
use Rattle.lp_sig.specs.Knowing.{Knows, is_known}
use Rattle.lp_sig.proofs.making.Making.see_abbreviation.Goals as goal

pub returns-then-fresh-clause-names : goal.returns-then-fresh-clause-names
returns-then-fresh-clause-names c = λ said k. subst (λ n. Knows c.announce_head.new.self
    (said ++ (n, an_abbreviation c.args.entry.now.type_vars) ∷ [])) c.as_slice.ensures.value (c.in_ok-fresh.ensures.names said k)

pub returns-clause-names : goal.returns-clause-names
returns-clause-names c = (λ said k. subst
    (λ n. Knows c.announce_head.new.self (said ++ (n, an_abbreviation c.args.entry.now.type_vars) ∷ [])) c.as_slice.ensures.value
    (c.in_ok-fresh.ensures.names said k))

pub returns-then-fresh-clause-given : goal.returns-then-fresh-clause-given
returns-then-fresh-clause-given c = λ there names said rows k g seen whole.
    let e = c.args.entry.now in
    let b = c.args.self.now.bodies.types.bank in
    let made = seen e.body.0 c.in_ok-body.body c.in_ok-body.ensures in
    let fresh : is_known e.name.items said ≡ false = ap (λ w. is_known w said) (sym c.as_slice.ensures.value) ∙ sym (c.in_ok-fresh.ensures.fresh said k) ∙ ap not c.if-fresh.true in
    subst (λ t. GivesBodies t.bank c.add.new.self.bodies.items (said ++ (e.name.items, an_abbreviation e.type_vars) ∷ []) (rows ++ (e.name.items, named (kind_name names) (type_tree there e.body.0)) ∷ [])) (sym c.add.ensures.types)
    (given_new b c.args.self.now.bodies.bodies.items c.add.new.self.bodies.items said rows e.name.items e.type_vars (named (kind_name names) (type_tree there e.body.0)) g (kinds_unchanged said (e ∷ [])) c.in_ok-body.body fresh c.in_ok-add.ensures.items made.0 made.1 whole)

pub returns-clause-given : goal.returns-clause-given
returns-clause-given c = (λ there names said rows k g seen whole.
    let e = c.args.entry.now in
    let known : is_known e.name.items said ≡ true = ap (λ w. is_known w said) (sym c.as_slice.ensures.value) ∙ sym (c.in_ok-fresh.ensures.fresh said k) ∙ ap not c.if-fresh.false in
    given_again c.args.self.now.bodies.types.bank c.args.self.now.bodies.bodies.items c.args.self.now.bodies.bodies.items said rows e.name.items e.type_vars (named (kind_name names) (type_tree there e.body.0)) g (kinds_unchanged said (e ∷ [])) known refl)

pub returns-then-fresh-clause-uses : goal.returns-then-fresh-clause-uses
returns-then-fresh-clause-uses c = λ z k u.
    let e = c.args.entry.now in
    let unknown : is_known e.name.items z.said ≡ false = ap (λ w. is_known w z.said) (sym c.as_slice.ensures.value) ∙ sym (c.in_ok-fresh.ensures.fresh z.said k) ∙ ap not c.if-fresh.true in
    fresh (map (λ out. out.items) c.args.self.now.uses.ways.items) z e.name.items e.type_vars [] u unknown (map (λ out. out.items) c.push.new.self.ways.items)
    (c.in_ok-push.ensures ∙ ap (λ ws. map (λ out. out.items) c.args.self.now.uses.ways.items ++ ws ∷ []) c.new.ensures.items)

pub returns-clause-uses : goal.returns-clause-uses
returns-clause-uses c = (λ z k u.
    let e = c.args.entry.now in
    let known : is_known e.name.items z.said ≡ true = ap (λ w. is_known w z.said) (sym c.as_slice.ensures.value) ∙ sym (c.in_ok-fresh.ensures.fresh z.said k) ∙ ap not c.if-fresh.false in
    again (map (λ out. out.items) c.args.self.now.uses.ways.items) z e.name.items e.type_vars [] u known)

pub returns-then-fresh-clause-here : goal.returns-then-fresh-clause-here
returns-then-fresh-clause-here c = λ said rows t k g made.
    let e = c.args.entry.now in
    let b = c.args.self.now.bodies.types.bank in
    let h = made c.in_ok-body.body c.in_ok-body.ensures in
    let fresh : is_known e.name.items said ≡ false = ap (λ w. is_known w said) (sym c.as_slice.ensures.value) ∙ sym (c.in_ok-fresh.ensures.fresh said k) ∙ ap not c.if-fresh.true in
    subst (λ x. AreBodiesHere x.bank c.add.new.self.bodies.items (said ++ (e.name.items, an_abbreviation e.type_vars) ∷ []) (rows ++ (e.name.items, t) ∷ [])) (sym c.add.ensures.types)
    (body_new b c.args.self.now.bodies.bodies.items c.add.new.self.bodies.items said rows e.name.items e.type_vars t g c.in_ok-body.body fresh c.in_ok-add.ensures.items h.0 h.1)

pub returns-clause-here : goal.returns-clause-here
returns-clause-here c = (λ said rows t k g made.
    let e = c.args.entry.now in
    let known : is_known e.name.items said ≡ true = ap (λ w. is_known w said) (sym c.as_slice.ensures.value) ∙ sym (c.in_ok-fresh.ensures.fresh said k) ∙ ap not c.if-fresh.false in
    body_again c.args.self.now.bodies.types.bank c.args.self.now.bodies.bodies.items c.args.self.now.bodies.bodies.items said rows e.name.items e.type_vars t g known refl)

pub returns-then-fresh-clause-told : goal.returns-then-fresh-clause-told
returns-then-fresh-clause-told c = λ said rows t k g made fits.
    let e = c.args.entry.now in
    let fresh : is_known e.name.items said ≡ false = ap (λ w. is_known w said) (sym c.as_slice.ensures.value) ∙ sym (c.in_ok-fresh.ensures.fresh said k) ∙ ap not c.if-fresh.true in
    new_abbreviation c.args.self.now.bodies.types.bank c.args.self.now.bodies.bodies.items c.args.self.now.bodies.bodies.items said rows e.name.items e.type_vars t g fresh

pub returns-clause-told : goal.returns-clause-told
returns-clause-told c = λ said rows t k g made fits.
    let s = c.sight_of_abbreviation.result in
    let told = c.sight_of_abbreviation.ensures.told in
    let e = c.args.entry.now in
    let b = c.args.self.now.bodies.types.bank in
    let h = made c.in_ok-body.body c.in_ok-body.ensures in
    let more = (e.name.items, an_abbreviation e.type_vars) ∷ [] in
    let known : is_known e.name.items said ≡ true = ap (λ w. is_known w said) (sym c.as_slice.ensures.value) ∙ sym (c.in_ok-fresh.ensures.fresh said k) ∙ ap not c.if-fresh.false in
    let names : Knows c.announce_head.new.self (said ++ more) = subst (λ n. Knows c.announce_head.new.self (said ++ (n, an_abbreviation e.type_vars) ∷ [])) c.as_slice.ensures.value (c.in_ok-fresh.ensures.names said k) in
    subst (λ n. AbbreviationTells (said ++ more) (rows ++ (e.name.items, t) ∷ []) n e.type_vars t s) c.as_slice-2.ensures.value
    (told (said ++ more) (rows ++ (e.name.items, t) ∷ []) t names
    (body_again b c.args.self.now.bodies.bodies.items c.args.self.now.bodies.bodies.items said rows e.name.items e.type_vars t g known refl)
    (h.0, type_later said more (type_tree b c.in_ok-body.body.0) t h.1) (each_weaker (FitsHere said) (FitsHere (said ++ more)) (fits_later said more) t fits))

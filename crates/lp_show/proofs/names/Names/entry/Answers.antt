use Rattle.std.proofs.Common.{◌≡◌, ◌∙◌, ◌<◌, length, get_or, sym, ap, subst, arith}
use Rattle.lp_show.specs.Glossary.{entry_of}
use Rattle.lp_show.specs.Named.{IsKnown}
use Rattle.lp_show.proofs.Glossaries.{any_entry, place_found, place_missing}
use Rattle.lp_show.proofs.names.Names.entry.Goals as goal

pub known_at-requires : goal.known_at-requires
known_at-requires c = let k = place_found c.args.self.now.entries.now 0 c.args.constant c.in-Some.place.now (sym (c.in-Some.ensures.value ∙ c.requires.places c.args.constant)) in omega (arith, k.1, k.2)

pub returns-in-Some : goal.returns-in-Some
returns-in-Some c =
    let es = c.args.self.now.entries.now in
    let k = place_found es 0 c.args.constant c.in-Some.place.now (sym (c.in-Some.ensures.value ∙ c.requires.places c.args.constant)) in
    let d = any_entry es k.0 k.2 in
    let q : c.in-Some.place.now ≡ k.0 = omega (arith, k.1) in
    subst (IsKnown c.known_at.result) (ap (λ j. entry_of (get_or es j d)) q ∙ sym (k.3 d)) (c.known_at.ensures d)

pub returns-in-None : goal.returns-in-None
returns-in-None c =
    let m = place_missing c.args.self.now.entries.now 0 c.args.constant (sym (c.in-None.ensures.value ∙ c.requires.places c.args.constant)) in
    subst (IsKnown c.standard.result) (sym m) c.standard.ensures

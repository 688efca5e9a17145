use Rattle.std.proofs.Common.{◌∙◌, sym, ap, refl}
use Rattle.lp_lemmas.proofs.Results.{on_ok_both}
use Rattle.lp_sig.specs.Pieces.{spelled}
use Rattle.lp_term.proofs.Trees.{extends_same}
use Rattle.lp_infer.specs.Firsts.{number_in}
use Rattle.lp_infer.proofs.Results.{if_ok_with}
use Rattle.lp_infer.proofs.Noting.{agrees_before, number_behind}
use Rattle.lp_infer.proofs.lookup.Lookup.note_number.Goals as goal

pub returns-in-None-clause-grows : goal.returns-in-None-clause-grows
returns-in-None-clause-grows c =
    on_ok_both c.add.result c.add.ensures.places c.add.ensures.firsts (λ places firsts known. record {
      types = extends_same c.args.self.now.types;
      agrees = λ κ ρ A. agrees_before c.args.source.now c.args.self.now.notes.places.items c.add.new.self.places.items c.args.spot κ ρ places A;
      firsts = firsts;
      steps = refl;
      scope = refl;
      variables = refl;
    })

pub returns-in-None-clause-number : goal.returns-in-None-clause-number
returns-in-None-clause-number c =
    if_ok_with c.add.result c.add.ensures.number c.add.ensures.places (λ k number places known.
    number_behind c.args.source.now c.args.self.now.notes.places.items c.add.new.self.places.items c.args.spot k places number
    (sym (known (spelled c.args.source.now c.args.spot)) ∙ ap (number_in c.args.self.now.notes) (sym c.spelled_at.ensures) ∙ sym c.number.ensures ∙ c.in-None.is))

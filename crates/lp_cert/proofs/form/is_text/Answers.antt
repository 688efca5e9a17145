use Rattle.lp_cert.proofs.Endings.{no_atom}
use Rattle.lp_term.specs.Nodes.{tree}
use Rattle.std.proofs.Common.{sym, ◌∙◌}
use Rattle.std.proofs.lemmas.Bool.Decides.{Decides-eqb}
use Rattle.std.proofs.lemmas.Slice.Eq.{slice_eq-Decides}
use Rattle.lp_cert.proofs.Evaluating.{texts_once}
use Rattle.lp_cert.proofs.form.is_text.Goals as goal

pub returns-in-App-clause-differ : goal.returns-in-App-clause-differ
returns-in-App-clause-differ c = λ e q. no_atom c.args.bank.now _ (tree c.args.bank.now c.args.term.0) c.in-App.field-1.now _ c.in-App.ensures.within.2 c.in-App.ensures.tree (sym q)

pub returns-in-Text-clause-differ : goal.returns-in-Text-clause-differ
returns-in-Text-clause-differ c = λ e q. absurd (let p = (slice_eq-Decides Decides-eqb _ _ _ c.eq.ensures).1 (texts_once _ _ (q ∙ sym c.in-Text.ensures.tree)) in cc)

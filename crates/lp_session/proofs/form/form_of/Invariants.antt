use Rattle.std.proofs.Common.{◌≡◌, drop}
use Rattle.lp_session.specs.Form.{form_behind, form_of}
use Rattle.lp_session.proofs.form.form_of.Given as goal

abbrev pub invariant-names : goal.invariant-names
invariant-names l = form_of l.line l.tokens ≡ form_behind l.line l.at (drop l.at l.tokens)

use Rattle.std.proofs.Common.{map, subst}
use Rattle.lp_lemmas.proofs.Results.{passed_up}
use Rattle.lp_query.specs.Faults.{AreThere, IsNotThere, IsShownRefusal}
use Rattle.lp_query.proofs.Names.{bytes}
use Rattle.lp_query.proofs.Refused.{of_query, of_names}
use Rattle.lp_query.proofs.asked.some_shown.Goals as goal

pub returns-in_err-variables-clause-refused : goal.returns-in_err-variables-clause-refused
returns-in_err-variables-clause-refused c =
    λ text. passed_up c.from_residual.result c.in_err-variables.field-0.0 (IsShownRefusal text (map bytes c.args.compiled.names.items) (map bytes c.args.shown.now)) c.from_residual.ensures.1
    (of_query text _ _ c.in_err-variables.field-0.0 (c.in_err-variables.ensures.refused text))

pub returns-in_err-places-clause-refused : goal.returns-in_err-places-clause-refused
returns-in_err-places-clause-refused c =
    λ text. passed_up c.from_residual-in_err-places.result c.in_err-places.field-0.0 (IsShownRefusal text (map bytes c.args.compiled.names.items) (map bytes c.args.shown.now)) c.from_residual-in_err-places.ensures.1
    (of_names text _ _ c.in_err-places.field-0.0 (subst (λ z. IsNotThere (map bytes z) (map bytes c.args.shown.now) c.in_err-places.field-0.0) c.as_slice-2.ensures.value c.in_err-places.ensures.refused))

pub returns-clause-there : goal.returns-clause-there
returns-clause-there c = subst (λ z. AreThere (map bytes z) (map bytes c.args.shown.now)) c.as_slice-2.ensures.value c.in_ok-places.ensures.there

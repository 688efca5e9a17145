use Rattle.std.specs.Prelude.{is_some}
use Rattle.std.proofs.Common.{◌≡◌, refl, ap, sym, ◌∙◌}
use Rattle.std.proofs.lemmas.Option.{same_Some}
use Rattle.lp_sig.proofs.Listing.{as_entry}
use Rattle.lp_sig.proofs.constants.entry_of.Goals as goal

pub returns-clause-is : goal.returns-clause-is
returns-clause-is c = λ b said defs row h. as_entry b said defs _ row c.args.constant.now c.in-Some.declared _ c.in-Some.is
    (c.in_ok-name.ensures.items ∙ c.as_slice.ensures.value) c.in-Some-constant_number.ensures.some.0 refl refl h

pub returns-clause-typed : goal.returns-clause-typed
returns-clause-typed c = λ d is. let same : c.in-Some.declared ≡ d = same_Some c.in-Some.declared d (sym c.in-Some.is ∙ is) in (ap (λ d. d.type_vars) same, ap (λ d. d.scheme) same)

pub returns-clause-full : goal.returns-clause-full
returns-clause-full c = ap is_some c.in-Some.is

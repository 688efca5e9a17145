use Rattle.std.proofs.Common.{◌∙◌, ◌<◌, ap, arith, length, sym, map, subst as transport}
use Rattle.std.specs.Prelude.{All}
use Rattle.lp_pattern.specs.inner.Making.{unmade, type_made}
use Rattle.lp_pattern.proofs.Making.{first_missing, further_more, types_below_later}
use Rattle.lp_pattern.proofs.FilledTypes.{become, some_given}
use Rattle.lp_pattern.proofs.fill_types.made_of.Goals as goal

pub returns-clause-made : goal.returns-clause-made
returns-clause-made c = λ θ F L.
    c.in_ok-new.ensures.filled θ L (ap (map (λ t. t.0)) c.as_slice-2.ensures.value ∙ c.in_ok-parts.ensures.parts)
    (become c.args.bank.now θ c.as_slice.result.now c.as_slice-2.result.now c.in-Some.made.items c.as_slice-3.result.now (c.as_slice.ensures.value ∙ sym c.as_slice-2.ensures.value) (sym c.as_slice-3.ensures.value)
    (some_given _ _ _ c.in-Some.is c.in_ok-made.ensures.made c.args.bank.now θ F))

pub returns-in_default-clause-further : goal.returns-in_default-clause-further
returns-in_default-clause-further c =
    let u = unmade (type_made c.args.done.now) c.args.left.now.items in
    let v = unmade (type_made c.args.done.now) c.known_parts.new.left.items in
    first_missing _ u v v c.in_default.is c.in_ok-made.ensures.further (omega arith)

pub returns-clause-further : goal.returns-clause-further
returns-clause-further c =
    further_more _ (unmade (type_made c.args.done.now) c.args.left.now.items) (unmade (type_made c.args.done.now) c.known_parts.new.left.items) c.in_ok-made.ensures.further

pub returns-in_default-clause-inside : goal.returns-in_default-clause-inside
returns-in_default-clause-inside c = λ h.
    let n = length c.args.bank.now.types in
    c.in_ok-made.ensures.within n (transport (All (λ t. t.0 < n)) (sym c.as_slice.ensures.value) c.in_ok-parts.ensures.within) h

pub returns-clause-inside : goal.returns-clause-inside
returns-clause-inside c = λ h.
    let n = length c.args.bank.now.types in
    types_below_later c.args.bank.now c.rebuilt.new.bank c.known_parts.new.left.items c.in_ok-new.ensures.kept
    (c.in_ok-made.ensures.within n (transport (All (λ t. t.0 < n)) (sym c.as_slice.ensures.value) c.in_ok-parts.ensures.within) h)

use Rattle.std.proofs.Common.{◌∙◌, sym, ap}
use Rattle.std.specs.Prelude.{option_map}
use Rattle.lp_sig.specs.Places.{place_of}
use Rattle.lp_sig.proofs.Finding.{none_found, none_past, entry_found}
use Rattle.lp_sig.proofs.signature.Signature.abbreviation.Goals as goal

pub returns-in_err-at : goal.returns-in_err-at
returns-in_err-at c = ap (option_map (λ a. (a.0, a.1.0))) c.from_residual.ensures ∙ sym
    (none_found (λ e. e.name.items) c.args.name.now (λ e. (e.type_vars, e.body.0)) c.args.self.now.abbreviations.items
    c.args.self.now.abbreviations.items c.of.result (place_of c.args.self.now.abbreviation_places c.args.name.now) c.of.ensures
    (c.args.self.now.abbreviations_found c.args.name.now) c.in_err-at.was)

pub returns-in_err-entry : goal.returns-in_err-entry
returns-in_err-entry c =
    none_past (λ e. e.name.items) c.args.name.now c.args.self.now.abbreviations.items c.deref.result.now c.of.result
    (place_of c.args.self.now.abbreviation_places c.args.name.now) c.in_ok-at.at c.of.ensures
    (c.args.self.now.abbreviations_found c.args.name.now) c.in_ok-at.was c.deref.ensures.value c.in_err-entry.ensures.lookup.3

pub returns : goal.returns
returns c = sym (entry_found (λ e. e.name.items) c.args.name.now (λ e. (e.type_vars, e.body.0)) c.args.self.now.abbreviations.items c.deref.result.now
    c.of.result (place_of c.args.self.now.abbreviation_places c.args.name.now) c.in_ok-at.at c.in_ok-entry.entry.now c.of.ensures
    (c.args.self.now.abbreviations_found c.args.name.now) c.in_ok-at.was c.deref.ensures.value c.in_ok-entry.ensures.lookup.1)

use Rattle.std.proofs.Common.{◌∙◌, sym}
use Rattle.lp_sig.specs.Places.{place_of}
use Rattle.lp_sig.proofs.Finding.{none_found, none_past, entry_found, behind}
use Rattle.lp_sig.specs.Standard.{standard_kinds}
use Rattle.lp_sig.proofs.signature.Signature.kind.Goals as goal

pub returns-in_err-at : goal.returns-in_err-at
returns-in_err-at c = c.from_residual.ensures ∙ sym (behind c.args.name.now standard_kinds _ (sym c.in_default.ensures) ∙
    (none_found (λ e. e.name.items) c.args.name.now (λ e. (e.number, e.arity)) c.args.self.now.kinds.items c.args.self.now.kinds.items c.of.result
    (place_of c.args.self.now.kind_places c.args.name.now) c.of.ensures (c.args.self.now.kinds_found c.args.name.now) c.in_err-at.was))

pub returns-in_err-entry : goal.returns-in_err-entry
returns-in_err-entry c =
    none_past (λ e. e.name.items) c.args.name.now c.args.self.now.kinds.items c.deref.result.now c.of.result
    (place_of c.args.self.now.kind_places c.args.name.now) c.in_ok-at.at c.of.ensures (c.args.self.now.kinds_found c.args.name.now) c.in_ok-at.was
    c.deref.ensures.value c.in_err-entry.ensures.lookup.3

pub returns : goal.returns
returns c = sym (behind c.args.name.now standard_kinds _ (sym c.in_default.ensures) ∙
    (entry_found (λ e. e.name.items) c.args.name.now (λ e. (e.number, e.arity)) c.args.self.now.kinds.items c.deref.result.now c.of.result
    (place_of c.args.self.now.kind_places c.args.name.now) c.in_ok-at.at c.in_ok-entry.entry.now c.of.ensures
    (c.args.self.now.kinds_found c.args.name.now) c.in_ok-at.was c.deref.ensures.value c.in_ok-entry.ensures.lookup.1))

use Rattle.std.proofs.Common.{◌∙◌, sym, ap}
use Rattle.std.specs.Prelude.{option_map}
use Rattle.lp_sig.specs.Places.{place_of}
use Rattle.lp_sig.proofs.Finding.{none_item, item_found}
use Rattle.lp_sig.proofs.signature.Signature.declared.Goals as goal

pub returns-in_err-at : goal.returns-in_err-at
returns-in_err-at c =
    ap (option_map (λ e. e.now)) c.from_residual.ensures ∙
    sym (none_item (λ e. e.name.items) c.args.name.now c.args.self.now.constants.items c.of.result (place_of c.args.self.now.constant_places c.args.name.now) c.of.ensures (c.args.self.now.constants_found c.args.name.now) c.in_err-at.was)

pub returns : goal.returns
returns c = item_found (λ e. e.name.items) c.args.name.now c.args.self.now.constants.items c.deref.result.now c.of.result
    (place_of c.args.self.now.constant_places c.args.name.now) c.in_ok-at.at c.of.ensures (c.args.self.now.constants_found c.args.name.now)
    c.in_ok-at.was c.deref.ensures.value c.get.result c.get.ensures.lookup

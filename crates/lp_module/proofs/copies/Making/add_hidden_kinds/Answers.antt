use Rattle.std.proofs.Common.{◌≡◌, ◌∙◌, ◌-◌, ◌++◌, ◌∷◌, [], Some, map, ap, sym, subst}
use Rattle.std.specs.Prelude.{slice_get}
use Rattle.std.proofs.lemmas.List.{map-id}
use Rattle.std.proofs.lemmas.Iterator.{YieldsList-from_slice}
use Rattle.std.proofs.lemmas.Iterator.Consumers.{YieldsList-end, YieldsList-from_copied}
use Rattle.lp_module.specs.Program.{kind_as, hidden_among}
use Rattle.lp_module.specs.inner.Assembling.{AddsNames}
use Rattle.lp_module.proofs.Composing.{names_then}
use Rattle.lp_module.proofs.Adding.{names_none}
use Rattle.lp_module.proofs.Tabled.{adds_none, adds_kind, some_entry, one_hidden}
use Rattle.lp_module.proofs.copies.Making.add_hidden_kinds.Goals as goal

pub loop-number-init : goal.loop-number-init
loop-number-init c = (names_none c.args.self.now, adds_none c.args.self.now)

pub loop-number-preserved : goal.loop-number-preserved
loop-number-preserved c =
    let xs = c.args.copy.now.module.now.signature.kinds.items in
    let entry = c.in-Some-get.entry.now in
    let there : slice_get xs (c.in-Some.number - 8) ≡ Some entry =
    subst (λ p. slice_get xs p ≡ Some entry) c.saturating_sub.ensures (some_entry xs c.kinds-kinds.result.now c.saturating_sub.result entry c.kinds-kinds.ensures c.in-Some-get.ensures.lookup.3.0 c.in-Some-get.ensures.lookup.1) in (
      names_then c.args.self.now c.loop-number.self c.add_hidden_kind.new.self c.loop-number.invariant.0 c.in_ok-add_hidden_kind.ensures.made,
      adds_kind c.args.self.now c.loop-number.self c.add_hidden_kind.new.self (kind_as 1) (hidden_among 8 c.loop-number.yielded xs) (hidden_among 8 (c.loop-number.yielded ++ c.in-Some.number ∷ []) xs) entry _ c.loop-number.invariant.0.0
          (one_hidden 8 c.loop-number.yielded c.in-Some.number xs entry there) (ap (λ n. (n, (1, entry.arity))) c.as_slice.ensures.value) c.loop-number.invariant.1 c.in_ok-add_hidden_kind.ensures.names,
    )

pub returns-clause-made : goal.returns-clause-made
returns-clause-made c = c.loop-number.invariant.0

pub returns-clause-names : goal.returns-clause-names
returns-clause-names c =
    let whole : c.loop-number.yielded ≡ c.deref.result.now =
    sym (map-id c.loop-number.yielded) ∙ (YieldsList-end (YieldsList-from_copied (YieldsList-from_slice c.deref.result.now cc)) c.loop-number.yielded _ c.loop-number.yielded_by _ _ c.in-None.is c.next.ensures.steps).0 in
    subst (λ l. AddsNames c.args.self.now c.loop-number.self (map (kind_as 1) (hidden_among 8 l c.args.copy.now.module.now.signature.kinds.items)) [] []) (whole ∙ c.deref.ensures.value) c.loop-number.invariant.1

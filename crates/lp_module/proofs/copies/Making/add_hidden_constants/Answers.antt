use Rattle.std.proofs.Common.{◌≡◌, ◌∙◌, ◌-◌, ◌++◌, ◌∷◌, [], Some, map, ap, sym, subst}
use Rattle.std.specs.Prelude.{slice_get}
use Rattle.std.proofs.lemmas.List.{map-id}
use Rattle.std.proofs.lemmas.Iterator.{YieldsList-from_slice}
use Rattle.std.proofs.lemmas.Iterator.Consumers.{YieldsList-end, YieldsList-from_copied}
use Rattle.lp_term.specs.Mapped.{mapped_type}
use Rattle.lp_term.specs.Memo.{AreMade}
use Rattle.lp_term.specs.Nodes.{type_tree}
use Rattle.lp_term.proofs.Memos.{made_later}
use Rattle.lp_infer.specs.Texts.{entry_scheme}
use Rattle.lp_module.specs.Program.{map_of, constant_as, scheme_in, hidden_among}
use Rattle.lp_module.specs.inner.Assembling.{copy_of, AddsNames}
use Rattle.lp_module.proofs.Composing.{names_then, bank_grown}
use Rattle.lp_module.proofs.Adding.{names_none, is_map}
use Rattle.lp_module.proofs.Tabled.{with_bank, with_body, adds_none, adds_constant, some_entry, one_hidden}
use Rattle.lp_module.proofs.copies.Making.add_hidden_constants.Goals as goal

pub loop-number-init : goal.loop-number-init
loop-number-init c = (names_none c.args.self.now, c.new-types.ensures (map_of (copy_of 0 c.args.copy.now)) c.args.copy.now.module.now.signature.bank c.args.self.now.bank, adds_none c.args.self.now)

pub add_hidden_constant-requires : goal.add_hidden_constant-requires
add_hidden_constant-requires c = c.in_ok-scheme.ensures.within

pub loop-number-preserved : goal.loop-number-preserved
loop-number-preserved c =
    let b = c.args.copy.now.module.now.signature.bank in
    let xs = c.args.copy.now.module.now.signature.constants.items in
    let entry = c.in-Some-get.entry.now in
    let m = map_of (copy_of 0 c.args.copy.now) in
    let is = is_map c.args.copy.now c.bank.result.now c.loop-number.self.bank in
    let old = subst (λ b. AreMade m b c.loop-number.self.bank c.loop-number.types) (sym c.bank.ensures) c.loop-number.invariant.1 in
    let memo = subst (λ b. AreMade m b c.copy_type.new.to c.copy_type.new.self) c.bank.ensures (c.in_ok-scheme.ensures.memo m is old) in
    let made = c.in_ok-scheme.ensures.made m is old ∙ ap (λ b. mapped_type m (type_tree b entry.scheme.0)) c.bank.ensures in
    let there : slice_get xs (c.in-Some.number - 32) ≡ Some entry =
    subst (λ p. slice_get xs p ≡ Some entry) c.saturating_sub-place.ensures (some_entry xs c.constants.result.now c.saturating_sub-place.result entry c.constants.ensures c.in-Some-get.ensures.lookup.3.0 c.in-Some-get.ensures.lookup.1) in (
      names_then c.args.self.now (with_bank c.loop-number.self c.copy_type.new.to) c.add_hidden_constant.new.self
          (names_then c.args.self.now c.loop-number.self (with_bank c.loop-number.self c.copy_type.new.to) c.loop-number.invariant.0
          (bank_grown c.loop-number.self c.copy_type.new.to c.copy_type.ensures.kept)) c.in_ok-add_hidden_constant.ensures.made,
      made_later m b c.copy_type.new.to c.add_hidden_constant.new.self.bank c.copy_type.new.self c.in_ok-add_hidden_constant.ensures.made.2 memo,
      adds_constant c.args.self.now c.loop-number.self c.add_hidden_constant.new.self c.copy_type.new.to (constant_as 1) (λ e. scheme_in (copy_of 0 c.args.copy.now) (entry_scheme b e)) (hidden_among 32 c.loop-number.yielded xs)
          (hidden_among 32 (c.loop-number.yielded ++ c.in-Some.number ∷ []) xs) entry _ c.loop-number.invariant.0.0 c.copy_type.ensures.kept (one_hidden 32 c.loop-number.yielded c.in-Some.number xs entry there) (ap (with_body entry.type_vars) made)
          c.loop-number.invariant.2 c.in_ok-add_hidden_constant.ensures.names,
    )

pub returns-clause-made : goal.returns-clause-made
returns-clause-made c = c.loop-number.invariant.0

pub returns-clause-names : goal.returns-clause-names
returns-clause-names c =
    let b = c.args.copy.now.module.now.signature.bank in
    let xs = c.args.copy.now.module.now.signature.constants.items in
    let whole : c.loop-number.yielded ≡ c.deref.result.now =
    sym (map-id c.loop-number.yielded) ∙ (YieldsList-end (YieldsList-from_copied (YieldsList-from_slice c.deref.result.now cc)) c.loop-number.yielded _ c.loop-number.yielded_by _ _ c.in-None.is c.next.ensures.steps).0 in
    subst (λ l. AddsNames c.args.self.now c.loop-number.self [] (map (constant_as 1) (hidden_among 32 l xs)) (map (λ e. scheme_in (copy_of 0 c.args.copy.now) (entry_scheme b e)) (hidden_among 32 l xs))) (whole ∙ c.deref.ensures.value)
    c.loop-number.invariant.2

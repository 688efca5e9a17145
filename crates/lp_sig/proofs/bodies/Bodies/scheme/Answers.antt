use Rattle.std.proofs.Common.{◌≡◌, length, arith, None, refl, sym, ap, subst, ◌∙◌, inl, inr, ⊎_elim}
use Rattle.std.specs.Prelude.{◌⊎◌, IfSome, is_some}
use Rattle.lp_lemmas.proofs.Results.{passed_up}
use Rattle.lp_calculus.specs.Types.{instance}
use Rattle.lp_term.specs.Nodes.{type_tree}
use Rattle.lp_sig.specs.Copying.{filled}
use Rattle.lp_sig.specs.Types.{IsTypeOf}
use Rattle.lp_sig.specs.Holding.{IsTree}
use Rattle.lp_sig.specs.Schemes.{numbered_type}
use Rattle.lp_sig.specs.Ordering.{in_order}
use Rattle.lp_sig.specs.Constants.{IsWrittenFault, long_type, word_of_type, many_variables}
use Rattle.lp_sig.specs.declared.fault.SigFault.TheVariants as fault
use Rattle.lp_sig.proofs.Renaming.{renamed, scheme_made}
use Rattle.lp_sig.specs.ModuleFaults as faults
use Rattle.lp_sig.proofs.bodies.Bodies.scheme.Goals as goal

pub returns-then-has_many_arguments-clause-exact : goal.returns-then-has_many_arguments-clause-exact
returns-then-has_many_arguments-clause-exact c = λ said defs k b. inr (long_type refl (c.has_many_arguments.ensures.many c.if-has_many_arguments.true))

pub returns-in_err-whole-clause-exact : goal.returns-in_err-whole-clause-exact
returns-in_err-whole-clause-exact c = λ said defs k b.
    passed_up c.from_residual.result c.in_err-whole.field-0.0 (λ e. (e ≡ fault.Memory) ⊎ IsWrittenFault c.args.source.now said defs c.args.raw.now e) c.from_residual.ensures.1
    (⊎_elim (λ m. inl m) (λ f. inr (word_of_type (c.has_many_arguments.ensures.few c.if-has_many_arguments.false) f)) (c.in_err-whole.ensures.first said None k c.open-variables.ensures.open))

pub returns-then-len-gt-MAX_ARGUMENTS-clause-exact : goal.returns-then-len-gt-MAX_ARGUMENTS-clause-exact
returns-then-len-gt-MAX_ARGUMENTS-clause-exact c = λ said defs k b.
    let text = c.args.source.now in
    let raw = c.args.raw.now in
    let bank = c.expand.new.self.types.bank in
    let whole = c.in-Some.whole in
    let tree = subst (λ o. IfSome o (IsTree bank (IsTypeOf said defs text (in_order text raw.nodes.items) raw.nodes.items raw.root))) c.in-Some.is (c.in_ok-whole.ensures.open said defs k b c.open-variables.ensures.names) in
    inr (many_variables refl (c.has_many_arguments.ensures.few c.if-has_many_arguments.false, c.in_ok-whole.ensures.stand said None k c.open-variables.ensures.open)
    (length c.in_ok-found.found.items) (numbered_type (type_tree bank whole.0)) (scheme_made said defs text raw bank whole c.in_ok-found.found.items
    (length c.in_ok-found.found.items) (numbered_type (type_tree bank whole.0)) tree c.in_ok-found.ensures refl refl)
    (let l = c.if-len-gt-MAX_ARGUMENTS.true in omega (arith, l, c.len.ensures, c.in_ok-found.found.ok)))

pub returns-clause-typed : goal.returns-clause-typed
returns-clause-typed c = λ said defs k b.
    let text = c.args.source.now in
    let raw = c.args.raw.now in
    let bank = c.expand.new.self.types.bank in
    let whole = c.in-Some.whole in
    let found = c.in_ok-found.found.items in
    let later = c.new_names.new.self.types.bank in
    let tree = subst (λ o. IfSome o (IsTree bank (IsTypeOf said defs text (in_order text raw.nodes.items) raw.nodes.items raw.root))) c.in-Some.is (c.in_ok-whole.ensures.open said defs k b c.open-variables.ensures.names) in
    record {
      inside = c.in_ok-scheme.ensures.tree.0;
      scheme = scheme_made said defs text raw bank whole found _ _ tree c.in_ok-found.ensures (omega (arith, c.len-2.ensures, c.in_ok-found.found.ok))
          (c.in_ok-scheme.ensures.tree.1 ∙ ap (λ xs. instance (filled later xs) (type_tree later whole.0)) c.as_slice-2.ensures.value ∙
          renamed bank later c.in_ok-new.new.items c.as_slice.result.now whole c.new_names.ensures.kept tree.0 c.in_ok-new.ensures.names c.in_ok-new.ensures.far (c.as_slice.ensures.value ∙ c.in_ok-found.ensures));
    }

pub returns-in_default-clause-settled : goal.returns-in_default-clause-settled
returns-in_default-clause-settled c = λ said k s. sym (ap is_some c.in_default.is) ∙ c.in_ok-whole.ensures.settled said k s

pub returns-then-has_many_arguments-clause-reason : goal.returns-then-has_many_arguments-clause-reason
returns-then-has_many_arguments-clause-reason c = λ said k. inr (faults.long_type refl (c.has_many_arguments.ensures.many c.if-has_many_arguments.true))

pub returns-in_err-whole-clause-reason : goal.returns-in_err-whole-clause-reason
returns-in_err-whole-clause-reason c = λ said k.
    passed_up c.from_residual.result c.in_err-whole.field-0.0 (λ e. (e ≡ fault.Memory) ⊎ faults.IsTypeFault c.args.source.now said c.args.raw.now e) c.from_residual.ensures.1
    (⊎_elim (λ m. inl m) (λ f. inr (faults.word_of_type (c.has_many_arguments.ensures.few c.if-has_many_arguments.false) f)) (c.in_err-whole.ensures.first said None k c.open-variables.ensures.open))

pub returns-then-len-gt-MAX_ARGUMENTS-clause-reason : goal.returns-then-len-gt-MAX_ARGUMENTS-clause-reason
returns-then-len-gt-MAX_ARGUMENTS-clause-reason c = λ said k.
    inr (faults.many_variables refl (c.has_many_arguments.ensures.few c.if-has_many_arguments.false, c.in_ok-whole.ensures.stand said None k c.open-variables.ensures.open))

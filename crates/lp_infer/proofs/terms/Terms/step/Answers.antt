use Rattle.std.proofs.Common.{◌≡◌, ◌≤◌, ◌+◌, ◌∙◌, ℕ, length, refl, sym, ap, subst, arith, w64, to_z, of_z}
use Rattle.lp_infer.specs.inner.Parts.{takes, arguments_of, IsShallow}
use Rattle.lp_infer.proofs.Needs.{none_used}
use Rattle.std.proofs.lemmas.Int.{to_z-of_z}
use Rattle.std.specs.Prelude.{OnOk}
use Rattle.std.proofs.lemmas.Result.{on_ok_weaker}
use Rattle.lp_calculus.specs.Types.{Ty}
use Rattle.lp_term.specs.Nodes.{Nodes, type_tree}
use Rattle.lp_standard.specs.Schemes.{standard_schemes, entry}
use Rattle.lp_infer.specs.Postfix.{is_index, is_integer, is_text, mark, scheme_or}
use Rattle.lp_infer.specs.Texts.{string_bytes}
use Rattle.lp_infer.specs.Filling.{Forms, form}
use Rattle.lp_infer.proofs.terms.Terms.step.Goals as goal

pub returns-in-Declared-clause-formed : goal.returns-in-Declared-clause-formed
returns-in-Declared-clause-formed c =
    subst (λ s. OnOk c.constant-in-Declared.result ((b : Nodes) (τ : ℕ → Ty) → Forms c.args.bank.now c.constant-in-Declared.new.bank c.args.types.now c.args.self.now c.constant-in-Declared.new.self (form (mark c.args.source.now b c.args.count τ s)))) (sym c.in-Declared.is)
    (on_ok_weaker c.constant-in-Declared.result (λ h b τ. h (record { count = c.in-Declared.vars; body = type_tree b c.in-Declared.field-2.0 }) refl) c.constant-in-Declared.ensures.formed)

pub returns-in-Integer-clause-formed : goal.returns-in-Integer-clause-formed
returns-in-Integer-clause-formed c =
    let same : to_z w64 (of_z w64 c.in-Integer.value) ≡ c.in-Integer.value = grind (arith, to_z-of_z) in
    subst (λ s. OnOk c.integer.result ((b : Nodes) (τ : ℕ → Ty) → Forms c.args.bank.now c.integer.new.bank c.args.types.now c.args.self.now c.integer.new.self (form (mark c.args.source.now b c.args.count τ s)))) (sym c.in-Integer.is)
    (on_ok_weaker c.integer.result (λ h b τ. subst (λ z. Forms c.args.bank.now c.integer.new.bank c.args.types.now c.args.self.now c.integer.new.self (form (is_integer z))) same (h c.args.types.now)) c.integer.ensures.formed)

pub returns-in-Bound-clause-formed : goal.returns-in-Bound-clause-formed
returns-in-Bound-clause-formed c =
    subst (λ s. OnOk c.index.result ((b : Nodes) (τ : ℕ → Ty) → Forms c.args.bank.now c.index.new.bank c.args.types.now c.args.self.now c.index.new.self (form (mark c.args.source.now b c.args.count τ s)))) (sym c.in-Bound.is)
    (on_ok_weaker c.index.result (λ h b τ. h c.args.types.now) c.index.ensures.formed)

pub returns-in-Close-clause-formed : goal.returns-in-Close-clause-formed
returns-in-Close-clause-formed c =
    subst (λ s. OnOk c.close.result ((b : Nodes) (τ : ℕ → Ty) → Forms c.args.bank.now c.close.new.bank c.args.types.now c.args.self.now c.close.new.self (form (mark c.args.source.now b c.args.count τ s)))) (sym c.in-Close.is)
    (on_ok_weaker c.close.result (λ h b τ. h c.args.types.now) c.close.ensures.formed)

pub returns-in-Apply-clause-formed : goal.returns-in-Apply-clause-formed
returns-in-Apply-clause-formed c =
    subst (λ s. OnOk c.apply.result ((b : Nodes) (τ : ℕ → Ty) → Forms c.args.bank.now c.apply.new.bank c.args.types.now c.args.self.now c.apply.new.self (form (mark c.args.source.now b c.args.count τ s)))) (sym c.in-Apply.is)
    (on_ok_weaker c.apply.result (λ h b τ. h c.args.types.now) c.apply.ensures.formed)

pub returns-in-Text-clause-formed : goal.returns-in-Text-clause-formed
returns-in-Text-clause-formed c =
    subst (λ s. OnOk c.text.result ((b : Nodes) (τ : ℕ → Ty) → Forms c.args.bank.now c.text.new.bank c.args.types.now c.args.self.now c.text.new.self (form (mark c.args.source.now b c.args.count τ s)))) (sym c.in-Text.is)
    (on_ok_weaker c.text.result (λ h b τ. subst (λ w. Forms c.args.bank.now c.text.new.bank c.args.types.now c.args.self.now c.text.new.self (form (is_text (string_bytes w)))) c.spelled_at.ensures (h c.args.types.now)) c.text.ensures.formed)

pub returns-in-Variable-clause-formed : goal.returns-in-Variable-clause-formed
returns-in-Variable-clause-formed c =
    subst (λ s. OnOk c.index-in-Variable.result ((b : Nodes) (τ : ℕ → Ty) → Forms c.args.bank.now c.index-in-Variable.new.bank c.args.types.now c.args.self.now c.index-in-Variable.new.self (form (mark c.args.source.now b c.args.count τ s)))) (sym c.in-Variable.is)
    (on_ok_weaker c.index-in-Variable.result (λ h b τ. subst (λ i. Forms c.args.bank.now c.index-in-Variable.new.bank c.args.types.now c.args.self.now c.index-in-Variable.new.self (form (is_index i))) c.index_of.ensures (h c.args.types.now)) c.index-in-Variable.ensures.formed)

pub returns-in-Bound-clause-used : goal.returns-in-Bound-clause-used
returns-in-Bound-clause-used c = on_ok_weaker c.index.result (λ u. u ∙ none_used c.args.self.now.used (arguments_of c.args.step) (ap arguments_of c.in-Bound.is)) c.index.ensures.used

pub returns-in-Variable-clause-used : goal.returns-in-Variable-clause-used
returns-in-Variable-clause-used c = on_ok_weaker c.index-in-Variable.result (λ u. u ∙ none_used c.args.self.now.used (arguments_of c.args.step) (ap arguments_of c.in-Variable.is)) c.index-in-Variable.ensures.used

pub returns-in-Integer-clause-used : goal.returns-in-Integer-clause-used
returns-in-Integer-clause-used c = on_ok_weaker c.integer.result (λ u. u ∙ none_used c.args.self.now.used (arguments_of c.args.step) (ap arguments_of c.in-Integer.is)) c.integer.ensures.used

pub returns-in-Text-clause-used : goal.returns-in-Text-clause-used
returns-in-Text-clause-used c = on_ok_weaker c.text.result (λ u. u ∙ none_used c.args.self.now.used (arguments_of c.args.step) (ap arguments_of c.in-Text.is)) c.text.ensures.used

pub returns-in-Close-clause-used : goal.returns-in-Close-clause-used
returns-in-Close-clause-used c = on_ok_weaker c.close.result (λ u. u ∙ none_used c.args.self.now.used (arguments_of c.args.step) (ap arguments_of c.in-Close.is)) c.close.ensures.used

pub returns-in-Apply-clause-used : goal.returns-in-Apply-clause-used
returns-in-Apply-clause-used c = on_ok_weaker c.apply.result (λ u. u ∙ none_used c.args.self.now.used (arguments_of c.args.step) (ap arguments_of c.in-Apply.is)) c.apply.ensures.used

pub returns-in-Standard-clause-used : goal.returns-in-Standard-clause-used
returns-in-Standard-clause-used c = on_ok_weaker c.constant.result (λ u. u ∙ ap (λ n. c.args.self.now.used + n) (c.standard_variables.ensures ∙ sym (ap arguments_of c.in-Standard.is))) c.constant.ensures.used

pub returns-in-Declared-clause-used : goal.returns-in-Declared-clause-used
returns-in-Declared-clause-used c = on_ok_weaker c.constant-in-Declared.result (λ u. u ∙ ap (λ n. c.args.self.now.used + n) (sym (ap arguments_of c.in-Declared.is))) c.constant-in-Declared.ensures.used

pub returns-in-Open-clause-used : goal.returns-in-Open-clause-used
returns-in-Open-clause-used c = none_used c.args.self.now.used (arguments_of c.args.step) (ap arguments_of c.in-Open.is)

pub constant-requires : goal.constant-requires
constant-requires c = subst (λ n. c.args.self.now.used + n ≤ length c.args.types.now) (ap arguments_of c.in-Standard.is ∙ sym c.standard_variables.ensures) c.requires.arguments

pub constant-requires-in-Declared : goal.constant-requires-in-Declared
constant-requires-in-Declared c = subst (λ n. c.args.self.now.used + n ≤ length c.args.types.now) (ap arguments_of c.in-Declared.is) c.requires.arguments

pub close-requires : goal.close-requires
close-requires c = subst (λ s. takes s ≤ length c.args.self.now.stack.items) c.in-Close.is c.requires.parts

pub apply-requires : goal.apply-requires
apply-requires c = subst (λ s. takes s ≤ length c.args.self.now.stack.items) c.in-Apply.is c.requires.parts

pub index_of-requires-clause-depth : goal.index_of-requires-clause-depth
index_of-requires-clause-depth c = subst IsShallow c.in-Variable.is c.requires.shallow

pub returns-in-Standard-clause-formed : goal.returns-in-Standard-clause-formed
returns-in-Standard-clause-formed c =
    subst (λ s. OnOk c.constant.result ((b : Nodes) (τ : ℕ → Ty) → Forms c.args.bank.now c.constant.new.bank c.args.types.now c.args.self.now c.constant.new.self (form (mark c.args.source.now b c.args.count τ s)))) (sym c.in-Standard.is)
    (on_ok_weaker c.constant.result (λ h b τ. h (scheme_or (entry standard_schemes c.in-Standard.number)) (sym c.standard_variables.ensures)) c.constant.ensures.formed)

use Rattle.std.proofs.Common.{◌≤◌, sym, subst, length, List, ℕ}
use Rattle.lp_infer.specs.inner.Parts.{takes, ends}
use Rattle.std.specs.Prelude.{OnOk}
use Rattle.std.proofs.lemmas.Result.{on_ok_weaker}
use Rattle.lp_term.specs.Nodes.{type_tree}
use Rattle.lp_infer.specs.Running.{act}
use Rattle.lp_infer.specs.Postfix.{mark, IsStep}
use Rattle.lp_infer.specs.Making.{Acts}
use Rattle.lp_infer.proofs.generate.Typing.step.Goals as goal

pub returns-in-Bound : goal.returns-in-Bound
returns-in-Bound c =
    subst (λ s. IsStep (length c.args.self.now.types.types) s → OnOk c.index.result ((text : List ℕ) → Acts c.args.self.now c.index.new.self (act (mark text c.args.signature.now.bank c.args.count (type_tree c.args.self.now.types) s)))) (sym c.in-Bound.is)
    (λ k. on_ok_weaker c.index.result (λ h text. h) c.index.ensures)

pub returns-in-Variable : goal.returns-in-Variable
returns-in-Variable c =
    subst (λ s. IsStep (length c.args.self.now.types.types) s → OnOk c.variable.result ((text : List ℕ) → Acts c.args.self.now c.variable.new.self (act (mark text c.args.signature.now.bank c.args.count (type_tree c.args.self.now.types) s)))) (sym c.in-Variable.is)
    (λ k. on_ok_weaker c.variable.result (λ h text. h) c.variable.ensures)

pub returns-in-Standard : goal.returns-in-Standard
returns-in-Standard c =
    subst (λ s. IsStep (length c.args.self.now.types.types) s → OnOk c.standard.result ((text : List ℕ) → Acts c.args.self.now c.standard.new.self (act (mark text c.args.signature.now.bank c.args.count (type_tree c.args.self.now.types) s)))) (sym c.in-Standard.is)
    (λ k. on_ok_weaker c.standard.result (λ h text. h) c.standard.ensures)

pub returns-in-Declared : goal.returns-in-Declared
returns-in-Declared c =
    subst (λ s. IsStep (length c.args.self.now.types.types) s → OnOk c.declared.result ((text : List ℕ) → Acts c.args.self.now c.declared.new.self (act (mark text c.args.signature.now.bank c.args.count (type_tree c.args.self.now.types) s)))) (sym c.in-Declared.is)
    (λ k. on_ok_weaker c.declared.result (λ h text. h c.in-Declared.field-0) c.declared.ensures)

pub returns-in-Integer : goal.returns-in-Integer
returns-in-Integer c =
    subst (λ s. IsStep (length c.args.self.now.types.types) s → OnOk c.push_kind.result ((text : List ℕ) → Acts c.args.self.now c.push_kind.new.self (act (mark text c.args.signature.now.bank c.args.count (type_tree c.args.self.now.types) s)))) (sym c.in-Integer.is)
    (λ k. on_ok_weaker c.push_kind.result (λ h text. h) c.push_kind.ensures)

pub returns-in-Text : goal.returns-in-Text
returns-in-Text c =
    subst (λ s. IsStep (length c.args.self.now.types.types) s → OnOk c.push_kind-in-Text.result ((text : List ℕ) → Acts c.args.self.now c.push_kind-in-Text.new.self (act (mark text c.args.signature.now.bank c.args.count (type_tree c.args.self.now.types) s)))) (sym c.in-Text.is)
    (λ k. on_ok_weaker c.push_kind-in-Text.result (λ h text. h) c.push_kind-in-Text.ensures)

pub returns-in-Open : goal.returns-in-Open
returns-in-Open c =
    subst (λ s. IsStep (length c.args.self.now.types.types) s → OnOk c.open.result ((text : List ℕ) → Acts c.args.self.now c.open.new.self (act (mark text c.args.signature.now.bank c.args.count (type_tree c.args.self.now.types) s)))) (sym c.in-Open.is)
    (λ k. on_ok_weaker c.open.result (λ h text. h) (c.open.ensures k))

pub returns-in-Close : goal.returns-in-Close
returns-in-Close c =
    subst (λ s. IsStep (length c.args.self.now.types.types) s → OnOk c.close.result ((text : List ℕ) → Acts c.args.self.now c.close.new.self (act (mark text c.args.signature.now.bank c.args.count (type_tree c.args.self.now.types) s)))) (sym c.in-Close.is)
    (λ k. on_ok_weaker c.close.result (λ h text. h) c.close.ensures)

pub returns-in-Apply : goal.returns-in-Apply
returns-in-Apply c =
    subst (λ s. IsStep (length c.args.self.now.types.types) s → OnOk c.apply.result ((text : List ℕ) → Acts c.args.self.now c.apply.new.self (act (mark text c.args.signature.now.bank c.args.count (type_tree c.args.self.now.types) s)))) (sym c.in-Apply.is)
    (λ k. on_ok_weaker c.apply.result (λ h text. h) c.apply.ensures)

pub variable-requires-clause-depth : goal.variable-requires-clause-depth
variable-requires-clause-depth c = subst (IsStep (length c.args.self.now.types.types)) c.in-Variable.is c.requires.known

pub close-requires-clause-parts : goal.close-requires-clause-parts
close-requires-clause-parts c = subst (λ s. takes s ≤ length c.args.self.now.stack.items) c.in-Close.is c.requires.parts

pub close-requires-clause-opened : goal.close-requires-clause-opened
close-requires-clause-opened c = subst (λ s. ends s ≤ length c.args.self.now.context.items) c.in-Close.is c.requires.opened

pub apply-requires : goal.apply-requires
apply-requires c = subst (λ s. takes s ≤ length c.args.self.now.stack.items) c.in-Apply.is c.requires.parts

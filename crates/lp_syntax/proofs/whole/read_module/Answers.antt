use Rattle.std.proofs.Common.{inl, inr, ◌≡◌, ◌<◌, ◌≤◌, length, ap, arith, is_ok, subst}
use Rattle.std.proofs.ResultArms.{chosen}
use Rattle.std.proofs.lemmas.Grind.{common_steps}
use Rattle.lp_fixity.specs.Table.{entry_of}
use Rattle.lp_syntax.specs.Tokens.{lexemes, spot_at}
use Rattle.lp_syntax.specs.Modules.{IsModuleRefusal, SentencesRead}
use Rattle.lp_syntax.proofs.Tokens.{length_lexemes}
use Rattle.lp_syntax.proofs.ModuleCode.{none_said, one_more_said, sentence_refused, operator_refused}
use Rattle.lp_syntax.proofs.ModuleTexts.{module_header_fault}
use Rattle.std.proofs.Common.{◌++◌, [], ◌∷◌, refl}
use Rattle.lp_lemmas.proofs.Results.{passed_up, on_err_always}
use Rattle.lp_syntax.specs.Modules.{IsLeft}
use Rattle.lp_syntax.proofs.ModuleLeft.{none_left, left_behind, left_within}
use Rattle.lp_syntax.proofs.whole.read_module.Goals as goal

pub returns-in_err-header-clause-fault : goal.returns-in_err-header-clause-fault
returns-in_err-header-clause-fault c = passed_up c.from_residual.result c.in_err-header.field-0.0
    (IsModuleRefusal (spot_at c.args.file c.args.source.now c.args.tokens.now) (entry_of c.args.table.now)
    (lexemes c.args.source.now c.args.tokens.now)) c.from_residual.ensures.1 (inr (inl
    (module_header_fault (spot_at c.args.file c.args.source.now c.args.tokens.now) (entry_of c.args.table.now)
    (lexemes c.args.source.now c.args.tokens.now) _ c.in_err-header.ensures.fault)))

pub over-init : goal.over-init
over-init c = record {
  within = c.in_ok-header.ensures.within;
  extends = λ name e h. h;
  header = c.in_ok-header.ensures.header;
  read = none_said
      (spot_at c.args.file c.args.source.now c.args.tokens.now) (lexemes c.args.source.now c.args.tokens.now) (entry_of c.args.table.now) _ _
      c.in_ok-header.ensures.end c.new-lines.ensures.items;
}

pub returns-in_err-line-clause-fault : goal.returns-in_err-line-clause-fault
returns-in_err-line-clause-fault c =
    let w : c.over.at < length c.args.tokens.now = grind (arith, common_steps) in
    let l = length_lexemes c.args.source.now c.args.tokens.now in
    let v = c.over.invariant in
    passed_up c.from_residual-in_err-line.result c.in_err-line.field-0.0 (IsModuleRefusal (spot_at c.args.file c.args.source.now c.args.tokens.now)
    (entry_of c.args.table.now) (lexemes c.args.source.now c.args.tokens.now)) c.from_residual-in_err-line.ensures.1
    (sentence_refused (spot_at c.args.file c.args.source.now c.args.tokens.now) (entry_of c.args.table.now) (entry_of c.over.table)
    (lexemes c.args.source.now c.args.tokens.now) c.over.at c.over.lines.items _ v.header v.read (omega (arith, w, l))
    c.in_err-line.ensures.fault)

pub returns-in_err-follow_line-clause-fault : goal.returns-in_err-follow_line-clause-fault
returns-in_err-follow_line-clause-fault c =
    let w : c.over.at < length c.args.tokens.now = grind (arith, common_steps) in
    let l = length_lexemes c.args.source.now c.args.tokens.now in
    let v = c.over.invariant in
    passed_up c.from_residual-in_err-follow_line.result c.in_err-follow_line.field-0.0
    (IsModuleRefusal (spot_at c.args.file c.args.source.now c.args.tokens.now) (entry_of c.args.table.now)
    (lexemes c.args.source.now c.args.tokens.now)) c.from_residual-in_err-follow_line.ensures.1
    (operator_refused c.args.file c.args.source.now c.args.tokens.now (entry_of c.args.table.now) (entry_of c.over.table) c.over.at
    c.in_ok-line.end c.over.lines.items c.in_ok-line.line _ v.header v.read (omega (arith, w, l)) c.in_ok-line.ensures.sentence
    c.in_err-follow_line.ensures.fault)

pub over-preserved : goal.over-preserved
over-preserved c =
    let v = c.over.invariant in
    record {
      within = c.in_ok-line.ensures.within;
      extends = λ name e g. c.in_ok-follow_line.ensures.extends name e (v.extends name e g);
      header = v.header;
      read = one_more_said c.args.file c.args.source.now c.args.tokens.now (entry_of c.args.table.now) (entry_of c.over.table)
          (entry_of c.follow_line.new.table) c.over.at c.in_ok-line.end c.over.lines.items _ c.in_ok-line.line v.read c.in_ok-line.ensures.sentence
          c.in_ok-follow_line.ensures.declared (chosen _ _ _ _ c.push.ensures.items (ap is_ok c.in_ok-push.was));
    }

pub returns-clause-tree : goal.returns-clause-tree
returns-clause-tree c =
    let v = c.over.invariant in
    let w = v.within in
    let u : length c.args.tokens.now ≤ c.over.at = grind (arith, common_steps) in
    let l = length_lexemes c.args.source.now c.args.tokens.now in
    record {
      header = v.header;
      name = c.in_ok-header.ensures.name;
      read = subst (λ k. SentencesRead
          (spot_at c.args.file c.args.source.now c.args.tokens.now) (lexemes c.args.source.now c.args.tokens.now) (entry_of c.args.table.now)
          (entry_of c.over.table) k c.over.lines.items) (let z : c.over.at ≡ length (lexemes c.args.source.now c.args.tokens.now) = omega
          (arith, u, w, l) in z) v.read;
    }

pub returns-in_err-header-clause-left : goal.returns-in_err-header-clause-left
returns-in_err-header-clause-left c = passed_up c.from_residual.result c.in_err-header.field-0.0
    (λ _. IsLeft (lexemes c.args.source.now c.args.tokens.now) (entry_of c.args.table.now) (entry_of c.args.table.now)) c.from_residual.ensures.1
    (none_left (lexemes c.args.source.now c.args.tokens.now) (entry_of c.args.table.now))

pub returns-in_err-line-clause-left : goal.returns-in_err-line-clause-left
returns-in_err-line-clause-left c = passed_up c.from_residual-in_err-line.result c.in_err-line.field-0.0
    (λ _. IsLeft (lexemes c.args.source.now c.args.tokens.now) (entry_of c.args.table.now) (entry_of c.over.table))
    c.from_residual-in_err-line.ensures.1 (left_behind (spot_at c.args.file c.args.source.now c.args.tokens.now)
    (lexemes c.args.source.now c.args.tokens.now) (entry_of c.args.table.now) (entry_of c.over.table) c.over.at c.over.lines.items
    c.over.invariant.read)

pub returns-in_err-follow_line-clause-left : goal.returns-in_err-follow_line-clause-left
returns-in_err-follow_line-clause-left c = passed_up c.from_residual-in_err-follow_line.result c.in_err-follow_line.field-0.0
    (λ _. IsLeft (lexemes c.args.source.now c.args.tokens.now) (entry_of c.args.table.now) (entry_of c.follow_line.new.table))
    c.from_residual-in_err-follow_line.ensures.1 (left_within c.args.file c.args.source.now c.args.tokens.now (entry_of c.args.table.now)
    (entry_of c.over.table) (entry_of c.follow_line.new.table) c.over.at c.in_ok-line.end c.over.lines.items c.in_ok-line.line c.over.invariant.read
    c.in_ok-line.ensures.sentence c.in_err-follow_line.ensures.left)

pub returns-in_err-push-clause-left : goal.returns-in_err-push-clause-left
returns-in_err-push-clause-left c =
    on_err_always c.from_residual-in_err-push.result
    (left_behind (spot_at c.args.file c.args.source.now c.args.tokens.now) (lexemes c.args.source.now c.args.tokens.now) (entry_of c.args.table.now) (entry_of c.follow_line.new.table) c.in_ok-line.end (c.over.lines.items ++ c.in_ok-line.line ∷ [])
    (one_more_said c.args.file c.args.source.now c.args.tokens.now (entry_of c.args.table.now) (entry_of c.over.table)
    (entry_of c.follow_line.new.table) c.over.at c.in_ok-line.end c.over.lines.items _ c.in_ok-line.line c.over.invariant.read
    c.in_ok-line.ensures.sentence c.in_ok-follow_line.ensures.declared refl))

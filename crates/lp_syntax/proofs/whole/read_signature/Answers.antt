use Rattle.std.proofs.Common.{◌<◌, ◌≤◌, length, ap, arith, is_ok}
use Rattle.std.proofs.ResultArms.{chosen}
use Rattle.std.proofs.lemmas.Grind.{common_steps}
use Rattle.lp_lemmas.proofs.Results.{passed_up}
use Rattle.lp_syntax.specs.Tokens.{lexemes, spot_at}
use Rattle.lp_syntax.specs.Signatures.{IsSignatureRefusal}
use Rattle.lp_syntax.proofs.Tokens.{length_lexemes}
use Rattle.lp_syntax.proofs.SignatureCode.{refused_header, none_read, refused_line, one_more_read, whole_signature}
use Rattle.lp_syntax.proofs.whole.read_signature.Goals as goal

pub returns-in_err-header-clause-fault : goal.returns-in_err-header-clause-fault
returns-in_err-header-clause-fault c = passed_up c.from_residual.result c.in_err-header.field-0.0
    (IsSignatureRefusal (spot_at c.args.file c.args.source.now c.args.tokens.now) (lexemes c.args.source.now c.args.tokens.now))
    c.from_residual.ensures.1 (refused_header (spot_at c.args.file c.args.source.now c.args.tokens.now) (lexemes c.args.source.now c.args.tokens.now)
    _ c.in_err-header.ensures.fault)

pub over-init : goal.over-init
over-init c = record { within = c.in_ok-header.ensures.within; header = c.in_ok-header.ensures.header; read = none_read (spot_at c.args.file c.args.source.now c.args.tokens.now) (lexemes c.args.source.now c.args.tokens.now) _ _ c.in_ok-header.ensures.end c.new-lines.ensures.items }

pub returns-in_err-line-clause-fault : goal.returns-in_err-line-clause-fault
returns-in_err-line-clause-fault c =
    let w : c.over.at < length c.args.tokens.now = grind (arith, common_steps) in
    let l = length_lexemes c.args.source.now c.args.tokens.now in
    let v = c.over.invariant in
    passed_up c.from_residual-in_err-line.result c.in_err-line.field-0.0 (IsSignatureRefusal (spot_at c.args.file c.args.source.now c.args.tokens.now)
    (lexemes c.args.source.now c.args.tokens.now)) c.from_residual-in_err-line.ensures.1
    (refused_line (spot_at c.args.file c.args.source.now c.args.tokens.now) (lexemes c.args.source.now c.args.tokens.now) c.over.at
    c.over.lines.items _ v.header v.read (omega (arith, w, l)) c.in_err-line.ensures.fault)

pub over-preserved : goal.over-preserved
over-preserved c =
    let v = c.over.invariant in
    record {
      within = c.in_ok-line.ensures.within;
      header = v.header;
      read = one_more_read (spot_at c.args.file c.args.source.now c.args.tokens.now)
          (lexemes c.args.source.now c.args.tokens.now) c.over.at c.in_ok-line.end c.over.lines.items _ c.in_ok-line.line v.read
          c.in_ok-line.ensures.line (chosen _ _ _ _ c.push.ensures.items (ap is_ok c.in_ok-push.was));
    }

pub returns-clause-tree : goal.returns-clause-tree
returns-clause-tree c =
    let v = c.over.invariant in
    let w = v.within in
    let u : length c.args.tokens.now ≤ c.over.at = grind (arith, common_steps) in
    let l = length_lexemes c.args.source.now c.args.tokens.now in
    record {
      lines = v.read.before;
      is = whole_signature (spot_at c.args.file c.args.source.now c.args.tokens.now)
          (lexemes c.args.source.now c.args.tokens.now) c.over.at c.over.lines.items v.header v.read (omega (arith, w, u, l));
      shown = v.read.shown;
      fit = v.read.fit;
      name = c.in_ok-header.ensures.name;
    }

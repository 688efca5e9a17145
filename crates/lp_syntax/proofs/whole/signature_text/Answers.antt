use Rattle.lp_syntax.specs.Tokens.{lexemes, spot_at}
use Rattle.lp_syntax.proofs.SignatureCode.{signature_given}
use Rattle.lp_syntax.proofs.whole.signature_text.Goals as goal

pub returns-clause-only : goal.returns-clause-only
returns-clause-only c = signature_given (spot_at c.args.file c.args.source.now c.args.tokens.now) (lexemes c.args.source.now c.args.tokens.now) c.read_signature.result c.read_signature.ensures.tree c.read_signature.ensures.fault

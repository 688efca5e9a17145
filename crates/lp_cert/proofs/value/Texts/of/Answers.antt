use Rattle.lp_cert.proofs.Evaluating.{text_found}
use Rattle.lp_cert.proofs.value.Texts.of.Goals as goal

pub returns : goal.returns
returns c = text_found (λ x. x.now) _ c.as_slice.result.now c.args.self.now.bytes.items c.args.span c.get.result c.as_slice.ensures.value c.get.ensures.lookup.0

use Rattle.std.proofs.Common.{refl}
use Rattle.std.proofs.lemmas.Result.{on_ok_weaker}
use Rattle.lp_sig.proofs.Naming.{no_words, its_words}
use Rattle.lp_sig.proofs.walk.add_line.Goals as goal

pub returns-in-Kinds : goal.returns-in-Kinds
returns-in-Kinds c = λ ns has. no_words ns c.args.source.now _ c.args.line.now c.args.ways.now.items c.in-Kinds.is refl

pub returns-in-LocalKinds : goal.returns-in-LocalKinds
returns-in-LocalKinds c = λ ns has. no_words ns c.args.source.now _ c.args.line.now c.args.ways.now.items c.in-LocalKinds.is refl

pub returns-in-Constants : goal.returns-in-Constants
returns-in-Constants c = λ ns has. no_words ns c.args.source.now _ c.args.line.now c.args.ways.now.items c.in-Constants.is refl

pub returns-in-Locals : goal.returns-in-Locals
returns-in-Locals c = λ ns has. no_words ns c.args.source.now _ c.args.line.now c.args.ways.now.items c.in-Locals.is refl

pub returns-in-Abbreviation : goal.returns-in-Abbreviation
returns-in-Abbreviation c = λ ns has. no_words ns c.args.source.now _ c.args.line.now c.args.ways.now.items c.in-Abbreviation.is refl

pub returns-in-Accumulate : goal.returns-in-Accumulate
returns-in-Accumulate c = λ ns has. no_words ns c.args.source.now _ c.args.line.now c.args.ways.now.items c.in-Accumulate.is refl

pub returns-in-Fixities : goal.returns-in-Fixities
returns-in-Fixities c = λ ns has. no_words ns c.args.source.now _ c.args.line.now c.args.ways.now.items c.in-Fixities.is refl

pub returns-in-AccumSig : goal.returns-in-AccumSig
returns-in-AccumSig c = on_ok_weaker c.add_ways.result (λ h ns has. its_words ns c.args.source.now c.in-AccumSig.words c.as_slice.result.now c.args.line.now c.args.ways.now.items c.add_ways.new.ways.items c.in-AccumSig.is c.as_slice.ensures.value (h ns has)) c.add_ways.ensures

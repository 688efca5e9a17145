use Rattle.std.proofs.Common.{ap, map}
use Rattle.std.proofs.lemmas.Result.{on_ok_weaker}
use Rattle.lp_sig.proofs.Abbreviating.{is_quiet, quiet, abbreviation_noted}
use Rattle.lp_sig.proofs.walk.Ways.note_line.Goals as goal

pub returns-in-Kinds : goal.returns-in-Kinds
returns-in-Kinds c = λ z more k u. quiet (map (λ out. out.items) c.args.self.now.ways.items) z _ c.args.source.now c.args.line.now (ap is_quiet c.in-Kinds.is) u

pub returns-in-LocalKinds : goal.returns-in-LocalKinds
returns-in-LocalKinds c = λ z more k u. quiet (map (λ out. out.items) c.args.self.now.ways.items) z _ c.args.source.now c.args.line.now (ap is_quiet c.in-LocalKinds.is) u

pub returns-in-Constants : goal.returns-in-Constants
returns-in-Constants c = λ z more k u. quiet (map (λ out. out.items) c.args.self.now.ways.items) z _ c.args.source.now c.args.line.now (ap is_quiet c.in-Constants.is) u

pub returns-in-Locals : goal.returns-in-Locals
returns-in-Locals c = λ z more k u. quiet (map (λ out. out.items) c.args.self.now.ways.items) z _ c.args.source.now c.args.line.now (ap is_quiet c.in-Locals.is) u

pub returns-in-Abbreviation : goal.returns-in-Abbreviation
returns-in-Abbreviation c = on_ok_weaker c.note_body.result (λ f z more k u. abbreviation_noted c.args.names.now z more c.args.source.now
    c.args.line.now c.in-Abbreviation.name c.in-Abbreviation.field-1 c.in-Abbreviation.raw (map (λ out. out.items) c.args.self.now.ways.items)
    (map (λ out. out.items) c.note_body.new.self.ways.items) c.in-Abbreviation.is k u f) c.note_body.ensures

pub returns-in-Accumulate : goal.returns-in-Accumulate
returns-in-Accumulate c = λ z more k u. quiet (map (λ out. out.items) c.args.self.now.ways.items) z _ c.args.source.now c.args.line.now (ap is_quiet c.in-Accumulate.is) u

pub returns-in-AccumSig : goal.returns-in-AccumSig
returns-in-AccumSig c = λ z more k u. quiet (map (λ out. out.items) c.args.self.now.ways.items) z _ c.args.source.now c.args.line.now (ap is_quiet c.in-AccumSig.is) u

pub returns-in-Fixities : goal.returns-in-Fixities
returns-in-Fixities c = λ z more k u. quiet (map (λ out. out.items) c.args.self.now.ways.items) z _ c.args.source.now c.args.line.now (ap is_quiet c.in-Fixities.is) u

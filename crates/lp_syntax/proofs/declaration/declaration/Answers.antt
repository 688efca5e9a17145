use Rattle.std.proofs.Common.{refl, arith}
use Rattle.lp_syntax.specs.declared.class.Keyword.TheVariants as keyword
use Rattle.lp_syntax.specs.Tokens.{lexemes, spot_at}
use Rattle.lp_syntax.proofs.Tokens.{length_lexemes}
use Rattle.lp_syntax.proofs.LineParts.{list_kept, typed_kept, head_kept, title_kept}
use Rattle.lp_syntax.proofs.declaration.declaration.Goals as goal

pub returns-in-Kind-clause-fault : goal.returns-in-Kind-clause-fault
returns-in-Kind-clause-fault c = λ e. list_kept (spot_at c.args.input.now.file c.args.input.now.source.now c.args.input.now.tokens.now) (lexemes c.args.input.now.source.now c.args.input.now.tokens.now) c.args.keyword keyword.Kind c.args.from c.kinds.result c.in-Kind.is refl e c.kinds.ensures.fault

pub returns-in-Localkind-clause-fault : goal.returns-in-Localkind-clause-fault
returns-in-Localkind-clause-fault c = λ e. list_kept (spot_at c.args.input.now.file c.args.input.now.source.now c.args.input.now.tokens.now)
    (lexemes c.args.input.now.source.now c.args.input.now.tokens.now) c.args.keyword keyword.Localkind c.args.from c.local_kinds.result
    c.in-Localkind.is refl e c.local_kinds.ensures.fault

pub returns-in-Type-clause-fault : goal.returns-in-Type-clause-fault
returns-in-Type-clause-fault c = λ e. typed_kept (spot_at c.args.input.now.file c.args.input.now.source.now c.args.input.now.tokens.now)
    (lexemes c.args.input.now.source.now c.args.input.now.tokens.now) c.args.keyword keyword.Type c.args.from c.constants.result c.in-Type.is refl e
    c.constants.ensures.fault

pub returns-in-Local-clause-fault : goal.returns-in-Local-clause-fault
returns-in-Local-clause-fault c = λ e. typed_kept (spot_at c.args.input.now.file c.args.input.now.source.now c.args.input.now.tokens.now)
    (lexemes c.args.input.now.source.now c.args.input.now.tokens.now) c.args.keyword keyword.Local c.args.from c.locals.result c.in-Local.is refl e
    c.locals.ensures.fault

pub returns-in-Accumulate-clause-fault : goal.returns-in-Accumulate-clause-fault
returns-in-Accumulate-clause-fault c = λ e. list_kept (spot_at c.args.input.now.file c.args.input.now.source.now c.args.input.now.tokens.now)
    (lexemes c.args.input.now.source.now c.args.input.now.tokens.now) c.args.keyword keyword.Accumulate c.args.from c.accumulate.result
    c.in-Accumulate.is refl e c.accumulate.ensures.fault

pub returns-in-AccumSig-clause-fault : goal.returns-in-AccumSig-clause-fault
returns-in-AccumSig-clause-fault c = λ e. list_kept (spot_at c.args.input.now.file c.args.input.now.source.now c.args.input.now.tokens.now)
    (lexemes c.args.input.now.source.now c.args.input.now.tokens.now) c.args.keyword keyword.AccumSig c.args.from c.accum_sig.result c.in-AccumSig.is
    refl e c.accum_sig.ensures.fault

pub returns-in-Typeabbrev-clause-fault : goal.returns-in-Typeabbrev-clause-fault
returns-in-Typeabbrev-clause-fault c = λ e. head_kept (spot_at c.args.input.now.file c.args.input.now.source.now c.args.input.now.tokens.now)
    (lexemes c.args.input.now.source.now c.args.input.now.tokens.now) c.args.keyword c.args.from c.abbreviation.result c.in-Typeabbrev.is e
    c.abbreviation.ensures.fault

pub returns-in-Fixity-clause-fault : goal.returns-in-Fixity-clause-fault
returns-in-Fixity-clause-fault c = λ e. list_kept (spot_at c.args.input.now.file c.args.input.now.source.now c.args.input.now.tokens.now)
    (lexemes c.args.input.now.source.now c.args.input.now.tokens.now) c.args.keyword (keyword.Fixity c.in-Fixity.fixity) c.args.from c.fixities.result
    c.in-Fixity.is refl e c.fixities.ensures.fault

pub returns-in-Sig-clause-fault : goal.returns-in-Sig-clause-fault
returns-in-Sig-clause-fault c =
    let w = c.requires in
    let l = length_lexemes c.args.input.now.source.now c.args.input.now.tokens.now in
    λ e. title_kept (spot_at c.args.input.now.file c.args.input.now.source.now c.args.input.now.tokens.now) (lexemes c.args.input.now.source.now c.args.input.now.tokens.now) c.args.keyword keyword.Sig c.args.from c.refusal.result c.in-Sig.is refl (λ z. cc) (omega (arith, w, l)) c.refusal.ensures e

pub returns-in-Module-clause-fault : goal.returns-in-Module-clause-fault
returns-in-Module-clause-fault c =
    let w = c.requires in
    let l = length_lexemes c.args.input.now.source.now c.args.input.now.tokens.now in
    λ e. title_kept (spot_at c.args.input.now.file c.args.input.now.source.now c.args.input.now.tokens.now)
    (lexemes c.args.input.now.source.now c.args.input.now.tokens.now) c.args.keyword keyword.Module c.args.from c.refusal-in-Module.result
    c.in-Module.is refl (λ z. cc) (omega (arith, w, l)) c.refusal-in-Module.ensures e

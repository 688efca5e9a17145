use Rattle.std.proofs.Common.{inl, inr, sym, subst}
use Rattle.lp_lemmas.proofs.Results.{passed_up}
use Rattle.lp_fixity.specs.Table.{entry_of}
use Rattle.lp_syntax.specs.Tokens.{lexemes, spot_at}
use Rattle.lp_syntax.specs.Raw.{Shows}
use Rattle.lp_syntax.specs.Modules.{IsSentenceRefusal, Said, says}
use Rattle.lp_syntax.proofs.ModuleCode.{term_refused, end_refused}
use Rattle.lp_syntax.proofs.Depths.{term_fits, term_deep}
use Rattle.lp_syntax.proofs.whole.says.Goals as goal

pub returns-clause-sentence : goal.returns-clause-sentence
returns-clause-sentence c =
    let t = c.in_ok-text.ensures.term in
    record {
      clause = Said t.tree;
      is = says c.in_ok-text.text.end t.tree t.term c.in_ok-end.ensures.dot c.in_ok-end.ensures.further;
      said = subst (λ x. Shows (spot_at c.args.input.now.file c.args.input.now.source.now c.args.input.now.tokens.now) (lexemes c.args.input.now.source.now c.args.input.now.tokens.now) x.nodes.items x.root t.tree) (sym c.in_ok-term.ensures.term) t.nodes;
      fits = term_fits (lexemes c.args.input.now.source.now c.args.input.now.tokens.now) t.tree c.in_ok-text.text.depth t.depth c.in_ok-term.ensures.fits;
    }

pub returns-in_err-text-clause-fault : goal.returns-in_err-text-clause-fault
returns-in_err-text-clause-fault c = λ q. passed_up c.from_residual.result c.in_err-text.field-0.0
    (IsSentenceRefusal (spot_at c.args.input.now.file c.args.input.now.source.now c.args.input.now.tokens.now) (entry_of c.args.table.now)
    (lexemes c.args.input.now.source.now c.args.input.now.tokens.now) c.args.at) c.from_residual.ensures.1
    (term_refused (spot_at c.args.input.now.file c.args.input.now.source.now c.args.input.now.tokens.now) (entry_of c.args.table.now)
    (lexemes c.args.input.now.source.now c.args.input.now.tokens.now) c.args.at _ q c.in_err-text.ensures.fault)

pub returns-in_err-end-clause-fault : goal.returns-in_err-end-clause-fault
returns-in_err-end-clause-fault c = λ q. passed_up c.from_residual-in_err-end.result c.in_err-end.field-0.0
    (IsSentenceRefusal (spot_at c.args.input.now.file c.args.input.now.source.now c.args.input.now.tokens.now) (entry_of c.args.table.now)
    (lexemes c.args.input.now.source.now c.args.input.now.tokens.now) c.args.at) c.from_residual-in_err-end.ensures.1
    (inr (inr (end_refused (spot_at c.args.input.now.file c.args.input.now.source.now c.args.input.now.tokens.now) (entry_of c.args.table.now)
    (lexemes c.args.input.now.source.now c.args.input.now.tokens.now) c.args.at c.in_ok-text.text.end c.in_ok-text.ensures.term.tree _ q
    c.in_ok-text.ensures.term.term c.in_ok-text.ensures.over c.in_err-end.ensures.none c.in_err-end.ensures.refused)))

pub returns-in_err-term-clause-fault : goal.returns-in_err-term-clause-fault
returns-in_err-term-clause-fault c = λ q. passed_up c.from_residual-in_err-term.result c.in_err-term.field-0.0
    (IsSentenceRefusal (spot_at c.args.input.now.file c.args.input.now.source.now c.args.input.now.tokens.now) (entry_of c.args.table.now)
    (lexemes c.args.input.now.source.now c.args.input.now.tokens.now) c.args.at) c.from_residual-in_err-term.ensures.1
    (inr (inl (
      c.in_err-term.ensures.limit,
      (
        _,
        _,
        says c.in_ok-text.text.end c.in_ok-text.ensures.term.tree c.in_ok-text.ensures.term.term
            c.in_ok-end.ensures.dot c.in_ok-end.ensures.further,
        term_deep (lexemes c.args.input.now.source.now c.args.input.now.tokens.now)
            c.in_ok-text.ensures.term.tree c.in_ok-text.text.depth c.in_ok-text.ensures.term.depth c.in_err-term.ensures.deep,
      ),
    )))

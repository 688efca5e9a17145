use Rattle.std.proofs.Common.{subst, refl, sym, ap, ◌∙◌, inr}
use Rattle.lp_fixity.specs.Table.{entry_of}
use Rattle.lp_syntax.specs.Nodes.{trees, maybe}
use Rattle.lp_syntax.specs.Raw.{AreRaw, Shows}
use Rattle.lp_syntax.specs.Tokens.{lexemes, spot_at}
use Rattle.lp_syntax.proofs.TermSteps.{end_faults, end_term, refused_is}
use Rattle.lp_syntax.proofs.term.Reader.ends.Goals as goal

pub returns-in-None-clause-fault : goal.returns-in-None-clause-fault
returns-in-None-clause-fault c =
    inr
    (end_faults (spot_at c.args.input.now.file c.args.input.now.source.now c.args.input.now.tokens.now) (entry_of c.args.table.now)
    (lexemes c.args.input.now.source.now c.args.input.now.tokens.now) c.args.self c.args.doing c.args.at _ c.requires.reading c.requires.over
    (sym c.in_ok-finish.ensures.is ∙ ap (maybe (trees c.finish.new.nodes.items)) c.in-None.is)
    (refused_is (spot_at c.args.input.now.file c.args.input.now.source.now c.args.input.now.tokens.now) (entry_of c.args.table.now)
    (lexemes c.args.input.now.source.now c.args.input.now.tokens.now) c.args.self c.args.doing c.args.at c.innermost.result _ c.requires.reading
    c.refusal.ensures c.innermost.ensures))

pub returns-clause-term : goal.returns-clause-term
returns-clause-term c =
    end_term (spot_at c.args.input.now.file c.args.input.now.source.now c.args.input.now.tokens.now) (entry_of c.args.table.now)
    (lexemes c.args.input.now.source.now c.args.input.now.tokens.now) c.args.self c.args.doing c.args.at c.in-Some.root c.finish.new.nodes.items _
    _ c.requires.reading c.in-Some.is c.in_ok-finish.ensures refl
    (subst (λ ns. AreRaw (spot_at c.args.input.now.file c.args.input.now.source.now c.args.input.now.tokens.now) (lexemes c.args.input.now.source.now c.args.input.now.tokens.now) ns c.in_ok-nodes-in-Some.nodes.items) c.deref.ensures.value c.in_ok-nodes-in-Some.ensures)
    refl c.spot.ensures
    (λ t s. let v = c.deref-in-Some.ensures.value in c.in_ok-depth-in-Some.ensures (spot_at c.args.input.now.file c.args.input.now.source.now
    c.args.input.now.tokens.now) (lexemes c.args.input.now.source.now c.args.input.now.tokens.now) t
    (subst (λ l. Shows (spot_at c.args.input.now.file c.args.input.now.source.now c.args.input.now.tokens.now)
    (lexemes c.args.input.now.source.now c.args.input.now.tokens.now) l c.in-Some.root t) (sym v) s))

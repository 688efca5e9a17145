use Rattle.std.proofs.Common.{◌∙◌, ap, refl, subst}
use Rattle.std.specs.Prelude.{codes}
use Rattle.lp_lemmas.proofs.Results.{passed_up}
use Rattle.lp_lines.specs.declared.refusal.Refusal.TheVariants.{Memory}
use Rattle.lp_lines.specs.Placed.{IsOfText, IfSource}
use Rattle.lp_lines.specs.Refusals.{IsTextRefusal}
use Rattle.lp_lines.specs.declared.cause.Cause.TheVariants as cause
use Rattle.lp_load.specs.Asked.{IsAsked}
use Rattle.lp_load.specs.Refused.{IsRefusedQuery, no_memory}
use Rattle.lp_solve.specs.Queries.{IsQuery}
use Rattle.lp_solve.specs.Shown.{IsShownWith}
use Rattle.lp_solve.proofs.Beginning.{begins_so}
use Rattle.lp_solve.proofs.Refused.{named, shown_before}
use Rattle.lp_solve.proofs.prepare.start.Goals as goal

pub returns-clause-ready : goal.returns-clause-ready
returns-clause-ready c =
    λ told loaded.
    let old = c.args.built in
    let now = c.ask.new.built in
    let typed = c.in-Ok.typed in
    let same = c.as_bytes-text.ensures.value in
    let query = c.args.question.query.now in
    let asks : IsQuery told c.args.question.name.now query = record {
      built = old;
      loaded = loaded;
      bank = now.assembled.program.bank;
      grown = c.in-Ok.ensures.kept;
      typed = typed;
      asked = subst (λ t. IsAsked old.table old.signature t now.assembled.program.bank typed) same c.in-Ok.ensures.asked;
      coded = c.in-Ok.ensures.coded;
    } in
    record {
      asks = asks;
      begins = λ d P gs f. c.in_ok-search.ensures.begins d P gs (begins_so asks now.assembled.program refl c.in-Ok.ensures.clauses d P gs f);
      shown = shown_before query typed old now c.in_ok-shown.shown c.in-Ok.ensures.signature c.in-Ok.ensures.names
          (subst (λ t. IsShownWith t typed now c.in_ok-shown.shown) same c.in_ok-shown.ensures);
      going = c.in_ok-search.ensures.going;
      constants = c.in_ok-search.ensures.constants ∙ ap (λ cs. cs.items) c.in-Ok.ensures.constants;
    }

pub returns-clause-prepared : goal.returns-clause-prepared
returns-clause-prepared c = c.in_ok-search.ensures.variables ∙ named _ _ _ _ c.in_ok-shown.ensures

pub returns-in_err-shown-clause-refused : goal.returns-in_err-shown-clause-refused
returns-in_err-shown-clause-refused c = passed_up c.from_residual.result Memory IsTextRefusal c.from_residual.ensures.1 tt

pub returns-in_err-shown-clause-placed : goal.returns-in_err-shown-clause-placed
returns-in_err-shown-clause-placed c = passed_up c.from_residual.result Memory (IfSource (IsOfText (codes "query") c.args.question.query.now)) c.from_residual.ensures.1 tt

pub returns-in_err-search-clause-refused : goal.returns-in_err-search-clause-refused
returns-in_err-search-clause-refused c = passed_up c.from_residual-in_err-search.result Memory IsTextRefusal c.from_residual-in_err-search.ensures.1 tt

pub returns-in_err-search-clause-placed : goal.returns-in_err-search-clause-placed
returns-in_err-search-clause-placed c = passed_up c.from_residual-in_err-search.result Memory (IfSource (IsOfText (codes "query") c.args.question.query.now)) c.from_residual-in_err-search.ensures.1 tt

pub returns-in-Err-clause-cause : goal.returns-in-Err-clause-cause
returns-in-Err-clause-cause c = subst (λ t. IsRefusedQuery c.args.built t c.in-Err.refusal) c.as_bytes-text.ensures.value c.in-Err.ensures.cause

pub returns-in_err-shown-clause-cause : goal.returns-in_err-shown-clause-cause
returns-in_err-shown-clause-cause c = passed_up c.from_residual.result Memory (IsRefusedQuery c.args.built c.args.question.query.now) c.from_residual.ensures.1 (cause.Memory, no_memory, refl)

pub returns-in_err-search-clause-cause : goal.returns-in_err-search-clause-cause
returns-in_err-search-clause-cause c = passed_up c.from_residual-in_err-search.result Memory (IsRefusedQuery c.args.built c.args.question.query.now) c.from_residual-in_err-search.ensures.1 (cause.Memory, no_memory, refl)

use Rattle.std.proofs.Common.{refl, map, subst as transport}
use Rattle.lp_term.specs.Nodes.{tree}
use Rattle.lp_pattern.specs.Seen.{IsHead}
use Rattle.lp_pattern.specs.Refusing.{IsOfTerm}
use Rattle.lp_pattern.specs.Stripping.{IsPattern, HasNoPattern, read_at}
use Rattle.lp_pattern.proofs.Results.{err_and}
use Rattle.lp_pattern.proofs.Judging.{side_none, side_open, side_some, side_refused}
use Rattle.lp_pattern.proofs.rules.side_of.Goals as goal

pub returns-in_default-clause-side : goal.returns-in_default-clause-side
returns-in_default-clause-side c = λ r i h m. side_none c.args.bank.now r m c.args.pair c.args.looked.now c.in_default.not-Variable

pub returns-in_err-pattern-clause-refused : goal.returns-in_err-pattern-clause-refused
returns-in_err-pattern-clause-refused c =
    err_and c.from_residual.result (λ e. IsOfTerm c.in_err-pattern.field-0.0 e) _ c.from_residual.ensures.1
    (λ y o r i h m.
    side_refused c.args.bank.now r m c.args.pair c.in-Variable.id c.in-Variable.level c.none-opened.result.level c.none-opened.result.depth c.args.looked.now c.in_err-pattern.field-0.0 y c.in-Variable.is c.none-opened.ensures.depth o
    (λ l. transport (λ z. HasNoPattern m c.in-Variable.level (map (read_at c.args.bank.now r c.none-opened.result.level c.none-opened.result.depth) z) c.in_err-pattern.field-0.0) c.as_slice-arguments.ensures.value (c.in_err-pattern.ensures.refused r i h m l)))

pub returns-in_default-pattern-clause-side : goal.returns-in_default-pattern-clause-side
returns-in_default-pattern-clause-side c = λ r i h m.
    side_open c.args.bank.now r m c.args.pair c.in-Variable.id c.in-Variable.level c.none-opened.result.level c.none-opened.result.depth c.args.looked.now c.in-Variable.is c.none-opened.ensures.depth
    (transport (λ o. IsPattern m c.in-Variable.level (map (read_at c.args.bank.now r c.none-opened.result.level c.none-opened.result.depth) c.args.looked.now.arguments.items) o) c.in_default-pattern.is
    (transport (λ l. IsPattern m c.in-Variable.level (map (read_at c.args.bank.now r c.none-opened.result.level c.none-opened.result.depth) l) c.in_ok-pattern.pattern) c.as_slice-arguments.ensures.value (c.in_ok-pattern.ensures.pattern r i h m)))

pub returns-clause-side : goal.returns-clause-side
returns-clause-side c = λ r i h m.
    side_some c.args.bank.now r m c.args.pair c.in-Variable.id c.in-Variable.level c.none-opened.result.level c.none-opened.result.depth
    c.args.looked.now c.in-Some.pattern (record {
      id = c.in-Variable.id;
      level = c.in-Variable.level;
      eigens = c.in-Some.pattern.eigens;
      pair = c.args.pair;
    }) c.in-Variable.is c.none-opened.ensures.depth
    (transport (λ o. IsPattern m c.in-Variable.level (map (read_at c.args.bank.now r c.none-opened.result.level c.none-opened.result.depth) c.args.looked.now.arguments.items) o) c.in-Some.is
    (transport (λ l. IsPattern m c.in-Variable.level (map (read_at c.args.bank.now r c.none-opened.result.level c.none-opened.result.depth) l) c.in_ok-pattern.pattern) c.as_slice-arguments.ensures.value (c.in_ok-pattern.ensures.pattern r i h m)))
    refl refl refl refl

pub returns-clause-free : goal.returns-clause-free
returns-clause-free c =
    (transport (λ y. IsHead c.args.bank.now c.args.bindings.now y (tree c.args.bank.now c.args.looked.now.top.0) c.args.looked.now.arguments.items) c.in-Variable.is c.requires.looked.head).1

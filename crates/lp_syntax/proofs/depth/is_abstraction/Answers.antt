use Rattle.std.proofs.Common.{sym, ap, ◌∙◌, true, false, arith}
use Rattle.std.specs.Prelude.{Some}
use Rattle.std.proofs.lemmas.Option.{slice_get-get_or}
use Rattle.lp_syntax.proofs.Depths.{term_within, head_is}
use Rattle.lp_syntax.proofs.depth.is_abstraction.Goals as goal

pub returns-in-None-clause-no : goal.returns-in-None-clause-no
returns-in-None-clause-no c = λ spot ls t e s n. let u = term_within spot ls c.args.nodes.now c.args.node t s in let v = c.in-None.ensures.lookup.3 in absurd (omega (arith, u, v))

pub returns-in-Some-clause-yes : goal.returns-in-Some-clause-yes
returns-in-Some-clause-yes c = λ spot ls t e s n. head_is spot ls c.args.nodes.now c.args.node _ c.binds.result true (slice_get-get_or c.args.nodes.now c.args.node _ c.in-Some.ensures.lookup.3.0 ∙ ap Some (sym c.in-Some.ensures.lookup.1)) c.binds.ensures e t s n

pub returns-in-Some-clause-no : goal.returns-in-Some-clause-no
returns-in-Some-clause-no c = λ spot ls t e s n. head_is spot ls c.args.nodes.now c.args.node _ c.binds.result false (slice_get-get_or c.args.nodes.now c.args.node _ c.in-Some.ensures.lookup.3.0 ∙ ap Some (sym c.in-Some.ensures.lookup.1)) c.binds.ensures e t s n

use Rattle.std.proofs.Common.{◌^◌, arith}
use Rattle.std.proofs.lemmas.List.Elements.{All-map}
use Rattle.lp_term.specs.Nodes.{tree}
use Rattle.lp_term.specs.Spine.{LooseBelow, height}
use Rattle.lp_term.specs.Frame.{in_order}
use Rattle.lp_term.proofs.Loose.{fits_each, height_below}
use Rattle.lp_term.proofs.Contract.{heights_each}
use Rattle.lp_pattern.proofs.look.contracted.Goals as goal

pub substitute_all-requires-clause-fits : goal.substitute_all-requires-clause-fits
substitute_all-requires-clause-fits c =
    let b = c.args.bank.now in
    let count = c.term_count-count.ensures in
    fits_each (2 ^ 32) (in_order b c.args.arguments.now) (tree b c.args.body.0) (All-map (LooseBelow (2 ^ 32) 0) (λ t. tree b t.0) c.args.arguments.now (c.are_below.ensures c.if-not-are_below.false))
    (heights_each b count.sound count.few (2 ^ 32) (height (tree b c.args.body.0)) (omega arith) (omega (arith, height_below b count.sound c.args.body.0 c.requires.body, count.few, c.requires.body)) c.args.arguments.now
    c.requires.arguments)

use Rattle.std.proofs.Common.{◌∙◌, length, map, sym, ap, arith}
use Rattle.std.proofs.lemmas.List.{nil_from_length}
use Rattle.lp_term.specs.Nodes.{tree}
use Rattle.lp_gen.proofs.KeyOf.{first_none, first_some}
use Rattle.lp_gen.proofs.head.key_of.Goals as goal

pub returns-in_default : goal.returns-in_default
returns-in_default c =
    let b = c.args.bank.now in
    let s = c.in_ok-spine.spine in
    let z = ap length c.as_slice.ensures.value in
    first_none (tree b c.args.head.0) (tree b s.head.0) (map (λ t. tree b t.0) s.args.items) c.in_ok-spine.ensures.head c.in_ok-spine.ensures.tree
    (ap (map (λ t. tree b t.0)) (nil_from_length s.args.items (omega (arith, z, c.in_default.ensures.cases))))

pub returns : goal.returns
returns c =
    let b = c.args.bank.now in
    let s = c.in_ok-spine.spine in
    first_some c.in_ok-key.key (tree b c.args.head.0) (tree b s.head.0) (tree b c.in-Some.first.now.0) (map (λ t. tree b t.0) s.args.items)
    (map (λ t. tree b t.0) c.in-Some.field-0-1.now) c.in_ok-spine.ensures.head
    c.in_ok-spine.ensures.tree (ap (map (λ t. tree b t.0)) (sym c.as_slice.ensures.value ∙ c.in-Some.ensures.cases.0)) c.in_ok-key.ensures

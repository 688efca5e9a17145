use Rattle.std.proofs.Common.{sym}
use Rattle.std.proofs.lemmas.List.{length-map}
use Rattle.lp_term.specs.Nodes.{type_tree}
use Rattle.lp_bytes.specs.Numbers.{spelled_two}
use Rattle.lp_bytes.proofs.Lengthened.{more_last}
use Rattle.lp_cert.proofs.Waits.{counted_so}
use Rattle.lp_cert.proofs.nodes.write_back.Goals as goal

pub returns : goal.returns
returns c =
    let r = c.write_types.result in
    let count = counted_so _ _ (λ n. spelled_two n) _ _ (sym (length-map c.args.types.now (λ t. type_tree c.args.bank.now t.0))) c.in_ok-low_two.ensures in
    more_last r _ _ _ _ _ c.in_ok-byte.ensures (more_last r _ _ _ _ _ c.in_ok-four.ensures (more_last r _ _ _ _ _ count c.write_types.ensures))

use Rattle.std.proofs.Common.{◌≡◌, length, map, sym, ◌∙◌, arith}
use Rattle.std.specs.List.{flat_map}
use Rattle.std.proofs.lemmas.List.{length-map}
use Rattle.lp_term.specs.Nodes.{tree, type_tree}
use Rattle.lp_bytes.specs.Numbers.{spelled_four}
use Rattle.lp_bytes.proofs.Lengthened.{more_last}
use Rattle.lp_cert.specs.Same.{types_in, terms_in}
use Rattle.lp_cert.specs.Spelling.{spelled_type, spelled_term, spelled_node, spelled_certificate}
use Rattle.lp_cert.specs.Written.{node_of}
use Rattle.lp_cert.proofs.Waits.{counted_so, written_so, written_last}
use Rattle.lp_cert.proofs.file.write_certificate.Goals as goal

pub returns : goal.returns
unfolding spelled_certificate
returns c =
    let r = c.write_proof.result in
    let m : c.len.result ≡ length c.args.certificate.now.types.items = omega (arith, c.len.ensures, c.args.certificate.now.types.ok) in
    let n : c.len-2.result ≡ length c.args.certificate.now.values.items = omega (arith, c.len-2.ensures, c.args.certificate.now.values.ok) in
    let types = counted_so _ _ (λ n. spelled_four n) _ _ (m ∙ sym (length-map c.args.certificate.now.types.items (λ t. type_tree c.args.bank.now t.0))) c.in_ok-low_four.ensures in
    let values = counted_so _ _ (λ n. spelled_four n) _ _ (n ∙ sym (length-map c.args.certificate.now.values.items (λ t. tree c.args.bank.now t.0))) c.in_ok-low_four-2.ensures in
    let first = written_so (λ ids. flat_map spelled_type (types_in c.args.bank.now ids)) _ _ _ _ c.as_slice.ensures.value c.in_ok-write_types.ensures in
    let second = written_so (λ ids. flat_map spelled_term (terms_in c.args.bank.now ids)) _ _ _ _ c.as_slice-2.ensures.value c.in_ok-write_terms.ensures in
    let third = written_last r (λ ns. flat_map spelled_node (map (node_of c.args.bank.now) ns)) _ _ _ _ c.as_slice-3.ensures.value c.write_proof.ensures in
    more_last r _ _ _ _ _ types (more_last r _ _ _ _ _ first (more_last r _ _ _ _ _ values (more_last r _ _ _ _ _ second third)))

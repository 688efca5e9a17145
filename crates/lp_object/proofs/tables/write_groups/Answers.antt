use Rattle.std.proofs.Common.{◌≡◌, length, map, ap, ◌∙◌, arith}
use Rattle.std.specs.List.{flat_map}
use Rattle.std.proofs.lemmas.List.{length-map}
use Rattle.lp_bytes.specs.Numbers.{spelled_four}
use Rattle.lp_bytes.proofs.Lengthened.{more_then}
use Rattle.lp_code.specs.Groups.{looked_key}
use Rattle.lp_object.specs.Plain.{plain_record}
use Rattle.lp_object.specs.Tables.{group_of, spelled_group, spelled_groups, keys_of}
use Rattle.lp_object.proofs.Grouped.{keys_are}
use Rattle.lp_object.proofs.Writes.{written_so, counted_so}
use Rattle.lp_object.proofs.tables.write_groups.Goals as goal

pub returns : goal.returns
unfolding spelled_groups
returns c = let keys : map looked_key c.in_ok-keys.keys.items ≡ keys_of (map plain_record c.args.image.now.code.records.items)
    c.args.constant = c.in_ok-keys.ensures.keys ∙ keys_are c.args.image.now.code.records.items c.args.constant in let count : c.len.result ≡ length
    (keys_of (map plain_record c.args.image.now.code.records.items) c.args.constant) = omega
    (arith, c.len.ensures, c.in_ok-keys.keys.ok, length-map c.in_ok-keys.keys.items looked_key, ap length keys) in more_then _ _ _ _ _
    c.in_ok-four.ensures (more_then _ _ _ _ _ (counted_so (λ n. spelled_four n) _ _ _ _ count c.in_ok-low_four.ensures)
    (written_so (λ ks. flat_map (λ k. spelled_group (group_of (map plain_record c.args.image.now.code.records.items) c.args.constant k) k) ks) _ _ _ _
    (ap (map looked_key) c.as_slice.ensures.value ∙ keys) c.in_ok-write_keyed.ensures))

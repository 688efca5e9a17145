use Rattle.std.proofs.Common.{◌≡◌, length, map, ap, ◌∙◌, arith}
use Rattle.std.specs.List.{flat_map}
use Rattle.lp_bytes.specs.Numbers.{spelled_four}
use Rattle.lp_bytes.proofs.Lengthened.{more_then}
use Rattle.lp_object.specs.Plain.{plain_record}
use Rattle.lp_object.specs.Tables.{spelled_groups, spelled_tables, heads_of}
use Rattle.lp_object.proofs.Grouped.{heads_are}
use Rattle.lp_object.proofs.Writes.{written_so, counted_so}
use Rattle.lp_object.proofs.tables.write_tables.Goals as goal

pub returns : goal.returns
unfolding spelled_tables
returns c = let heads : c.in_ok-heads.heads.items ≡ heads_of (map plain_record c.args.image.now.code.records.items) = c.in_ok-heads.ensures.heads ∙
    heads_are c.args.image.now.code.records.items in let count : c.len.result ≡ length
    (heads_of (map plain_record c.args.image.now.code.records.items)) = omega (arith, c.len.ensures, c.in_ok-heads.heads.ok, ap length heads) in
    more_then _ _ _ _ _ (counted_so (λ n. spelled_four n) _ _ _ _ count c.in_ok-low_four.ensures)
    (written_so (λ cs. flat_map (spelled_groups (map plain_record c.args.image.now.code.records.items)) cs) _ _ _ _ (c.as_slice.ensures.value ∙ heads)
    c.in_ok-write_grouped.ensures)

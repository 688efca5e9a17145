use Rattle.std.proofs.Common.{◌≡◌, length, map, ap, ◌∙◌, arith}
use Rattle.std.specs.List.{flat_map}
use Rattle.lp_bytes.specs.Numbers.{spelled_four}
use Rattle.lp_bytes.proofs.Lengthened.{more_last, all_written, too_many}
use Rattle.lp_object.specs.Plain.{plain_instr}
use Rattle.lp_object.specs.Spelling.{spelled_instr, spelled_code}
use Rattle.lp_object.proofs.Writes.{behind_so, all_too_much, written_last, counted_so}
use Rattle.lp_object.proofs.code.write_code.Goals as goal

pub returns-in_ok-low_four-in-Ok : goal.returns-in_ok-low_four-in-Ok
unfolding spelled_code
returns-in_ok-low_four-in-Ok c = let all = all_written _ (flat_map (spelled_instr c.args.width) (map plain_instr c.args.code.now)) c.in-Ok.bytes.items
    (behind_so _ _ _ _ c.new-inside.ensures c.in_ok-write_instructions.ensures) c.in-Ok.ensures.bytes in let count : c.len.result ≡ length
    (flat_map (spelled_instr c.args.width) (map plain_instr c.args.code.now)) = omega (arith, c.len.ensures, c.in-Ok.bytes.ok, ap length all.0) in
    more_last c.put.result _ _ _ _ _ (counted_so (λ n. spelled_four n) _ _ _ _ count c.in_ok-low_four-in-Ok.ensures)
    (written_last c.put.result (λ x. x) _ _ _ _ (c.as_slice.ensures.value ∙ all.0) c.put.ensures)

pub returns-in-Err : goal.returns-in-Err
unfolding spelled_code
returns-in-Err c = all_too_much _ _ _ c.fill.ensures (omega (arith, too_many _ (flat_map (spelled_instr c.args.width) (map plain_instr c.args.code.now)) (behind_so _ _ _ _ c.new-inside.ensures c.in_ok-write_instructions.ensures) c.in-Err.ensures.many.1))

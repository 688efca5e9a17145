use Rattle.std.proofs.Common.{◌≡◌, None, ap, arith}
use Rattle.std.specs.Prelude.{slice_index_or}
use Rattle.lp_bytes.specs.Reading.{left_of}
use Rattle.lp_object.specs.Reading.{layouts, laid_out_at}
use Rattle.lp_object.proofs.instructions.read_calling.Goals as goal

pub returns-in_default-clause-read : goal.returns-in_default-clause-read
returns-in_default-clause-read c =
    let e : c.args.byte ≡ 26 = omega (arith, c.requires, c.in_default) in
    λ at. ap (λ n. laid_out_at c.args.width at n (slice_index_or layouts n None) (left_of c.args.r.now)) e

use Rattle.std.proofs.Common.{◌≡◌, ◌<◌, length}
use Rattle.std.specs.Prelude.{Contains}
use Rattle.lp_base.specs.declared.limit.Limit.TheVariants as limit
use Rattle.lp_base.specs.declared.place.Spot.{Spot}
use Rattle.lp_sig.specs.Pieces.{spelled}
use Rattle.lp_sig.specs.declared.fault.SigFault.TheVariants as fault
use Rattle.lp_sig.proofs.Wording.{long_among}
use Rattle.std.proofs.lemmas.List.Elements.{All-more}
use Rattle.lp_lemmas.proofs.Results.{passed_up}
use Rattle.lp_sig.specs.Limits.{IsShort}
use Rattle.lp_sig.proofs.declare.check_lengths.Goals as goal

pub loop-name-preserved : goal.loop-name-preserved
loop-name-preserved c = All-more (IsShort c.args.source.now) c.args.names.now c.loop-name.name-index _ c.loop-name-test.true c.loop-name.invariant c.in_ok-check_length.ensures.taken

pub returns-in_err-check_length-clause-long : goal.returns-in_err-check_length-clause-long
returns-in_err-check_length-clause-long c =
    passed_up c.from_residual.result c.in_err-check_length.field-0.0 (λ e. (e ≡ fault.Limit limit.NameLength) × ((s : Spot) × Contains c.args.names.now s × (255 < length (spelled c.args.source.now s)))) c.from_residual.ensures.1
    (long_among c.args.source.now c.args.names.now c.loop-name.name-index _ c.in_err-check_length.field-0.0 c.loop-name-test.true c.in_err-check_length.ensures.long)

use Rattle.lp_verify.specs.declared.record.Captured.{Captured}
use Rattle.lp_verify.proofs.record.Work.hand.Goals as goal

pub returns : goal.returns
returns c =
    let k : Captured = record { types = c.in_ok-types.types; terms = c.in_ok-terms.terms } in
    (k, c.in_ok-push.ensures.items, c.in_ok-types.ensures, c.in_ok-terms.ensures)

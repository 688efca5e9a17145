use Rattle.std.proofs.Common.{length, subst, refl}
use Rattle.lp_plain.specs.Standings.{OfFree, OfStanding}
use Rattle.lp_plain.proofs.Opening.{bank_grows, bank_stands}
use Rattle.lp_plain.proofs.negation.openness_at.Goals as goal

pub returns-clause-found : goal.returns-clause-found
returns-clause-found c = λ k r h.
    let m = c.args.machine.now in
    subst (λ l. OfStanding m.table.frees.items l (OfFree m.bank k m.scopes) (length l) c.in_ok-openness.openness
    (record { free = c.args.free; values = c.args.place.values; older = c.args.place.standing })) c.as_slice.ensures.value
    (c.in_ok-openness.ensures.judged k r h)

pub returns-clause-grows : goal.returns-clause-grows
returns-clause-grows c = bank_grows c.args.machine.now _ c.in_ok-openness.ensures.kept refl refl refl

pub returns-clause-stands : goal.returns-clause-stands
returns-clause-stands c = bank_stands c.args.machine.now _ c.in_ok-openness.ensures.kept refl refl refl

pub returns-clause-program : goal.returns-clause-program
returns-clause-program c = record { bank = c.in_ok-openness.ensures.kept; table = refl; index = refl }

pub returns-clause-bank : goal.returns-clause-bank
returns-clause-bank c = record { bank = c.in_ok-openness.ensures.kept; same = refl }

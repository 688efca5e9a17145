use Rattle.std.proofs.Common.{arith, subst}
use Rattle.std.proofs.lemmas.List.{length-map}
use Rattle.lp_code.specs.declared.object.Object.{Object}
use Rattle.lp_places.specs.Places.{HasPlaces}
use Rattle.lp_link.specs.Uses.{names_of}
use Rattle.lp_files.proofs.Ordering.{names_pushed}
use Rattle.lp_files.proofs.link.Reading.take.Goals as goal

pub returns-clause-found : goal.returns-clause-found
returns-clause-found c =
    let n = length-map c.args.self.now.objects.items (λ (o : Object). o.name.items) in
    subst (HasPlaces c.add.new.self) (names_pushed c.args.self.now.objects.items c.push.new.self.items c.args.object c.as_slice.result.now c.in_ok-push.ensures.items c.as_slice.ensures.value)
    (c.in_ok-add.ensures.added (names_of c.args.self.now.objects.items) (omega (arith, n, c.len.ensures, c.args.self.now.objects.ok)) c.requires.found)

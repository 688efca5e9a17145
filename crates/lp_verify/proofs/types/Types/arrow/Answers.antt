use Rattle.std.proofs.Common.{◌∙◌, refl}
use Rattle.lp_calculus.specs.Types.{arrow}
use Rattle.lp_verify.specs.declared.types.Types.{Types}
use Rattle.lp_verify.proofs.FirstTypes.{put_grows, put_found}
use Rattle.lp_verify.proofs.UsedConstants.{uses_stay}
use Rattle.lp_verify.proofs.types.Types.arrow.Goals as goal

pub returns-clause-grow : goal.returns-clause-grow
returns-clause-grow c =
    let x = c.args.self.now in
    let m : Types = record { alloc = x.alloc; bank = c.put_arrow.new.bank; firsts = x.firsts; keys = x.keys; uses = x.uses; proposition = x.proposition; integer = x.integer; text = x.text } in
    let g = put_grows x m c.found.new.self c.put_arrow.ensures.kept refl refl refl refl refl c.in_ok-made.ensures.kept c.in_ok-made.ensures.found in
    (g, uses_stay x c.found.new.self g c.in_ok-made.ensures.kept.4)

pub returns-clause-made : goal.returns-clause-made
returns-clause-made c = λ T U from to.
    let x = c.args.self.now in
    let m : Types = record { alloc = x.alloc; bank = c.put_arrow.new.bank; firsts = x.firsts; keys = x.keys; uses = x.uses; proposition = x.proposition; integer = x.integer; text = x.text } in
    put_found x m c.found.new.self c.put_arrow.ensures.kept refl refl refl refl refl c.in_ok-made.ensures.kept c.in_ok-made.ensures.found c.in_ok-id.id.0 c.in_ok-made.made _ from.3 c.in_ok-id.ensures.within (c.in_ok-id.ensures.tree ∙ (λ j. arrow (from.2 j) (to.2 j))) c.in_ok-made.ensures.number

use Rattle.std.proofs.Common.{◌∙◌, ap, refl}
use Rattle.lp_calculus.specs.Types.{con, tys}
use Rattle.lp_verify.specs.declared.types.Types.{Types}
use Rattle.lp_verify.proofs.FirstTypes.{put_grows, put_found, part_trees}
use Rattle.lp_verify.proofs.UsedConstants.{uses_stay}
use Rattle.lp_verify.proofs.types.Types.con.Goals as goal

pub returns-clause-grow : goal.returns-clause-grow
returns-clause-grow c =
    let x = c.args.self.now in
    let m : Types = record { alloc = x.alloc; bank = c.put_constructor.new.bank; firsts = x.firsts; keys = x.keys; uses = x.uses; proposition = x.proposition; integer = x.integer; text = x.text } in
    let g = put_grows x m c.found.new.self c.put_constructor.ensures.kept refl refl refl refl refl c.in_ok-made.ensures.kept c.in_ok-made.ensures.found in
    (g, uses_stay x c.found.new.self g c.in_ok-made.ensures.kept.4)

pub returns-clause-made : goal.returns-clause-made
returns-clause-made c = λ a Ts parts.
    let x = c.args.self.now in
    let m : Types = record { alloc = x.alloc; bank = c.put_constructor.new.bank; firsts = x.firsts; keys = x.keys; uses = x.uses; proposition = x.proposition; integer = x.integer; text = x.text } in
    put_found x m c.found.new.self c.put_constructor.ensures.kept refl refl refl refl refl c.in_ok-made.ensures.kept c.in_ok-made.ensures.found
    c.in_ok-id.id.0 c.in_ok-made.made _ a c.in_ok-id.ensures.within (c.in_ok-id.ensures.tree ∙ ap (λ l. con c.args.kind (tys l))
    (part_trees x c.args.parts.now Ts parts)) c.in_ok-made.ensures.number

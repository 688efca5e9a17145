use Rattle.std.proofs.Common.{◌∙◌, refl}
use Rattle.lp_calculus.specs.Term.{atom, logic}
use Rattle.lp_calculus.specs.Typing.{type_at}
use Rattle.lp_term.specs.Nodes.{type_tree}
use Rattle.lp_term.proofs.MapLaws.{putting, type_put}
use Rattle.lp_verify.specs.declared.types.Types.{Types}
use Rattle.lp_verify.proofs.FirstTypes.{put_grows, put_found}
use Rattle.lp_verify.proofs.UsedConstants.{filling_is_map}
use Rattle.lp_verify.proofs.types.Types.put_instance.Goals as goal

pub returns-clause-grow : goal.returns-clause-grow
returns-clause-grow c =
    let x = c.args.self.now in
    let m : Types = record { alloc = x.alloc; bank = c.copy_type.new.to; firsts = x.firsts; keys = x.keys; uses = x.uses; proposition = x.proposition; integer = x.integer; text = x.text } in
    put_grows x m c.found.new.self c.copy_type.ensures.kept refl refl refl refl refl c.in_ok-id.ensures.kept c.in_ok-id.ensures.found

pub returns-clause-uses : goal.returns-clause-uses
returns-clause-uses c = c.in_ok-id.ensures.kept.4

pub returns-clause-made : goal.returns-clause-made
returns-clause-made c = λ basics Ts types.
    let x = c.args.self.now in
    let m : Types = record { alloc = x.alloc; bank = c.copy_type.new.to; firsts = x.firsts; keys = x.keys; uses = x.uses; proposition = x.proposition; integer = x.integer; text = x.text } in
    let b = c.args.bank.now in
    let θ = type_at Ts in
    put_found x m c.found.new.self c.copy_type.ensures.kept refl refl refl refl refl c.in_ok-id.ensures.kept c.in_ok-id.ensures.found c.in_ok-made.made.0 c.in_ok-id.id _ basics.firsts c.in_ok-made.ensures.within
    (c.in_ok-made.ensures.made (putting θ (λ v l. atom (logic v l))) (filling_is_map x (record { types = c.args.types; other = x.proposition }) b Ts
    types basics.proposition) (c.new-changed.ensures (putting θ (λ v l. atom (logic v l))) b x.bank) ∙ type_put θ (λ v l. atom (logic v l))
    (type_tree b c.args.body.0))
    c.in_ok-id.ensures.number

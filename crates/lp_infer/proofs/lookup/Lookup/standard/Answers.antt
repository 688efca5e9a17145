use Rattle.std.proofs.Common.{refl, ap}
use Rattle.lp_standard.specs.Schemes.{standard_schemes, entry}
use Rattle.lp_infer.specs.Typing.{raw_constant}
use Rattle.lp_infer.specs.Texts.{read_constant}
use Rattle.lp_infer.specs.Postfix.{scheme_or}
use Rattle.lp_infer.specs.declared.lookup.Step.TheVariants as step
use Rattle.lp_infer.proofs.Leaves.{leaf_pushed, standard_there, none_standard}
use Rattle.lp_infer.proofs.lookup.Lookup.standard.Goals as goal

pub returns-then-number-ge-RESERVED : goal.returns-then-number-ge-RESERVED
returns-then-number-ge-RESERVED c = λ sig text count. ap (λ s. read_constant c.args.number s c.args.self.now.variables.places.items) (none_standard c.args.number c.if-number-ge-RESERVED.true)

pub returns : goal.returns
returns c = λ sig text.
    leaf_pushed sig text _ c.args.self.now _ (step.Standard c.args.number) (λ count. raw_constant c.args.number (scheme_or (entry standard_schemes c.args.number))) c.in_ok-push.ensures.items
    (λ count. ap (λ s. read_constant c.args.number s c.args.self.now.variables.places.items) (standard_there c.args.number c.if-number-ge-RESERVED.false)) (λ count τ. refl) (λ n. c.if-number-ge-RESERVED.false) refl refl refl refl

use Rattle.std.proofs.Common.{◌∙◌, length}
use Rattle.std.specs.Prelude.{◌&&◌, nat_eq}
use Rattle.lp_calculus.specs.Typing.{o_type}
use Rattle.lp_code.specs.Steps.{head_built}
use Rattle.lp_code.specs.Symbolic.{result_type}
use Rattle.lp_verify.proofs.HeadTypes.{as_many}
use Rattle.lp_verify.proofs.LooseTypes.{equal_is}
use Rattle.lp_verify.proofs.head.HeadSoFar.is_complete.Goals as goal

pub returns : goal.returns
returns c = λ h s basics k.
    let x = c.args.types.now in
    let p = c.args.self.now in
    c.both.ensures ∙ (λ j. nat_eq ((c.type_count.ensures ∙ as_many x p.types.items s.head_types k.types) j) (k.count j) && equal_is x p.left x.proposition (result_type (head_built h s).type (length s.head_arguments)) o_type k.left basics.proposition j)

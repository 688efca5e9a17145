use Rattle.std.proofs.Common.{◌≡◌, suc, refl, arith}
use Rattle.std.proofs.lemmas.Grind.{common_steps}
use Rattle.lp_infer.proofs.generate.Typing.new_variable.Goals as goal

pub returns : goal.returns
returns c =
    let up : c.in-Some.next ≡ suc c.args.self.now.next = grind (arith, common_steps) in record {
      grown = record { kept = c.in_ok-id.ensures.kept; context = refl; pairs = refl; wanted = refl; stack = refl; next = up };
      is = (c.in_ok-id.ensures.within, c.in_ok-id.ensures.tree);
    }

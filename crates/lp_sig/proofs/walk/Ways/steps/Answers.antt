use Rattle.std.proofs.Common.{◌≡◌, map, length, replicate, false, arith, ◌∙◌, ap, subst}
use Rattle.std.proofs.lemmas.List.{length-map}
use Rattle.std.proofs.lemmas.Result.{IfOk-weaker}
use Rattle.lp_sig.specs.Loading.{Loads, IsLoadOrder}
use Rattle.lp_sig.proofs.walk.Ways.steps.Goals as goal

pub returns : goal.returns
returns c =
    let ways = map (λ out. out.items) c.args.self.now.ways.items in
    let l = length-map c.args.self.now.ways.items (λ out. out.items) in
    let n : c.len.result ≡ length ways = omega (arith, c.len.ensures, c.args.self.now.ways.ok, l) in
    IfOk-weaker c.steps_from.result (λ steps. Loads ways c.in_ok-marks.marks.items c.args.root steps.items c.steps_from.new.marks.items) (λ steps. IsLoadOrder ways c.args.root steps.items)
    (λ steps x. (c.steps_from.new.marks.items, subst (λ m. Loads ways m c.args.root steps.items c.steps_from.new.marks.items) (c.in_ok-marks.ensures ∙ ap (λ n. replicate n false) n) x)) c.steps_from.ensures

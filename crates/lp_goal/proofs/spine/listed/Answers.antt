use Rattle.std.proofs.Common.{◌≡◌, [], sym, ap, ◌∙◌, map, reverse, arith, nat_eq, true}
use Rattle.std.specs.Prelude.{vec_len}
use Rattle.std.proofs.lemmas.Bool.Decides.{nat_tests}
use Rattle.std.proofs.lemmas.List.{nil_from_length}
use Rattle.lp_goal.proofs.Tops.{list_made}
use Rattle.lp_goal.proofs.spine.listed.Goals as goal

pub returns-clause-cells : goal.returns-clause-cells
returns-clause-cells c = list_made c.args.store.now c.list.new.self c.in_ok-list.list c.as_slice.result.now (reverse c.args.gathered.items) c.in_ok-list.ensures.put c.in_ok-list.ensures.span.0 c.in_ok-list.ensures.span.1 (c.as_slice.ensures.value ∙ c.reverse.ensures.items)

pub returns-then-is_empty-clause-cells : goal.returns-then-is_empty-clause-cells
returns-then-is_empty-clause-cells c =
    let e : nat_eq (vec_len c.args.gathered) 0 ≡ true = sym c.is_empty.ensures ∙ c.if-is_empty.true in
    let n : vec_len c.args.gathered ≡ 0 = grind (e, arith, nat_tests) in
    let i : c.args.gathered.items ≡ [] = nil_from_length c.args.gathered.items (omega (arith, n, c.args.gathered.ok)) in
    ap (λ l. map (λ t. t.0) (reverse l)) (sym i)

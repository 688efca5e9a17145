use Rattle.std.proofs.Common.{◌≡◌, ◌<◌, ◌+◌, ◌-◌, length, take, drop, sym, subst, arith}
use Rattle.std.specs.Prelude.{All}
use Rattle.std.proofs.lemmas.Grind.{common_steps}
use Rattle.std.proofs.lemmas.List.Elements.{All-drop}
use Rattle.lp_susp.proofs.TypeWorks.{numbers_all, rest_of, con_made}
use Rattle.lp_susp.proofs.type_reading.make_con.Goals.{In_ok-push}
use Rattle.lp_susp.proofs.type_reading.make_con.Goals as goal

pub put_type-requires : goal.put_type-requires
put_type-requires c =
    let n = length c.args.bank.now.types in
    numbers_all n (take (length c.as_slice.result.now - c.in-Some.from) (drop c.in-Some.from c.as_slice.result.now))
    (subst (λ l. All (λ t. t.0 < n) l) (sym (rest_of c.as_slice.result.now c.args.out.now.items c.in-Some.from c.as_slice.ensures.value)) (All-drop (λ t. t.0 < n) c.in-Some.from c.args.out.now.items c.requires))

lengths : (c : In_ok-push) → c.in-Some.from + c.args.count ≡ length c.args.out.now.items
lengths c = grind (arith, common_steps)

pub returns-clause-made : goal.returns-clause-made
returns-clause-made c = λ front Ts h n.
    con_made c.args.bank.now c.put_type.new.self c.in_ok-id.ensures.kept c.args.out.now.items c.truncate.new.self.items c.push.new.self.items
    (take (length c.as_slice.result.now - c.in-Some.from) (drop c.in-Some.from c.as_slice.result.now)) c.in_ok-id.id c.args.name c.in-Some.from
    c.args.count front Ts
    c.requires (lengths c) (rest_of c.as_slice.result.now c.args.out.now.items c.in-Some.from c.as_slice.ensures.value) c.truncate.ensures.items c.in_ok-push.ensures.items c.in_ok-id.ensures.tree h n

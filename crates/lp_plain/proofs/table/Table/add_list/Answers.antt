use Rattle.std.proofs.Common.{◌≡◌, [], ◌∷◌, ◌++◌, length, refl, sym, ap, ◌∙◌, arith, append_assoc}
use Rattle.std.specs.Vec.{vec_len}
use Rattle.lp_normal.specs.Within.{term_bound}
use Rattle.std.proofs.lemmas.List.{nil_from_length}
use Rattle.lp_plain.proofs.Tabled.{put_nothing, goals_put, goals_done}
use Rattle.lp_plain.proofs.Within.{stays_same, goals_stay, stays_all}
use Rattle.lp_plain.proofs.table.Table.add_list.Goals as goal

pub goals-init : goal.goals-init
goals-init c = ([], refl, put_nothing c.args.bank.now c.args.self.now c.args.waiting.now.items _ _ (omega arith) refl, stays_same _ _ _ _)

pub goals-preserved : goal.goals-preserved
goals-preserved c =
    let i = c.goals.invariant in (
      i.0 ++ c.in-Some.goal.now ∷ [],
      i.1 ∙ ap (λ l. i.0 ++ l) c.in-Some.ensures.cases.0 ∙ sym (append_assoc i.0 (c.in-Some.goal.now ∷ []) c.in-Some.others.now),
      goals_put c.args.bank.now _ _ _ _ _ _ _ (length c.args.self.now.goals.items) i.0 c.in-Some.goal.now c.in_ok-flat.flat i.2 c.in_ok-flat.ensures.put c.in_ok-flat.ensures.goals refl refl refl c.in_ok-push.ensures.items,
      goals_stay _ _ _ _ _ _ _ _ i.0 c.in-Some.goal.now c.in_ok-flat.flat i.3 c.in_ok-flat.ensures.within c.in_ok-flat.ensures.flat refl c.in_ok-push.ensures.items,
    )

pub returns-clause-put : goal.returns-clause-put
returns-clause-put c =
    let i = c.goals.invariant in
    let from : c.len-from.result ≡ length c.args.self.now.goals.items = omega (arith, c.len-from.ensures, c.args.self.now.goals.ok) in
    let e : c.len-to.result ≡ vec_len c.goals.self.goals = c.len-to.ensures in
    let to : c.len-to.result ≡ length c.goals.self.goals.items = omega (arith, e, c.goals.self.goals.ok) in
    goals_done c.args.bank.now c.args.self.now c.goals.self c.args.waiting.now.items c.goals.waiting.items c.args.goals.now i.0 c.goals.rest.now _ _ c.len-from.result c.len-to.result i.2 i.1
    (nil_from_length c.goals.rest.now c.in_default.ensures.cases) from to

pub returns-clause-within : goal.returns-clause-within
returns-clause-within c =
    let i = c.goals.invariant in
    stays_all term_bound _ _ _ _ _ c.args.goals.now i.0 c.goals.rest.now i.3 i.1 (nil_from_length c.goals.rest.now c.in_default.ensures.cases)

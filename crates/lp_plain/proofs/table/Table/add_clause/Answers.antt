use Rattle.std.proofs.Common.{◌≡◌, ◌<◌, suc, [], length, map, None, sym, ap, ◌∙◌, subst, refl, arith}
use Rattle.std.proofs.lemmas.List.{length-map}
use Rattle.lp_term.specs.Nodes.{type_tree, tree}
use Rattle.lp_model.specs.Flattened.{goals_of, clause_of}
use Rattle.lp_model.specs.Search.{first_key}
use Rattle.lp_normal.proofs.Meanings.{clause_is}
use Rattle.lp_plain.specs.declared.table.Rule.{Rule}
use Rattle.lp_plain.specs.Heads.{IsKey, slot_place, pair_places, trees_of}
use Rattle.lp_plain.specs.Tables.{IsHeadOf, IsList}
use Rattle.lp_plain.specs.inner.Collecting.{goals_weight}
use Rattle.lp_plain.specs.inner.Tabling.{IsPut}
use Rattle.lp_term.specs.Within.{AreTermsOf}
use Rattle.lp_normal.specs.Within.{highest, term_bound}
use Rattle.lp_plain.specs.inner.Tabling.{Stays}
use Rattle.lp_plain.proofs.Tabled.{is_head_of, rule_put}
use Rattle.lp_plain.proofs.Within.{clause_stays}
use Rattle.lp_plain.proofs.table.Table.add_clause.Goals as goal

pub returns-clause-put : goal.returns-clause-put
returns-clause-put c =
    let b = c.args.bank.now in
    let x = c.args.clause.now in
    let vs = map (λ T. type_tree b T.0) x.vars.items in
    let counted : c.len.result ≡ length x.vars.items = omega (arith, c.len.ensures, x.vars.ok) in
    let n : c.len.result ≡ length vs = counted ∙ sym (length-map x.vars.items (λ T. type_tree b T.0)) in
    let r : Rule = record { type_vars = x.type_vars; head = c.in_ok-spine.spine.head; slots = c.in_ok-found.found.slots; pairs = c.in_ok-found.found.pairs; key = c.first_key-key.result; body = c.in_ok-body.body; next = None } in
    let f = c.in_ok-found.ensures in
    let e = c.as_slice.ensures.value in
    let head : IsHeadOf b (length vs) r (tree b x.head.0) =
    is_head_of b (length vs) r (tree b x.head.0) c.in_ok-spine.spine.args.items c.in_ok-spine.ensures.head c.in_ok-spine.ensures.tree (f.count ∙ n)
    (λ k l. f.slots k (subst (λ m. k < m) (sym n) l) ∙ ap (λ l. slot_place k 0 [] (trees_of b l)) e)
    (f.pairs ∙ ap (λ m. pair_places m 0 [] (trees_of b c.as_slice.result.now)) n ∙ ap (λ l. pair_places (length vs) 0 [] (trees_of b l)) e)
    (subst (λ l. IsKey b c.first_key-key.result (first_key (trees_of b l))) c.as_slice-2.ensures.value c.first_key-key.ensures.key) in
    rule_put b _ _ _ _ _ (goals_of b x.body.items) x.type_vars vs (tree b x.head.0) r (clause_of b x) (clause_is b x)
    (subst (λ l. IsPut b c.args.self.now c.wait.new.self c.args.waiting.now.items c.wait.new.waiting.items (suc (goals_weight (goals_of b l))) (λ c' t. IsList b c' t c.in_ok-body.body (goals_of b l))) c.as_slice-3.ensures.value (c.in_ok-body.ensures.put b))
    c.in_ok-body.ensures.rules refl refl refl c.in_ok-push.ensures.items refl head

pub returns-clause-within : goal.returns-clause-within
returns-clause-within c =
    let b = c.args.bank.now in
    let n = length b.terms in
    let x = c.args.clause.now in
    let r : Rule = record { type_vars = x.type_vars; head = c.in_ok-spine.spine.head; slots = c.in_ok-found.found.slots; pairs = c.in_ok-found.found.pairs; key = c.first_key-key.result; body = c.in_ok-body.body; next = None } in
    let a = c.in_ok-spine.ensures.args in
    clause_stays n _ _ _ _ _ x r
    (subst (λ l. Stays n (highest (map term_bound l)) c.args.self.now c.wait.new.self c.args.waiting.now.items c.wait.new.waiting.items) c.as_slice-3.ensures.value (c.in_ok-body.ensures.within n)) refl c.in_ok-push.ensures.items
    (λ l. record {
      head = c.in_ok-spine.ensures.within l;
      pairs = c.in_ok-found.ensures.within (subst (AreTermsOf b) (sym c.as_slice.ensures.value) a);
      key = c.first_key-key.ensures.within (subst (AreTermsOf b) (sym c.as_slice-2.ensures.value) a);
    })

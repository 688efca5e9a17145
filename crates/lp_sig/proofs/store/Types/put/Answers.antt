use Rattle.std.proofs.Common.{◌≡◌, ◌<◌, [], ◌∷◌, ◌++◌, length, map, get_or, false, sym, ap, subst, ◌∙◌, arith}
use Rattle.std.proofs.lemmas.List.{map-append}
use Rattle.std.proofs.lemmas.List.Quantifiers.{all_pairs_push}
use Rattle.std.specs.List.{list_any}
use Rattle.std.specs.Prelude.{IfOk, AllPairs, ◌≢◌}
use Rattle.indexmap.specs.IndexSet.{insert_key}
use Rattle.lp_term.specs.Node.{var_node}
use Rattle.lp_term.specs.Shapes.{type_shape}
use Rattle.lp_term.specs.Nodes.{type_node_tree}
use Rattle.lp_term.proofs.Trees.{type_tree-node}
use Rattle.lp_sig.specs.Keys.{key_shape}
use Rattle.lp_sig.proofs.Finds.{same_key, met, unmet, key_behind}
use Rattle.lp_sig.proofs.store.Types.put.Goals as goal

pub returns-in-Some-clause-tree : goal.returns-in-Some-clause-tree
returns-in-Some-clause-tree c =
    let t = c.args.self.now in
    let b = t.bank in
    let n = c.in-Some.number in
    let h = met c.args.key t.keys.keys n (sym c.in-Some.ensures.index) in
    let l : n < length b.types = subst (λ s. n < length s) t.same h.0 in
    (l, sym (type_tree-node b c.type_count.ensures.sound n l) ∙ ap (type_node_tree b) (ap (λ s. get_or s n (var_node 0)) (sym t.same) ∙ h.1 ∙ c.requires.key))

pub invariant_of-self-2 : goal.invariant_of-self-2
invariant_of-self-2 c =
    let t = c.args.self.now in
    let key = c.args.key in
    let s = type_shape c.args.node in
    let ks = t.keys.keys in
    let new : list_any (same_key key) ks ≡ false = sym c.in_default.ensures.found in
    let spare = c.in_ok-reserve.ensures.ok in
    let put = subst (λ ks. IfOk c.insert.result (λ _. c.insert.new.self.keys ≡ insert_key same_key ks key)) c.reserve.ensures.keys c.insert.ensures.keys in
    let keys = key_behind key c.insert.result ks c.insert.new.self.keys (c.insert.ensures.succeeds (omega (arith, spare))) put new in
    record {
      same = ap (map key_shape) keys ∙ map-append key_shape ks (key ∷ []) ∙ (λ i. t.same i ++ c.requires.key i ∷ []) ∙ sym c.in_ok-put_type.ensures.types;
      once = subst (AllPairs (λ s t. s ≢ t)) (sym c.in_ok-put_type.ensures.types) (all_pairs_push (λ s t. s ≢ t) t.bank.types s t.once (λ i d h e. unmet key ks new i d (subst (λ s. i < length s) (sym t.same) h) (ap (λ s. get_or s i d) t.same ∙ e ∙ sym c.requires.key)));
    }

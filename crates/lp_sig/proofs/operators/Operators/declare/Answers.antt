use Rattle.std.proofs.Common.{◌≡◌, ◌++◌, ◌∷◌, [], ◌∙◌, sym, ap, subst, map, length, arith}
use Rattle.std.specs.Prelude.{is_some}
use Rattle.std.proofs.lemmas.List.{map-append, length-map}
use Rattle.std.proofs.lemmas.Result.{on_ok_weaker}
use Rattle.lp_sig.specs.Places.{HasPlaces}
use Rattle.lp_sig.specs.Rows.{fixity_row}
use Rattle.lp_sig.proofs.Knowledge.{operator_again, operator_new}
use Rattle.lp_sig.proofs.operators.Operators.declare.Goals as goal

pub returns-then-is_some : goal.returns-then-is_some
returns-then-is_some c = λ said k. operator_again c.args.self.now said (c.args.word.now, (c.args.fixity, c.args.number)) (ap is_some (sym (c.of.ensures ∙ k.places c.args.word.now)) ∙ sym c.is_some.ensures ∙ c.if-is_some.true) k

pub returns : goal.returns
returns c = on_ok_weaker c.add.result (λ h said k.
    let old = c.args.self.now.fixities.items in
    let word = c.args.word.now in
    let same = c.in_ok-name.ensures.items in
    let l = length-map old (λ e. e.name.items) in
    let n : c.len-place.result ≡ length (map (λ e. e.name.items) old) = omega (arith, c.len-place.ensures, c.args.self.now.fixities.ok, l) in
    operator_new c.args.self.now _ said (word, (c.args.fixity, c.args.number)) (ap is_some (sym (c.of.ensures ∙ k.places word)) ∙ sym c.is_some.ensures ∙ c.if-is_some.false)
    (ap (map fixity_row) c.in_ok-push.ensures.items ∙ map-append fixity_row old _ ∙ ap (λ w. map fixity_row old ++ (w, (c.args.fixity, c.args.number)) ∷ []) same)
    (subst (HasPlaces c.add.new.self) (ap (λ w. map (λ e. e.name.items) old ++ w ∷ []) (sym same) ∙ sym (map-append (λ e. e.name.items) old _) ∙ ap (map (λ e. e.name.items)) (sym c.in_ok-push.ensures.items)) (h (map (λ e. e.name.items) old) n k.places)) k) c.add.ensures.added

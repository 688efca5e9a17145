use Rattle.std.proofs.Common.{◌≡◌, ◌∙◌, ◌+◌, length, map, sym, ap, arith}
use Rattle.std.specs.Str.{bytes_eq}
use Rattle.std.proofs.lemmas.Bool.{cond-false}
use Rattle.std.proofs.lemmas.List.{length-map}
use Rattle.std.proofs.lemmas.Result.{IfOk-weaker}
use Rattle.lp_sig.proofs.Heads.{place_below}
use Rattle.lp_sig.specs.Pieces.{spelled}
use Rattle.lp_calculus.specs.Types.{instance}
use Rattle.lp_infer.specs.Texts.{is_blank}
use Rattle.lp_infer.proofs.lookup.Lookup.note_variable.Goals as goal

pub returns-clause-variable : goal.returns-clause-variable
returns-clause-variable c = IfOk-weaker c.put_type_variable-2.result _ _ (λ id tree firsts κ ρ A.
    let w = spelled c.args.source.now c.args.spot in
    let places = c.note_number.new.self.notes.places in
    let first = c.in_ok-number.ensures.number firsts in
    let below = place_below w (map (spelled c.args.source.now) places.items) c.in_ok-number.number first in
    let many = length-map places.items (spelled c.args.source.now) in
    let exact : c.saturating_add-at.result ≡ length c.args.source.now + c.in_ok-number.number = omega (arith, c.saturating_add-at.ensures, below, many, places.ok, places.small) in
    let other = ap is_blank (sym c.spelled_at.ensures) ∙ ap (λ u. bytes_eq c.spelled_at.result.now u) (sym c.as_slice.ensures) ∙ sym c.eq.ensures ∙ c.if-eq.false in
    ap (instance ρ) tree ∙ ap ρ exact ∙ A.named w c.in_ok-number.number first ∙ sym (cond-false (is_blank w) (κ.blank c.args.spot.from) (κ.named w) other)) c.put_type_variable-2.ensures.tree

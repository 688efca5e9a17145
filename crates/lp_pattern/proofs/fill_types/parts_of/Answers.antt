use Rattle.std.proofs.Common.{◌<◌, ◌++◌, ◌∙◌, ap, length, sym, subst as transport}
use Rattle.std.specs.Prelude.{All}
use Rattle.std.proofs.lemmas.List.Elements.{All-nil}
use Rattle.lp_lemmas.proofs.Elements.{All_pushed, All_unmap}
use Rattle.lp_pattern.proofs.fill_types.parts_of.Goals as goal

pub returns-in_ok-extend_from_slice-in-Con-clause-within : goal.returns-in_ok-extend_from_slice-in-Con-clause-within
returns-in_ok-extend_from_slice-in-Con-clause-within c =
    let n = length c.args.bank.now.types in
    transport (All (λ t. t.0 < n)) (sym (c.in_ok-extend_from_slice-in-Con.ensures.items ∙ ap (λ l. l ++ c.in-Con.ids.now) c.new-parts.ensures.items)) (All_unmap (λ i. i < n) (λ t. t.0) c.in-Con.ids.now c.in-Con.ensures.within)

pub returns-in_ok-push-in-Arrow-2-clause-within : goal.returns-in_ok-push-in-Arrow-2-clause-within
returns-in_ok-push-in-Arrow-2-clause-within c =
    let n = length c.args.bank.now.types in
    let w = c.in-Arrow.ensures.within in
    All_pushed (λ t. t.0 < n) c.push-in-Arrow.new.self.items c.push.new.self.items c.in-Arrow.to c.in_ok-push-in-Arrow-2.ensures.items
    (All_pushed (λ t. t.0 < n) c.push.new.self.items c.new-parts.result.items c.in-Arrow.from c.in_ok-push-in-Arrow.ensures.items
    (transport (All (λ t. t.0 < n)) (sym c.new-parts.ensures.items) (All-nil (λ t. t.0 < n))) w.0)
    w.1

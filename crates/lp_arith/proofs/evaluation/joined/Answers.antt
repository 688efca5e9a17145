use Rattle.std.proofs.Common.{◌≡◌, [], ◌++◌, ap, ◌∙◌, subst}
use Rattle.lp_calculus.specs.Term.{atom, text}
use Rattle.lp_store.specs.Reading.{Reads, none, no_types}
use Rattle.lp_arith.proofs.Strings.{text_made}
use Rattle.lp_arith.proofs.evaluation.joined.Goals as goal

pub returns-clause-reads : goal.returns-clause-reads
returns-clause-reads c = λ s t p q.
    let a : c.add_text.new.out.items ≡ s = c.in_ok-add_text.ensures.added s p ∙ ap (λ l. l ++ s) c.new-bytes.ensures.items in
    let b : c.add_text-2.new.out.items ≡ s ++ t = c.in_ok-add_text-2.ensures.added t (c.in_ok-add_text.ensures.kept.terms c.args.right.0 (atom (text t)) q) ∙ ap (λ l. l ++ t) a in
    let e = text_made c.add_text-2.new.store c.text.new.self c.in_ok-span.span c.as_slice.result.now (s ++ t) c.in_ok-span.ensures.put c.in_ok-span.ensures.span.0 c.in_ok-span.ensures.span.1 (c.as_slice.ensures.value ∙ b) in
    subst (λ l. Reads c.push.new.self c.in_ok-id.id.0 (atom (text l))) e (c.in_ok-id.ensures.reads [] none tt [] no_types)

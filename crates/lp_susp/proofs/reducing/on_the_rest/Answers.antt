use Rattle.std.proofs.Common.{◌≡◌, ◌∙◌, ap, ◌∷◌, [], length, sym, arith}
use Rattle.std.proofs.lemmas.Grind.{common_steps}
use Rattle.std.proofs.lemmas.List.{nil_from_length}
use Rattle.lp_store.specs.Reading.{no_types, more}
use Rattle.lp_store.specs.Contents.{span}
use Rattle.lp_susp.proofs.Chains.{avoids_cons}
use Rattle.lp_susp.proofs.Redexes.{tail_read, tail_avoids, no_tail}
use Rattle.lp_susp.proofs.reducing.on_the_rest.Goals.{Then-is_empty}
use Rattle.lp_susp.proofs.reducing.on_the_rest.Goals as goal

nothing : (c : Then-is_empty) → length c.items.result.now ≡ 0
nothing c = grind (arith, common_steps)

pub returns-then-is_empty-clause-reads : goal.returns-then-is_empty-clause-reads
returns-then-is_empty-clause-reads c = λ h u us r q.
    let s = c.args.store.now in
    let a = c.args.arguments in
    let t = tail_read s s.items a.from a.count c.tail-rest.result.from c.tail-rest.result.count c.requires.arguments c.tail-rest.ensures.from c.tail-rest.ensures.count u us q in
    no_tail s c.args.head.0 h (span s.items c.tail-rest.result.from c.tail-rest.result.count) us (nil_from_length (span s.items c.tail-rest.result.from c.tail-rest.result.count) (ap length (sym c.items.ensures.items) ∙ nothing c)) t r

pub returns-clause-avoids : goal.returns-clause-avoids
returns-clause-avoids c = λ x l a b.
    let s = c.args.store.now in
    let g = c.args.arguments in
    c.in_ok-id.ensures.avoids x l
    (avoids_cons s x c.args.head.0 _ a (tail_avoids s x s.items g.from g.count c.tail-rest.result.from c.tail-rest.result.count c.requires.arguments c.tail-rest.ensures.from c.tail-rest.ensures.count b))

pub returns-clause-reads : goal.returns-clause-reads
returns-clause-reads c = λ h u us r q.
    let s = c.args.store.now in
    let a = c.args.arguments in
    c.in_ok-id.ensures.reads (h ∷ us) (more r (tail_read s s.items a.from a.count c.tail-rest.result.from c.tail-rest.result.count c.requires.arguments c.tail-rest.ensures.from c.tail-rest.ensures.count u us q)) tt [] no_types

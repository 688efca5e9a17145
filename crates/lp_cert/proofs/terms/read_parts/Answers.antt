use Rattle.std.proofs.Common.{◌≡◌, ◌-◌, ◌+◌, ◌∷◌, [], suc, length, map, replicate, reverse, ap, ◌∙◌, sym, refl, arith}
use Rattle.std.proofs.lemmas.Result.{err_from_is_err_and}
use Rattle.lp_lemmas.proofs.Lists.{map_pushed, reverse_pushed}
use Rattle.lp_term.proofs.Trees.{extends_same, extends-trans}
use Rattle.lp_bytes.specs.Reading.{left_of, nested_at}
use Rattle.lp_bytes.proofs.Looping.{part_read, part_fails, parts_over, parts_done}
use Rattle.lp_cert.specs.Arities.{counts_of}
use Rattle.lp_cert.specs.Reading.{terms_below, term_top_at, term_tops_at}
use Rattle.lp_cert.specs.inner.Parts.{IsPartInside, term_top_of}
use Rattle.lp_lemmas.proofs.Elements.{All_empty}
use Rattle.lp_cert.proofs.Within.{part_more}
use Rattle.lp_cert.proofs.Wanted.{one_wanted, more_wanted, none_wanted}
use Rattle.lp_cert.proofs.terms.read_parts.Goals as goal

pub loop-init : goal.loop-init
unfolding term_tops_at
loop-init c =
    let k : c.len.result + 1 - 0 ≡ suc (length (left_of c.args.reader.now).rest) = omega (arith, c.len.ensures) in (
      omega arith,
      extends_same _,
      All_empty (IsPartInside c.args.bank.now) _ c.new-parts.ensures.items,
      λ b y. ap (λ ps. nested_at (λ one. term_top_at (counts_of c.args.arities.now)) terms_below (map (term_top_of b) ps) (c.len.result + 1 - 0) (tt ∷ []) (left_of c.args.reader.now)) c.new-parts.ensures.items
          ∙ ap (λ m. nested_at (λ one. term_top_at (counts_of c.args.arities.now)) terms_below [] m (tt ∷ []) (left_of c.args.reader.now)) k,
    )

pub loop-preserved : goal.loop-preserved
loop-preserved c = (
  omega (arith, c.loop.invariant.0, c.arguments.ensures.few, c.loop-test.true),
  extends-trans _ _ _ c.loop.invariant.1 c.in_ok-part.ensures.kept,
  part_more _ _ c.in_ok-part.ensures.kept _ _ c.in_ok-part.part c.in_ok-push.ensures.items c.in_ok-part.ensures.inside c.loop.invariant.2,
  λ b y. part_read (λ one. term_top_at (counts_of c.args.arities.now)) terms_below _ _ (term_top_of b c.in_ok-part.part) _ _ _ tt (replicate (c.loop.wanted - 1) tt) _ _ _ _ (map_pushed (term_top_of b) _ _ c.in_ok-part.part c.in_ok-push.ensures.items) c.loop-test.true
      (one_wanted c.loop.wanted (omega (arith, c.if-wanted-eq0.false))) (more_wanted c.loop.wanted c.arguments.result _ _ (c.arguments.ensures.arguments b) refl) (c.in_ok-part.ensures.read b y)
      (c.loop.invariant.3 b (extends-trans _ _ b c.in_ok-part.ensures.kept y)),
)

pub returns-in_err-part-clause-read : goal.returns-in_err-part-clause-read
returns-in_err-part-clause-read c = λ b y.
    let p = err_from_is_err_and c.from_residual.result c.from_residual.ensures.1 in
    rw (p.1, p.2) (part_fails (λ one. term_top_at (counts_of c.args.arities.now)) terms_below _ _ _ _ _ tt (replicate (c.loop.wanted - 1) tt) _ _ c.loop-test.true (one_wanted c.loop.wanted (omega (arith, c.if-wanted-eq0.false)))
    (c.in_err-part.ensures.read b y) (c.loop.invariant.3 b (extends-trans _ _ b c.in_err-part.ensures.kept y)))

pub returns-then-wanted-eq0-clause-read : goal.returns-then-wanted-eq0-clause-read
returns-then-wanted-eq0-clause-read c = λ b y. parts_over (λ one. term_top_at (counts_of c.args.arities.now)) terms_below _ _ _ _ _ (none_wanted c.loop.wanted c.if-wanted-eq0.true) (c.loop.invariant.3 b y)

pub returns-clause-read : goal.returns-clause-read
returns-clause-read c = λ b y. parts_done (λ one. term_top_at (counts_of c.args.arities.now)) terms_below _ _ _ _ _ _ c.loop-test.false (c.loop.invariant.3 b y)

pub returns-then-wanted-eq0-clause-inside : goal.returns-then-wanted-eq0-clause-inside
returns-then-wanted-eq0-clause-inside c = c.loop.invariant.2

pub returns-clause-inside : goal.returns-clause-inside
returns-clause-inside c = c.loop.invariant.2

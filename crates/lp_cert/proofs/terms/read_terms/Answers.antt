use Rattle.std.proofs.Common.{◌≡◌, ◌-◌, ◌∙◌, [], ap, arith}
use Rattle.std.proofs.lemmas.Result.{err_from_is_err_and}
use Rattle.lp_lemmas.proofs.Lists.{map_pushed}
use Rattle.lp_term.specs.Nodes.{tree, type_tree}
use Rattle.lp_term.proofs.Trees.{extends_same, extends-trans}
use Rattle.lp_bytes.specs.Reading.{left_of, each_at}
use Rattle.lp_bytes.proofs.Looping.{goes_on, ends, is_done}
use Rattle.lp_cert.specs.Arities.{counts_of}
use Rattle.lp_cert.specs.Same.{terms_in}
use Rattle.lp_cert.specs.Reading.{term_at, terms_at}
use Rattle.lp_cert.proofs.Within.{no_terms_inside, term_more}
use Rattle.lp_cert.proofs.terms.read_terms.Goals as goal

pub loop-init : goal.loop-init
unfolding terms_at
loop-init c =
    let k : c.args.count - 0 ≡ c.args.count = omega arith in (
      extends_same _,
      no_terms_inside _ _ c.new-terms.ensures.items,
      λ b y. ap (λ xs. each_at (λ before. term_at (counts_of c.args.arities.now)) (terms_in b xs) (c.args.count - 0) (left_of c.args.reader.now)) c.new-terms.ensures.items
          ∙ ap (λ n. each_at (λ before. term_at (counts_of c.args.arities.now)) [] n (left_of c.args.reader.now)) k,
    )

pub loop-preserved : goal.loop-preserved
loop-preserved c = (
  extends-trans _ _ _ c.loop.invariant.0 c.in_ok-made.ensures.kept,
  term_more _ _ c.in_ok-made.ensures.kept _ _ c.in_ok-made.made c.in_ok-push.ensures.items c.in_ok-made.ensures.inside c.loop.invariant.1,
  λ b y. goes_on (λ before. term_at (counts_of c.args.arities.now)) (terms_in b c.loop.terms.items) (terms_in b c.push.new.self.items) _ _ _ _ _ _ (map_pushed (λ t. tree b t.0) _ _ c.in_ok-made.made c.in_ok-push.ensures.items) c.loop-test.true
      (c.in_ok-made.ensures.read b y) (c.loop.invariant.2 b (extends-trans _ _ b c.in_ok-made.ensures.kept y)),
)

pub returns-in_err-made-clause-read : goal.returns-in_err-made-clause-read
returns-in_err-made-clause-read c = λ b y.
    let p = err_from_is_err_and c.from_residual.result c.from_residual.ensures.1 in
    rw (p.1, p.2) (ends _ (λ before. term_at (counts_of c.args.arities.now)) _ _ _ _ _ c.loop-test.true (c.in_err-made.ensures.read b y) (c.loop.invariant.2 b (extends-trans _ _ b c.in_err-made.ensures.kept y)))

pub returns-clause-read : goal.returns-clause-read
returns-clause-read c = λ b y. is_done (λ before. term_at (counts_of c.args.arities.now)) _ _ _ _ _ c.loop-test.false (c.loop.invariant.2 b y)

pub returns-clause-inside : goal.returns-clause-inside
returns-clause-inside c = c.loop.invariant.1

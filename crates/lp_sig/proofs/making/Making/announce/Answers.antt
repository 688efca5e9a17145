use Rattle.std.proofs.Common.{◌≡◌, ◌<◌, ◌≤◌, ◌++◌, length, get_or, take, take_all, subst, sym, refl, ap, ◌∙◌, append-nil}
use Rattle.lp_sig.specs.Said.{said_in}
use Rattle.lp_sig.specs.Knowing.{Knows}
use Rattle.lp_sig.proofs.Spoken.{said_more}
use Rattle.lp_sig.specs.Types.{definitions_in}
use Rattle.lp_sig.specs.Holding.{line_of_text}
use Rattle.lp_sig.specs.Announced.{AreAnnounced}
use Rattle.lp_sig.proofs.Announcing.{nothing_announced, one_announced, all_announced, line_there}
use Rattle.lp_sig.proofs.making.Making.announce.Goals as goal

pub loop-line-init : goal.loop-line-init
loop-line-init c = record {
  names = λ said k. subst (Knows c.args.self.now.names) (sym (append-nil said)) k;
  operators = refl;
  constants = refl;
  types = refl;
  uses = refl;
  stay = λ j h. h;
  announced = λ from said defs k b a. subst
      (λ s. AreAnnounced from c.args.self.now.bodies.bodies.items s c.args.source.now (line_of_text c.args.text.now.lines.items))
      (sym (append-nil said)) a;
  bodies = λ said defs k b. nothing_announced c.args.self.now.bodies.types.bank c.args.self.now.bodies.bodies.items said
      defs c.args.source.now (line_of_text c.args.text.now.lines.items) b;
}

pub loop-line-preserved : goal.loop-line-preserved
loop-line-preserved c =
    let lines = c.args.text.now.lines.items in
    let i = c.loop-line.line in
    let same = c.as_slice-declaration-items.ensures.value in
    let h : i < length lines = subst (λ l. i < length l) same c.loop-line-test.true in
    let at : c.declaration-item.result ≡ get_or lines i c.declaration-item.result = c.declaration-item.is ∙ ap (λ l. get_or l i c.declaration-item.result) same in
    record {
      names = λ said k. subst (Knows c.announce_line.new.self.names) (said_more c.args.source.now lines i c.declaration-item.result said h at) (c.in_ok-announce_line.ensures.names (said ++ said_in c.args.source.now (take i lines)) (c.loop-line.invariant.names said k));
      operators = c.announce_line.ensures.operators ∙ c.loop-line.invariant.operators;
      constants = c.announce_line.ensures.constants ∙ c.loop-line.invariant.constants;
      types = c.announce_line.ensures.types ∙ c.loop-line.invariant.types;
      uses = c.announce_line.ensures.uses ∙ c.loop-line.invariant.uses;
      stay = λ j f. c.in_ok-announce_line.ensures.stay j (c.loop-line.invariant.stay j f);
      announced = λ from said defs k b a.
          subst (λ s. AreAnnounced from c.announce_line.new.self.bodies.bodies.items s c.args.source.now (line_of_text lines)) (said_more c.args.source.now lines i c.declaration-item.result said h at)
          (c.in_ok-announce_line.ensures.lines from (said ++ said_in c.args.source.now (take i lines))
          (defs ++ definitions_in c.args.source.now (take i lines)) (line_of_text lines) (c.loop-line.invariant.names said k)
          (line_there lines i c.declaration-item.result h at) (c.loop-line.invariant.bodies said defs k b)
          (c.loop-line.invariant.announced from said defs k b a));
      bodies = λ said defs k b.
          one_announced c.announce_line.new.self.bodies.types.bank c.announce_line.new.self.bodies.bodies.items said defs c.args.source.now (line_of_text lines) lines i c.declaration-item.result h at
          (c.in_ok-announce_line.ensures.bodies (said ++ said_in c.args.source.now (take i lines))
          (defs ++ definitions_in c.args.source.now (take i lines)) (line_of_text lines) (c.loop-line.invariant.names said k)
          (line_there lines i c.declaration-item.result h at) (c.loop-line.invariant.bodies said defs k b));
    }

pub returns-clause-names : goal.returns-clause-names
returns-clause-names c = λ said k.
    let lines = c.args.text.now.lines.items in
    let i = c.loop-line.line in
    let h : length lines ≤ i = subst (λ l. length l ≤ i) c.as_slice-declaration-items.ensures.value c.loop-line-test.false in
    subst (λ ls. Knows c.loop-line.self.names (said ++ said_in c.args.source.now ls)) (take_all i lines h) (c.loop-line.invariant.names said k)

pub returns-clause-bodies : goal.returns-clause-bodies
returns-clause-bodies c = λ said defs k b.
    let lines = c.args.text.now.lines.items in
    let i = c.loop-line.line in
    let h : length lines ≤ i = subst (λ l. length l ≤ i) c.as_slice-declaration-items.ensures.value c.loop-line-test.false in
    all_announced c.loop-line.self.bodies.types.bank c.loop-line.self.bodies.bodies.items said defs c.args.source.now (line_of_text lines) lines i h (c.loop-line.invariant.bodies said defs k b)

pub returns-clause-lines : goal.returns-clause-lines
returns-clause-lines c = λ from said defs k b a.
    let lines = c.args.text.now.lines.items in
    let i = c.loop-line.line in
    let h : length lines ≤ i = subst (λ l. length l ≤ i) c.as_slice-declaration-items.ensures.value c.loop-line-test.false in
    subst (λ ls. AreAnnounced from c.loop-line.self.bodies.bodies.items (said ++ said_in c.args.source.now ls) c.args.source.now (line_of_text lines)) (take_all i lines h) (c.loop-line.invariant.announced from said defs k b a)

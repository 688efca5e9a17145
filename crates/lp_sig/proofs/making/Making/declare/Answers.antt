use Rattle.std.proofs.Common.{◌≡◌, ◌<◌, ◌≤◌, ◌++◌, map, length, get_or, take, take_all, subst, sym, ap, ◌∙◌, append-nil, arith}
use Rattle.lp_lemmas.proofs.Results.{passed_up}
use Rattle.lp_sig.specs.Refusals.{IsFaultIn}
use Rattle.lp_sig.specs.Said.{said_in, fixities_in}
use Rattle.lp_sig.specs.Types.{definitions_in}
use Rattle.lp_sig.specs.Knowing.{Knows, KnowsOperators}
use Rattle.lp_sig.specs.Standing.{seen_count, BodyStands}
use Rattle.lp_sig.specs.Abbreviations.{seen_text, all_uses, KnowsUses}
use Rattle.lp_sig.specs.Holding.{line_of_text, KnowsTypes}
use Rattle.lp_sig.specs.Constants.{constants_in, KnowsConstants, AreTyped, AreSettledIf}
use Rattle.lp_sig.specs.Announced.{CanBeSettled, HasUsesInside}
use Rattle.lp_sig.specs.Loading.{HasNoCircle}
use Rattle.lp_sig.proofs.Blame.{line_at_fault, within_more, within_all, nothing_within, nothing_sound, sound_more, sound_all}
use Rattle.lp_sig.proofs.Seeing.{at_work, settled, work_stays, left_behind, bodies_left}
use Rattle.lp_sig.proofs.Alike.{all_alike}
use Rattle.lp_sig.proofs.AllStanding.{all_settled_bodies}
use Rattle.lp_sig.proofs.FirstTypes.{typed_if}
use Rattle.lp_sig.proofs.DeclaredConstants.{text_begins, constants_more}
use Rattle.lp_sig.proofs.Spoken.{fixities_more}
use Rattle.lp_sig.proofs.TextTaken.{count_is, none_announced, text_ready, text_stands, none_declared, more_declared, all_declared, text_typed}
use Rattle.lp_sig.proofs.making.Making.declare.Goals as goal

pub loop-declaration-init : goal.loop-declaration-init
loop-declaration-init c =
    let text = c.args.source.now in
    let lines = c.args.text.now.lines.items in
    record {
      within = nothing_within text lines;
      sound = λ z k. nothing_sound (seen_count z) text (seen_text z text lines) lines;
      names = λ z k. c.in_ok-announce.ensures.names z.said k.names;
      uses = λ z k. c.in_ok-note.ensures z (c.in_ok-announce.ensures.names z.said k.names) (subst (λ y. KnowsUses (map (λ out. out.items) y.ways.items) z) (sym c.announce.ensures.uses) k.uses);
      bodies = λ z k.
          let old = c.announce.new.self.bodies in
          let new = c.settle.new.self in
          let said = z.said ++ said_in text lines in
          let defs = z.definitions ++ definitions_in text lines in
          let before = c.in_ok-announce.ensures.bodies z.said z.definitions k.names (at_work c.args.self.now.bodies.types.bank c.args.self.now.bodies.bodies.items z text (line_of_text lines) k.types) in
          settled old.types.bank new.types.bank old.bodies.items new.bodies.items said defs text (line_of_text lines) c.settle.ensures.lines (c.settle.ensures.bodies said defs (c.in_ok-announce.ensures.names z.said k.names) before.lines before.holds) before;
      constants = λ z rows k a. text_begins c.args.self.now.bodies.types c.announce.new.self.bodies.types c.settle.new.self.types
          c.args.self.now.constants c.announce.new.self.constants z.said (said_in text lines) z.definitions (definitions_in text lines) rows text
          lines c.announce.ensures.types c.announce.ensures.constants c.settle.ensures.kept a;
      stand = λ z k.
          let old = c.announce.new.self.bodies in
          let begun = at_work c.args.self.now.bodies.types.bank c.args.self.now.bodies.bodies.items z text (line_of_text lines) k.types in
          text_stands z text lines old.types.bank old.bodies.items k.uses.said k.types.told (c.in_ok-announce.ensures.bodies z.said z.definitions k.names begun)
          (c.in_ok-announce.ensures.lines (seen_count z) z.said z.definitions k.names begun (none_announced z text lines c.args.self.now.bodies.types.bank c.args.self.now.bodies.bodies.items k.types));
      settled = λ z k.
          let old = c.announce.new.self.bodies in
          let begun = at_work c.args.self.now.bodies.types.bank c.args.self.now.bodies.bodies.items z text (line_of_text lines) k.types in
          let before = c.in_ok-announce.ensures.bodies z.said z.definitions k.names begun in
          let known = c.in_ok-announce.ensures.names z.said k.names in
          let uses = c.in_ok-note.ensures z known (subst (λ y. KnowsUses (map (λ out. out.items) y.ways.items) z) (sym c.announce.ensures.uses) k.uses) in
          let announced = c.in_ok-announce.ensures.lines (seen_count z) z.said z.definitions k.names begun (none_announced z text lines c.args.self.now.bodies.types.bank c.args.self.now.bodies.bodies.items k.types) in
          let heads = count_is c.args.self.now.names z k.names in
          let first = k.types.count in
          let same : c.len-from.result ≡ seen_count z = omega (arith, heads, c.len-from.ensures, c.args.self.now.names.heads.ok) in
          subst (λ n. AreSettledIf n (seen_text z text lines) c.settle.new.self.bodies.items) same
          (c.in_ok-settle.ensures.settled (seen_text z text lines) known uses.are before.count
          (λ j f. c.in_ok-announce.ensures.stay j (k.settled j (omega (arith, f, first, same))))
          (λ j f b. subst (λ n. HasUsesInside (seen_text z text lines) j × (BodyStands n (seen_text z text lines) j → CanBeSettled old.bodies.items
          (z.said ++ said_in text lines) (all_uses (seen_text z text lines)) text (line_of_text lines) j × HasNoCircle
          (all_uses (seen_text z text lines)) j)) (sym same)
          (text_ready z text lines old.types.bank old.bodies.items k.uses.said k.types.told before announced j (subst (λ n. n ≤ j) same f) b)));
      typed = λ z rows k a t. none_declared (seen_count z) (seen_text z text lines) rows text lines c.announce.new.self.constants
          (typed_if c.args.self.now.bodies.types.bank z.said z.definitions (seen_count z) (seen_text z text lines) rows c.announce.new.self.constants
          (subst (λ y. KnowsConstants c.args.self.now.bodies.types.bank y z.said z.definitions rows) (sym c.announce.ensures.constants) a)
          (subst AreTyped (sym c.announce.ensures.constants) t.0));
      operators = λ said k. subst (λ o. KnowsOperators o (said ++ fixities_in text (take 0 lines))) (sym c.announce.ensures.operators) (subst (KnowsOperators c.args.self.now.operators) (sym (append-nil said)) k);
    }

pub returns-in_err-declare_line-clause-refused : goal.returns-in_err-declare_line-clause-refused
returns-in_err-declare_line-clause-refused c = λ z rows k a t.
    let lines = c.args.text.now.lines.items in
    let i = c.loop-declaration.declaration-index in
    let all = seen_text z c.args.source.now lines in
    let had = c.loop-declaration.invariant.typed z rows k a t in
    passed_up c.from_residual-in_err-declare_line.result c.in_err-declare_line.field-0.0 (IsFaultIn c.args.source.now (seen_count z) all rows lines) c.from_residual-in_err-declare_line.ensures.1
    (line_at_fault c.args.source.now (seen_count z) all rows lines c.deref-declaration-items.result.now i c.declaration-item.result
    c.in_err-declare_line.field-0.0 c.deref-declaration-items.ensures.value c.loop-declaration-test.true c.declaration-item.is
    c.loop-declaration.invariant.within (c.loop-declaration.invariant.sound z k) had.1
    (c.in_err-declare_line.ensures.why (seen_count z) all (rows ++ constants_in c.args.source.now (take i lines))
    (record {
      known = c.loop-declaration.invariant.names z k;
      uses = c.loop-declaration.invariant.uses z k;
      holds = (c.loop-declaration.invariant.bodies z k).holds;
    }) (c.loop-declaration.invariant.settled z k)
    (c.loop-declaration.invariant.constants z rows k a) had.0))

pub loop-declaration-preserved : goal.loop-declaration-preserved
loop-declaration-preserved c =
    let text = c.args.source.now in
    let lines = c.args.text.now.lines.items in
    let i = c.loop-declaration.declaration-index in
    let same = c.deref-declaration-items.ensures.value in
    let h : i < length lines = subst (λ l. i < length l) same c.loop-declaration-test.true in
    let at : c.declaration-item.result ≡ get_or lines i c.declaration-item.result = c.declaration-item.is ∙ ap (λ l. get_or l i c.declaration-item.result) same in
    record {
      within = within_more text lines c.deref-declaration-items.result.now i c.declaration-item.result same c.loop-declaration-test.true c.declaration-item.is c.loop-declaration.invariant.within c.in_ok-declare_line.ensures.taken;
      sound = λ z k. sound_more (seen_count z) text (seen_text z text lines) lines c.deref-declaration-items.result.now i c.declaration-item.result same c.loop-declaration-test.true c.declaration-item.is (c.loop-declaration.invariant.sound z k)
          (c.in_ok-declare_line.ensures.sound (seen_count z) (seen_text z text lines) (record { known = c.loop-declaration.invariant.names z k; uses = c.loop-declaration.invariant.uses z k; holds = (c.loop-declaration.invariant.bodies z k).holds }) (c.loop-declaration.invariant.settled z k));
      names = λ z k. subst (λ n. Knows n (z.said ++ said_in text lines)) (sym c.declare_line.ensures.names) (c.loop-declaration.invariant.names z k);
      uses = λ z k. subst (λ y. KnowsUses (map (λ out. out.items) y.ways.items) (seen_text z text lines)) (sym c.declare_line.ensures.uses) (c.loop-declaration.invariant.uses z k);
      bodies = λ z k.
          let old = c.loop-declaration.self.bodies in
          let new = c.declare_line.new.self.bodies in
          work_stays old.types.bank new.types.bank old.bodies.items new.bodies.items (z.said ++ said_in text lines)
          (z.definitions ++ definitions_in text lines) text (line_of_text lines) c.declare_line.ensures.kept
          (ap (λ v. v.items) c.declare_line.ensures.bodies) (c.loop-declaration.invariant.bodies z k);
      constants = λ z rows k a. subst (KnowsConstants c.declare_line.new.self.bodies.types.bank c.declare_line.new.self.constants (z.said ++ said_in text lines) (z.definitions ++ definitions_in text lines)) (constants_more text lines i c.declaration-item.result rows h at)
          (c.in_ok-declare_line.ensures.constants (seen_text z text lines) (rows ++ constants_in text (take i lines))
          (record {
            known = c.loop-declaration.invariant.names z k;
            uses = c.loop-declaration.invariant.uses z k;
            holds = (c.loop-declaration.invariant.bodies z k).holds;
          }) (c.loop-declaration.invariant.constants z rows k a));
      stand = c.loop-declaration.invariant.stand;
      settled = λ z k. subst (λ v. AreSettledIf (seen_count z) (seen_text z text lines) v.items) (sym c.declare_line.ensures.bodies) (c.loop-declaration.invariant.settled z k);
      typed = λ z rows k a t.
          let had = c.loop-declaration.invariant.typed z rows k a t in
          more_declared (seen_count z) (seen_text z text lines) rows text lines i c.declaration-item.result c.loop-declaration.self.constants c.declare_line.new.self.constants h at had
          (c.in_ok-declare_line.ensures.declared (seen_count z) (seen_text z text lines) (rows ++ constants_in text (take i lines))
          (record {
            known = c.loop-declaration.invariant.names z k;
            uses = c.loop-declaration.invariant.uses z k;
            holds = (c.loop-declaration.invariant.bodies z k).holds;
          }) (c.loop-declaration.invariant.settled z k)
          (c.loop-declaration.invariant.constants z rows k a) had.0);
      operators = λ said k. subst (KnowsOperators c.declare_line.new.self.operators) (fixities_more text lines i c.declaration-item.result said h at)
          (c.in_ok-declare_line.ensures.operators (said ++ fixities_in text (take i lines)) (c.loop-declaration.invariant.operators said k));
    }

pub returns-clause-taken : goal.returns-clause-taken
returns-clause-taken c = within_all c.args.source.now c.args.text.now.lines.items c.deref-declaration-items.result.now c.loop-declaration.declaration-index c.deref-declaration-items.ensures.value c.loop-declaration-test.false c.loop-declaration.invariant.within

pub returns-clause-declared : goal.returns-clause-declared
returns-clause-declared c = λ z rows k a t.
    let lines = c.args.text.now.lines.items in
    let i = c.loop-declaration.declaration-index in
    let h : length lines ≤ i = subst (λ l. length l ≤ i) c.deref-declaration-items.ensures.value c.loop-declaration-test.false in
    (all_declared (seen_count z) (seen_text z c.args.source.now lines) rows c.args.source.now lines i c.loop-declaration.self.constants h (c.loop-declaration.invariant.typed z rows k a t)).1

pub returns-clause-sound : goal.returns-clause-sound
returns-clause-sound c = λ z k. sound_all (seen_count z) c.args.source.now (seen_text z c.args.source.now c.args.text.now.lines.items)
    c.args.text.now.lines.items c.deref-declaration-items.result.now c.loop-declaration.declaration-index c.deref-declaration-items.ensures.value
    c.loop-declaration-test.false
    (c.loop-declaration.invariant.sound z k)

pub returns-clause-stand : goal.returns-clause-stand
returns-clause-stand c = λ z k. c.loop-declaration.invariant.stand z k (sound_all (seen_count z) c.args.source.now
    (seen_text z c.args.source.now c.args.text.now.lines.items) c.args.text.now.lines.items c.deref-declaration-items.result.now
    c.loop-declaration.declaration-index c.deref-declaration-items.ensures.value c.loop-declaration-test.false
    (c.loop-declaration.invariant.sound z k))

pub returns-clause-seen : goal.returns-clause-seen
returns-clause-seen c = λ z k.
    let text = c.args.source.now in
    let lines = c.args.text.now.lines.items in
    let old = c.loop-declaration.self.bodies in
    let new = c.leave.new.self in
    let sound = sound_all (seen_count z) text (seen_text z text lines) lines c.deref-declaration-items.result.now c.loop-declaration.declaration-index c.deref-declaration-items.ensures.value c.loop-declaration-test.false (c.loop-declaration.invariant.sound z k) in
    let stand = c.loop-declaration.invariant.stand z k sound in
    record {
      names = c.loop-declaration.invariant.names z k;
      uses = c.loop-declaration.invariant.uses z k;
      types = subst (λ t. KnowsTypes t.bank new.bodies.items (seen_text z text lines)) (sym c.leave.ensures.types)
          (left_behind old.types.bank old.bodies.items new.bodies.items (seen_text z text lines) text (line_of_text lines) c.leave.ensures.bodies c.leave.ensures.lines (c.loop-declaration.invariant.bodies z k));
      settled = bodies_left old.bodies.items new.bodies.items c.leave.ensures.bodies (all_settled_bodies (seen_count z) (seen_text z text lines) stand old.bodies.items (c.loop-declaration.invariant.bodies z k).count (c.loop-declaration.invariant.settled z k));
      alike = all_alike z text lines k.alike stand sound;
    }

pub returns-clause-operators : goal.returns-clause-operators
returns-clause-operators c = λ said k.
    let lines = c.args.text.now.lines.items in
    let i = c.loop-declaration.declaration-index in
    let h : length lines ≤ i = subst (λ l. length l ≤ i) c.deref-declaration-items.ensures.value c.loop-declaration-test.false in
    subst (λ ls. KnowsOperators c.loop-declaration.self.operators (said ++ fixities_in c.args.source.now ls)) (take_all i lines h) (c.loop-declaration.invariant.operators said k)

pub returns-clause-constants : goal.returns-clause-constants
returns-clause-constants c = λ z rows k a.
    let text = c.args.source.now in
    let lines = c.args.text.now.lines.items in
    let i = c.loop-declaration.declaration-index in
    let h : length lines ≤ i = subst (λ l. length l ≤ i) c.deref-declaration-items.ensures.value c.loop-declaration-test.false in
    let sound = sound_all (seen_count z) text (seen_text z text lines) lines c.deref-declaration-items.result.now i c.deref-declaration-items.ensures.value c.loop-declaration-test.false (c.loop-declaration.invariant.sound z k) in
    let said = z.said ++ said_in text lines in
    let defs = z.definitions ++ definitions_in text lines in (
      subst (λ t. KnowsConstants t.bank c.loop-declaration.self.constants said defs (rows ++ constants_in text lines)) (sym c.leave.ensures.types)
          (subst (λ ls. KnowsConstants c.loop-declaration.self.bodies.types.bank c.loop-declaration.self.constants said defs (rows ++ constants_in text ls)) (take_all i lines h) (c.loop-declaration.invariant.constants z rows k a)),
      λ t. text_typed z text lines rows c.loop-declaration.self.constants t.1 (c.loop-declaration.invariant.stand z k sound)
          (all_declared (seen_count z) (seen_text z text lines) rows text lines i c.loop-declaration.self.constants h (c.loop-declaration.invariant.typed z rows k a t)),
    )

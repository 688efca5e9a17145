use Rattle.std.proofs.Common.{length, ◌≤◌, subst}
use Rattle.lp_syntax.specs.declared.text.RawTypeNode.TheVariants.{Word, Arrow}
use Rattle.lp_sig.proofs.LongTypes.{node_read, so_many, back_again, is_long, ends_at_word, ends_past}
use Rattle.lp_sig.proofs.expand.has_many_arguments.Goals as goal

pub arguments-preserved : goal.arguments-preserved
arguments-preserved c =
    let nodes = c.args.raw.now.nodes.items in
    let root = c.args.raw.now.root in
    let a = c.in-Some-Arrow.field-0-0 in
    let b = c.in-Some-Arrow.to in
    let r = node_read nodes c.deref.result.now c.arguments.at c.in-Some-Arrow.field-0.now (Arrow a b) c.deref.ensures.value c.in-Some-Arrow.ensures.lookup.3.0 c.in-Some-Arrow.ensures.lookup.1 c.in-Some-Arrow.field-0-is in
    record {
      so = so_many nodes root c.arguments.at c.arguments.count a b r.0 r.1 c.arguments.invariant.so;
      back = back_again nodes root c.arguments.at c.arguments.count a b r.0 r.1 c.arguments.invariant.back;
    }

pub returns-in-Some-Word-clause-few : goal.returns-in-Some-Word-clause-few
returns-in-Some-Word-clause-few c = λ e.
    let nodes = c.args.raw.now.nodes.items in
    let s = c.in-Some-Word.field-0-0 in
    let args = c.in-Some-Word.field-0-1 in
    let r = node_read nodes c.deref.result.now c.arguments.at c.in-Some-Word.field-0.now (Word s args) c.deref.ensures.value c.in-Some-Word.ensures.lookup.3.0 c.in-Some-Word.ensures.lookup.1 c.in-Some-Word.field-0-is in
    ends_at_word nodes c.args.raw.now.root c.arguments.at c.arguments.count s args c.arguments-test.true r.0 r.1 c.arguments.invariant.back

pub returns-in-None-clause-few : goal.returns-in-None-clause-few
returns-in-None-clause-few c = λ e.
    let nodes = c.args.raw.now.nodes.items in
    ends_past nodes c.args.raw.now.root c.arguments.at c.arguments.count c.arguments-test.true (subst (λ l. length l ≤ c.arguments.at) c.deref.ensures.value c.in-None.ensures.lookup.3) c.arguments.invariant.back

pub returns-clause-many : goal.returns-clause-many
returns-clause-many c = λ e. is_long c.args.raw.now.nodes.items c.args.raw.now.root c.arguments.at c.arguments.count c.arguments-test.false c.arguments.invariant.so

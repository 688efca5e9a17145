use Rattle.std.proofs.Common.{◌∙◌, ap, sym, arith}
use Rattle.std.specs.Prelude.{nat_eq, filter_map}
use Rattle.indexmap.specs.IndexSet.{insert_all}
use Rattle.lp_sig.specs.Pieces.{spelled}
use Rattle.lp_build.specs.Sights.{signature_of}
use Rattle.lp_build.proofs.Signing.{word_passed, word_taken, words_done}
use Rattle.lp_build.proofs.links.Numbers.named.Goals as goal

pub loop-at-init : goal.loop-at-init
loop-at-init c = record {
  found = c.new-found.ensures.items ∙ sym c.new-seen.ensures.empty;
  numbers = λ files has. ap (λ ks. insert_all nat_eq ks (filter_map (λ w. signature_of files (spelled c.args.source.now w)) c.args.words.now.items)) c.new-seen.ensures.empty;
}

pub loop-at-preserved-in-None : goal.loop-at-preserved-in-None
loop-at-preserved-in-None c = record {
  found = c.loop-at.invariant.found;
  numbers = λ files has. word_passed (λ w. signature_of files (spelled c.args.source.now w)) c.args.words.now.items c.loop-at.at
      c.index-word.result.now c.number.result c.loop-at.seen.keys _ (omega (arith, c.loop-at-test.true, c.len-at-end.ensures, c.args.words.now.ok))
      c.index-word.ensures
      (c.number.ensures ∙ has c.spelled_at.result.now ∙ ap (signature_of files) c.spelled_at.ensures) c.in-None.is (c.loop-at.invariant.numbers files has);
}

pub loop-at-preserved : goal.loop-at-preserved
loop-at-preserved c = record {
  found = c.in_ok-note-in-Some.ensures.found c.loop-at.invariant.found;
  numbers = λ files has. word_taken (λ w. signature_of files (spelled c.args.source.now w)) c.args.words.now.items c.loop-at.at
      c.index-word.result.now c.number.result c.in-Some.number c.loop-at.seen.keys c.note.new.seen.keys _
      (omega (arith, c.loop-at-test.true, c.len-at-end.ensures, c.args.words.now.ok)) c.index-word.ensures
      (c.number.ensures ∙ has c.spelled_at.result.now ∙ ap (signature_of files) c.spelled_at.ensures) c.in-Some.is c.in_ok-note-in-Some.ensures.seen (c.loop-at.invariant.numbers files has);
}

pub returns : goal.returns
returns c = λ files has. c.loop-at.invariant.found ∙ words_done (λ w. signature_of files (spelled c.args.source.now w)) c.args.words.now.items
    c.loop-at.at c.loop-at.seen.keys _ (omega (arith, c.loop-at-test.false, c.len-at-end.ensures, c.args.words.now.ok))
    (c.loop-at.invariant.numbers files has)

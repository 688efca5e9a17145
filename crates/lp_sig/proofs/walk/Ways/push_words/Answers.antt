use Rattle.std.proofs.Common.{ap, ◌∙◌, sym, ◌++◌, append-nil}
use Rattle.lp_sig.proofs.Naming.{words_read, words_beyond}
use Rattle.lp_sig.proofs.walk.Ways.push_words.Goals as goal

pub returns-in_default : goal.returns-in_default
returns-in_default c = sym (append-nil c.args.work.now.items) ∙ ap (λ z. c.args.work.now.items ++ z) (sym (words_beyond c.args.self.now.ways.items c.deref.result.now c.args.at c.deref.ensures.value c.in_default.ensures.lookup.3))

pub returns : goal.returns
returns c = c.in_ok-extend_from_slice.ensures.items ∙ ap (λ z. c.args.work.now.items ++ z)
    (words_read c.args.self.now.ways.items c.deref.result.now c.args.at c.in-Some.words.now c.as_slice.result.now c.deref.ensures.value
    c.in-Some.ensures.lookup.3.0 c.in-Some.ensures.lookup.1 c.as_slice.ensures.value)

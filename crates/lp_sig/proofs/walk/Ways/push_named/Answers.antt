use Rattle.std.proofs.Common.{ap, ◌∙◌, sym, ◌++◌, reverse, append-nil}
use Rattle.std.proofs.lemmas.Result.{on_ok_weaker}
use Rattle.lp_sig.specs.Walking.{entries}
use Rattle.lp_sig.proofs.Naming.{words_read, words_beyond}
use Rattle.lp_sig.proofs.walk.Ways.push_named.Goals as goal

pub returns-in_default : goal.returns-in_default
returns-in_default c = sym (append-nil c.args.work.now.items) ∙ ap (λ z. c.args.work.now.items ++ entries (reverse z)) (sym (words_beyond c.args.self.now.ways.items c.deref.result.now c.args.at c.deref.ensures.value c.in_default.ensures.lookup.3))

pub returns : goal.returns
returns c = on_ok_weaker c.push_entries.result (λ e. e ∙ ap (λ z. c.args.work.now.items ++ entries (reverse z))
    (words_read c.args.self.now.ways.items c.deref.result.now c.args.at c.in-Some.words.now c.as_slice.result.now c.deref.ensures.value
    c.in-Some.ensures.lookup.3.0 c.in-Some.ensures.lookup.1 c.as_slice.ensures.value)) c.push_entries.ensures

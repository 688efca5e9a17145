use Rattle.std.proofs.Common.{◌≡◌, length}
use Rattle.lp_show.specs.Glossary.{entries_of}
use Rattle.lp_answers.specs.Texts.{names_in, Wrote}
use Rattle.lp_answers.proofs.writing.write_answers.Given as goal

abbrev pub invariant-answers : goal.invariant-answers
invariant-answers g l =
    (g.S.Searching.variables l.search ≡ length l.shown.names.items)
    × ((g.K.Sink.faults l.out ≡ g.K.Sink.faults l.fn.out)
    × Wrote (entries_of l.shown.glossary.now.entries.items) (names_in l.shown.names.items) l.before (g.K.Sink.written l.fn.out) (g.K.Sink.written l.out))

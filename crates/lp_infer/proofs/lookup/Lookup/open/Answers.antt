use Rattle.std.proofs.Common.{◌^◌, ◌<◌, sym, subst, Some, None}
use Rattle.lp_sig.specs.Pieces.{spelled}
use Rattle.lp_infer.specs.Texts.{IsNoted}
use Rattle.lp_infer.specs.Visits.{IsBegun}
use Rattle.lp_infer.specs.Noted.{NoteRead}
use Rattle.lp_infer.proofs.Noting.{opened_plain, opened_noted}
use Rattle.lp_infer.proofs.lookup.Lookup.open.Goals as goal

pub returns-in_ok-outside-in-None : goal.returns-in_ok-outside-in-None
returns-in_ok-outside-in-None c = λ firsts.
    opened_plain c.args.signature.now c.args.source.now (spelled c.args.source.now c.args.spot) c.in_ok-outside-in-None.outside c.args.note.now c.args.self.now c.begin.new.self c.in-None.is
    (subst (λ w. IsBegun w None c.args.self.now c.begin.new.self c.in_ok-outside-in-None.outside) c.spelled_at.ensures c.in_ok-outside-in-None.ensures)

pub returns-in_default : goal.returns-in_default
returns-in_default c = λ firsts κ given noted.
    subst (NoteRead c.args.signature.now c.args.source.now (Some c.in-Some.raw) c.args.self.now c.annotation.new.self) c.in_default.is (c.in_ok-id-in-Some.ensures.note firsts) κ given
    (subst (λ n. IsNoted c.args.signature.now c.args.source.now κ n given) c.in-Some.is noted)

pub returns-in_ok-outside-in-Some : goal.returns-in_ok-outside-in-Some
returns-in_ok-outside-in-Some c = λ firsts.
    opened_noted c.args.signature.now c.args.source.now (spelled c.args.source.now c.args.spot) c.in_ok-outside-in-Some.outside c.args.note.now c.in-Some.raw c.args.self.now c.annotation.new.self c.begin-in-Some.new.self c.in-Some-2.id c.in-Some.is
    (c.in_ok-id-in-Some.ensures.grows firsts)
    (subst (NoteRead c.args.signature.now c.args.source.now (Some c.in-Some.raw) c.args.self.now c.annotation.new.self) c.in-Some-2.is (c.in_ok-id-in-Some.ensures.note firsts))
    (subst (λ w. IsBegun w (Some c.in-Some-2.id) c.annotation.new.self c.begin-in-Some.new.self c.in_ok-outside-in-Some.outside) c.spelled_at-in-Some.ensures c.in_ok-outside-in-Some.ensures)

pub begin-requires-in-Some : goal.begin-requires-in-Some
begin-requires-in-Some c = subst (λ s. s.depth < 2 ^ 63) (sym (c.in_ok-id-in-Some.ensures.grows c.requires.notes).scope) c.requires.depth

use Rattle.std.proofs.Common.{◌≡◌, ◌+◌, ◌∙◌, inl, inr, map, refl, subst, arith}
use Rattle.lp_base.specs.Counts.{Counts}
use Rattle.lp_base.specs.Written.{Appends, AppendsPrefix}
use Rattle.lp_base.specs.declared.status.Status.TheVariants as variant
use Rattle.lp_lines.proofs.Counting.{same_count}
use Rattle.lp_lines.proofs.Statuses.{memory_of_search}
use Rattle.lp_watch.specs.Crowd.{places}
use Rattle.lp_solve.specs.Shown.{constants_in, names_in}
use Rattle.lp_solve.specs.inner.Events.{IsPiece}
use Rattle.lp_solve.specs.inner.Heard.{HeardPiece, IsReported, at_first}
use Rattle.lp_solve.proofs.Hearing.{come_to, ended_piece, fault_lack, heard_piece, other_lack}
use Rattle.lp_solve.proofs.Telling.{cut_in_answer, lacked, lacked_part, none_so_far, one_so_far, searched_part, searched_whole, told_variables}
use Rattle.lp_solve.proofs.answers.write_answers.Goals as goal

pub loop-before-init : goal.loop-before-init
loop-before-init g c = (refl, none_so_far (constants_in c.args.prepared.shown) (names_in c.args.prepared.shown) c.args.prepared.search (g.K.Sink.written c.args.out.now), at_first, refl)

pub next_piece-requires : goal.next_piece-requires
next_piece-requires g c = let so_far = c.loop-before.invariant.1 in told_variables c.args.prepared.search c.loop-before.search so_far.answers so_far.told ∙ c.requires

pub tell-requires : goal.tell-requires
tell-requires g c = λ e. cc

pub tell-requires-2 : goal.tell-requires-2
tell-requires-2 g c = λ e. cc

pub returns-in-Err-clause-writes : goal.returns-in-Err-clause-writes
returns-in-Err-clause-writes g c =
    λ no. searched_whole (constants_in c.args.prepared.shown) (names_in c.args.prepared.shown) c.args.prepared.search c.loop-before.search
    c.loop-before.before (g.K.Sink.written c.args.out.now) (g.K.Sink.written c.loop-before.out) (g.K.Sink.written c.tell.new.out) (IsReported c.args.watched c.args.prepared.search (places c.args.crowd.now.texts.items (map g.W.Watch.seen c.args.crowd.now.watchers.now.items)) (places c.next_piece.new.crowd.texts.items (map g.W.Watch.seen c.next_piece.new.crowd.watchers.now.items)))
    c.tell.result c.loop-before.invariant.1
    (lacked (names_in c.args.prepared.shown) (IsReported c.args.watched c.args.prepared.search (places c.args.crowd.now.texts.items (map g.W.Watch.seen c.args.crowd.now.watchers.now.items)) (places c.next_piece.new.crowd.texts.items (map g.W.Watch.seen c.next_piece.new.crowd.watchers.now.items))) c.loop-before.search c.tell.result (g.K.Sink.written c.loop-before.out) (g.K.Sink.written c.tell.new.out) c.tell.ensures.said no)

pub returns-in-Err-clause-begins : goal.returns-in-Err-clause-begins
returns-in-Err-clause-begins g c =
    λ is. searched_part (constants_in c.args.prepared.shown) (names_in c.args.prepared.shown) c.args.prepared.search c.loop-before.search
    c.loop-before.before (g.K.Sink.written c.args.out.now) (g.K.Sink.written c.loop-before.out) (g.K.Sink.written c.tell.new.out) (IsReported c.args.watched c.args.prepared.search (places c.args.crowd.now.texts.items (map g.W.Watch.seen c.args.crowd.now.watchers.now.items)) (places c.next_piece.new.crowd.texts.items (map g.W.Watch.seen c.next_piece.new.crowd.watchers.now.items)))
    c.loop-before.invariant.1
    (lacked_part (names_in c.args.prepared.shown) (IsReported c.args.watched c.args.prepared.search (places c.args.crowd.now.texts.items (map g.W.Watch.seen c.args.crowd.now.watchers.now.items)) (places c.next_piece.new.crowd.texts.items (map g.W.Watch.seen c.next_piece.new.crowd.watchers.now.items))) c.loop-before.search c.tell.result (g.K.Sink.written c.loop-before.out) (g.K.Sink.written c.tell.new.out) c.tell.ensures.prefix is)

pub returns-in-Err-clause-of_search : goal.returns-in-Err-clause-of_search
returns-in-Err-clause-of_search g c = memory_of_search c.tell.result (λ n. (c.tell.ensures.said n).0)

pub returns-in-Err-clause-write_faults : goal.returns-in-Err-clause-write_faults
returns-in-Err-clause-write_faults g c = subst (λ n. Counts (c.tell.result ≡ variant.WriteFault) n (g.K.Sink.faults c.tell.new.out)) c.loop-before.invariant.0 c.tell.ensures.faults

pub returns-in-Ok-Over-clause-writes : goal.returns-in-Ok-Over-clause-writes
returns-in-Ok-Over-clause-writes g c =
    λ no. searched_whole (constants_in c.args.prepared.shown) (names_in c.args.prepared.shown) c.args.prepared.search c.loop-before.search
    c.loop-before.before (g.K.Sink.written c.args.out.now) (g.K.Sink.written c.loop-before.out) (g.K.Sink.written c.write_end.new.out)
    (IsReported c.args.watched c.args.prepared.search (places c.args.crowd.now.texts.items (map g.W.Watch.seen c.args.crowd.now.watchers.now.items)) (places c.next_piece.new.crowd.texts.items (map g.W.Watch.seen c.next_piece.new.crowd.watchers.now.items))) c.write_end.result c.loop-before.invariant.1
    (c.write_end.ensures.writes (names_in c.args.prepared.shown) c.loop-before.search c.args.prepared.search (places c.args.crowd.now.texts.items (map g.W.Watch.seen c.args.crowd.now.watchers.now.items))
    (subst (λ p. IsPiece (constants_in c.args.prepared.shown) (names_in c.args.prepared.shown) (c.loop-before.before + 1) c.loop-before.search p
    c.next_piece.new.search) c.in-Ok-Over.field-0-is c.in-Ok-Over.ensures.piece)
    (come_to c.args.prepared.search c.loop-before.search c.next_piece.new.search _ _ _ _ c.in-Ok-Over.why c.in-Ok-Over.field-0-is c.in-Ok-Over.ensures.heard c.loop-before.invariant.2 c.next_piece.ensures.part) no)

pub returns-in-Ok-Over-clause-begins : goal.returns-in-Ok-Over-clause-begins
returns-in-Ok-Over-clause-begins g c =
    λ is. searched_part (constants_in c.args.prepared.shown) (names_in c.args.prepared.shown) c.args.prepared.search c.loop-before.search
    c.loop-before.before (g.K.Sink.written c.args.out.now) (g.K.Sink.written c.loop-before.out) (g.K.Sink.written c.write_end.new.out)
    (IsReported c.args.watched c.args.prepared.search (places c.args.crowd.now.texts.items (map g.W.Watch.seen c.args.crowd.now.watchers.now.items)) (places c.next_piece.new.crowd.texts.items (map g.W.Watch.seen c.next_piece.new.crowd.watchers.now.items))) c.loop-before.invariant.1
    (c.write_end.ensures.begins (names_in c.args.prepared.shown) c.loop-before.search c.args.prepared.search (places c.args.crowd.now.texts.items (map g.W.Watch.seen c.args.crowd.now.watchers.now.items))
    (subst (λ p. IsPiece (constants_in c.args.prepared.shown) (names_in c.args.prepared.shown) (c.loop-before.before + 1) c.loop-before.search p
    c.next_piece.new.search) c.in-Ok-Over.field-0-is c.in-Ok-Over.ensures.piece)
    (come_to c.args.prepared.search c.loop-before.search c.next_piece.new.search _ _ _ _ c.in-Ok-Over.why c.in-Ok-Over.field-0-is c.in-Ok-Over.ensures.heard c.loop-before.invariant.2 c.next_piece.ensures.part) is)

pub returns-in-Ok-Over-clause-write_faults : goal.returns-in-Ok-Over-clause-write_faults
returns-in-Ok-Over-clause-write_faults g c = subst (λ n. Counts (c.write_end.result ≡ variant.WriteFault) n (g.K.Sink.faults c.write_end.new.out))
    c.loop-before.invariant.0 c.write_end.ensures.write_faults

pub returns-in-Err-put-clause-begins : goal.returns-in-Err-put-clause-begins
returns-in-Err-put-clause-begins g c =
    λ is. cut_in_answer (constants_in c.args.prepared.shown) (names_in c.args.prepared.shown) c.args.prepared.search c.loop-before.search
    c.next_piece.new.search c.loop-before.before (c.loop-before.before + 1) (g.K.Sink.written c.args.out.now) (g.K.Sink.written c.loop-before.out)
    (g.K.Sink.written c.put.new.self) _ c.in-Ok-Answer.lines (IsReported c.args.watched c.args.prepared.search (places c.args.crowd.now.texts.items (map g.W.Watch.seen c.args.crowd.now.watchers.now.items)) (places c.next_piece.new.crowd.texts.items (map g.W.Watch.seen c.next_piece.new.crowd.watchers.now.items))) c.loop-before.invariant.1 (omega arith) c.in-Ok-Answer.field-0-is
    c.in-Ok-Answer.ensures.piece
    (subst (λ p. AppendsPrefix (g.K.Sink.written c.loop-before.out) (g.K.Sink.written c.put.new.self) p) c.deref.ensures.value c.in-Err-put.ensures.prefix)

pub loop-before-preserved : goal.loop-before-preserved
loop-before-preserved g c = (
  same_count _ (g.K.Sink.faults c.loop-before.out) (g.K.Sink.faults c.put.new.self) c.in-Ok.ensures.faults (λ e. cc) ∙ c.loop-before.invariant.0,
  one_so_far (constants_in c.args.prepared.shown) (names_in c.args.prepared.shown) c.args.prepared.search c.loop-before.search c.next_piece.new.search c.loop-before.before (c.loop-before.before + 1)
      (g.K.Sink.written c.args.out.now) (g.K.Sink.written c.loop-before.out) (g.K.Sink.written c.put.new.self) _ c.in-Ok-Answer.lines
      c.loop-before.invariant.1 (omega arith) c.in-Ok-Answer.field-0-is c.in-Ok-Answer.ensures.piece
      (subst (λ p. Appends (g.K.Sink.written c.loop-before.out) (g.K.Sink.written c.put.new.self) p) c.deref.ensures.value c.in-Ok.ensures.appended),
  heard_piece c.args.prepared.search c.loop-before.search c.next_piece.new.search _ _ (places c.next_piece.new.crowd.texts.items (map g.W.Watch.seen c.next_piece.new.crowd.watchers.now.items)) _ c.in-Ok-Answer.lines c.in-Ok-Answer.field-0-is
      c.in-Ok-Answer.ensures.heard c.loop-before.invariant.2,
  c.next_piece.ensures.same ∙ c.loop-before.invariant.3,
)

pub returns-clause-writes : goal.returns-clause-writes
returns-clause-writes g c =
    λ no. searched_whole (constants_in c.args.prepared.shown) (names_in c.args.prepared.shown) c.args.prepared.search c.loop-before.search
    c.loop-before.before (g.K.Sink.written c.args.out.now) (g.K.Sink.written c.loop-before.out) (g.K.Sink.written c.tell-2.new.out) (IsReported c.args.watched c.args.prepared.search (places c.args.crowd.now.texts.items (map g.W.Watch.seen c.args.crowd.now.watchers.now.items)) (places c.loop-before.crowd.texts.items (map g.W.Watch.seen c.loop-before.crowd.watchers.now.items)))
    c.tell-2.result c.loop-before.invariant.1
    (lacked (names_in c.args.prepared.shown) (IsReported c.args.watched c.args.prepared.search (places c.args.crowd.now.texts.items (map g.W.Watch.seen c.args.crowd.now.watchers.now.items)) (places c.loop-before.crowd.texts.items (map g.W.Watch.seen c.loop-before.crowd.watchers.now.items))) c.loop-before.search c.tell-2.result (g.K.Sink.written c.loop-before.out) (g.K.Sink.written c.tell-2.new.out) c.tell-2.ensures.said no)

pub returns-clause-begins : goal.returns-clause-begins
returns-clause-begins g c =
    λ is. searched_part (constants_in c.args.prepared.shown) (names_in c.args.prepared.shown) c.args.prepared.search c.loop-before.search
    c.loop-before.before (g.K.Sink.written c.args.out.now) (g.K.Sink.written c.loop-before.out) (g.K.Sink.written c.tell-2.new.out) (IsReported c.args.watched c.args.prepared.search (places c.args.crowd.now.texts.items (map g.W.Watch.seen c.args.crowd.now.watchers.now.items)) (places c.loop-before.crowd.texts.items (map g.W.Watch.seen c.loop-before.crowd.watchers.now.items)))
    c.loop-before.invariant.1
    (lacked_part (names_in c.args.prepared.shown) (IsReported c.args.watched c.args.prepared.search (places c.args.crowd.now.texts.items (map g.W.Watch.seen c.args.crowd.now.watchers.now.items)) (places c.loop-before.crowd.texts.items (map g.W.Watch.seen c.loop-before.crowd.watchers.now.items))) c.loop-before.search c.tell-2.result (g.K.Sink.written c.loop-before.out)
    (g.K.Sink.written c.tell-2.new.out) c.tell-2.ensures.prefix is)

pub returns-clause-of_search : goal.returns-clause-of_search
returns-clause-of_search g c = memory_of_search c.tell-2.result (λ n. (c.tell-2.ensures.said n).0)

pub returns-clause-write_faults : goal.returns-clause-write_faults
returns-clause-write_faults g c = subst (λ n. Counts (c.tell-2.result ≡ variant.WriteFault) n (g.K.Sink.faults c.tell-2.new.out)) c.loop-before.invariant.0 c.tell-2.ensures.faults

pub returns-in-Err-clause-watched : goal.returns-in-Err-clause-watched
returns-in-Err-clause-watched g c = λ e. absurd (other_lack c.tell.result (λ n. (c.tell.ensures.said n).0) e)

pub returns-clause-watched : goal.returns-clause-watched
returns-clause-watched g c = λ e. absurd (other_lack c.tell-2.result (λ n. (c.tell-2.ensures.said n).0) e)

pub returns-in-Ok-Over-clause-watched : goal.returns-in-Ok-Over-clause-watched
returns-in-Ok-Over-clause-watched g c = λ e.
    ended_piece c.args.prepared.search c.loop-before.search c.next_piece.new.search _ _ (places c.next_piece.new.crowd.texts.items (map g.W.Watch.seen c.next_piece.new.crowd.watchers.now.items)) _ c.in-Ok-Over.why c.in-Ok-Over.field-0-is
    c.in-Ok-Over.ensures.heard c.loop-before.invariant.2 (c.write_end.ensures.other e)

pub returns-in-Err-put-clause-watched : goal.returns-in-Err-put-clause-watched
returns-in-Err-put-clause-watched g c = λ e. absurd (fault_lack e)

pub returns-in-Err-clause-same : goal.returns-in-Err-clause-same
returns-in-Err-clause-same g c = c.next_piece.ensures.same ∙ c.loop-before.invariant.3

pub returns-in-Ok-Over-clause-same : goal.returns-in-Ok-Over-clause-same
returns-in-Ok-Over-clause-same g c = c.next_piece.ensures.same ∙ c.loop-before.invariant.3

pub returns-in-Err-put-clause-same : goal.returns-in-Err-put-clause-same
returns-in-Err-put-clause-same g c = c.next_piece.ensures.same ∙ c.loop-before.invariant.3

pub returns-clause-same : goal.returns-clause-same
returns-clause-same g c = c.loop-before.invariant.3

pub returns-in-Err-clause-part : goal.returns-in-Err-clause-part
returns-in-Err-clause-part g c = record { last = c.loop-before.search; seen = places c.loop-before.crowd.texts.items (map g.W.Watch.seen c.loop-before.crowd.watchers.now.items); watched = c.loop-before.invariant.2; part = inr c.next_piece.ensures.part }

pub returns-in-Ok-Over-clause-part : goal.returns-in-Ok-Over-clause-part
returns-in-Ok-Over-clause-part g c = record { last = c.loop-before.search; seen = places c.loop-before.crowd.texts.items (map g.W.Watch.seen c.loop-before.crowd.watchers.now.items); watched = c.loop-before.invariant.2; part = inr c.next_piece.ensures.part }

pub returns-in-Err-put-clause-part : goal.returns-in-Err-put-clause-part
returns-in-Err-put-clause-part g c = record { last = c.loop-before.search; seen = places c.loop-before.crowd.texts.items (map g.W.Watch.seen c.loop-before.crowd.watchers.now.items); watched = c.loop-before.invariant.2; part = inr c.next_piece.ensures.part }

pub returns-clause-part : goal.returns-clause-part
returns-clause-part g c = record { last = c.loop-before.search; seen = places c.loop-before.crowd.texts.items (map g.W.Watch.seen c.loop-before.crowd.watchers.now.items); watched = c.loop-before.invariant.2; part = inl refl }

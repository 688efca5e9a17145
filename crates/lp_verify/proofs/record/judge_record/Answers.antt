use Rattle.std.specs.Prelude.{◌||◌, ◌^◌}
use Rattle.std.proofs.Common.{◌≡◌, ◌<◌, ◌+◌, ◌∙◌, ◌∷◌, [], length, drop, get_or, Some, None, ap, sym, subst, arith}
use Rattle.std.proofs.lemmas.List.Elements.{All-get_or}
use Rattle.lp_lemmas.proofs.Lists.{drop_read}
use Rattle.lp_code.specs.Length.{Fits}
use Rattle.lp_code.specs.Denote.{run, any_clause, first_state, captured_of}
use Rattle.lp_code.specs.States.{member}
use Rattle.lp_code.specs.Rules.{names_of, names_in}
use Rattle.lp_verify.specs.Named.{was_named}
use Rattle.lp_verify.specs.inner.At.{kept_in, home_in, AreNamedBefore, IsRan, IsStepped, IsStarted, IsJudgedWhole, NamesLeft, GoesOn}
use Rattle.lp_verify.specs.inner.Indices.{ListsGrow}
use Rattle.lp_verify.specs.inner.Language.{HasLanguage}
use Rattle.lp_verify.specs.inner.Alls.{AllsAre}
use Rattle.lp_verify.proofs.UsedConstants.{basics_stay}
use Rattle.lp_verify.proofs.LooseSeen.{grows_same}
use Rattle.lp_verify.proofs.Moved.{TellsFirst, handed_kept, begun, stands_low, goes_on, refused, ended}
use Rattle.lp_verify.proofs.Names.{names_pass, names_end}
use Rattle.lp_verify.proofs.HandedOn.{named_has}
use Rattle.lp_verify.proofs.Faults.{none_left}
use Rattle.lp_verify.proofs.record.judge_record.Goals as goal

pub loop-instr-init : goal.loop-instr-init
loop-instr-init c =
    let h = home_in c.args.home in
    let old = c.args.shared.now in
    let new = c.start.new.shared in
    let m = new.named in
    let same : m ≡ old.named = c.start.ensures.named in
    let kept : new.handed.items ≡ old.handed.items = ap (λ v. v.items) c.start.ensures.handed in
    let home = ap home_in c.in_ok-work.ensures.home in (
      home,
      λ before there given low alls keeps names short.
          begun h (kept_in old) before c.in_ok-work.work new c.in_ok-whole.whole home
          (subst (λ l. ListsGrow old.lists l) (sym c.start.ensures.lists) (grows_same old.lists), c.in_ok-work.ensures.grow)
          (subst (λ l. IsStarted l m c.in_ok-work.work) (sym kept) (subst (λ l. IsStarted old.handed.items l c.in_ok-work.work) (sym same)
          c.in_ok-work.ensures.started)) there
          (handed_kept (kept_in old) old new h.records before c.start.ensures.handed c.start.ensures.named given)
          (c.in_ok-work.ensures.head c.requires.language keeps) (subst (AreNamedBefore h.number h.records) (sym same) names)
          (subst (λ h. IsJudgedWhole h (was_named m) c.in_ok-whole.whole) home c.in_ok-whole.ensures.whole)
          (λ s same starts. c.in_ok-whole.ensures.head s (subst (λ h. HasLanguage h.tables.now) (sym c.in_ok-work.ensures.home) c.requires.language)
          (basics_stay old.types new.types c.in_ok-work.ensures.grow keeps.0) same starts
          (subst (λ h. AllsAre h.records.now h.number c.args.alls.now.records.items) (sym c.in_ok-work.ensures.home) alls))
          low,
      λ n. ap (λ m. was_named m n || member n (names_in h.self.code.items)) same,
    )

pub loop-instr-preserved : goal.loop-instr-preserved
loop-instr-preserved c =
    let h = home_in c.args.home in
    let code = c.args.home.record.now.code.items in
    let n = c.loop-instr.instr-index in
    let i = c.instr-item.result in
    let w = c.loop-instr.work in
    let v = c.step.new.self in
    let inv = c.loop-instr.invariant in
    let below : n < length code = subst (λ l. n < length l) c.deref-instr-items.ensures.value c.loop-instr-test.true in
    let is : i ≡ get_or code n i = c.instr-item.is ∙ ap (λ l. get_or l n i) c.deref-instr-items.ensures.value in
    let at : drop n code ≡ i ∷ drop (n + 1) code = drop_read code n i below is in
    let x = c.loop-instr.shared in
    let y = c.step.new.shared in
    let first : w.place < 2 ^ 63 → w.number < 2 ^ 63 → TellsFirst i w x y c.loop-instr.whole None = subst (λ o. w.place < 2 ^ 63 → w.number < 2 ^ 63 → TellsFirst i w x y c.loop-instr.whole o) c.in_default.is c.in_ok-rule.ensures.0 in
    let run : IsStepped i x y w v None = subst (IsStepped i x y w v) c.in_default.is c.in_ok-rule.ensures.2 in
    let fit : Fits i = subst Fits (sym is) (All-get_or Fits code n i below c.requires.fit) in (
      ap home_in run.runs.home_stays ∙ inv.0,
      λ before there given low alls keeps names short.
          let g = subst (λ l. GoesOn h before code l w x c.loop-instr.whole) at (inv.1 before there given low alls keeps names short) in
          let small = stands_low h before code i (drop (n + 1) code) w x c.loop-instr.whole short g in
          goes_on h before code i (drop (n + 1) code) w v x y c.loop-instr.whole c.none-whole.result inv.0 short g
          (record { fits = fit; kept = first small.0 small.1; passed = run; grow = c.in_ok-rule.ensures.1; clean = c.none-whole.ensures }),
      names_pass i (drop (n + 1) code) code c.args.shared.now.named x.named y.named (named_has (names_of i) (length x.handed.items) x.named y.named run.names) (subst (λ l. NamesLeft code l c.args.shared.now.named x.named) at inv.2),
    )

pub returns-in-Some : goal.returns-in-Some
returns-in-Some c =
    let h = home_in c.args.home in
    let code = c.args.home.record.now.code.items in
    let n = c.loop-instr.instr-index in
    let i = c.instr-item.result in
    let w = c.loop-instr.work in
    let r = c.in-Some.rule in
    let inv = c.loop-instr.invariant in
    let at : drop n code ≡ i ∷ drop (n + 1) code = drop_read code n i (subst (λ l. n < length l) c.deref-instr-items.ensures.value c.loop-instr-test.true) (c.instr-item.is ∙ ap (λ l. get_or l n i) c.deref-instr-items.ensures.value) in
    let x = c.loop-instr.shared in
    let y = c.step.new.shared in
    let first : w.place < 2 ^ 63 → w.number < 2 ^ 63 → TellsFirst i w x y c.loop-instr.whole (Some r) = subst (λ o. w.place < 2 ^ 63 → w.number < 2 ^ 63 → TellsFirst i w x y c.loop-instr.whole o) c.in-Some.is c.in_ok-rule.ensures.0 in
    let stays : c.step.new.self.place ≡ w.place = subst (IsStepped i x y w c.step.new.self) c.in-Some.is c.in_ok-rule.ensures.2 in (
      λ before there given low alls keeps names short.
          let g = subst (λ l. GoesOn h before code l w x c.loop-instr.whole) at (inv.1 before there given low alls keeps names short) in
          let small = stands_low h before code i (drop (n + 1) code) w x c.loop-instr.whole short g in
          subst (λ p. IsRan h.tables h.records y before (run h any_clause (first_state h.self (captured_of before h.number)) code) (Some (p, r))) (sym stays)
          (refused h before code i (drop (n + 1) code) w x y c.loop-instr.whole r inv.0 short g c.in_ok-rule.ensures.1 (first small.0 small.1)),
      λ e. absurd (cc),
    )

pub returns-in-Some-first : goal.returns-in-Some-first
returns-in-Some-first c =
    let h = home_in c.args.home in
    let code = c.args.home.record.now.code.items in
    let none : drop c.loop-instr.instr-index code ≡ [] = none_left code c.deref-instr-items.result.now c.loop-instr.instr-index c.deref-instr-items.ensures.value (omega (arith, c.loop-instr-test.false)) in
    let x = c.loop-instr.shared in (
      λ before there given low alls keeps names short.
          ended h before code c.loop-instr.work x c.loop-instr.whole (Some c.in-Some-first.rule) short (subst (λ l. GoesOn h before code l c.loop-instr.work x c.loop-instr.whole) none (c.loop-instr.invariant.1 before there given low alls keeps names short)) c.in-Some-first.ensures,
      λ e. absurd (cc),
    )

pub returns : goal.returns
returns c =
    let h = home_in c.args.home in
    let code = c.args.home.record.now.code.items in
    let none : drop c.loop-instr.instr-index code ≡ [] = none_left code c.deref-instr-items.result.now c.loop-instr.instr-index c.deref-instr-items.ensures.value (omega (arith, c.loop-instr-test.false)) in
    let x = c.loop-instr.shared in (
      λ before there given low alls keeps names short.
          ended h before code c.loop-instr.work x c.loop-instr.whole None short (subst (λ l. GoesOn h before code l c.loop-instr.work x c.loop-instr.whole) none (c.loop-instr.invariant.1 before there given low alls keeps names short)) c.in-None.ensures,
      λ e. names_end code c.args.shared.now.named x.named (subst (λ l. NamesLeft code l c.args.shared.now.named x.named) none c.loop-instr.invariant.2),
    )

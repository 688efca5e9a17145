use Rattle.std.proofs.Common.{◌∙◌, ap, not, subst, sym}
use Rattle.std.specs.Prelude.{◌++◌, ◌∷◌, []}
use Rattle.lp_lemmas.proofs.Results.{passed_up}
use Rattle.lp_sig.specs.Sights.{HasKeys}
use Rattle.lp_build.specs.Loads.{names_of}
use Rattle.lp_build.specs.Ordered.{AreInOrderSoFar, asked, file_of, needed}
use Rattle.lp_build.specs.declared.fault.BuildFault.TheVariants as fault
use Rattle.lp_build.specs.inner.Walking.{AreOwed, IsLoadedAt, IsNotLoaded}
use Rattle.lp_build.proofs.Walking.{so_far_same, so_far_at_fault, so_far_loaded, walk_there, walk_loaded}
use Rattle.lp_build.proofs.walk.Loading.want.Goals as goal

pub returns-in_err-is_new-clause-so_far : goal.returns-in_err-is_new-clause-so_far
returns-in_err-is_new-clause-so_far g c = λ all root word short w. passed_up c.from_residual.result fault.Memory (AreInOrderSoFar all root _) c.from_residual.ensures.1
    (so_far_same all root _ c.args.self.now _ c.is_new.ensures.sources w)

pub returns-then-not-branch-clause-walked : goal.returns-then-not-branch-clause-walked
returns-then-not-branch-clause-walked g c = λ all root word short w.
    let names = names_of c.args.self.now.sources.files.items in
    walk_there all root (asked word c.args.part c.args.name.now) c.args.self.now c.is_new.new.self c.is_new.ensures.all c.is_new.ensures.sources c.is_new.ensures.work short
    (c.in_ok-is_new.ensures.new names w.names ∙ ap not c.if-not-branch.true) (c.in_ok-is_new.ensures.noted names w.names) w

pub returns-in_err-file-clause-so_far : goal.returns-in_err-file-clause-so_far
returns-in_err-file-clause-so_far g c = λ all root word short w.
    let n = asked word c.args.part c.args.name.now in
    let e = c.in_err-file.field-0.0 in
    passed_up c.from_residual-in_err-file.result e (AreInOrderSoFar all root c.load_file.new.sources) c.from_residual-in_err-file.ensures.1
    (so_far_at_fault all root n c.args.self.now c.load_file.new.sources e short (c.in_ok-is_new.ensures.new (names_of c.args.self.now.sources.files.items) w.names ∙ ap not c.if-not-branch.false)
    (subst (λ s. IsNotLoaded (needed n.part n.name) s c.load_file.new.sources e) c.is_new.ensures.sources c.in_err-file.ensures.not_loaded) w)

pub returns-in_err-await_named-clause-so_far : goal.returns-in_err-await_named-clause-so_far
returns-in_err-await_named-clause-so_far g c = λ all root word short w.
    let n = asked word c.args.part c.args.name.now in
    passed_up c.from_residual-in_err-await_named.result fault.Memory (AreInOrderSoFar all root _) c.from_residual-in_err-await_named.ensures.1
    (subst (λ s. AreInOrderSoFar all root s fault.Memory) (sym c.await_named.ensures.sources)
    (so_far_loaded all root n c.args.self.now c.load_file.new.sources c.in_ok-file.file short (c.in_ok-is_new.ensures.new (names_of c.args.self.now.sources.files.items) w.names ∙ ap not c.if-not-branch.false)
    (subst (λ s. IsLoadedAt (needed n.part n.name) s c.load_file.new.sources c.in_ok-file.file) c.is_new.ensures.sources c.in_ok-file.ensures.loaded) w))

pub returns-clause-walked : goal.returns-clause-walked
returns-clause-walked g c = λ all root word short w.
    let n = asked word c.args.part c.args.name.now in
    let names = names_of c.args.self.now.sources.files.items in
    walk_loaded all root n c.args.self.now c.await_named.new.self c.load_file.new.sources c.in_ok-file.file (c.await_named.ensures.all ∙ c.is_new.ensures.all) c.await_named.ensures.sources short
    (c.in_ok-is_new.ensures.new names w.names ∙ ap not c.if-not-branch.false)
    (subst (λ k. HasKeys k (names ++ file_of n ∷ [])) (sym c.await_named.ensures.names) (c.in_ok-is_new.ensures.noted names w.names))
    (subst (λ s. IsLoadedAt (needed n.part n.name) s c.load_file.new.sources c.in_ok-file.file) c.is_new.ensures.sources c.in_ok-file.ensures.loaded)
    (λ f left at is h. c.in_ok-await_named.ensures.owed all f left at is (subst (λ v. AreOwed all c.load_file.new.sources.files.items v.items left) (sym c.is_new.ensures.work) h)) w

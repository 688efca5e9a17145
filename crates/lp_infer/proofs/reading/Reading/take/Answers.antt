use Rattle.std.proofs.Common.{◌<◌, ℕ, sym, subst, ◌∷◌, reverse}
use Rattle.std.specs.Prelude.{OnOk}
use Rattle.std.proofs.lemmas.Result.{on_ok_weaker}
use Rattle.lp_infer.specs.ReadingOff.{bound_type, cost, IsTaken}
use Rattle.lp_infer.specs.inner.Waiting.{WasRead, Serves}
use Rattle.lp_type_unify.specs.Reading.{reads}
use Rattle.lp_infer.proofs.Memos.{taken_build}
use Rattle.lp_infer.proofs.Costs.{build_cost}
use Rattle.lp_infer.proofs.Waiting.{build_serves}
use Rattle.lp_infer.proofs.reading.Reading.take.Goals as goal

pub returns-in-Visit-clause-taken : goal.returns-in-Visit-clause-taken
returns-in-Visit-clause-taken c =
    let A = bound_type c.args.from.now c.args.bindings.now.made in
    subst (λ t. OnOk c.visit.result (IsTaken A c.args.to.now c.visit.new.to c.args.self.now c.visit.new.self (t ∷ reverse c.args.work.now.items) (reverse c.visit.new.work.items))) (sym c.in-Visit.is) c.visit.ensures.taken

pub returns-in-Build-clause-taken : goal.returns-in-Build-clause-taken
returns-in-Build-clause-taken c =
    let A = bound_type c.args.from.now c.args.bindings.now.made in
    let S = subst (λ t. Serves A c.args.from.now c.requires.serves.0 (WasRead c.args.self.now) (t ∷ reverse c.args.work.now.items)) c.in-Build.is c.requires.serves.1 in
    subst (λ t. OnOk c.build.result (IsTaken A c.args.to.now c.build.new.to c.args.self.now c.build.new.self (t ∷ reverse c.args.work.now.items) (reverse c.args.work.now.items))) (sym c.in-Build.is)
    (on_ok_weaker c.build.result (λ memo. taken_build A c.args.to.now c.build.new.to c.args.self.now c.build.new.self c.in-Build.id c.in-Build.top (reverse c.args.work.now.items) c.build.ensures.numbers
    (memo (reads c.args.from.now c.args.bindings.now.made) S.0)) c.build.ensures.memo)

pub returns-in-Visit-clause-fewer : goal.returns-in-Visit-clause-fewer
returns-in-Visit-clause-fewer c =
    let A = bound_type c.args.from.now c.args.bindings.now.made in
    subst (λ t. OnOk c.visit.result (cost A (reverse c.visit.new.work.items) < cost A (t ∷ reverse c.args.work.now.items))) (sym c.in-Visit.is) c.visit.ensures.fewer

pub returns-in-Build-clause-fewer : goal.returns-in-Build-clause-fewer
returns-in-Build-clause-fewer c =
    let A = bound_type c.args.from.now c.args.bindings.now.made in
    subst (λ t. OnOk c.build.result (cost A (reverse c.args.work.now.items) < cost A (t ∷ reverse c.args.work.now.items))) (sym c.in-Build.is)
    (on_ok_weaker c.build.result (λ was. build_cost A c.in-Build.id c.in-Build.top (reverse c.args.work.now.items)) c.build.ensures.was)

pub returns-in-Visit-clause-serves : goal.returns-in-Visit-clause-serves
returns-in-Visit-clause-serves c =
    let A = bound_type c.args.from.now c.args.bindings.now.made in
    subst (λ t. OnOk c.visit.result ((root : ℕ) → Serves A c.args.from.now root (WasRead c.args.self.now) (t ∷ reverse c.args.work.now.items) → Serves A c.args.from.now root (WasRead c.visit.new.self) (reverse c.visit.new.work.items))) (sym c.in-Visit.is) c.visit.ensures.serves

pub returns-in-Build-clause-serves : goal.returns-in-Build-clause-serves
returns-in-Build-clause-serves c =
    let A = bound_type c.args.from.now c.args.bindings.now.made in
    subst (λ t. OnOk c.build.result ((root : ℕ) → Serves A c.args.from.now root (WasRead c.args.self.now) (t ∷ reverse c.args.work.now.items) → Serves A c.args.from.now root (WasRead c.build.new.self) (reverse c.args.work.now.items))) (sym c.in-Build.is)
    (on_ok_weaker c.build.result (λ was root. build_serves A c.args.from.now root c.args.self.now c.build.new.self c.in-Build.id c.in-Build.top (reverse c.args.work.now.items) was) c.build.ensures.was)

pub visit-requires-clause-known : goal.visit-requires-clause-known
visit-requires-clause-known c =
    (subst (λ t. Serves (bound_type c.args.from.now c.args.bindings.now.made) c.args.from.now c.requires.serves.0 (WasRead c.args.self.now) (t ∷ reverse c.args.work.now.items)) c.in-Visit.is c.requires.serves.1).0

pub build-requires : goal.build-requires
build-requires c =
    (subst (λ t. Serves (bound_type c.args.from.now c.args.bindings.now.made) c.args.from.now c.requires.serves.0 (WasRead c.args.self.now) (t ∷ reverse c.args.work.now.items)) c.in-Build.is c.requires.serves.1).1

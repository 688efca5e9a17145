use Rattle.std.proofs.Common.{◌≡◌, ◌∙◌, ◌<◌, [], ◌∷◌, length, arith, sym, subst, ap}
use Rattle.std.specs.Prelude.{option_map, nat_eq}
use Rattle.std.specs.List.{IsDistinct}
use Rattle.indexmap.specs.IndexMap.{index_map_len}
use Rattle.std.proofs.lemmas.List.{map-id}
use Rattle.std.proofs.lemmas.Iterator.{YieldsList-from_slice}
use Rattle.std.proofs.lemmas.Iterator.Consumers.{YieldsList-end, YieldsList-from_copied, YieldsList-turn, YieldsList-so_far}
use Rattle.lp_gen.specs.inner.Listing.{seen, around_of}
use Rattle.lp_gen.specs.inner.GoalCode.{AreRegisters}
use Rattle.lp_gen.specs.inner.BodyCode.{levels_found, AreStarts, started_at}
use Rattle.lp_gen.proofs.BodyParts.{registers_length}
use Rattle.lp_gen.proofs.StartsPut.{starts_begin, starts_push, starts_skip}
use Rattle.lp_gen.proofs.AssumptionPut.{register_more, register_none}
use Rattle.lp_lemmas.proofs.Results.{passed_up}
use Rattle.lp_gen.specs.inner.Fitting.{IsRefused}
use Rattle.lp_gen.proofs.Using.{part_of}
use Rattle.lp_gen.proofs.BodyUsed.{found_fewer, more_refused}
use Rattle.lp_gen.proofs.record.captured_by.Goals as goal

pub loop-level-init : goal.loop-level-init
loop-level-init c = (
  λ b. subst (AreRegisters (around_of b c.args.environment.now) []) (sym c.new-registers.ensures.items) tt,
  λ b none distinct. starts_begin b (around_of b c.args.environment.now) c.args.starts.now none,
)

pub loop-level-preserved-in_default : goal.loop-level-preserved-in_default
loop-level-preserved-in_default c = (
  λ b. register_none (around_of b c.args.environment.now) c.loop-level.yielded c.loop-level.registers.items c.in-Some.level (c.loop-level.invariant.0 b)
      (sym (c.at.ensures b) ∙ ap (option_map (seen b)) c.in_default.is),
  λ b none distinct. starts_skip b (around_of b c.args.environment.now) c.loop-level.yielded c.in-Some.level c.loop-level.starts distinct (c.loop-level.invariant.1 b none)
      (sym (c.at.ensures b) ∙ ap (option_map (seen b)) c.in_default.is),
)

pub loop-level-preserved : goal.loop-level-preserved
loop-level-preserved c = (
  λ b. register_more (around_of b c.args.environment.now) c.loop-level.yielded c.loop-level.registers.items c.push.new.self.items c.in-Some.level
      (seen b c.in-Some-at.variable) (c.loop-level.invariant.0 b)
      (sym (c.at.ensures b) ∙ ap (option_map (seen b)) c.in-Some-at.is) c.in_ok-push.ensures.items,
  λ b none distinct.
      let a = around_of b c.args.environment.now in
      let found = registers_length a (levels_found a c.loop-level.yielded) c.loop-level.registers.items (c.loop-level.invariant.0 b) in
      let number : c.in_ok-count_of_registers.field-0 ≡ length (levels_found a c.loop-level.yielded) = omega
      (arith, c.in_ok-count_of_registers.ensures.count, c.len.ensures, c.loop-level.registers.ok, found) in
      starts_push b a c.loop-level.yielded c.in-Some.level c.in_ok-count_of_registers.field-0 c.in-Some-at.variable _ c.loop-level.starts c.insert.new.self distinct (c.loop-level.invariant.1 b none)
      (sym (c.at.ensures b) ∙ ap (option_map (seen b)) c.in-Some-at.is) number c.in_ok-_old.ensures.updates c.in_ok-_old.ensures.old c.in_ok-_old.ensures.len,
)

pub returns-clause-registers : goal.returns-clause-registers
returns-clause-registers c = λ b.
    let whole : c.loop-level.yielded ≡ c.args.levels.now = sym (map-id c.loop-level.yielded)
    ∙ (YieldsList-end (YieldsList-from_copied (YieldsList-from_slice c.args.levels.now cc)) c.loop-level.yielded _ c.loop-level.yielded_by _ _ c.in-None.is c.next.ensures.steps).0 in
    subst (λ l. AreRegisters (around_of b c.args.environment.now) (levels_found (around_of b c.args.environment.now) l) c.loop-level.registers.items) whole (c.loop-level.invariant.0 b)

pub returns-clause-starts : goal.returns-clause-starts
returns-clause-starts c = λ b none.
    let whole : c.loop-level.yielded ≡ c.args.levels.now = sym (map-id c.loop-level.yielded)
    ∙ (YieldsList-end (YieldsList-from_copied (YieldsList-from_slice c.args.levels.now cc)) c.loop-level.yielded _ c.loop-level.yielded_by _ _ c.in-None.is c.next.ensures.steps).0 in
    subst (λ l. IsDistinct nat_eq l → AreStarts (around_of b c.args.environment.now) (levels_found (around_of b c.args.environment.now) l)
    (started_at b c.loop-level.starts) (index_map_len c.loop-level.starts)) whole
    (c.loop-level.invariant.1 b none)

pub returns-in_err-count_of_registers-clause-many : goal.returns-in_err-count_of_registers-clause-many
returns-in_err-count_of_registers-clause-many c = λ b.
    let a = around_of b c.args.environment.now in
    let road = YieldsList-from_copied (YieldsList-from_slice c.args.levels.now cc) in
    let turn = YieldsList-turn road c.loop-level.yielded _ c.loop-level.yielded_by _ _ c.in-Some.level c.in-Some.is c.next.ensures.steps in
    let so = YieldsList-so_far road c.loop-level.yielded _ c.loop-level.yielded_by in
    let here = part_of c.loop-level.yielded c.args.levels.now c.in-Some.level so turn in
    let found = registers_length a (levels_found a c.loop-level.yielded) c.loop-level.registers.items (c.loop-level.invariant.0 b) in
    let fewer = found_fewer a c.loop-level.yielded (c.in-Some.level ∷ here.0) in
    let all = ap (λ l. length (levels_found a l)) here.1 in
    let e = c.in_err-count_of_registers.field-0.0 in
    passed_up c.from_residual.result e (IsRefused (65535 < length (levels_found a c.args.levels.now))) c.from_residual.ensures.1
    (more_refused c.len.result (length (levels_found a c.args.levels.now)) e (omega (arith, c.len.ensures, c.loop-level.registers.ok, found, fewer, all)) c.in_err-count_of_registers.ensures.cause)

use Rattle.std.proofs.Common.{◌≤◌, ◌<◌, ◌-◌, map, length, sym, arith}
use Rattle.lp_gen.specs.inner.Listing.{seen}
use Rattle.lp_gen.proofs.TypeWorks.{map_length}
use Rattle.lp_gen.proofs.Courses.{marked_past, marked_set, set_own}
use Rattle.lp_gen.proofs.environment.Environment.set.Goals as goal

pub returns-then-place-len : goal.returns-then-place-len
returns-then-place-len c = λ b.
    let many = map_length (seen b) c.args.self.now.own.items in
    let past : length (map (seen b) c.args.self.now.own.items) ≤ c.args.level - c.args.self.now.base = omega (arith, many, c.if-place-len.true, c.len.ensures, c.args.self.now.own.ok) in
    set_own b c.args.self.now c.args.level c.args.self.now.own.items c.if-level-self.false (sym (marked_past (map (seen b) c.args.self.now.own.items) (c.args.level - c.args.self.now.base) past))

pub returns : goal.returns
returns c = λ b.
    let low : c.args.level - c.args.self.now.base < length c.args.self.now.own.items = omega (arith, c.if-place-len.false, c.len.ensures, c.args.self.now.own.ok) in
    set_own b c.args.self.now c.args.level _ c.if-level-self.false
    (marked_set b c.args.self.now.own.items (c.args.level - c.args.self.now.base) c.index-variable.result.now low c.index-variable.ensures)

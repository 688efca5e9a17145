use Rattle.std.proofs.Common.{◌≡◌, ◌∙◌, sym, subst, arith, w64, to_z, of_z, int_cmp}
use Rattle.std.proofs.lemmas.Int.{to_z-of_z}
use Rattle.std.proofs.lemmas.Result.{on_ok_weaker}
use Rattle.lp_code.specs.inner.Told.{IsGrown}
use Rattle.lp_code.proofs.Adding.{adds_unkeyed, adds_constant, adds_integer, adds_text}
use Rattle.lp_code.proofs.groups.Groups.add.Goals as goal

pub returns-in_ok-push-in-None : goal.returns-in_ok-push-in-None
returns-in_ok-push-in-None c = rw c.in-None.is (adds_unkeyed c.args.number c.args.self.now c.push.new.self c.in_ok-push-in-None.ensures.items)

pub returns-in-Const : goal.returns-in-Const
returns-in-Const c = rw c.in-Const.is (on_ok_weaker c.add.result (adds_constant c.args.number c.args.self.now c.in-Const.constant c.add.new.groups) c.add.ensures)

pub returns-in-Int : goal.returns-in-Int
returns-in-Int c =
    let same : to_z w64 (of_z w64 c.in-Int.integer) ≡ c.in-Int.integer = grind (arith, to_z-of_z) in
    rw c.in-Int.is (on_ok_weaker c.add-in-Int.result (λ h. adds_integer c.args.number c.args.self.now c.in-Int.integer c.add-in-Int.new.groups (subst (λ z. IsGrown int_cmp z c.args.number c.args.self.now.integers.entries c.add-in-Int.new.groups.entries) same h)) c.add-in-Int.ensures)

pub returns-in_ok-text-in-Text : goal.returns-in_ok-text-in-Text
returns-in_ok-text-in-Text c =
    rw c.in-Text.is (rw (sym (c.in_ok-text-in-Text.ensures.items ∙ c.as_slice.ensures.value)) (on_ok_weaker c.add-in-Text.result (adds_text c.args.number c.args.self.now c.in_ok-text-in-Text.text c.add-in-Text.new.groups) c.add-in-Text.ensures))
